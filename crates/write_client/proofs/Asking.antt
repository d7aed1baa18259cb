-- What was asked of a writer: an open, an append or a close.
use Rattle.std.proofs.Common.{◌≡◌, ℕ, true, false, Option, Some, None, List, [], length, refl, sym, ap, subst, ◌∙◌, ◌<◌, arith}
use Rattle.std.specs.Prelude.{IfSome, IsSome, IsSomeAnd}
use Rattle.update_core.specs.declared.updates.Update.{Update}
use Rattle.store_core.specs.declared.entries.Entry.{Entry}
use Rattle.store_core.specs.declared.part_keys.PartKey.{PartKey}
use Rattle.store_core.specs.declared.shards.ShardId.{ShardId}
use Rattle.store_core.specs.Stores.{Stored}
use Rattle.state_core.specs.declared.kinds.Kind.TheVariants.{Writer as AsWriter}
use Rattle.state_core.specs.declared.transitions.Transition.TheVariants.{Join, Leave}
use Rattle.history_core.specs.declared.asked.Asked.{Asked}
use Rattle.history_core.specs.declared.asked.Asked.TheVariants as asks
use Rattle.load_core.specs.Setting as setting
use Rattle.token_machine.specs.Following.{FollowsStoring}
use Rattle.write_client.specs.declared.writers.Writer.{Writer}
use Rattle.write_client.specs.Following.{Follows, FollowsAsked}
use Rattle.write_client.specs.Writing.{IsAppend, IsAsked, IsOpen, IsSound, shard_of}

pub data Asks (w : Writer) (asked : Asked) : Type 0 where
  opens : (shard : ShardId) → asked ≡ asks.OpenWriter shard → shard ≡ shard_of w → w.storing.trying.step ≡ Join AsWriter 0 0 →
      w.storing.setting.keys ≡ [] → Asks w asked
  appends : (rows : List Update) (expected : ℕ) (new : Option ℕ) → asked ≡ asks.Append rows expected new →
      IsAppend w rows expected new →
      Asks w asked
  closes : (member : ℕ) → asked ≡ asks.CloseWriter → w.member ≡ Some member → w.storing.trying.step ≡ Leave member →
      w.storing.setting.keys ≡ [] → Asks w asked

pub asks_of : (w : Writer) (asked : Asked) → IsAsked w asked → Asks w asked
asks_of w (asks.OpenWriter shard) a = opens shard refl a.0 a.2 a.3
asks_of w (asks.Append rows expected new) a = appends rows expected new refl a
asks_of w asks.CloseWriter a = by w.member refl a.0
  where
    by : (m : Option ℕ) → w.member ≡ m → IsSomeAnd m (λ member. w.storing.trying.step ≡ Leave member) → Asks w asks.CloseWriter
    by None is h = absurd h
    by (Some m) is h = closes m refl is h a.1
asks_of w other a = absurd a

-- what was asked, where a command is busy
pub asked_is : (w : Writer) (asked : Asked) → IsSound w → w.asked ≡ Some asked → IsAsked w asked
asked_is w asked sound e = subst (λ (a : Option Asked). IfSome a (IsAsked w)) e sound.asked

pub open_asks : (w : Writer) → IsSound w → IsOpen w → (asked : Asked) × (w.asked ≡ Some asked) × Asks w asked
open_asks w sound is = by w.asked refl is
  where
    by : (a : Option Asked) → w.asked ≡ a → IsSome a → (asked : Asked) × (w.asked ≡ Some asked) × Asks w asked
    by None e o = absurd (let bad : false ≡ true = o in cc)
    by (Some a) e o = (a, e, asks_of w a (asked_is w a sound e))

-- without keys no part is left
pub none_left : (w : Writer) → w.storing.setting.keys ≡ [] → ¬ setting.IsOpen w.storing.setting
none_left w is left =
    let lt : w.storing.setting.place < length w.storing.setting.keys = left in
    let none : length w.storing.setting.keys ≡ 0 = ap (λ (ks : List PartKey). length ks) is in
    omega arith

-- a member was seen to join
pub member_seen : (w : Writer) (m : ℕ) → IsSound w → w.member ≡ Some m → IsSome w.storing.trying.loader.cached
member_seen w m sound named = subst (λ (q : Option ℕ). IfSome q (λ member.
    IsSome w.storing.trying.loader.cached)) named sound.seen

-- ---- what it follows by

pub append_facts : (client : ℕ) (w : Writer) (start : Stored) (es : List Entry) (rows : List Update) (expected : ℕ)
    (new : Option ℕ) (m : ℕ) →
    w.asked ≡ Some (asks.Append rows expected new) → w.member ≡ Some m → Follows client w start es →
    FollowsStoring client m w.token w.storing start es
append_facts client w start es rows expected new m is named f =
    let asked : FollowsAsked client w start es (asks.Append rows expected new) =
    subst (λ (a : Option Asked). IfSome a (FollowsAsked client w start es)) is f.asked in
    subst (λ (o : Option ℕ). IfSome o (λ m. FollowsStoring client m w.token w.storing start es)) named asked

module _ (client : ℕ) (w v : Writer) (start : Stored) (es es2 : List Entry) (same : v.member ≡ w.member)
    (on : (m : ℕ) (rows : List Update) (expected : ℕ) (new : Option ℕ) → w.member ≡ Some m → w.asked ≡ Some
    (asks.Append rows expected new) →
    FollowsStoring client m w.token w.storing start es → FollowsStoring client m v.token v.storing start es2) where
  append_on : (rows : List Update) (expected : ℕ) (new : Option ℕ) → w.asked ≡ Some (asks.Append rows expected new) →
      IfSome w.member (λ m. FollowsStoring client m w.token w.storing start es) →
      IfSome v.member (λ m. FollowsStoring client m v.token v.storing start es2)
  append_on rows expected new asked h = go w.member refl h
    where
      go : (o : Option ℕ) → w.member ≡ o → IfSome o (λ m. FollowsStoring client m w.token w.storing start es) →
          IfSome v.member (λ m. FollowsStoring client m v.token v.storing start es2)
      go None e k = subst (λ (p : Option ℕ). IfSome p (λ m. FollowsStoring client m v.token v.storing start es2))
          (sym (same ∙ e)) tt
      go (Some m) e k = subst (λ (p : Option ℕ). IfSome p (λ m. FollowsStoring client m v.token v.storing start es2))
          (sym (same ∙ e))
          (on m rows expected new e asked k)

  -- what was asked goes on following where an append does
  pub asked_on : IfSome w.asked (FollowsAsked client w start es) → IfSome w.asked (FollowsAsked client v start es2)
  asked_on h = go w.asked refl h
    where
      of : (a : Asked) → w.asked ≡ Some a → FollowsAsked client w start es a → FollowsAsked client v start es2 a
      of (asks.Append rows expected new) e k = append_on rows expected new e k
      of other e k = tt

      go : (o : Option Asked) → w.asked ≡ o → IfSome o (FollowsAsked client w start es) → IfSome o
          (FollowsAsked client v start es2)
      go None e k = tt
      go (Some a) e k = of a e k
