-- What a try and its reply say of the call that was made.
use Rattle.std.proofs.Common.{◌≡◌, ℕ, ◌+◌, ◌<◌, ◌≤◌, Option, Some, None, List, [], ◌∷◌, refl, sym, ap, subst, ◌∙◌, arith}
use Rattle.std.specs.Prelude.{IsSomeAnd}
use Rattle.store_core.specs.declared.shards.ShardId.{ShardId}
use Rattle.store_core.specs.declared.calls.Call.TheVariants as calls
use Rattle.store_core.specs.declared.replies.Reply.{Reply}
use Rattle.store_core.specs.declared.replies.Reply.TheVariants as replies
use Rattle.store_core.specs.declared.versions.Version.{Version}
use Rattle.store_core.specs.Stores.{Log}
use Rattle.state_core.specs.States.{ShardState}
use Rattle.version_codec.specs.Reading.{version_in}
use Rattle.update_core.specs.Limits.{most}
use Rattle.version_codec.proofs.Facts.{version_in_shard}
use Rattle.load_core.specs.declared.nexts.Next.{Next}
use Rattle.load_core.specs.declared.nexts.Next.TheVariants as nexts
use Rattle.load_core.specs.declared.readies.Ready.{Ready}
use Rattle.load_core.specs.declared.tries.Tried.TheVariants as tries
use Rattle.load_core.specs.declared.tryings.Trying.{Trying}
use Rattle.load_core.specs.Costing.{IsPrepared, remaining}
use Rattle.load_core.specs.Effects.{IsShown}
use Rattle.load_core.specs.Loading.{scan_from}
use Rattle.load_core.specs.Runs.{OnlyCarries}
use Rattle.load_core.specs.Trying as trying
use Rattle.load_core.proofs.Outcomes.{HowMoved, scanned, failed, cased, how_moved, scan_call}
use Rattle.load_core.proofs.Remaining.{scan_next, scan_some}
use Rattle.try_machine.specs.Tryers.{empty_by}

pub some_is : {A : Type 0} (P : A → Type 0) (o : Option A) → IsSomeAnd o P → (x : A) × (o ≡ Some x) × P x
some_is P None h = absurd h
some_is P (Some x) h = (x, refl, h)

-- a call that is answered with versions is shown
pub shown_versions : (t : Trying) (r : Reply) (vs : List Version) → trying.IsScanning t.next → r ≡ replies.Versions vs →
    IsShown t.loader.shard (trying.call_of t) r
shown_versions t r vs idle is = ((scan_from t.loader.cached, scan_call t idle), (vs, is))

-- what is answered where no version is shown: there was none known, and none came
pub data Empties {A : Type 0} (cached : Option ShardState) (r : Reply) (answer : Option A) (a : A) : Type 0 where
  empties : cached ≡ None → r ≡ replies.Versions [] → answer ≡ Some a → Empties cached r answer a

pub empties_of : {A : Type 0} (cached : Option ShardState) (r : Reply) (answer : Option A) (a : A) → empty_by cached r answer ≡ Some a →
    Empties cached r answer a
empties_of None (replies.Versions []) answer a h = empties refl refl h
empties_of None (replies.Versions (v ∷ vs)) answer a h = absurd (let bad : None ≡ Some a = h in cc)
empties_of None replies.Failed answer a h = absurd (let bad : None ≡ Some a = h in cc)
empties_of None (replies.Version v) answer a h = absurd (let bad : None ≡ Some a = h in cc)
empties_of None (replies.Committed n) answer a h = absurd (let bad : None ≡ Some a = h in cc)
empties_of None replies.Mismatch answer a h = absurd (let bad : None ≡ Some a = h in cc)
empties_of None replies.Spent answer a h = absurd (let bad : None ≡ Some a = h in cc)
empties_of None replies.Truncated answer a h = absurd (let bad : None ≡ Some a = h in cc)
empties_of None (replies.Bytes b) answer a h = absurd (let bad : None ≡ Some a = h in cc)
empties_of None replies.Stored answer a h = absurd (let bad : None ≡ Some a = h in cc)
empties_of None replies.Deleted answer a h = absurd (let bad : None ≡ Some a = h in cc)
empties_of (Some s) r answer a h = absurd (let bad : None ≡ Some a = h in cc)

-- a Scan is among the calls that remain where one comes next
pub scan_remains : (log : Log) (t : Trying) → trying.IsScanning t.next → IsPrepared t.next → 1 ≤ remaining log t.step t.loader.cached t.next
scan_remains log t idle prepared = subst (λ (n : ℕ). 1 ≤ n)
    (sym (ap (remaining log t.step t.loader.cached) (scan_next t.next idle prepared))) (scan_some log t.step t.loader.cached)

pub before_less : (n m : ℕ) → m ≡ trying.more n → m < most → n < most
before_less n m is less = omega arith
