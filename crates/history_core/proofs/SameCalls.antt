-- What a client may call rests on its calls and their replies alone, and not on their outcomes.
use Rattle.std.proofs.Common.{◌≡◌, ℕ, Option, Some, None, List, [], ◌∷◌, ◌++◌, inl, inr, refl, sym, subst}
use Rattle.std.specs.Prelude.{⊤}
use Rattle.std.specs.List.{AllByRecursion}
use Rattle.update_core.specs.declared.updates.Update.{Update}
use Rattle.store_core.specs.declared.shards.ShardId.{ShardId}
use Rattle.store_core.specs.declared.part_keys.PartKey.{PartKey}
use Rattle.store_core.specs.declared.versions.Version.{Version}
use Rattle.store_core.specs.declared.calls.Call.{Call}
use Rattle.store_core.specs.declared.calls.Call.TheVariants as calls
use Rattle.store_core.specs.declared.replies.Reply.{Reply}
use Rattle.store_core.specs.declared.replies.Reply.TheVariants as replies
use Rattle.store_core.specs.Ports.{Answered}
use Rattle.state_core.specs.declared.transitions.Transition.{Transition}
use Rattle.state_core.specs.declared.transitions.Transition.TheVariants.{Init, Join, Leave, Renew, Advance, Expire, Append, Merge}
use Rattle.state_core.specs.Lists.{Among}
use Rattle.state_core.specs.Steps.{acts_for}
use Rattle.history_core.specs.Histories.{Told}
use Rattle.history_core.specs.Discipline.{IsJoin, OwnsSome, IsCasUnder, SetsSame, IsStored, IsGot, IsDeleted, StoredAs, GotAs}
use Rattle.history_core.specs.Discipline.{SetAllowed, Hold, Holds, CasAllowed, IsScanTaking, AllDeleted, IsScanCovering, Allows, OwnLawful}

-- the same calls with the same replies
abbrev pub SameCalls : List Answered → List Answered → Type 0
SameCalls [] [] = ⊤
SameCalls [] (p ∷ ps) = ⊥
SameCalls (o ∷ os) [] = ⊥
SameCalls (o ∷ os) (p ∷ ps) = (p.entry.call ≡ o.entry.call) × (p.reply ≡ o.reply) × SameCalls os ps

pub same_itself : (os : List Answered) → SameCalls os os
same_itself [] = tt
same_itself (o ∷ os) = (refl, refl, same_itself os)

turned : (os ps : List Answered) → SameCalls os ps → SameCalls ps os
turned [] [] same = tt
turned [] (p ∷ ps) same = absurd same
turned (o ∷ os) [] same = absurd same
turned (o ∷ os) (p ∷ ps) same = (sym same.0, sym same.1, turned os ps same.2)

among : (P : Call → Reply → Type 0) (os ps : List Answered) → SameCalls os ps → Among (λ o. P o.entry.call o.reply) os →
    Among (λ o. P o.entry.call o.reply) ps
among P [] [] same found = found
among P [] (p ∷ ps) same found = absurd same
among P (o ∷ os) [] same found = absurd same
among P (o ∷ os) (p ∷ ps) same (inl is) =
    inl (subst (λ (r : Reply). P p.entry.call r) (sym same.1) (subst (λ (c : Call). P c o.reply) (sym same.0) is))
among P (o ∷ os) (p ∷ ps) same (inr found) = inr (among P os ps same.2 found)

each : (P : Call → Type 0) (os ps : List Answered) → SameCalls os ps → AllByRecursion (λ o. P o.entry.call) os →
    AllByRecursion (λ o. P o.entry.call) ps
each P [] [] same all = tt
each P [] (p ∷ ps) same all = absurd same
each P (o ∷ os) [] same all = absurd same
each P (o ∷ os) (p ∷ ps) same all = (subst P (sym same.0) all.0, each P os ps same.2 all.1)

hold_so : (P Q : PartKey → List ℕ → Type 0) → ((k : PartKey) (b : List ℕ) → P k b → Q k b) → (ks : List PartKey) (rows : List Update) →
    Hold P ks rows → Hold Q ks rows
hold_so P Q so [] rows h = h
hold_so P Q so (k ∷ ks) rows (b, first, rest, p, reads, split, more) = (b, first, rest, so k b p, reads, split, hold_so P Q so ks rest more)

module _ (os ps : List Answered) (same : SameCalls os ps) where
  owns_some : (shard : ShardId) (member : Option ℕ) → OwnsSome os shard member → OwnsSome ps shard member
  owns_some shard None h = tt
  owns_some shard (Some member) h = among (IsJoin shard member) os ps same h

  stored : (k : PartKey) (b : List ℕ) → StoredAs os k b → StoredAs ps k b
  stored k b h = among (IsStored k b) os ps same h

  got : (k : PartKey) (b : List ℕ) → GotAs os k b → GotAs ps k b
  got k b h = among (IsGot k b) os ps same h

  holds : (x : Transition) → Holds os x → Holds ps x
  holds (Append member token expected new parts rows weight) h = record {
    updates = h.updates;
    hold = hold_so (StoredAs os) (StoredAs ps) stored parts h.updates h.hold;
    rising = h.rising;
    in_range = h.in_range;
    count = h.count;
    light = h.light;
  }
  holds (Merge member token left right merged) h = record {
    inputs = h.inputs;
    outputs = h.outputs;
    read = hold_so (GotAs os) (GotAs ps) got (left.parts ++ right.parts) h.inputs h.read;
    hold = hold_so (StoredAs os) (StoredAs ps) stored merged.parts h.outputs h.hold;
    cons = h.cons;
    count = h.count;
  }
  holds Init h = tt
  holds (Join kind now lease) h = tt
  holds (Leave member) h = tt
  holds (Renew member now) h = tt
  holds (Advance member to) h = tt
  holds (Expire now) h = tt

  cas_allowed : (shard : ShardId) (n : ℕ) (bytes : List ℕ) → CasAllowed os shard n bytes → CasAllowed ps shard n bytes
  cas_allowed shard n bytes h = record {
    from = h.from;
    to = h.to;
    step = h.step;
    shown = (h.shown.0, h.shown.1, among (Told shard n h.shown.0) os ps same h.shown.2, h.shown.3);
    written = h.written;
    applies = h.applies;
    owned = owns_some shard (acts_for h.step) h.owned;
    holds = holds h.step h.holds;
  }

  set_allowed : (key : PartKey) (bytes : List ℕ) → SetAllowed os key bytes → SetAllowed ps key bytes
  set_allowed key bytes h = record {
    owned = among (IsJoin key.shard key.member) os ps same h.owned;
    fresh = λ spent. h.fresh (among (λ c r. IsCasUnder key.shard key.member key.token c) ps os (turned os ps same) spent);
    same = each (SetsSame key bytes) os ps same h.same;
  }

  all_deleted : (shard : ShardId) (below : ℕ) (vs : List Version) → AllDeleted os shard below vs → AllDeleted ps shard below vs
  all_deleted shard below [] h = tt
  all_deleted shard below (v ∷ vs) h =
      (λ low k takes. among (IsDeleted k) os ps same (h.0 low k takes), all_deleted shard below vs h.1)

  covering : (shard : ShardId) (below : ℕ) (call : Call) (r : Reply) → IsScanCovering os shard below call r →
      IsScanCovering ps shard below call r
  covering shard below (calls.Scan q from) (replies.Versions vs) h =
      let (s, newest, le, deleted) = h.2 in (h.0, h.1, (s, newest, le, all_deleted shard below vs deleted))
  covering shard below (calls.Scan q from) (replies.Version v) h = absurd h
  covering shard below (calls.Scan q from) (replies.Committed v) h = absurd h
  covering shard below (calls.Scan q from) replies.Mismatch h = absurd h
  covering shard below (calls.Scan q from) replies.Spent h = absurd h
  covering shard below (calls.Scan q from) replies.Truncated h = absurd h
  covering shard below (calls.Scan q from) (replies.Bytes v) h = absurd h
  covering shard below (calls.Scan q from) replies.Stored h = absurd h
  covering shard below (calls.Scan q from) replies.Deleted h = absurd h
  covering shard below (calls.Scan q from) replies.Failed h = absurd h
  covering shard below (calls.Head q) r h = absurd h
  covering shard below (calls.Cas q x b) r h = absurd h
  covering shard below (calls.Truncate q x) r h = absurd h
  covering shard below (calls.Get q) r h = absurd h
  covering shard below (calls.Set q b) r h = absurd h
  covering shard below (calls.Delete q) r h = absurd h

  among_covering : (shard : ShardId) (below : ℕ) (ls : List Answered) →
      Among (λ o. IsScanCovering os shard below o.entry.call o.reply) ls →
      Among (λ o. IsScanCovering ps shard below o.entry.call o.reply) ls
  among_covering shard below [] found = found
  among_covering shard below (o ∷ ls) (inl is) = inl (covering shard below o.entry.call o.reply is)
  among_covering shard below (o ∷ ls) (inr found) = inr (among_covering shard below ls found)

  pub allowed : (call : Call) → Allows os call → Allows ps call
  allowed (calls.Head shard) h = tt
  allowed (calls.Scan shard from) h = tt
  allowed (calls.Get key) h = tt
  allowed (calls.Set key bytes) h = set_allowed key bytes h
  allowed (calls.Cas shard None bytes) h = h
  allowed (calls.Cas shard (Some n) bytes) h = cas_allowed shard n bytes h
  allowed (calls.Delete key) h = among (IsScanTaking key) os ps same h
  allowed (calls.Truncate shard below) h =
      among_covering shard below ps (among (λ c r. IsScanCovering os shard below c r) os ps same h)

pub own_lawful : (os ps : List Answered) → SameCalls os ps → OwnLawful os → OwnLawful ps
own_lawful [] [] same l = tt
own_lawful [] (p ∷ ps) same l = absurd same
own_lawful (o ∷ os) [] same l = absurd same
own_lawful (o ∷ os) (p ∷ ps) same l =
    (subst (λ (c : Call). Allows ps c) (sym same.0) (allowed os ps same.2 o.entry.call l.0), own_lawful os ps same.2 l.1)
