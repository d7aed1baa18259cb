-- Members that are found in a state, and the kinds that a client's own have.
use Rattle.std.proofs.Common.{◌≡◌, ℕ, suc, ◌<◌, true, false, eqb, Some, None, List, [], ◌∷◌, ◌++◌, inl, inr, sym, ap, subst, ◌∙◌, arith}
use Rattle.std.specs.Prelude.{reverse}
use Rattle.std.specs.List.{AllByRecursion}
use Rattle.std.proofs.lemmas.Bool.{eqb-true, eq-eqb}
use Rattle.std.proofs.lemmas.List.{reverse-reverse}
use Rattle.update_core.specs.declared.updates.Update.{Update}
use Rattle.store_core.specs.declared.entries.Entry.{Entry}
use Rattle.store_core.specs.declared.shards.ShardId.{ShardId}
use Rattle.store_core.specs.Stores.{Stored}
use Rattle.store_core.specs.Histories.{History, store_after}
use Rattle.store_core.specs.Ports.{Answered, OfOthers}
use Rattle.store_core.specs.Newest.{mine_back, replay_back}
use Rattle.store_core.proofs.NewestLaws.{mine-newest, replay-newest}
use Rattle.state_core.specs.declared.kinds.Kind.{Kind}
use Rattle.state_core.specs.declared.members.Member.{Member}
use Rattle.state_core.specs.Lists.{Among}
use Rattle.state_core.specs.Refusals.{member_of}
use Rattle.state_core.specs.States.{ShardState}
use Rattle.state_core.specs.Steps.{Stands}
use Rattle.update_core.specs.Limits.{most}
use Rattle.state_core.proofs.ListLemmas.{bool_cases}
use Rattle.history_core.specs.Answers.{own_of}
use Rattle.history_core.specs.Discipline.{LawfulBack}
use Rattle.history_core.specs.Laws.{LastIs}
use Rattle.history_core.specs.Members.{JoinedAs}
use Rattle.history_core.specs.Placing.{AtLastScan, IsAnsweredScan, Placed, placed, places}
use Rattle.history_core.specs.Stands.{StandsFor}
use Rattle.history_core.proofs.Gaining.{places_gained}
use Rattle.history_core.proofs.MemberStands.{HasKind}
use Rattle.history_core.proofs.OwnMembers.{kind_law}
use Rattle.load_core.specs.Trying.{more}
use Rattle.load_core.proofs.Gaining.{lawful_forth}

-- ---- a command's entries

next_count : (n m : ℕ) → m ≡ more n → m < most → m ≡ suc n
next_count n m h less = omega arith

-- the newest of its entries is the one that was made last
pub places_now : (client n m : ℕ) (e : Entry) (others es : List Entry) → m ≡ more n → m < most → e.client ≡ client →
    OfOthers client others →
    places client m (e ∷ (others ++ es)) ≡ placed e (others ++ es) ∷ places client n es
places_now client n m e others es is less own of =
    ap (λ (k : ℕ). places client k (e ∷ (others ++ es))) (next_count n m is less) ∙ places_gained client n e others es own of

-- what holds at the last entry holds among the command's
pub among_now : (client n m : ℕ) (e : Entry) (others es : List Entry) → m ≡ more n → m < most → e.client ≡ client →
    OfOthers client others → (P : Placed → Type 0) → P (placed e (others ++ es)) → Among P (places client m (e ∷ (others ++ es)))
among_now client n m e others es is less own of P p = subst (Among P) (sym (places_now client n m e others es is less own of)) (inl p)

-- and at the last answered Scan, where it is one
pub scan_now : (client n m : ℕ) (e : Entry) (others es : List Entry) → m ≡ more n → m < most → e.client ≡ client →
    OfOthers client others → (shard : ShardId) (P : Placed → Type 0) → IsAnsweredScan shard (placed e (others ++ es)) →
    P (placed e (others ++ es)) →
    AtLastScan shard P (places client m (e ∷ (others ++ es)))
scan_now client n m e others es is less own of shard P scan p =
    subst (AtLastScan shard P) (sym (places_now client n m e others es is less own of)) (inl (scan, p))

-- ---- members

-- a member that is found has the kind that each of its number has
pub found_kind : (n : ℕ) (w : Member) (kind : Kind) (ms : List Member) → member_of n ms ≡ Some w →
    AllByRecursion (λ m. m.number ≡ n → m.kind ≡ kind) ms → w.kind ≡ kind
found_kind n w kind [] h all = absurd (cc)
found_kind n w kind (m ∷ ms) h all = elim (bool_cases (eqb m.number n)) [
  | inl e ↦
      let h2 : Some m ≡ Some w = rw e at h in
      let is : m ≡ w = cc in
      subst (λ (x : Member). x.kind ≡ kind) is (all.0 (eqb-true m.number n e))
  | inr e ↦ found_kind n w kind ms (rw e at h) all.1
]

pub found_stands : (n : ℕ) (w : Member) (P : Member → Type 0) (ms : List Member) → member_of n ms ≡ Some w → P w → Stands n P ms
found_stands n w P [] h p = absurd (cc)
found_stands n w P (m ∷ ms) h p = elim (bool_cases (eqb m.number n)) [
  | inl e ↦
      let h2 : Some m ≡ Some w = rw e at h in
      let is : w ≡ m = cc in
      inl (eqb-true m.number n e, subst P is p)
  | inr e ↦ inr (found_stands n w P ms (rw e at h) p)
]

-- where none is found, none stands
pub none_stands : (n : ℕ) (P : Member → Type 0) (ms : List Member) → member_of n ms ≡ None → ¬ Stands n P ms
none_stands n P [] h s = s
none_stands n P (m ∷ ms) h s = elim (bool_cases (eqb m.number n)) [
  | inl e ↦ let h2 : Some m ≡ None = rw e at h in absurd (cc)
  | inr e ↦ elim s [
    | inl p ↦ absurd (let t : eqb m.number n ≡ true = eq-eqb m.number n p.0 in let bad : true ≡ false = sym t ∙ e in cc)
    | inr p ↦ none_stands n P ms (rw e at h) p
  ]
]

module _ (start : Stored) (es : List Entry) where
  abbrev past : History
  past = record { start = start; trail = reverse es }

  back_is : reverse past.trail ≡ es
  back_is = reverse-reverse es

  store_is : store_after past ≡ replay_back start es
  store_is = replay-newest start (reverse es) ∙ ap (replay_back start) back_is

  own_is : (c : ℕ) → own_of past c ≡ mine_back start es c
  own_is c = mine-newest past c ∙ ap (λ (q : List Entry). mine_back start q c) back_is

  -- where a member that a client joined stands in the last state, it has the kind of its Join
  pub kind_back : (shard : ShardId) (list : List Update) → StandsFor start shard list → LawfulBack start es → (kind : Kind) (c member : ℕ) →
      JoinedAs kind (mine_back start es c) shard member → (number : ℕ) (last : ShardState) →
      LastIs (replay_back start es) shard number last → HasKind kind member last
  kind_back shard list st l kind c member joined number last is =
      kind_law shard list past st (lawful_forth past (subst (LawfulBack start) (sym back_is) l)) kind c member
      (subst (λ (own : List Answered). JoinedAs kind own shard member) (sym (own_is c)) joined) number last
      (subst (λ (q : Stored). LastIs q shard number last) (sym store_is) is)
