-- The outcome of a change, by its transition and by its refusal.
use Rattle.std.proofs.Common.{◌≡◌, ℕ, Option, inl, inr, refl, eqb}
use Rattle.std.proofs.lemmas.Bool.{eqb-true}
use Rattle.state_core.specs.declared.refusals.Refusal.{Refusal}
use Rattle.state_core.specs.declared.refusals.Refusal.TheVariants as refusals
use Rattle.state_core.specs.declared.transitions.Transition.{Transition}
use Rattle.state_core.specs.declared.transitions.Transition.TheVariants.{Init, Join, Leave, Renew, Advance, Expire, Append, Merge}
use Rattle.state_core.specs.States.{ShardState}
use Rattle.update_core.specs.Limits.{most}
use Rattle.state_core.proofs.ListLemmas.{bool_cases}
use Rattle.change_core.specs.declared.outcomes.Outcome.{Outcome}
use Rattle.change_core.specs.declared.outcomes.Outcome.TheVariants as outcomes
use Rattle.change_core.specs.Changes.{IsOfMember, Joins, absent_outcome, committed_outcome, full_outcome, is_gone, join_outcome, last_member, member_outcome, number_of, refused_outcome, since_of}

-- ---- by its step

pub join_form : (newest : Option ShardState) (member : ℕ) (step : Transition) (refusal : Refusal) → Joins step →
    refused_outcome newest member step refusal ≡ join_outcome newest refusal
join_form newest member (Join kind now lease) refusal j = refl
join_form newest member Init refusal j = absurd j
join_form newest member (Leave m) refusal j = absurd j
join_form newest member (Renew m now) refusal j = absurd j
join_form newest member (Advance m to) refusal j = absurd j
join_form newest member (Expire now) refusal j = absurd j
join_form newest member (Append m token expected upper parts rows weight) refusal j = absurd j
join_form newest member (Merge m token left right merged) refusal j = absurd j

pub member_form : (newest : Option ShardState) (member : ℕ) (step : Transition) (refusal : Refusal) → IsOfMember step →
    refused_outcome newest member step refusal ≡ member_outcome newest member refusal
member_form newest member (Join kind now lease) refusal of = absurd of
member_form newest member Init refusal of = refl
member_form newest member (Leave m) refusal of = refl
member_form newest member (Renew m now) refusal of = refl
member_form newest member (Advance m to) refusal of = refl
member_form newest member (Expire now) refusal of = refl
member_form newest member (Append m token expected upper parts rows weight) refusal of = refl
member_form newest member (Merge m token left right merged) refusal of = refl

pub committed_as : (P : Outcome → Type 0) (newest : Option ShardState) (step : Transition) (version : ℕ) →
    P (outcomes.Joined (last_member newest) version (since_of newest)) → P (outcomes.Committed version) →
    P (committed_outcome newest step version)
committed_as P newest (Join kind now lease) version joined in_it = joined
committed_as P newest Init version joined in_it = in_it
committed_as P newest (Leave m) version joined in_it = in_it
committed_as P newest (Renew m now) version joined in_it = in_it
committed_as P newest (Advance m to) version joined in_it = in_it
committed_as P newest (Expire now) version joined in_it = in_it
committed_as P newest (Append m token expected upper parts rows weight) version joined in_it = in_it
committed_as P newest (Merge m token left right merged) version joined in_it = in_it

-- ---- by its refusal

pub full_as : (P : Outcome → Type 0) (number : ℕ) → (number ≡ most → P outcomes.Spent) → P (outcomes.Full number) → P (full_outcome number)
full_as P number last many = elim (bool_cases (eqb number most)) [ inl e ↦ rw e (last (eqb-true number most e)) | inr e ↦ rw e many ]

pub absent_as : (P : Outcome → Type 0) (newest : Option ShardState) (member : ℕ) → P (outcomes.Gone (number_of newest)) →
    P (outcomes.Strange (number_of newest)) → P (absent_outcome newest member)
absent_as P newest member gone strange = elim (bool_cases (is_gone member newest)) [ inl e ↦ rw e gone | inr e ↦ rw e strange ]

pub join_as : (P : Outcome → Type 0) (newest : Option ShardState) (refusal : Refusal) → P outcomes.Spent →
    P (outcomes.Full (number_of newest)) →
    P (outcomes.Strange (number_of newest)) → P (join_outcome newest refusal)
join_as P newest (refusals.MembersFull count) last many strange = full_as P (number_of newest) (λ e. last) many
join_as P newest (refusals.Back since) last many strange = strange
join_as P newest refusals.Memory last many strange = strange
join_as P newest refusals.Shape last many strange = strange
join_as P newest refusals.Spent last many strange = strange
join_as P newest refusals.NoMember last many strange = strange
join_as P newest (refusals.TokenOld token) last many strange = strange
join_as P newest (refusals.UpperIs current) last many strange = strange
join_as P newest (refusals.Heavy weight) last many strange = strange
join_as P newest refusals.NotPresent last many strange = strange
join_as P newest refusals.NotDue last many strange = strange

pub member_as : (P : Outcome → Type 0) (newest : Option ShardState) (member : ℕ) (refusal : Refusal) →
    P (outcomes.Gone (number_of newest)) →
    ((since : ℕ) → P (outcomes.Back since)) → P (outcomes.Strange (number_of newest)) → P (member_outcome newest member refusal)
member_as P newest member refusals.NoMember gone back strange = absent_as P newest member gone strange
member_as P newest member (refusals.Back since) gone back strange = back since
member_as P newest member (refusals.MembersFull count) gone back strange = strange
member_as P newest member refusals.Memory gone back strange = strange
member_as P newest member refusals.Shape gone back strange = strange
member_as P newest member refusals.Spent gone back strange = strange
member_as P newest member (refusals.TokenOld token) gone back strange = strange
member_as P newest member (refusals.UpperIs current) gone back strange = strange
member_as P newest member (refusals.Heavy weight) gone back strange = strange
member_as P newest member refusals.NotPresent gone back strange = strange
member_as P newest member refusals.NotDue gone back strange = strange

-- whatever is refused, and why
pub refused_as : (P : Outcome → Type 0) (newest : Option ShardState) (member : ℕ) (step : Transition) (refusal : Refusal) →
    P outcomes.Spent →
    ((version : ℕ) → P (outcomes.Full version)) → ((version : ℕ) → P (outcomes.Gone version)) → ((since : ℕ) → P (outcomes.Back since)) →
    ((version : ℕ) → P (outcomes.Strange version)) → P (refused_outcome newest member step refusal)
refused_as P newest member step refusal last full gone back strange = by step
  where
    join : P (join_outcome newest refusal)
    join = join_as P newest refusal last (full (number_of newest)) (strange (number_of newest))

    other : P (member_outcome newest member refusal)
    other = member_as P newest member refusal (gone (number_of newest)) back (strange (number_of newest))

    by : (x : Transition) → P (refused_outcome newest member x refusal)
    by (Join kind now lease) = join
    by Init = other
    by (Leave m) = other
    by (Renew m now) = other
    by (Advance m to) = other
    by (Expire now) = other
    by (Append m token expected upper parts rows weight) = other
    by (Merge m token left right merged) = other
