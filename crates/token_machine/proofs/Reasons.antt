-- What a transition that spends a token asks of a state, and where a state refuses it for its token.
use Rattle.std.proofs.Common.{◌≡◌, ℕ, ◌+◌, ◌<◌, ◌≤◌, ◌^◌, Bool, true, Option, Some, None}
use Rattle.std.proofs.Common.{cond, not, inl, inr, refl, subst, leb, ltb}
use Rattle.std.proofs.lemmas.Bool.{leb-true}
use Rattle.update_core.specs.Frontiers.{frontier_eq}
use Rattle.state_core.specs.declared.kinds.Kind.{Kind}
use Rattle.state_core.specs.declared.kinds.Kind.TheVariants.{Keeper}
use Rattle.state_core.specs.declared.members.Member.{Member}
use Rattle.state_core.specs.declared.refusals.Refusal.{Refusal}
use Rattle.state_core.specs.declared.refusals.Refusal.TheVariants as refusals
use Rattle.state_core.specs.declared.transitions.Transition.{Transition}
use Rattle.state_core.specs.declared.transitions.Transition.TheVariants.{Append, Merge}
use Rattle.state_core.specs.Refusals.{follows, is_keeper, is_shaped, member_of, of_member, refusal_by_kind}
use Rattle.state_core.specs.States.{ShardState, is_writer}
use Rattle.state_core.specs.Steps.{Applies, Spends, Stands}
use Rattle.state_core.proofs.ListLemmas.{among_map, bool_cases}
use Rattle.load_core.specs.Attempts.{standing_refusal}
use Rattle.token_machine.specs.Following.{Lower}
use Rattle.token_machine.proofs.Members.{found_stands}

pub spends_lower : (x : Transition) (member token : ℕ) (from to : ShardState) → Spends x member token → Applies from x to →
    Lower member token from
spends_lower (Append a b c d e f g) member token from to (of, is) applies =
    subst (λ (n : ℕ). Lower n token from) of (subst (λ (n : ℕ). Lower a n from) is
    (among_map (λ m. (m.number ≡ a) × ((is_writer m.kind ≡ true) × (m.token < b)))
    (λ m. (m.number ≡ a) × (m.token < b)) from.members (λ m h. (h.0, h.1.1)) applies.makes.stands))
spends_lower (Merge a b c d e) member token from to (of, is) applies =
    subst (λ (n : ℕ). Lower n token from) of (subst (λ (n : ℕ). Lower a n from) is
    (among_map (λ m. (m.number ≡ a) × ((m.kind ≡ Keeper) × (m.token < b))) (λ m. (m.number ≡ a) × (m.token < b)) from.members
    (λ m h. (h.0, h.1.1)) applies.makes.stands))
spends_lower other member token from to h applies = absurd h

-- the member stands with a token that isn't below
pub record TokenThere (s : ShardState) (member token last : ℕ) : Type 0 where
  pub stands : Stands member (λ m. m.token ≡ last) s.members
  pub reached : token ≤ last

module _ (s : ShardState) (member token last : ℕ) where
  found_there : (fits : Kind → Bool) (rest : Member → Option Refusal) → ((m : Member) → ¬
      (rest m ≡ Some (refusals.TokenOld last))) →
      of_member (member_of member s.members) fits (λ m. cond (leb token m.token) (Some (refusals.TokenOld m.token))
      (rest m)) ≡ Some (refusals.TokenOld last) → TokenThere s member token last
  found_there fits rest never h = go (member_of member s.members) refl h
    where
      go : (o : Option Member) → member_of member s.members ≡ o → of_member o fits
          (λ m. cond (leb token m.token) (Some (refusals.TokenOld m.token)) (rest m)) ≡ Some (refusals.TokenOld last) →
          TokenThere s member token last
      go None e g = absurd (let bad : Some refusals.NoMember ≡ Some (refusals.TokenOld last) = g in cc)
      go (Some q) e g = elim (bool_cases (fits q.kind)) [
        | inl f ↦ elim (bool_cases (leb token q.token)) [
          | inl t ↦
              let same : Some (refusals.TokenOld q.token) ≡ Some (refusals.TokenOld last) = rw (f, t) at g in
              let is : q.token ≡ last = cc in
              record {
                stands = found_stands (λ m. m.token ≡ last) member s.members q e is;
                reached = subst
                    (λ (n : ℕ). token ≤ n) is (leb-true token q.token t);
              }
          | inr t ↦ absurd (never q (rw (f, t) at g))
        ]
        | inr f ↦ absurd (let bad : Some refusals.NoMember ≡ Some (refusals.TokenOld last) = rw f at g in cc)
      ]

  shaped : (x : Transition) → standing_refusal s x ≡ Some (refusals.TokenOld last) → refusal_by_kind s x ≡ Some
      (refusals.TokenOld last)
  shaped x h = elim (bool_cases (is_shaped s x)) [
    | inl e ↦ rw e at h
    | inr e ↦ absurd (let bad : Some refusals.Shape ≡ Some (refusals.TokenOld last) = rw e at h in cc)
  ]

  pub token_there : (x : Transition) → Spends x member token → standing_refusal s x ≡ Some (refusals.TokenOld last) →
      TokenThere s member token last
  token_there (Append a b c d e f g) (of, is) h =
      found_there is_writer (λ m. cond (not (frontier_eq s.upper (Some c))) (Some (refusals.UpperIs s.upper))
      (cond (ltb (2 ^ 62) (s.weight + g)) (Some (refusals.Heavy s.weight)) None)) never
      (subst (λ (n : ℕ). refusal_by_kind s (Append member n c d e f g) ≡ Some (refusals.TokenOld last)) is
      (subst (λ (n : ℕ). refusal_by_kind s (Append n b c d e f g) ≡ Some (refusals.TokenOld last)) of
      (shaped (Append a b c d e f g) h)))
    where
      never : (m : Member) → ¬ (cond (not (frontier_eq s.upper (Some c))) (Some (refusals.UpperIs s.upper))
          (cond (ltb (2 ^ 62) (s.weight + g)) (Some (refusals.Heavy s.weight)) None) ≡ Some (refusals.TokenOld last))
      never m k = elim (bool_cases (not (frontier_eq s.upper (Some c)))) [
        | inl u ↦ let bad : Some (refusals.UpperIs s.upper) ≡ Some (refusals.TokenOld last) = rw u at k in cc
        | inr u ↦ elim (bool_cases (ltb (2 ^ 62) (s.weight + g))) [
          | inl v ↦ let bad : Some (refusals.Heavy s.weight) ≡ Some (refusals.TokenOld last) = rw (u, v) at k in cc
          | inr v ↦ let bad : None ≡ Some (refusals.TokenOld last) = rw (u, v) at k in cc
        ]
      ]
  token_there (Merge a b c d e) (of, is) h =
      found_there is_keeper (λ m. cond (follows c d s.batches) None (Some refusals.NotPresent)) never
      (subst (λ (n : ℕ). refusal_by_kind s (Merge member n c d e) ≡ Some (refusals.TokenOld last)) is
      (subst (λ (n : ℕ). refusal_by_kind s (Merge n b c d e) ≡ Some (refusals.TokenOld last)) of (shaped (Merge a b c d e) h)))
    where
      never : (m : Member) → ¬ (cond (follows c d s.batches) None (Some refusals.NotPresent) ≡ Some (refusals.TokenOld last))
      never m k = elim (bool_cases (follows c d s.batches)) [
        | inl u ↦ let bad : None ≡ Some (refusals.TokenOld last) = rw u at k in cc
        | inr u ↦ let bad : Some refusals.NotPresent ≡ Some (refusals.TokenOld last) = rw u at k in cc
      ]
  token_there other h k = absurd h
