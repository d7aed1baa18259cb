-- What becomes of a member and its token in a transition.
use Rattle.std.proofs.Common.{◌≡◌, ℕ, ◌<◌, true, List, [], ◌∷◌, ◌⊎◌, inl, inr, refl, arith, subst, sym, ap, ◌∙◌, eqb}
use Rattle.std.proofs.lemmas.Bool.{eqb-true, eqb-false}
use Rattle.state_core.specs.Lists.{Among}
use Rattle.state_core.proofs.ListLemmas.{bool_cases, among_split, each_at}
use Rattle.state_core.specs.declared.kinds.Kind.TheVariants.{Keeper}
use Rattle.state_core.specs.declared.members.Member.{Member}
use Rattle.state_core.specs.declared.transitions.Transition.{Transition}
use Rattle.state_core.specs.declared.transitions.Transition.TheVariants.{Init, Join, Leave, Renew, Advance, Expire, Append, Merge}
use Rattle.state_core.specs.States.{ShardState, IsState, is_writer}
use Rattle.state_core.specs.Steps.{Applies, Spends, without, unexpired, changed, is_out, Stands}
use Rattle.state_core.specs.Tokens.{TokenAfter}
use Rattle.state_core.proofs.Rules.{rise_of, one_stands}

-- where a member of the next state comes from, and what became of its token
pub data After (s : ShardState) (x : Transition) (v : Member) : Type 0 where
  joined : v.number ≡ s.next_member → v.token ≡ 0 → ((m t : ℕ) → Spends x m t → ⊥) → After s x v
  stayed : (w : Member) → Among (λ u. u ≡ w) s.members → w.number ≡ v.number → w.token ≡ v.token → ((t : ℕ) → Spends x v.number t → ⊥) → After s x v
  spent : (w : Member) → Among (λ u. u ≡ w) s.members → w.number ≡ v.number → w.token < v.token → Spends x v.number v.token → ((t : ℕ) → Spends x v.number t → v.token ≡ t) → After s x v

among_without : (P : Member → Type 0) (n : ℕ) (ms : List Member) → Among P (without n ms) → Among P ms
among_without P n [] h = h
among_without P n (m ∷ ms) h = elim (bool_cases (eqb m.number n)) [
  | inl e ↦ inr (among_without P n ms (rw e at h))
  | inr e ↦ elim (let g : P m ⊎ Among P (without n ms) = rw e at h in g) [ inl p ↦ inl p | inr p ↦ inr (among_without P n ms p) ]
]

among_unexpired : (P : Member → Type 0) (now : ℕ) (ms : List Member) → Among P (unexpired now ms) → Among P ms
among_unexpired P now [] h = h
among_unexpired P now (m ∷ ms) h = elim (bool_cases (is_out now m)) [
  | inl e ↦ inr (among_unexpired P now ms (rw e at h))
  | inr e ↦ elim (let g : P m ⊎ Among P (unexpired now ms) = rw e at h in g) [ inl p ↦ inl p | inr p ↦ inr (among_unexpired P now ms p) ]
]

among_changed : (n : ℕ) (f : Member → Member) (v : Member) (ms : List Member) → Among (λ u. u ≡ v) (changed n f ms) → (w : Member) × Among (λ u. u ≡ w) ms × (((w.number ≡ n) × (f w ≡ v)) ⊎ ((w.number ≡ n → ⊥) × (w ≡ v)))
among_changed n f v [] h = absurd h
among_changed n f v (m ∷ ms) (inl h) = elim (bool_cases (eqb m.number n)) [
  | inl e ↦ (m, inl refl, inl (eqb-true m.number n e, rw e at h))
  | inr e ↦ (m, inl refl, inr (eqb-false m.number n e, rw e at h))
]
among_changed n f v (m ∷ ms) (inr h) = let (w, a, b) = among_changed n f v ms h in (w, inr a, b)

same_kept : (s : ShardState) (x : Transition) (v : Member) (n : ℕ) (f : Member → Member) → ((w : Member) → ((f w).number ≡ w.number) × ((f w).token ≡ w.token)) → ((m t : ℕ) → Spends x m t → ⊥) → Among (λ u. u ≡ v) (changed n f s.members) → After s x v
same_kept s x v n f same none h =
    let (w, a, b) = among_changed n f v s.members h in
    elim b [
      | inl p ↦ stayed w a (sym (same w).0 ∙ ap (λ (u : Member). u.number) p.1) (sym (same w).1 ∙ ap (λ (u : Member). u.token) p.1) (λ t. none v.number t)
      | inr p ↦ stayed w a (ap (λ (u : Member). u.number) p.1) (ap (λ (u : Member). u.token) p.1) (λ t. none v.number t)
    ]

-- a step that spends a token of one member
spent_kept : (s : ShardState) (x : Transition) (v : Member) (member token : ℕ) (f : Member → Member) (P : Member → Type 0) → IsState s → ((w : Member) → ((f w).number ≡ w.number) × ((f w).token ≡ token)) →
    ((m t : ℕ) → (member ≡ m) × (token ≡ t) → Spends x m t) → ((m t : ℕ) → Spends x m t → (member ≡ m) × (token ≡ t)) → Stands member (λ w. P w × (w.token < token)) s.members → Among (λ u. u ≡ v) (changed member f s.members) → After s x v
spent_kept s x v member token f P r same to of st h =
    let (w, a, b) = among_changed member f v s.members h in
    let each = one_stands member (λ w. P w × (w.token < token)) s.members (rise_of s.members r.rising) st in
    elim b [
      | inl p ↦
          let number : w.number ≡ v.number = sym (same w).0 ∙ ap (λ (u : Member). u.number) p.1 in
          let tok : token ≡ v.token = sym (same w).1 ∙ ap (λ (u : Member). u.token) p.1 in
          let low : w.token < token = (each_at (λ (u : Member). u.number ≡ member → P u × (u.token < token)) s.members w each a p.0).1 in
          spent w a number (omega arith) (to v.number v.token (sym p.0 ∙ number, tok)) (λ t q. sym tok ∙ (of v.number t q).1)
      | inr p ↦
          let number : w.number ≡ v.number = ap (λ (u : Member). u.number) p.1 in
          stayed w a number (ap (λ (u : Member). u.token) p.1) (λ t q. p.0 (number ∙ sym (of v.number t q).0))
    ]

pub members_after : (s s2 : ShardState) (x : Transition) (v : Member) → IsState s → Applies s x s2 → Among (λ u. u ≡ v) s2.members → After s x v
members_after s s2 Init v r a h = absurd a.makes
members_after s s2 (Join kind now lease) v r a h =
    let h2 = subst (λ (t : ShardState). Among (λ u. u ≡ v) t.members) a.makes.effect h in
    elim (among_split (λ u. u ≡ v) s.members _ h2) [
      | inl g ↦ stayed v g refl refl (λ t q. q)
      | inr g ↦ elim g [
        | inl e ↦ joined (sym (ap (λ (u : Member). u.number) e)) (sym (ap (λ (u : Member). u.token) e)) (λ m t q. q)
        | inr f ↦ absurd f
      ]
    ]
members_after s s2 (Leave member) v r a h =
    let h2 = subst (λ (t : ShardState). Among (λ u. u ≡ v) t.members) a.makes.effect h in stayed v (among_without (λ u. u ≡ v) member s.members h2) refl refl (λ t q. q)
members_after s s2 (Expire now) v r a h =
    let h2 = subst (λ (t : ShardState). Among (λ u. u ≡ v) t.members) a.makes.effect h in stayed v (among_unexpired (λ u. u ≡ v) now s.members h2) refl refl (λ t q. q)
members_after s s2 (Renew member now) v r a h =
    same_kept s (Renew member now) v member _ (λ w. (refl, refl)) (λ m t q. q) (subst (λ (t : ShardState). Among (λ u. u ≡ v) t.members) a.makes.effect h)
members_after s s2 (Advance member to) v r a h =
    same_kept s (Advance member to) v member _ (λ w. (refl, refl)) (λ m t q. q) (subst (λ (t : ShardState). Among (λ u. u ≡ v) t.members) a.makes.effect h)
members_after s s2 (Append member token expected new parts rows weight) v r a h =
    spent_kept s (Append member token expected new parts rows weight) v member token _ (λ w. is_writer w.kind ≡ true) r (λ w. (refl, refl)) (λ m t q. q) (λ m t q. q) a.makes.stands (subst (λ (t : ShardState). Among (λ u. u ≡ v) t.members) a.makes.effect h)
members_after s s2 (Merge member token left right merged) v r a h =
    spent_kept s (Merge member token left right merged) v member token _ (λ w. w.kind ≡ Keeper) r (λ w. (refl, refl)) (λ m t q. q) (λ m t q. q) a.makes.stands (subst (λ (t : ShardState). Among (λ u. u ≡ v) t.members) a.makes.effect h)

after_is : (s : ShardState) (x : Transition) (v : Member) → After s x v → TokenAfter s x v
after_is s x v (joined number none unspent) = inl (number, none)
after_is s x v (stayed w among number token unspent) = inr (w, among, number, inl token)
after_is s x v (spent w among number above spends only) = inr (w, among, number, inr (above, spends))

pub token_after : (s s2 : ShardState) (x : Transition) (v : Member) → IsState s → Applies s x s2 → Among (λ u. u ≡ v) s2.members → TokenAfter s x v
token_after s s2 x v r a h = after_is s x v (members_after s s2 x v r a h)
