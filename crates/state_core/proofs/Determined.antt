use Rattle.std.proofs.Common.{◌≡◌, ℕ, ◌+◌, ◌<◌, true, List, [], ◌∷◌, ◌++◌, refl, arith, subst, sym, ap, ◌∙◌, Option, Some}
use Rattle.update_core.specs.Frontiers.{covers}
use Rattle.spine_core.specs.declared.batches.Batch.{Batch}
use Rattle.state_core.specs.declared.transitions.Transition.{Transition}
use Rattle.state_core.specs.declared.transitions.Transition.TheVariants.{Init, Join, Leave, Renew, Advance, Expire, Append, Merge}
use Rattle.state_core.specs.States.{ShardState, IsState}
use Rattle.state_core.specs.Steps.{Applies, Makes, changed}
use Rattle.state_core.proofs.Batches.{Runs, runs_state, covers_open, covers_earlier}

-- a batch of a run begins past each time that the run's start covers
begins_past : (f : Option ℕ) (before behind : List Batch) (b : Batch) (to : Option ℕ) (t : ℕ) → Runs f (before ++ b ∷ behind) to → covers f t ≡ true → t < b.desc.lower
begins_past f [] behind b to t r c = covers_open b.desc.lower t (subst (λ (g : Option ℕ). covers g t ≡ true) r.0 c)
begins_past f (x ∷ before) behind b to t r c =
    let lt : t < x.desc.lower = covers_open x.desc.lower t (subst (λ (g : Option ℕ). covers g t ≡ true) r.0 c) in
    begins_past x.desc.upper before behind b to t r.2 (covers_earlier x.desc.upper x.desc.lower t (omega arith) r.1)

-- a batch stands at one place of a run
one_place : (f : Option ℕ) (xs ys us vs : List Batch) (b : Batch) (to : Option ℕ) → Runs f (xs ++ b ∷ us) to → xs ++ b ∷ us ≡ ys ++ b ∷ vs → (xs ≡ ys) × (us ≡ vs)
one_place f [] [] us vs b to r e = (refl, let e2 : b ∷ us ≡ b ∷ vs = e in cc)
one_place f [] (y ∷ ys) us vs b to r e =
    let e2 : b ∷ us ≡ y ∷ (ys ++ b ∷ vs) = e in
    let e3 : us ≡ ys ++ b ∷ vs = cc in
    let r2 : Runs b.desc.upper (ys ++ b ∷ vs) to = subst (λ (bs : List Batch). Runs b.desc.upper bs to) e3 r.2 in
    absurd (let lt : b.desc.lower < b.desc.lower = begins_past b.desc.upper ys vs b to b.desc.lower r2 r.1 in omega arith)
one_place f (x ∷ xs) [] us vs b to r e =
    let e2 : x ∷ (xs ++ b ∷ us) ≡ b ∷ vs = e in
    let e3 : x ≡ b = cc in
    absurd (let lt : x.desc.lower < b.desc.lower = begins_past x.desc.upper xs us b to x.desc.lower r.2 r.1 in let e4 : x.desc.lower ≡ b.desc.lower = ap (λ (w : Batch). w.desc.lower) e3 in omega arith)
one_place f (x ∷ xs) (y ∷ ys) us vs b to r e =
    let e2 : x ∷ (xs ++ b ∷ us) ≡ y ∷ (ys ++ b ∷ vs) = e in
    let e3 : xs ++ b ∷ us ≡ ys ++ b ∷ vs = cc in
    let e4 : x ≡ y = cc in
    let (p, q) = one_place x.desc.upper xs ys us vs b to r.2 e3 in
    (cc, q)

-- a transition makes one state of a state
pub makes_one : (s a b : ShardState) (x : Transition) → IsState s → Makes s x a → Makes s x b → a ≡ b
makes_one s a b Init r m n = absurd m
makes_one s a b (Join kind now lease) r m n = m.effect ∙ sym n.effect
makes_one s a b (Leave member) r m n = m.effect ∙ sym n.effect
makes_one s a b (Renew member now) r m n = m.effect ∙ sym n.effect
makes_one s a b (Advance member to) r m n = m.effect ∙ sym n.effect
makes_one s a b (Expire now) r m n = m.effect ∙ sym n.effect
makes_one s a b (Append member token expected new parts rows weight) r m n = m.effect ∙ sym n.effect
makes_one s a b (Merge member token left right merged) r m n =
    let runs : Runs (Some 0) (m.before ++ left ∷ right ∷ m.behind) s.upper = subst (λ (bs : List Batch). Runs (Some 0) bs s.upper) m.present (runs_state s r) in
    let (p, q) = one_place (Some 0) m.before n.before (right ∷ m.behind) (right ∷ n.behind) left s.upper runs (sym m.present ∙ n.present) in
    let q2 : m.behind ≡ n.behind = cc in
    let with_batches : List Batch → ShardState = λ bs. record s { number = s.number + 1; batches = bs; members = changed member (λ w. record w { token = token; hold = s.number + 1 }) s.members } in
    m.effect ∙ ap with_batches (joined m.before n.before m.behind n.behind p q2) ∙ sym n.effect
  where
    joined : (xs ys us vs : List Batch) → xs ≡ ys → us ≡ vs → xs ++ merged ∷ us ≡ ys ++ merged ∷ vs
    joined xs ys us vs e f = cc

pub applies_one : (s a b : ShardState) (x : Transition) → IsState s → Applies s x a → Applies s x b → a ≡ b
applies_one s a b x r m n = makes_one s a b x r m.makes n.makes
