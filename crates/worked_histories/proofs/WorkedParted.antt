-- What the parts of a transition hold, where the client stored or got one value under each key.
use Rattle.std.proofs.Common.{◌≡◌, ◌∙◌, ℕ, ◌+◌, List, [], ◌∷◌, ◌++◌, Option, Some, sym, ap}
use Rattle.std.proofs.lemmas.List.{append-nil}
use Rattle.update_core.specs.declared.updates.Update.{Update}
use Rattle.store_core.specs.declared.shards.ShardId.{ShardId}
use Rattle.store_core.specs.declared.part_keys.PartKey.{PartKey}
use Rattle.store_core.specs.Ports.{Answered}
use Rattle.state_core.specs.declared.transitions.Transition.{Transition}
use Rattle.state_core.specs.States.{ShardState}
use Rattle.version_codec.specs.Reading.{version_in}
use Rattle.history_core.specs.Readings.{rows_in}
use Rattle.history_core.specs.Discipline.{Hold, CasAllowed}

-- what reads as two values is one
pub one_value : {A : Type 0} (o : Option A) (x y : A) → o ≡ Some x → o ≡ Some y → x ≡ y
one_value o x y e f = let g : Some x ≡ Some y = sym e ∙ f in cc

-- what the one part of a transition holds
pub one_part : (P : PartKey → List ℕ → Type 0) (k : PartKey) (part : List ℕ) (rows us : List Update) →
    ((b : List ℕ) → P k b → b ≡ part) → rows_in part ≡ Some rows → Hold P (k ∷ []) us → us ≡ rows
one_part P k part rows us only reads (b, first, rest, p, r, e, nil) =
    let f : first ≡ rows = one_value (rows_in b) first rows r (ap rows_in (only b p) ∙ reads) in
    e ∙ ap (λ (l : List Update). first ++ l) nil ∙ append-nil first ∙ f

-- what two parts hold
pub two_parts : (P : PartKey → List ℕ → Type 0) (j k : PartKey) (left right : List ℕ) (rows others us : List Update) →
    ((b : List ℕ) → P j b → b ≡ left) → rows_in left ≡ Some rows → ((b : List ℕ) → P k b → b ≡ right) →
    rows_in right ≡ Some others → Hold P (j ∷ k ∷ []) us → us ≡ rows ++ others
two_parts P j k left right rows others us only reads only2 reads2 (b, first, rest, p, r, e, more) =
    let f : first ≡ rows = one_value (rows_in b) first rows r (ap rows_in (only b p) ∙ reads) in
    let g : rest ≡ others = one_part P k right others rest only2 reads2 more in
    cc

-- the transition and the state of a Cas that is allowed are those that its bytes hold
pub step_is : {own : List Answered} {shard : ShardId} {n : ℕ} {bytes : List ℕ} (s : ShardState) (x : Transition) →
    version_in shard (n + 1) bytes ≡ Some (s, x) → (a : CasAllowed own shard n bytes) → x ≡ a.step
step_is s x e a = ap (λ (p : ShardState × Transition). p.1) (one_value _ (s, x) (a.to, a.step) e a.written)

pub state_is : {own : List Answered} {shard : ShardId} {n : ℕ} {bytes : List ℕ} (s : ShardState) (x : Transition) →
    version_in shard (n + 1) bytes ≡ Some (s, x) → (a : CasAllowed own shard n bytes) → s ≡ a.to
state_is s x e a = ap (λ (p : ShardState × Transition). p.0) (one_value _ (s, x) (a.to, a.step) e a.written)
