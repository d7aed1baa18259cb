-- Lines in a block and outside of one.
use Rattle.std.proofs.Common.{◌≡◌, ℕ, ◌<◌, ◌⊎◌, inl, inr, Option, Some, None, Result, Ok, Err, List, length, sym, subst}
use Rattle.std.specs.Prelude.{IfOk, MatchOption}
use Rattle.feed_text.specs.declared.limits.TheConstants.{MAX_COMMANDS}
use Rattle.step_text.specs.declared.schedules.Block.{Block}
use Rattle.step_text.specs.declared.schedules.SoFar.{SoFar}
use Rattle.step_text.specs.Schedules.{DotLine, Free, RowLine, Takes, TakesIn}

-- what is answered of a line, by what takes it
abbrev pub Found : {E : Type 0} → Result (Option SoFar) E → (SoFar → Type 0) → Type 0
Found r P = IfOk r (λ found. MatchOption found ((t : SoFar) → P t → ⊥) P)

-- there is room
pub roomy : {E : Type 0} (s : SoFar) (line : List ℕ) → length s.lines < MAX_COMMANDS → (r : Result (Option SoFar) E) →
    Found r (λ t. Free s line t) → Found r (λ t. (length s.lines < MAX_COMMANDS) × Free s line t)
roomy s line room (Err e) h = tt
roomy s line room (Ok None) h = λ t x. h t x.1
roomy s line room (Ok (Some t)) h = (room, h)

-- no block is open
pub free_taken : {E : Type 0} (s : SoFar) (line : List ℕ) → s.block ≡ None → (r : Result (Option SoFar) E) →
    Found r (λ t. (length s.lines < MAX_COMMANDS) × Free (record s { block = None }) line t) → Found r (λ t. Takes s line t)
free_taken s line is r h =
    let same : record s { block = None } ≡ s = λ i. record s { block = sym is i } in
    subst (λ (o : Option Block). Found r (λ t. TakesIn o s line t)) (sym is)
    (subst (λ (x : SoFar). Found r (λ t. (length s.lines < MAX_COMMANDS) × Free x line t)) same h)

module _ (s : SoFar) (block : Block) (line : List ℕ) where
  abbrev In : SoFar → SoFar → Type 0
  In x t = DotLine x block line t ⊎ RowLine x block line t

  there : (t : SoFar) → In (record s { block = None }) t → In s t
  there t (inl x) = inl x
  there t (inr x) = inr (record { row = x.row; row_is = x.row_is; text = x.text; few = x.few; after = x.after })

  back : (t : SoFar) → In s t → In (record s { block = None }) t
  back t (inl x) = inl x
  back t (inr x) = inr (record { row = x.row; row_is = x.row_is; text = x.text; few = x.few; after = x.after })

  same_in : {E : Type 0} (r : Result (Option SoFar) E) → Found r (λ t. In (record s { block = None }) t) → Found r (λ t. In s t)
  same_in (Err e) h = tt
  same_in (Ok None) h = λ t x. h t (back t x)
  same_in (Ok (Some t)) h = there t h

  -- this block is open
  pub block_taken : {E : Type 0} → s.block ≡ Some block → (r : Result (Option SoFar) E) →
      Found r (λ t. DotLine (record s { block = None }) block line t ⊎ RowLine (record s { block = None }) block line t) →
      Found r (λ t. Takes s line t)
  block_taken is r h = subst (λ (o : Option Block). Found r (λ t. TakesIn o s line t)) (sym is) (same_in r h)
