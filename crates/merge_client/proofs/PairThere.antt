-- The pair whose parts a state names, and what it says of its rows.
use Rattle.std.proofs.Common.{◌≡◌, ℕ, suc, ◌+◌, Option, Some, None, List, ◌∷◌, ◌++◌, length, refl, sym, ap, subst, ◌∙◌, arith}
use Rattle.std.specs.List.{slice_get}
use Rattle.std.specs.Option.{option_map}
use Rattle.spine_core.specs.declared.batches.Batch.{Batch}
use Rattle.spine_core.specs.Settled.{due_place, weights_of, with_next}
use Rattle.store_core.specs.declared.part_keys.PartKey.{PartKey}
use Rattle.state_core.specs.States.{ShardState}
use Rattle.read_machine.specs.declared.looks.Look.TheVariants as looks
use Rattle.merge_client.specs.declared.founds.Found.TheVariants as founds
use Rattle.merge_client.specs.declared.pair_bounds.PairBound.{PairBound}
use Rattle.merge_client.specs.Finding.{look_at, look_by, places_in}
use Rattle.merge_client.specs.Fitting.{bound_by, bound_of, row_bound}
use Rattle.merge_client.proofs.DuePairs.{two_there}

-- what two batches say
abbrev pub said : Batch → Batch → PairBound
said l r = record { left = row_bound l; parts = length l.parts; right = row_bound r }

pub record PairThere (s : ShardState) (keys : List PartKey) : Type 0 where
  pub left : Batch
  pub right : Batch
  pub before : List Batch
  pub behind : List Batch
  pub batches : s.batches ≡ before ++ left ∷ right ∷ behind
  pub keys_are : keys ≡ left.parts ++ right.parts
  pub bound : bound_by s (places_in s) ≡ Some (said left right)

pub pair_there : (s : ShardState) (keys : List PartKey) → look_by s (places_in s) ≡ looks.Parts keys → PairThere s keys
pair_there s keys e = go (due_place (weights_of s.batches)) refl
  where
    both : (i : ℕ) → places_in s ≡ Some (i, i + 1) → (l r : Option Batch) → slice_get s.batches i ≡ l →
        slice_get s.batches (i + 1) ≡ r → look_at s l r ≡ looks.Parts keys → PairThere s keys
    both i at None r h k m = absurd (let bad : looks.Answer (founds.Nothing s.number) ≡ looks.Parts keys = m in cc)
    both i at (Some l) None h k m = absurd (let bad : looks.Answer (founds.Nothing s.number) ≡ looks.Parts keys = m in cc)
    both i at (Some l) (Some r) h k m =
        let same : l.parts ++ r.parts ≡ keys = (let f : looks.Parts (l.parts ++ r.parts) ≡ looks.Parts keys = m in cc) in
        let next : i + 1 ≡ suc i = omega arith in
        let (before, behind, is) = two_there l r s.batches i h (subst (λ (n : ℕ). slice_get s.batches n ≡ Some r) next k) in
        record {
          left = l;
          right = r;
          before = before;
          behind = behind;
          batches = is;
          keys_are = sym same;
          bound = ap (bound_by s) at ∙ ap (λ (o : Option Batch). bound_of o (slice_get s.batches (i + 1))) h ∙ ap (bound_of (Some l)) k;
        }

    go : (o : Option ℕ) → due_place (weights_of s.batches) ≡ o → PairThere s keys
    go None is =
        let none : places_in s ≡ None = ap (option_map with_next) is in
        absurd (let bad : looks.Answer (founds.Nothing s.number) ≡ looks.Parts keys = sym (ap (look_by s) none) ∙ e in cc)
    go (Some i) is =
        let at : places_in s ≡ Some (i, i + 1) = ap (option_map with_next) is in
        both i at (slice_get s.batches i) (slice_get s.batches (i + 1)) refl refl (sym (ap (look_by s) at) ∙ e)
