-- The rows of a mint, partition by partition.
use Rattle.std.proofs.Common.{◌≡◌, ℕ, suc, ◌+◌, ◌-◌, ◌<◌, List, [], ◌++◌, sym, ap, ◌∙◌, arith}
use Rattle.std.proofs.lemmas.List.{append_assoc}
use Rattle.std.specs.List.{flat_map, range_with_len}
use Rattle.update_core.specs.declared.updates.Update.{Update}
use Rattle.remap_core.specs.RemapShards.{partitions}
use Rattle.reclock_client.specs.Minting.{rise_of, rises}

pub start : (t : ℕ) (had seen : List ℕ) (rows : List Update) → rows ≡ [] →
    rows ++ flat_map (rise_of t had seen) (range_with_len 0 256) ≡ rises t had seen
unfolding partitions
start t had seen rows e = ap (λ (r : List Update). r ++ flat_map (rise_of t had seen) (range_with_len 0 256)) e

pub next : (f : ℕ → List Update) (p : ℕ) (rows after all : List Update) → p < 256 → after ≡ rows ++ f p →
    rows ++ flat_map f (range_with_len p (256 - p)) ≡ all → after ++ flat_map f (range_with_len (p + 1) (256 - (p + 1))) ≡ all
next f p rows after all h e is =
    ap (λ (r : List Update). r ++ rest) e ∙ append_assoc rows (f p) rest
    ∙ ap (λ (n : ℕ). rows ++ flat_map f (range_with_len p n)) (sym one) ∙ is
  where
    rest : List Update
    rest = flat_map f (range_with_len (p + 1) (256 - (p + 1)))

    one : 256 - p ≡ suc (256 - (p + 1))
    one = omega arith
