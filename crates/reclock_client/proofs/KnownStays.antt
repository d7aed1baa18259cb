-- What an operator knows stays right while its remap shard gets more; and operators who know one list have equal collections.
use Rattle.std.proofs.Common.{◌≡◌, ℕ, ◌≤◌, max, ℤ, pos, ◌≤ℤ◌, Bool, true, false, cond, Option, Some, None, List, [], ◌∷◌, ◌++◌, refl, sym}
use Rattle.std.proofs.Common.{subst, arith}
use Rattle.std.proofs.lemmas.Bool.Decides.{nat_tests}
use Rattle.std.proofs.lemmas.Int.{ints}
use Rattle.std.specs.List.{AllByRecursion}
use Rattle.update_core.specs.declared.updates.Update.{Update}
use Rattle.update_core.specs.Frontiers.{covers}
use Rattle.update_core.specs.Updates.{between, moved}
use Rattle.update_core.proofs.SliceLaws.{between-more}
use Rattle.update_core.proofs.TallyLaws.{moved-append}
use Rattle.remap_core.specs.RemapShards.{NeverFalls, change_at}
use Rattle.remap_core.proofs.RemapSums.{equal_collections}
use Rattle.remap_core.proofs.StepLaws.{Part, part_from_whole, part_of, rises_in_whole, whole_from_part}
use Rattle.reclock_client.specs.Known.{CollectionsAgree, KnownStays}

uncovered : (g : Option ℕ) (t u : ℕ) → t ≤ u → covers g t ≡ false → covers g u ≡ false
uncovered None t u le e = absurd (let bad : true ≡ false = e in cc)
uncovered (Some g) t u le e = grind (arith, nat_tests)

no_less : (t s : ℕ) → t ≤ max t s
no_less t s = omega arith

out_moved : (g : Option ℕ) (s : ℕ) (us : List Update) → AllByRecursion (λ u. covers g u.time ≡ false) us →
    AllByRecursion (λ u. covers g u.time ≡ false) (moved us s)
out_moved g s [] all = tt
out_moved g s (u ∷ us) all = (uncovered g u.time (max u.time s) (no_less u.time s) all.0, out_moved g s us all.1)

pub rises_in_part : (part us : List Update) (g : Option ℕ) → Part part us g → NeverFalls us g → NeverFalls part None
rises_in_part part us g h up = record { rises = λ q x c. subst (λ (z : ℤ). pos 0 ≤ℤ z) (sym (h.at q x)) (pick q x (covers g x) refl) }
  where
    pick : (q x : ℕ) (b : Bool) → covers g x ≡ b → pos 0 ≤ℤ cond b (change_at us q x) (pos 0)
    pick q x true e = up.rises q x e
    pick q x false e = omega (arith, ints)

pub known_stays : KnownStays
known_stays us more c k out = record {
  bindings = whole_from_part part (moved (us ++ more) c.since) c.synced c.bindings grown
      (part_from_whole part (moved us c.since) c.synced c.bindings (part_of (moved us c.since) c.synced) k.bindings);
  rises = rises_in_whole part (moved (us ++ more) c.since) c.synced grown
      (rises_in_part part (moved us c.since) c.synced (part_of (moved us c.since) c.synced) k.rises);
  past = k.past;
}
  where
    part : List Update
    part = between (Some 0) c.synced (moved us c.since)

    both : List Update
    both = moved us c.since ++ moved more c.since

    same : between (Some 0) c.synced both ≡ part
    same = between-more (moved us c.since) (moved more c.since) (Some 0) c.synced (record { all = out_moved c.synced c.since more out.all })

    grown : Part part (moved (us ++ more) c.since) c.synced
    grown = subst (λ (l : List Update). Part part l c.synced) (sym (moved-append us more c.since))
        (subst (λ (p : List Update). Part p both c.synced) same (part_of both c.synced))

pub collections_agree : CollectionsAgree
collections_agree us a b rows t k h from_a from_b to_a to_b =
    equal_collections us a.since b.since a.synced b.synced a.bindings
    b.bindings k.bindings h.bindings k.rises h.rises rows t from_a from_b to_a to_b
