-- Operators who know one remap shard have equal collections.
use Rattle.std.proofs.Common.{◌≡◌, ℕ, ◌<◌, Bool, true, false, Option, Some, None, List, Result, Ok, Err, sym, ap, subst, inl, inr}
use Rattle.std.proofs.Common.{arith}
use Rattle.std.proofs.lemmas.Bool.Decides.{nat_tests}
use Rattle.std.specs.Prelude.{◌⊎◌, IfNone, IfOk, reverse}
use Rattle.std.specs.declared.alloc.AllocError.{AllocError}
use Rattle.update_core.specs.declared.updates.Update.{Update}
use Rattle.update_core.specs.Frontiers.{covers}
use Rattle.update_core.specs.Limits.{most}
use Rattle.update_core.specs.Updates.{sum_of}
use Rattle.store_core.specs.declared.entries.Entry.{Entry}
use Rattle.store_core.specs.declared.shards.ShardId.{ShardId}
use Rattle.store_core.specs.Histories.{History}
use Rattle.store_core.specs.Stores.{Stored}
use Rattle.history_core.specs.Stands.{accepted}
use Rattle.remap_core.specs.declared.source_rows.SourceRow.{SourceRow}
use Rattle.remap_core.specs.Extending.{with_rows}
use Rattle.remap_core.specs.Reclocking.{reclocked}
use Rattle.remap_core.specs.RemapShards.{IsBindingsOf}
use Rattle.reclock_client.specs.declared.errands.Errand.{Errand}
use Rattle.reclock_client.specs.declared.intakes.Intake.{Intake}
use Rattle.reclock_client.specs.declared.intakes.Intake.TheVariants as intakes
use Rattle.reclock_client.specs.declared.operators.Operator.{Operator}
use Rattle.reclock_client.specs.Known.{IsRight, Knowledge, knowledge, known}
use Rattle.reclock_client.specs.Knowing.{AreBindings, IsBlank, IsReclocked, Knows, KnowsOn, KnowsOver, KnowsWhere, Learned, OperatorsAgree}
use Rattle.reclock_client.specs.Reading.{left}
use Rattle.reclock_client.proofs.Growing.{where_entries}
use Rattle.reclock_client.proofs.KnownStays.{collections_agree}
use Rattle.machine_core.proofs.Fronts.{there_too}

pub knows_on : KnowsOn
knows_on h later o k = record {
  bound = k.bound;
  knows = where_entries o.remap (knowledge o.course) o.course.listens h later k.knows;
}

-- where no command is open, what is known is what is bound
pub all_bound : (front : Option History) (o : Operator) → Knows front o → o.course.errand ≡ None → known o.course ≡ o.course.bindings
all_bound front o k idle =
    let none : o.course.intake ≡ intakes.Nothing =
    subst (λ (e : Option Errand). IfNone e (o.course.intake ≡ intakes.Nothing)) idle k.bound in
    ap (λ (i : Intake). with_rows o.course.bindings (left o.course.since i)) none

pub nothing_covered : (k : Knowledge) (t : ℕ) → IsBlank k → covers k.synced t ≡ true → ⊥
nothing_covered k t blank c =
    let at : covers (Some 0) t ≡ true = subst (λ (g : Option ℕ). covers g t ≡ true) blank.1 c in
    grind (arith, nat_tests)

bindings_over : (k : Knowledge) (b : Bool) (shard : ShardId) (start : Stored) (es : List Entry) (list : List Update) →
    (IsBlank k × (b ≡ false)) ⊎ Learned shard start es list k → IsBindingsOf (accepted shard list start es) k.since k.synced k.bindings
bindings_over k b shard start es list (inr l) = l.right.bindings
bindings_over k b shard start es list (inl blank) =
    subst (λ (bs : List (ℕ × List ℕ)). IsBindingsOf (accepted shard list start es) k.since k.synced bs) (sym blank.0.0) (record {
      rising = tt;
      each = tt;
      all = λ t c changed. absurd (nothing_covered k t blank.0 c);
    })

-- the bindings that an operator hands out
pub bindings_are : (front : Option History) (o : Operator) → Knows front o → o.course.errand ≡ None →
    AreBindings front o.remap o.course.since o.course.synced o.course.bindings
bindings_are front o k idle =
    there_too o.remap front (KnowsOver o.remap (knowledge o.course) o.course.listens)
    (λ start es list. o.course.since < most → IsBindingsOf (accepted o.remap list start es) o.course.since o.course.synced o.course.bindings)
    (λ start es list over low.
    subst (λ (bs : List (ℕ × List ℕ)). IsBindingsOf (accepted o.remap list start es) o.course.since o.course.synced bs)
    (all_bound front o k idle)
    (bindings_over (knowledge o.course) o.course.listens o.remap start es list (over low)))
    k.knows

-- the collection that it hands out
pub reclocked_is : (front : Option History) (o : Operator) (rows : List SourceRow) (us : List Update) → us ≡ reclocked rows o.course.bindings 0 →
    Knows front o → o.course.errand ≡ None → IsReclocked front o.remap o.course.since o.course.synced rows us
reclocked_is front o rows us is k idle =
    there_too o.remap front
    (λ start es list. o.course.since < most → IsBindingsOf (accepted o.remap list start es) o.course.since o.course.synced o.course.bindings)
    (λ start es list. o.course.since < most → (bs : List (ℕ × List ℕ)) ×
    IsBindingsOf (accepted o.remap list start es) o.course.since o.course.synced bs × (us ≡ reclocked rows bs 0))
    (λ start es list are low. (o.course.bindings, are low, is))
    (bindings_are front o k idle)

pub all_reclocked : (front : Option History) (o : Operator) (rows : List SourceRow) (r : Result (List Update) AllocError) →
    IfOk r (λ us. us ≡ reclocked rows o.course.bindings 0) → Knows front o → o.course.errand ≡ None →
    IfOk r (IsReclocked front o.remap o.course.since o.course.synced rows)
all_reclocked front o rows (Ok us) is k idle = reclocked_is front o rows us is k idle
all_reclocked front o rows (Err e) is k idle = tt

-- what covers a time is right
right_at : (k : Knowledge) (b : Bool) (shard : ShardId) (start : Stored) (es : List Entry) (list : List Update) (t : ℕ) →
    (IsBlank k × (b ≡ false)) ⊎ Learned shard start es list k → covers k.synced t ≡ true → IsRight (accepted shard list start es) k
right_at k b shard start es list t (inr l) c = l.right
right_at k b shard start es list t (inl blank) c = absurd (nothing_covered k t blank.0 c)

pub operators_agree : OperatorsAgree
operators_agree h a b ka kb same idle_a idle_b list st l rows t from_a from_b low_a low_b to_a to_b =
    subst (λ (bs : List (ℕ × List ℕ)). sum_of (reclocked rows bs 0) t ≡ sum_of (reclocked rows b.course.bindings 0) t)
    (all_bound (Some h) a ka idle_a)
    (subst (λ (bs : List (ℕ × List ℕ)). sum_of (reclocked rows (known a.course) 0) t ≡ sum_of (reclocked rows bs 0) t)
    (all_bound (Some h) b kb idle_b)
    (collections_agree (accepted a.remap list h.start (reverse h.trail)) (knowledge a.course) (knowledge b.course) rows t
    (right_at (knowledge a.course) a.course.listens a.remap h.start (reverse h.trail) list t (ka.knows list st l low_a) to_a)
    (right_at (knowledge b.course) b.course.listens a.remap h.start (reverse h.trail) list t (over_b list st l low_b) to_b)
    from_a from_b to_a to_b))
  where
    over_b : KnowsWhere (Some h) a.remap (knowledge b.course) b.course.listens
    over_b = subst (λ (s : ShardId). KnowsWhere (Some h) s (knowledge b.course) b.course.listens) (sym same) kb.knows
