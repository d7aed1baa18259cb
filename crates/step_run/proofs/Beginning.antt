-- A client that begins a command, or doesn't.
use Rattle.std.proofs.Common.{◌≡◌, ℕ, ◌≤◌, Option, Some, None, Result, Ok, Err, List, refl, sym, ap, subst, ◌∙◌, arith}
use Rattle.std.specs.Prelude.{IfOk, OnOk}
use Rattle.store_core.specs.declared.shards.ShardId.{ShardId}
use Rattle.store_core.specs.Histories.{History}
use Rattle.state_core.specs.declared.transitions.Transition.{Transition}
use Rattle.state_core.specs.declared.transitions.Transition.TheVariants.{Leave, Renew}
use Rattle.history_core.specs.declared.asked.Asked.{Asked}
use Rattle.history_core.specs.declared.asked.Asked.TheVariants as asks
use Rattle.load_core.specs.declared.begin_faults.BeginFault.{BeginFault}
use Rattle.load_core.specs.Fronts.{Backwards, WhereLawful}
use Rattle.machine_core.specs.Machines.{Words, shard_of}
use Rattle.machine_core.specs.Polling.{FollowsWhere}
use Rattle.update_core.specs.declared.updates.Update.{Update}
use Rattle.write_client.specs.declared.writers.Writer.{Writer}
use Rattle.write_client.specs.Beginning as write
use Rattle.write_client.specs.Machining as writes
use Rattle.read_client.specs.declared.readers.Reader.{Reader}
use Rattle.read_client.specs.Beginning as read
use Rattle.read_client.specs.Machining as reads
use Rattle.merge_client.specs.declared.compactors.Compactor.{Compactor}
use Rattle.merge_client.specs.Beginning as merge
use Rattle.merge_client.specs.Machining as merges
use Rattle.merge_client.specs.Merging as mergers
use Rattle.merge_client.specs.Polling as merging
use Rattle.merge_client.proofs.Begun.{closing_where, merging_where, renewing_where}
use Rattle.maint_client.specs.declared.collectors.Collector.{Collector}
use Rattle.maint_client.specs.Collecting as collect
use Rattle.maint_client.specs.declared.expiries.Expiry.{Expiry}
use Rattle.maint_client.specs.Expiring as expire
use Rattle.try_machine.specs.declared.tryers.Tryer.{Tryer}
use Rattle.step_run.specs.declared.sayings.Saying.{Saying}
use Rattle.step_run.specs.declared.step_faults.StepFault.{StepFault}
use Rattle.step_run.proofs.Costs.{changing_cost, merging_cost}
use Rattle.step_run.specs.Begins.{Said, says_begun}
use Rattle.step_run.specs.Clients.{Fits}
use Rattle.step_run.specs.Stepping.{WithinWhere}

-- ---- what is said

pub said_so : (how : Result Unit BeginFault → Type 0) (begun : Result Unit BeginFault) → how begun → (r : Result (Option Saying) StepFault) →
    r ≡ says_begun begun → IfOk r (Said how)
said_so how begun h (Ok said) is = (begun, h, sym is)
said_so how begun h (Err fault) is = tt

pub on_ok : {A P : Type 0} → (r : Result A StepFault) → P → OnOk r P
on_ok (Ok a) p = p
on_ok (Err fault) p = tt

-- ---- what has become of the machine

-- no call was made yet of what has begun, and the shard is the same; or nothing has begun
abbrev pub Starts : {M A : Type 0} → Words M A → M → M → Result Unit BeginFault → Type 0
Starts W old new (Ok done) = (shard_of W new ≡ shard_of W old) × (W.calls_of new ≡ 0)
Starts W old new (Err fault) = new ≡ old

-- what has begun is within its bound
abbrev pub Costs : {M A : Type 0} → Words M A → M → Type 0
Costs W m = (client : ℕ) (front : Option History) → WithinWhere W client front m

pub least_cost : {M A : Type 0} → (W : Words M A) → (new : M) (r : Result Unit BeginFault) →
    OnOk r ((base client : ℕ) (front : Option History) → W.least ≤ base → WhereLawful (shard_of W new) front (Backwards (W.CostAt base client new))) →
    OnOk r (Costs W new)
least_cost W new (Ok done) cost = λ client front. cost W.least client front (omega arith)
least_cost W new (Err fault) cost = tt

pub starts_fit : {M A : Type 0} → (W : Words M A) → (old new : M) (r : Result Unit BeginFault) → Starts W old new r → W.IsSound new →
    ((client : ℕ) (front : Option History) → FollowsWhere W client front old → FollowsWhere W client front new) → OnOk r (Costs W new) →
    (shard : ShardId) (client polls : ℕ) (front : Option History) → Fits W shard client polls front old → Fits W shard client polls front new
starts_fit W old new (Err fault) same sound follows cost shard client polls front f = subst (Fits W shard client polls front) (sym same) f
starts_fit W old new (Ok done) h sound follows cost shard client polls front f = record {
  shard_is = h.0 ∙ f.shard_is;
  sound = sound;
  follows = follows client front f.follows;
  few = λ is. let none = h.1 in omega (arith, none);
  cost = λ is. cost client front;
}

-- the same of a machine under another name
pub joined_fits : {M A : Type 0} → (W : Words M A) → (old new last : M) (begun : Result Unit BeginFault) (q : Result (Option Saying) StepFault) →
    last ≡ new → Starts W old new begun → W.IsSound new →
    ((client : ℕ) (front : Option History) → FollowsWhere W client front old → FollowsWhere W client front new) → OnOk begun (Costs W new) →
    OnOk q ((shard : ShardId) (client polls : ℕ) (front : Option History) → Fits W shard client polls front old → Fits W shard client polls front last)
joined_fits W old new last begun q is starts sound follows cost = on_ok q (λ shard client polls front f.
    subst (Fits W shard client polls front) (sym is) (starts_fit W old new begun starts sound follows cost shard client polls front f))

pub passed_fits : {M A : Type 0} → (W : Words M A) → (old last : M) (q : Result (Option Saying) StepFault) → last ≡ old →
    OnOk q ((shard : ShardId) (client polls : ℕ) (front : Option History) → Fits W shard client polls front old → Fits W shard client polls front last)
passed_fits W old last q is = on_ok q (λ shard client polls front f. subst (Fits W shard client polls front) (sym is) f)

-- ---- each client's

pub appends_start : (old new : Writer) (rows : List Update) (lower : ℕ) (upper : Option ℕ) (r : Result Unit BeginFault) →
    write.Begins (write.append_fault old rows lower upper) old new (write.Appending old rows lower upper) r → Starts writes.machine old new r
appends_start old new rows lower upper (Ok done) b =
    (ap (λ (w : Writer). shard_of writes.machine w) b.1.after, ap (λ (w : Writer). writes.machine.calls_of w) b.1.after)
appends_start old new rows lower upper (Err met) b = b.1

pub leaves_start : (old new : Writer) (r : Result Unit BeginFault) → write.Begins (write.close_fault old) old new (write.Closing old) r →
    Starts writes.machine old new r
leaves_start old new (Ok done) b =
    (ap (λ (w : Writer). shard_of writes.machine w) b.1.2, ap (λ (w : Writer). writes.machine.calls_of w) b.1.2)
leaves_start old new (Err met) b = b.1

pub reads_start : (old new : Reader) (fault : Option BeginFault) (asked : Asked) (listen : Option (Option ℕ)) (r : Result Unit BeginFault) →
    read.Begins fault old new (read.BeginsRead old asked listen) r → Starts reads.machine old new r
reads_start old new fault asked listen (Ok done) b =
    (ap (λ (w : Reader). shard_of reads.machine w) b.1, ap (λ (w : Reader). reads.machine.calls_of w) b.1)
reads_start old new fault asked listen (Err met) b = b.1

pub changes_start : (old new : Reader) (fault : Option BeginFault) (asked : Asked) (step : ℕ → Transition) (r : Result Unit BeginFault) →
    read.Begins fault old new (read.Changing old asked step) r → Starts reads.machine old new r
changes_start old new fault asked step (Ok done) b =
    (ap (λ (w : Reader). shard_of reads.machine w) b.1.2, ap (λ (w : Reader). reads.machine.calls_of w) b.1.2)
changes_start old new fault asked step (Err met) b = b.1

pub merges_start : (old new : Compactor) (fault : Option BeginFault) (r : Result Unit BeginFault) →
    merge.Begins fault old new (merge.Merging old) r → Starts merges.machine old new r
merges_start old new fault (Ok done) b =
    (ap (λ (w : Compactor). shard_of merges.machine w) b.1.2, ap (λ (w : Compactor). merges.machine.calls_of w) b.1.2)
merges_start old new fault (Err met) b = b.1

pub compactor_starts : (old new : Compactor) (fault : Option BeginFault) (asked : Asked) (step : ℕ → Transition) (r : Result Unit BeginFault) →
    merge.Begins fault old new (merge.Changing old asked step) r → Starts merges.machine old new r
compactor_starts old new fault asked step (Ok done) b =
    (ap (λ (w : Compactor). shard_of merges.machine w) b.1.2, ap (λ (w : Compactor). merges.machine.calls_of w) b.1.2)
compactor_starts old new fault asked step (Err met) b = b.1

pub collects_start : (old new : Collector) (r : Result Unit BeginFault) → collect.Begins old new r → Starts collect.collecting old new r
collects_start old new (Ok done) b =
    (ap (λ (w : Collector). shard_of collect.collecting w) b.1, ap (λ (w : Collector). collect.collecting.calls_of w) b.1)
collects_start old new (Err met) b = b.2

pub expires_start : (old new : Tryer Expiry) (now : ℕ) (r : Result Unit BeginFault) → expire.Begins old now new r → Starts expire.machine old new r
expires_start old new now (Ok done) b =
    (ap (λ (w : Tryer Expiry). shard_of expire.machine w) b.1, ap (λ (w : Tryer Expiry). expire.machine.calls_of w) b.1)
expires_start old new now (Err met) b = b.2

-- ---- a compactor follows

-- where nothing stands against it, no command is open
idle_if : (asked : Option Asked) (member : Option ℕ) → merge.member_fault asked member ≡ None → asked ≡ None
idle_if None member free = refl
idle_if (Some asked) member free = absurd cc

stays : (old new : Compactor) → new ≡ old → (client : ℕ) (front : Option History) → FollowsWhere merges.machine client front old →
    FollowsWhere merges.machine client front new
stays old new same client front f = subst (FollowsWhere merges.machine client front) (sym same) f

pub merge_follows : (old new : Compactor) (fault : Option BeginFault) (r : Result Unit BeginFault) →
    merge.Begins fault old new (merge.Merging old) r → (client : ℕ) (front : Option History) → FollowsWhere merges.machine client front old →
    FollowsWhere merges.machine client front new
merge_follows old new fault (Ok done) b client front f = merging_where client front old new b.1 f
merge_follows old new fault (Err met) b client front f = stays old new b.1 client front f

pub renew_follows : (old new : Compactor) (now : ℕ) (r : Result Unit BeginFault) →
    merge.Begins (merge.member_fault old.asked old.member) old new (merge.Changing old (asks.RenewCompactor now) (λ member. Renew member now)) r →
    (client : ℕ) (front : Option History) → FollowsWhere merges.machine client front old → FollowsWhere merges.machine client front new
renew_follows old new now (Ok done) b client front f = renewing_where client now front old new (idle_if old.asked old.member b.0) b.1 f
renew_follows old new now (Err met) b client front f = stays old new b.1 client front f

pub close_follows : (old new : Compactor) (r : Result Unit BeginFault) →
    merge.Begins (merge.member_fault old.asked old.member) old new (merge.Changing old asks.CloseCompactor (λ member. Leave member)) r →
    (client : ℕ) (front : Option History) → FollowsWhere merges.machine client front old → FollowsWhere merges.machine client front new
close_follows old new (Ok done) b client front f = closing_where client front old new (idle_if old.asked old.member b.0) b.1 f
close_follows old new (Err met) b client front f = stays old new b.1 client front f

-- ---- a compactor is within its bound

pub merge_costs : (old new : Compactor) (fault : Option BeginFault) (r : Result Unit BeginFault) →
    merge.Begins fault old new (merge.Merging old) r → OnOk r (Costs merges.machine new)
merge_costs old new fault (Ok done) b = λ client front. merging_cost client front old new b.1
merge_costs old new fault (Err met) b = tt

pub change_costs : (old new : Compactor) (asked : Asked) (step : ℕ → Transition) → ((n : ℕ) → merging.base_of 3 (step n) ≡ 3) →
    mergers.IsSound old → (r : Result Unit BeginFault) →
    merge.Begins (merge.member_fault old.asked old.member) old new (merge.Changing old asked step) r → OnOk r (Costs merges.machine new)
change_costs old new asked step base sound (Ok done) b = λ client front.
    changing_cost client front old new asked step base (idle_if old.asked old.member b.0) sound b.1
change_costs old new asked step base sound (Err met) b = tt
