-- What a turn of a worker that collects comes to.
use Rattle.std.proofs.Common.{◌≡◌, ℕ, ◌<◌, true, false, Option, Some, None, List, refl, subst}
use Rattle.std.specs.Prelude.{IfSome, IsSome, reverse}
use Rattle.update_core.specs.declared.updates.Update.{Update}
use Rattle.store_core.specs.declared.shards.ShardId.{ShardId}
use Rattle.store_core.specs.declared.calls.Call.{Call}
use Rattle.store_core.specs.declared.calls.Call.TheVariants as calls
use Rattle.store_core.specs.declared.replies.Reply.{Reply}
use Rattle.store_core.specs.declared.entries.Entry.{Entry}
use Rattle.store_core.specs.Histories.{History}
use Rattle.store_core.specs.Stores.{Stored}
use Rattle.store_core.specs.Ports.{Answered}
use Rattle.store_core.specs.Newest.{mine_back}
use Rattle.update_core.specs.Limits.{most}
use Rattle.history_core.specs.declared.asked.Asked.{Asked}
use Rattle.history_core.specs.declared.collect_answers.CollectAnswer.{CollectAnswer}
use Rattle.history_core.specs.Upkeep.{LegalCollectBack}
use Rattle.load_core.specs.declared.polls.Poll.{Poll}
use Rattle.load_core.specs.declared.polls.Poll.TheVariants as polls
use Rattle.load_core.specs.Fronts.{Backwards, WhereLawful}
use Rattle.machine_core.specs.Polling.{FollowsWhere, LegalWhere, Polled, Unpolled}
use Rattle.maint_client.specs.declared.collectors.Collector.{Collector}
use Rattle.maint_client.specs.Collecting.{Follows, IsCollecting, IsOpen, collecting, command, kept}
use Rattle.crew_core.specs.Working.{CarriesWorkers, as_collector}
use Rattle.crew.specs.declared.collecting.CollectorWorker.{CollectorWorker}
use Rattle.crew.specs.declared.ends.WorkerEnd.TheVariants as ends
use Rattle.crew.specs.declared.ends.WorkerTurn.{WorkerTurn}
use Rattle.crew.specs.declared.ends.WorkerTurn.TheVariants as turns
use Rattle.crew.specs.Collecting.{Comes, IsReady, IsTold}
use Rattle.crew.specs.Ends.{CollectorMeans, IsCollectAnswered, WasCollected}
use Rattle.crew.specs.Turns.{IsFaulted, IsMarked, ReadyAgain, TurnMeans, Turned}
use Rattle.crew.proofs.Endings.{once_here, where_map}
use Rattle.crew.proofs.RoleKeeping as roles

-- what a collection calls
carried : (shard d : ShardId) (own : List Answered) (call : Call) → IsCollecting d call → CarriesWorkers as_collector shard own call
carried shard d own (calls.Scan at_shard from) k = tt
carried shard d own (calls.Delete key) k = tt
carried shard d own (calls.Truncate at_shard below) k = tt
carried shard d own (calls.Head at_shard) k = absurd k
carried shard d own (calls.Get key) k = absurd k
carried shard d own (calls.Set key bytes) k = absurd k
carried shard d own (calls.Cas at_shard expected bytes) k = absurd k

-- the worker with another collector
abbrev pub with_collector : CollectorWorker → Collector → CollectorWorker
with_collector w new = record w { collector = new }

answered : (shard : ShardId) (client : ℕ) (now : Option History) (old : Collector) (answer : CollectAnswer) (calls : ℕ) →
    old.shard ≡ shard → IsOpen old → calls < most →
    WhereLawful old.shard now (Backwards (λ start es list. calls < most → collecting.Legal client (kept old) calls answer start es list)) →
    WhereLawful shard now (Backwards (IsCollectAnswered shard client answer))
answered shard client now old answer calls of_shard opened few legal =
    subst (λ (s : ShardId). WhereLawful s now (Backwards (IsCollectAnswered shard client answer))) of_shard
    (where_map old.shard now (Backwards (λ start es list. calls < most → collecting.Legal client (kept old) calls answer start es list))
    (Backwards (IsCollectAnswered shard client answer))
    (λ h list st l k. by old.asked refl opened h.start (reverse h.trail) list (k few)) legal)
  where
    by : (a : Option Asked) → old.asked ≡ a → IsSome a → (start : Stored) (es : List Entry) (list : List Update) →
        IfSome old.asked (λ b. LegalCollectBack start es (command client (kept old) calls b) answer) →
        IsCollectAnswered shard client answer start es list
    by None e o start es list k = absurd (let bad : false ≡ true = o in cc)
    by (Some a) e o start es list k = record {
      command = command client (kept old) calls a;
      client_is = refl;
      shard_is = of_shard;
      legal = subst (λ (b : Option Asked). IfSome b (λ b. LegalCollectBack start es (command client (kept old) calls b) answer)) e k;
    }

told_of : (w : CollectorWorker) (client : ℕ) (front now : Option History) (new : Collector) (poll : Poll CollectAnswer) →
    IsReady client front w → IsOpen w.collector → new.calls < most →
    Polled collecting client front now w.collector new poll → LegalWhere collecting client now w.collector new poll →
    IsTold client now (with_collector w new) poll
told_of w client front now new poll ready opened few polled legal = by poll polled legal
  where
    by : (p : Poll CollectAnswer) → Polled collecting client front now w.collector new p →
        LegalWhere collecting client now w.collector new p → IsTold client now (with_collector w new) p
    by polls.Busy k l = tt
    by polls.More k l = tt
    by polls.Fault k l = tt
    by (polls.Damaged damage) k l = tt
    by polls.Spent k l = k.effect.none
    by (polls.Done answer) k l = once_here (WasCollected w.shard client) w.shard now
        (where_map w.shard now (Backwards (IsCollectAnswered w.shard client answer)) (Backwards (WasCollected w.shard client))
        (λ h list st l k. (answer, k)) (answered w.shard client now w.collector answer new.calls ready.of_shard opened few l))

-- what a turn comes to says what its end means
comes_means : (shard : ShardId) (client : ℕ) (front : Option History) (w : CollectorWorker) (turn : WorkerTurn) → w.shard ≡ shard →
    Comes client front w turn → TurnMeans as_collector shard client front turn
comes_means d client front w turns.Again same k = tt
comes_means d client front w (turns.End end) same k = subst (λ (s : ShardId). CollectorMeans s client front end) same k

pub comes_ready : (client : ℕ) (front : Option History) (w : CollectorWorker) (turn : WorkerTurn) → Comes client front w turn →
    ReadyAgain (IsReady client front w) turn
comes_ready client front w turns.Again k = k
comes_ready client front w (turns.End end) k = tt

module _ (client : ℕ) (front now : Option History) (w : CollectorWorker) (ready : IsReady client front w) where
  carries : (r : Collector) → r ≡ w.collector → (call : Call) → collecting.call_of r ≡ Some call → (reply : Reply)
      (poll : Poll CollectAnswer) → collecting.Effect (kept w.collector) call reply poll → (start : Stored) (es : List Entry) →
      Follows client w.collector start es → CarriesWorkers as_collector w.shard (mine_back start es client) call
  carries r prepares call is reply poll did start es f = carried w.shard w.collector.shard (mine_back start es client) call did.collects

  -- it ends for want of memory
  pub unpolled_turned : (new : Collector) (misses misses_now : ℕ) → Unpolled collecting client front now w.collector new →
      Turned as_collector w.shard client front now misses misses_now (turns.End ends.Memory)
  unpolled_turned new misses misses_now u =
      roles.unpolled_turned collecting as_collector w.shard client front now w.collector new u misses misses_now tt

  -- or since it has made as many calls as can be counted
  pub counted_turned : (new : Collector) (poll : Poll CollectAnswer) (misses misses_now : ℕ) →
      Polled collecting client front now w.collector new poll →
      Turned as_collector w.shard client front now misses misses_now (turns.End ends.Memory)
  counted_turned new poll misses misses_now k = roles.counted_turned collecting as_collector w.shard client front now w.collector
      ready.of_shard ready.follows carries new poll misses misses_now k tt

  pub polled_turned : (new : Collector) (poll : Poll CollectAnswer) (v : CollectorWorker) (turn : WorkerTurn) (misses misses_now : ℕ) →
      Polled collecting client front now w.collector new poll → (poll ≡ polls.Busy → misses < misses_now) →
      (IsMarked turn → (poll ≡ polls.Fault) × IsFaulted turn) → v.shard ≡ w.shard → Comes client now v turn →
      Turned as_collector w.shard client front now misses misses_now turn
  polled_turned new poll v turn misses misses_now k busy fault same comes =
      roles.polled_turned collecting as_collector w.shard client front now w.collector ready.of_shard ready.follows carries
      new poll turn misses misses_now k busy fault (comes_means w.shard client now v turn same comes)

  -- what it comes to after a poll that could still be counted
  pub went : IsOpen w.collector → (new : Collector) (poll : Poll CollectAnswer) (v : CollectorWorker) (turn : WorkerTurn) (calls : ℕ) →
      calls ≡ new.calls → calls < most → Polled collecting client front now w.collector new poll →
      LegalWhere collecting client now w.collector new poll → FollowsWhere collecting client now new →
      ((client2 : ℕ) (front2 : Option History) → FollowsWhere collecting client2 front2 new →
      IsTold client2 front2 (with_collector w new) poll → Comes client2 front2 v turn) → Comes client now v turn
  went opened new poll v turn calls counted few polled legal follows comes =
      comes client now follows
      (told_of w client front now new poll ready opened (subst (λ (n : ℕ). n < most) counted few) polled legal)
