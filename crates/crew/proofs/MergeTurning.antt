-- What a turn of a worker that merges comes to.
use Rattle.std.proofs.Common.{◌≡◌, ℕ, ◌<◌, true, false, Option, Some, None, List, [], refl, sym, ap, subst}
use Rattle.std.specs.Prelude.{IfSome, IsSome, reverse}
use Rattle.update_core.specs.declared.updates.Update.{Update}
use Rattle.store_core.specs.declared.shards.ShardId.{ShardId}
use Rattle.store_core.specs.declared.calls.Call.{Call}
use Rattle.store_core.specs.declared.replies.Reply.{Reply}
use Rattle.store_core.specs.declared.entries.Entry.{Entry}
use Rattle.store_core.specs.Histories.{History}
use Rattle.store_core.specs.Stores.{Stored}
use Rattle.store_core.specs.Newest.{mine_back}
use Rattle.update_core.specs.Limits.{most}
use Rattle.history_core.specs.declared.asked.Asked.{Asked}
use Rattle.history_core.specs.declared.merge_answers.MergeAnswer.{MergeAnswer}
use Rattle.history_core.specs.declared.merge_answers.MergeAnswer.TheVariants as answers
use Rattle.history_core.specs.Upkeep.{LegalMergeBack}
use Rattle.load_core.specs.declared.polls.Poll.{Poll}
use Rattle.load_core.specs.declared.polls.Poll.TheVariants as polls
use Rattle.load_core.specs.Fronts.{Backwards, WhereLawful}
use Rattle.machine_core.specs.Polling.{FollowsWhere, LegalWhere, Polled, Unpolled}
use Rattle.merge_client.specs.declared.compactors.Compactor.{Compactor}
use Rattle.merge_client.specs.Following.{FollowsAll}
use Rattle.merge_client.specs.Machining.{Kept, Legal, command_in, kept, machine}
use Rattle.merge_client.specs.Merging.{IsOpen, Prepares, call_of, shard_of}
use Rattle.merge_client.proofs.Machining.{keeps}
use Rattle.crew_core.specs.KeepingOn.{KeepsOn}
use Rattle.crew_core.specs.Working.{CarriesWorkers, IsWorkersEntry, as_compactor}
use Rattle.crew.specs.declared.ends.WorkerEnd.TheVariants as ends
use Rattle.crew.specs.declared.ends.WorkerTurn.{WorkerTurn}
use Rattle.crew.specs.declared.ends.WorkerTurn.TheVariants as turns
use Rattle.crew.specs.declared.merging.CompactorWorker.{CompactorWorker}
use Rattle.crew.specs.Ends.{AsksToMerge, CompactorMeans, HasMerged, IsMergeAnswered, NothingWasDue, Once}
use Rattle.crew.specs.Merging.{Comes, DoneMeans, IsClosedAt, IsGoing, IsReady, IsTold}
use Rattle.crew.specs.Turns.{IsFaulted, IsMarked, ReadyAgain, TurnMeans, Turned}
use Rattle.crew.proofs.Endings.{once_here, once_keeps, where_map}
use Rattle.crew.proofs.MergeCarries.{carries_of}
use Rattle.crew.proofs.RoleKeeping as roles

-- ---- what a poll tells

-- the worker with another compactor
abbrev pub with_compactor : CompactorWorker → Compactor → CompactorWorker
with_compactor w new = record w { compactor = new }

module _ (shard : ShardId) (client : ℕ) (now : Option History) (old : Compactor) (of_shard : shard_of old ≡ shard)
    (asked : IfSome old.asked AsksToMerge) (opened : IsOpen old) where
  answered : (answer : MergeAnswer) (calls : ℕ) → calls < most →
      WhereLawful (shard_of old) now (Backwards (λ start es list. calls < most → Legal client (kept old) calls answer start es list)) →
      WhereLawful shard now (Backwards (IsMergeAnswered shard client answer))
  answered answer calls few legal =
      subst (λ (s : ShardId). WhereLawful s now (Backwards (IsMergeAnswered shard client answer))) of_shard
      (where_map (shard_of old) now (Backwards (λ start es list. calls < most → Legal client (kept old) calls answer start es list))
      (Backwards (IsMergeAnswered shard client answer))
      (λ h list st l k. by old.asked refl opened asked h.start (reverse h.trail) list (k few)) legal)
    where
      by : (a : Option Asked) → old.asked ≡ a → IsSome a → IfSome a AsksToMerge → (start : Stored) (es : List Entry)
          (list : List Update) → IfSome old.asked (λ b. LegalMergeBack start es (command_in client (kept old) b calls) answer) →
          IsMergeAnswered shard client answer start es list
      by None e o m start es list k = absurd (let bad : false ≡ true = o in cc)
      by (Some a) e o m start es list k = record {
        command = command_in client (kept old) a calls;
        client_is = refl;
        shard_is = of_shard;
        may = m;
        legal = subst (λ (b : Option Asked). IfSome b (λ b. LegalMergeBack start es (command_in client (kept old) b calls) answer)) e k;
      }

same_asked : (old new : Compactor) → kept new ≡ kept old → new.asked ≡ old.asked
same_asked old new e = ap (λ (k : Kept). k.asked) e

told_of : (w : CompactorWorker) (client : ℕ) (front now : Option History) (new : Compactor) (poll : Poll MergeAnswer) →
    IsReady client front w → new.storing.trying.calls < most →
    Polled machine client front now w.compactor new poll → LegalWhere machine client now w.compactor new poll →
    KeepsOn (IsWorkersEntry as_compactor w.shard) w.shard client front now → IsTold client now (with_compactor w new) poll
told_of w client front now new poll ready few polled legal kept_on = by poll polled legal
  where
    there : w.done ≡ true → DoneMeans w.shard client now
    there is = once_keeps (NothingWasDue w.shard client) (IsWorkersEntry as_compactor w.shard) w.shard w.shard client front now kept_on
        (ready.due is)

    going : new.asked ≡ w.compactor.asked → IsGoing client now (with_compactor w new)
    going same = record {
      opened = subst (λ (o : Option Asked). IsSome o) (sym same) ready.opened;
      asked = subst (λ (o : Option Asked). IfSome o AsksToMerge) (sym same) ready.asked;
      due = there;
    }

    by : (p : Poll MergeAnswer) → Polled machine client front now w.compactor new p → LegalWhere machine client now w.compactor new p →
        IsTold client now (with_compactor w new) p
    by polls.Busy k l = going (same_asked w.compactor new (keeps.prepared_kept w.compactor new k.1))
    by polls.More k l = going (same_asked w.compactor new (k.stays tt).0)
    by polls.Fault k l = tt
    by (polls.Damaged damage) k l = tt
    by polls.Spent k l = tt
    by (polls.Done answer) k l = record {
      legal = answered w.shard client now w.compactor ready.of_shard ready.asked ready.opened answer new.storing.trying.calls few l;
      due = there;
    }

-- ---- a turn

-- what a turn comes to says what its end means
comes_means : (shard : ShardId) (client : ℕ) (front : Option History) (w : CompactorWorker) (turn : WorkerTurn) → w.shard ≡ shard →
    Comes client front w turn → TurnMeans as_compactor shard client front turn
comes_means d client front w turns.Again same k = tt
comes_means d client front w (turns.End end) same k = subst (λ (s : ShardId). CompactorMeans s client front end) same k

pub comes_ready : (client : ℕ) (front : Option History) (w : CompactorWorker) (turn : WorkerTurn) → Comes client front w turn →
    ReadyAgain (IsReady client front w) turn
comes_ready client front w turns.Again k = k
comes_ready client front w (turns.End end) k = tt

module _ (client : ℕ) (front now : Option History) (w : CompactorWorker) (ready : IsReady client front w) where
  carries : (r : Compactor) → Prepares w.compactor r → (call : Call) → call_of r ≡ Some call → (reply : Reply) (poll : Poll MergeAnswer) →
      machine.Effect (kept w.compactor) call reply poll → (start : Stored) (es : List Entry) → FollowsAll client w.compactor start es →
      CarriesWorkers as_compactor w.shard (mine_back start es client) call
  carries r prepares call is reply poll did start es f =
      subst (λ (d : ShardId). CarriesWorkers as_compactor d (mine_back start es client) call) ready.of_shard
      (carries_of client w.compactor r ready.sound ready.opened ready.asked prepares call is start es f)

  keeps_role : (new : Compactor) (poll : Poll MergeAnswer) → Polled machine client front now w.compactor new poll →
      KeepsOn (IsWorkersEntry as_compactor w.shard) w.shard client front now
  keeps_role new poll k =
      roles.polled_keeps machine as_compactor w.shard client front now w.compactor ready.of_shard ready.follows carries new poll k

  -- it ends for want of memory
  pub unpolled_turned : (new : Compactor) (misses misses_now : ℕ) → Unpolled machine client front now w.compactor new →
      Turned as_compactor w.shard client front now misses misses_now (turns.End ends.Memory)
  unpolled_turned new misses misses_now u =
      roles.unpolled_turned machine as_compactor w.shard client front now w.compactor new u misses misses_now tt

  -- or since it has made as many calls as can be counted
  pub counted_turned : (new : Compactor) (poll : Poll MergeAnswer) (misses misses_now : ℕ) →
      Polled machine client front now w.compactor new poll →
      Turned as_compactor w.shard client front now misses misses_now (turns.End ends.Memory)
  counted_turned new poll misses misses_now k = roles.counted_turned machine as_compactor w.shard client front now w.compactor
      ready.of_shard ready.follows carries new poll misses misses_now k tt

  pub polled_turned : (new : Compactor) (poll : Poll MergeAnswer) (v : CompactorWorker) (turn : WorkerTurn) (misses misses_now : ℕ) →
      Polled machine client front now w.compactor new poll → (poll ≡ polls.Busy → misses < misses_now) →
      (IsMarked turn → (poll ≡ polls.Fault) × IsFaulted turn) → v.shard ≡ w.shard → Comes client now v turn →
      Turned as_compactor w.shard client front now misses misses_now turn
  polled_turned new poll v turn misses misses_now k busy fault same comes =
      roles.polled_turned machine as_compactor w.shard client front now w.compactor ready.of_shard ready.follows carries
      new poll turn misses misses_now k busy fault (comes_means w.shard client now v turn same comes)

  -- what it comes to after a poll that could still be counted
  pub went : (new : Compactor) (poll : Poll MergeAnswer) (v : CompactorWorker) (turn : WorkerTurn) (calls : ℕ) →
      calls ≡ new.storing.trying.calls → calls < most → Polled machine client front now w.compactor new poll →
      LegalWhere machine client now w.compactor new poll → FollowsWhere machine client now new →
      ((client2 : ℕ) (front2 : Option History) → FollowsWhere machine client2 front2 new →
      IsTold client2 front2 (with_compactor w new) poll → Comes client2 front2 v turn) → Comes client now v turn
  went new poll v turn calls counted few polled legal follows comes =
      comes client now follows
      (told_of w client front now new poll ready (subst (λ (n : ℕ). n < most) counted few) polled legal (keeps_role new poll polled))

-- ---- what an answer means

pub none_means : (shard : ShardId) (client version : ℕ) (front : Option History) →
    WhereLawful shard front (Backwards (IsMergeAnswered shard client (answers.NothingDue version))) → DoneMeans shard client front
none_means shard client version front legal = once_here (NothingWasDue shard client) shard front
    (where_map shard front (Backwards (IsMergeAnswered shard client (answers.NothingDue version))) (Backwards (NothingWasDue shard client))
    (λ h list st l k. (version, k)) legal)

pub full_means : (shard : ShardId) (client version : ℕ) (front : Option History) →
    WhereLawful shard front (Backwards (IsMergeAnswered shard client (answers.MembersFull version))) →
    CompactorMeans shard client front (ends.MembersFull version)
full_means shard client version front legal = once_here (IsMergeAnswered shard client (answers.MembersFull version)) shard front legal

pub finished_means : (w : CompactorWorker) (client : ℕ) (front : Option History) → w.done ≡ true → IsClosedAt client front w →
    CompactorMeans w.shard client front ends.Finished
finished_means w client front done k = by front k.told.legal (k.told.due done)
  where
    by : (f : Option History) → WhereLawful w.shard f (Backwards (IsMergeAnswered w.shard client (answers.Closed k.version))) →
        DoneMeans w.shard client f → WhereLawful w.shard f (Backwards (Once (HasMerged w.shard client)))
    by None closed none = tt
    by (Some h) closed none = λ list st l. record {
      newer = [];
      older = reverse h.trail;
      split = refl;
      holds = record { version = k.version; closed = closed list st l; none = none list st l };
    }
