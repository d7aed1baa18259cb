-- What a crew makes of a store, as what has become of it. Entries go newest first.
use Rattle.std.proofs.Common.{◌≡◌, ℕ, Option, Some, None, List, [], ◌++◌, inl, inr, refl, sym, ap, subst, ◌∙◌, append-nil}
use Rattle.std.specs.Prelude.{reverse}
use Rattle.update_core.specs.declared.updates.Update.{Update}
use Rattle.update_core.specs.Collections.{Collection}
use Rattle.store_core.specs.declared.shards.ShardId.{ShardId}
use Rattle.store_core.specs.declared.entries.Entry.{Entry}
use Rattle.store_core.specs.Stores.{Stored, no_log}
use Rattle.store_core.specs.Histories.{History}
use Rattle.store_core.specs.Newest.{replay_back}
use Rattle.state_core.specs.States.{ShardState}
use Rattle.history_core.specs.Laws.{LastIs}
use Rattle.history_core.specs.Legal.{collection_in}
use Rattle.history_core.specs.Stands.{accepted}
use Rattle.history_core.proofs.StateFacts.{state_none}
use Rattle.crew_core.specs.Competing.{HasCollection, HasReader}
use Rattle.crew.specs.declared.plans.Plan.{Plan}
use Rattle.crew.specs.Crews.{CrewRanOn}
use Rattle.driving.specs.Goings.{Goes}
use Rattle.plain_run.specs.PlainRuns.{View}
use Rattle.plain_run.specs.Sessions.{ViewAt, other_sinces}
use Rattle.plain_run.proofs.Views.{one_last}
use Rattle.ingest_run.specs.Ends.{Crewed}

pub crew_goes : (plan : Plan) (a b : Option History) → CrewRanOn plan a b → Goes plan.shard a b (Crewed plan)
crew_goes plan None b ran = ran
crew_goes plan (Some h) b (k, is, ran) =
    let all : ran.gain ≡ ran.gain ++ [] = sym (append-nil ran.gain) in
    let trail : h.trail ++ ran.gain ≡ k.trail = sym (ap (λ (q : History). q.trail) ran.now_is) in (
      k,
      is,
      record {
        start = ap (λ (q : History). q.start) ran.now_is;
        more = ran.gain;
        trail = ap (λ (q : History). q.trail) ran.now_is;
      },
      λ list st l. (
        ran.lawful list st l,
        record {
          collection = λ c has. let (d, there, appended) = ran.collection list st l c has ran.gain [] all in (
            d,
            subst (λ (es : List Entry). HasCollection list h.start plan.shard (reverse es) d) trail there,
            appended,
          );
          readers = λ member since stands. subst (λ (es : List Entry). HasReader plan.shard member since h.start (reverse es)) trail
              (ran.readers list st l member since stands ran.gain [] all);
        },
      ),
    )

module _ (shard : ShardId) (list : List Update) (start : Stored) where
  -- what a reader sees is a collection
  pub sees_collection : (es : List Entry) (reader : ℕ) (view : View) → ViewAt shard list start es reader view →
      HasCollection list start shard es view.collection
  sees_collection es reader view v = inr (v.number, v.state, v.last, v.collection)

  pub sees_reader : (es : List Entry) (reader : ℕ) (view : View) → ViewAt shard list start es reader view →
      HasReader shard reader view.own start es
  sees_reader es reader view v = (v.number, v.state, v.last, v.own)

  -- where a reader stands the collection is that of its last version
  collection_there : (es : List Entry) (n : ℕ) (s : ShardState) (c : Collection) → LastIs (replay_back start es) shard n s →
      HasCollection list start shard es c → c ≡ collection_in (accepted shard list start es) s
  collection_there es n s c last (inl h) = absurd (never n s last h.0)
    where
      never : (n : ℕ) (s : ShardState) → LastIs (replay_back start es) shard n s → (replay_back start es).logs shard ≡ no_log → ⊥
      never n s last none = state_none shard ((replay_back start es).logs shard) n s none last.1
  collection_there es n s c last (inr (m, t, there, is)) =
      is ∙ ap (collection_in (accepted shard list start es)) (one_last shard (replay_back start es) m n t s there last)

  -- and it is what the reader sees
  pub seen_again : (es : List Entry) (reader since : ℕ) (c : Collection) → HasCollection list start shard es c →
      HasReader shard reader since start es → (view : View) × (view.collection ≡ c) × ViewAt shard list start es reader view
  seen_again es reader since c has (n, s, last, stands) = (
    record { collection = c; own = since; readers = other_sinces reader s.members },
    refl,
    record { number = n; state = s; last = last; collection = collection_there es n s c last has; own = stands; others = refl },
  )
