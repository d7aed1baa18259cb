-- What a poll of an operator adds to its front is an operator's.
use Rattle.std.proofs.Common.{◌≡◌, ◌≢◌, ◌⊎◌, ℕ, Option, Some, Result, Ok, Err, List, [], ◌∷◌, ◌++◌, inl, inr, refl, sym, ap, subst, ◌∙◌}
use Rattle.std.specs.Prelude.{reverse}
use Rattle.update_core.specs.declared.updates.Update.{Update}
use Rattle.store_core.specs.declared.calls.Call.{Call}
use Rattle.store_core.specs.declared.calls.Call.TheVariants as calls
use Rattle.store_core.specs.declared.entries.Entry.{Entry}
use Rattle.store_core.specs.declared.shards.ShardId.{ShardId}
use Rattle.store_core.specs.Histories.{History}
use Rattle.store_core.specs.Newest.{mine_back}
use Rattle.store_core.specs.Ports.{Answered, GrowsByOthers, OfOthers}
use Rattle.store_core.proofs.NewestLaws.{oldest-last}
use Rattle.state_core.proofs.ListLemmas.{each_append}
use Rattle.history_core.specs.Discipline.{Allows, Lawful}
use Rattle.history_core.specs.Stands.{StandsFor}
use Rattle.history_core.proofs.Gaining.{mine_others}
use Rattle.history_core.proofs.LawfulLaws.{turned}
use Rattle.history_core.proofs.Prefixes.{prefix_lawful}
use Rattle.load_core.specs.declared.begin_faults.BeginFault.{BeginFault}
use Rattle.load_core.specs.declared.polls.Poll.{Poll}
use Rattle.load_core.specs.declared.polls.Poll.TheVariants as polls
use Rattle.load_core.specs.Fronts.{Backwards, WhereLawful}
use Rattle.machine_core.specs.Machines.{IsReading, Words, shard_of}
use Rattle.machine_core.specs.Polling as machines
use Rattle.machine_core.specs.Polling.{Calls, Wanted}
use Rattle.crew_core.specs.KeepingOn.{KeepsOn}
use Rattle.crew_core.proofs.Keeping.{on_both, on_gains, on_others, on_same}
use Rattle.read_client.specs.Machining as reads
use Rattle.write_client.specs.Machining as writes
use Rattle.reclock_client.specs.declared.clock_answers.ClockAnswer.{ClockAnswer}
use Rattle.reclock_client.specs.declared.errands.Errand.{Errand}
use Rattle.reclock_client.specs.declared.operators.Operator.{Operator}
use Rattle.reclock_client.specs.declared.steps.Part.{Part}
use Rattle.reclock_client.specs.declared.steps.Part.TheVariants as parts
use Rattle.reclock_client.specs.declared.steps.Step.{Step}
use Rattle.reclock_client.specs.Beginning.{Begins, begun}
use Rattle.reclock_client.specs.Looking as looks
use Rattle.reclock_client.specs.Operators.{IsSound, part_of}
use Rattle.reclock_client.specs.Polling.{Polled, PolledBy, Unpolled, UnpolledBy, bound}
use Rattle.reclock_client.proofs.Keeping.{Same, starts_same}
use Rattle.reclock_run.specs.Working.{IsOperatorsEntry, Worked}

-- the entries of others are none of the client's own
own_same : (client : ℕ) (h : History) (others : List Entry) → OfOthers client others →
    mine_back h.start (reverse (h.trail ++ others)) client ≡ mine_back h.start (reverse h.trail) client
own_same client h others of =
    ap (λ (es : List Entry). mine_back h.start es client) (turned h others)
    ∙ mine_others h.start client (reverse others) (reverse h.trail) (back others of)
  where
    back : (xs : List Entry) → OfOthers client xs → OfOthers client (reverse xs)
    back [] o = o
    back (x ∷ xs) o = subst (OfOthers client) (sym (oldest-last x xs))
        (each_append (λ (e : Entry). e.client ≢ client) (reverse xs) (x ∷ []) (back xs o.1) (o.0, tt))

-- what reads is allowed
reading_allowed : (own : List Answered) (call : Call) → IsReading call → Allows own call
reading_allowed mine (calls.Head d) r = tt
reading_allowed mine (calls.Scan d from) r = tt
reading_allowed mine (calls.Get key) r = tt
reading_allowed mine (calls.Cas d n bytes) r = absurd r
reading_allowed mine (calls.Truncate d below) r = absurd r
reading_allowed mine (calls.Set key bytes) r = absurd r
reading_allowed mine (calls.Delete key) r = absurd r

-- ---- a poll of a machine of either shard

module _ {M A : Type 0} (W : Words M A) (remap data_shard : ShardId) (client : ℕ) (front now : Option History) (old new : M) where
  by_calls : (shard_of W old ≡ remap) ⊎ (shard_of W old ≡ data_shard) → (poll : Poll A) → Calls W client front now old new poll →
      KeepsOn (IsOperatorsEntry data_shard) remap client front now
  by_calls of poll k =
      on_gains (IsOperatorsEntry data_shard) remap client front now k.call k.reply k.gains (λ h is others o list from st l held stands.
      subst (λ own. Allows own k.call) (sym (own_same client h others from)) (may h is list st (prefix_lawful h others l) held stands of))
    where
      may : (h : History) → front ≡ Some h → (list : List Update) → StandsFor h.start remap list → Lawful h → (held : List Update) →
          StandsFor h.start data_shard held → (shard_of W old ≡ remap) ⊎ (shard_of W old ≡ data_shard) →
          Allows (mine_back h.start (reverse h.trail) client) k.call
      may h is list st l held stands (inl e) =
          subst (λ (d : ShardId). WhereLawful d (Some h) (Backwards (λ start es us. Allows (mine_back start es client) k.call))) e
          (subst (λ (g : Option History). WhereLawful (shard_of W old) g
          (Backwards (λ start es us. Allows (mine_back start es client) k.call))) is k.allowed) list st l
      may h is list st l held stands (inr e) =
          subst (λ (d : ShardId). WhereLawful d (Some h) (Backwards (λ start es us. Allows (mine_back start es client) k.call))) e
          (subst (λ (g : Option History). WhereLawful (shard_of W old) g
          (Backwards (λ start es us. Allows (mine_back start es client) k.call))) is k.allowed) held stands l

  machine_adds : (shard_of W old ≡ remap) ⊎ (shard_of W old ≡ data_shard) → (poll : Poll A) →
      machines.Polled W client front now old new poll → KeepsOn (IsOperatorsEntry data_shard) remap client front now
  machine_adds of polls.Busy k =
      subst (λ (f : Option History). KeepsOn (IsOperatorsEntry data_shard) remap client front f) (sym k.0)
      (on_same (IsOperatorsEntry data_shard) remap client front)
  machine_adds of polls.More k = by_calls of polls.More k
  machine_adds of polls.Fault k = by_calls of polls.Fault k
  machine_adds of (polls.Damaged damage) k = by_calls of (polls.Damaged damage) k
  machine_adds of polls.Spent k = by_calls of polls.Spent k
  machine_adds of (polls.Done answer) k = by_calls of (polls.Done answer) k

  wanting_adds : machines.Unpolled W client front now old new → KeepsOn (IsOperatorsEntry data_shard) remap client front now
  wanting_adds u = by u.how
    where
      by : (GrowsByOthers client front now × ((new ≡ old) ⊎ W.Prepares old new)) ⊎ Wanted W client front now old new →
          KeepsOn (IsOperatorsEntry data_shard) remap client front now
      by (inl k) = on_others (IsOperatorsEntry data_shard) remap client front now k.0
      by (inr k) = on_gains (IsOperatorsEntry data_shard) remap client front now k.call k.reply k.gains
          (λ h at others o list of st l held stands.
          reading_allowed (mine_back h.start (reverse (h.trail ++ others)) client) k.call k.reads)

-- ---- an operator's work

pub worked_none : (client : ℕ) (front : Option History) (o : Operator) → Worked client front front o o
worked_none client front o =
    record { remap = refl; data_shard = refl; adds = on_same (IsOperatorsEntry o.data_shard) o.remap client front }

-- more after what was done
pub worked_on : (client : ℕ) (front mid now : Option History) (old then new : Operator) → Worked client front mid old then →
    Worked client mid now then new → Worked client front now old new
worked_on client front mid now old then new first more = record {
  remap = more.remap ∙ first.remap;
  data_shard = more.data_shard ∙ first.data_shard;
  adds = on_both (IsOperatorsEntry old.data_shard) old.remap client front mid now first.adds
      (subst (λ (d : ShardId). KeepsOn (IsOperatorsEntry d) old.remap client mid now) first.data_shard
      (subst (λ (d : ShardId). KeepsOn (IsOperatorsEntry then.data_shard) d client mid now) first.remap more.adds));
}

-- what is of the same shards has worked so too
worked_as : (client : ℕ) (front now : Option History) (old ready new : Operator) → ready.remap ≡ old.remap →
    ready.data_shard ≡ old.data_shard → Worked client front now ready new → Worked client front now old new
worked_as client front now old ready new remap data_shard k = record {
  remap = k.remap ∙ remap;
  data_shard = k.data_shard ∙ data_shard;
  adds = subst (λ (d : ShardId). KeepsOn (IsOperatorsEntry d) old.remap client front now) data_shard
      (subst (λ (d : ShardId). KeepsOn (IsOperatorsEntry ready.data_shard) d client front now) remap k.adds);
}

module _ (client : ℕ) (front now : Option History) (o new : Operator) where
  by_part : (part : Part) (poll : Poll ClockAnswer) → IsSound o → PolledBy part client front now o new poll →
      Worked client front now o new
  by_part parts.RemapWriter poll s (p, inner, comes) = record {
    remap = ap (λ (x : Operator). x.remap) comes.0;
    data_shard = ap (λ (x : Operator). x.data_shard) comes.0;
    adds = machine_adds writes.machine o.remap o.data_shard client front now o.remap_writer new.remap_writer
        (inl s.machines.writes_remap) p inner.polled;
  }
  by_part parts.Reader poll s (p, inner, comes) = record {
    remap = ap (λ (x : Operator). x.remap) comes.0;
    data_shard = ap (λ (x : Operator). x.data_shard) comes.0;
    adds = machine_adds reads.machine o.remap o.data_shard client front now o.reader new.reader
        (inl s.machines.reads_remap) p inner.polled;
  }
  by_part parts.DataWriter poll s (p, inner, comes) = record {
    remap = ap (λ (x : Operator). x.remap) comes.0;
    data_shard = ap (λ (x : Operator). x.data_shard) comes.0;
    adds = machine_adds writes.machine o.remap o.data_shard client front now o.data_writer new.data_writer
        (inr s.machines.writes_data) p inner.polled;
  }
  by_part parts.Looker poll s (p, inner, comes) = record {
    remap = ap (λ (x : Operator). x.remap) comes.0;
    data_shard = ap (λ (x : Operator). x.data_shard) comes.0;
    adds = machine_adds looks.machine o.remap o.data_shard client front now o.looker new.looker
        (inr s.machines.looks_data) p inner.polled;
  }

  left_by_part : (part : Part) → UnpolledBy part client front now o new → Worked client front now o new
  left_by_part parts.RemapWriter (is, u) = record {
    remap = ap (λ (x : Operator). x.remap) is;
    data_shard = ap (λ (x : Operator). x.data_shard) is;
    adds = wanting_adds writes.machine o.remap o.data_shard client front now o.remap_writer new.remap_writer u;
  }
  left_by_part parts.Reader (is, u) = record {
    remap = ap (λ (x : Operator). x.remap) is;
    data_shard = ap (λ (x : Operator). x.data_shard) is;
    adds = wanting_adds reads.machine o.remap o.data_shard client front now o.reader new.reader u;
  }
  left_by_part parts.DataWriter (is, u) = record {
    remap = ap (λ (x : Operator). x.remap) is;
    data_shard = ap (λ (x : Operator). x.data_shard) is;
    adds = wanting_adds writes.machine o.remap o.data_shard client front now o.data_writer new.data_writer u;
  }
  left_by_part parts.Looker (is, u) = record {
    remap = ap (λ (x : Operator). x.remap) is;
    data_shard = ap (λ (x : Operator). x.data_shard) is;
    adds = wanting_adds looks.machine o.remap o.data_shard client front now o.looker new.looker u;
  }

module _ (client : ℕ) (front now : Option History) (o new : Operator) where
  pub polled_worked : (poll : Poll ClockAnswer) → Polled client front now o new poll → Worked client front now o new
  polled_worked poll k =
      let same : Same (record o { course = bound o.course }) k.ready = starts_same (part_of o.course.step) (record o { course = bound o.course }) k.ready k.readies in
      worked_as client front now o k.ready new same.remap same.data_shard
      (by_part client front now k.ready new (part_of k.ready.course.step) poll k.sound k.polled)

  pub unpolled_worked : Unpolled client front now o new → Worked client front now o new
  unpolled_worked (inl (still, halts, is)) = record {
    remap = ap (λ (x : Operator). x.remap) is;
    data_shard = ap (λ (x : Operator). x.data_shard) is;
    adds = subst (λ (f : Option History). KeepsOn (IsOperatorsEntry o.data_shard) o.remap client front f) (sym still)
        (on_same (IsOperatorsEntry o.data_shard) o.remap client front);
  }
  unpolled_worked (inr (ready, readies, u)) =
      let same : Same (record o { course = bound o.course }) ready = starts_same (part_of o.course.step) (record o { course = bound o.course }) ready readies in
      worked_as client front now o ready new same.remap same.data_shard
      (left_by_part client front now ready new (part_of ready.course.step) u)

-- ---- a command begins

-- begun, or not, the operator is of the same shards, and nothing was called
pub begun_worked : (client : ℕ) (front : Option History) (fault : Option BeginFault) (old new : Operator) (errand : Errand) (step : Step)
    (r : Result Unit BeginFault) → Begins fault old new (begun old errand step) r → Worked client front front old new
begun_worked client front fault old new errand step (Ok done) (none, is) = record {
  remap = ap (λ (x : Operator). x.remap) is;
  data_shard = ap (λ (x : Operator). x.data_shard) is;
  adds = on_same (IsOperatorsEntry old.data_shard) old.remap client front;
}
begun_worked client front fault old new errand step (Err met) (met_is, is) = record {
  remap = ap (λ (x : Operator). x.remap) is;
  data_shard = ap (λ (x : Operator). x.data_shard) is;
  adds = on_same (IsOperatorsEntry old.data_shard) old.remap client front;
}

-- more after what was done, at a port that is still the same client's
pub goes_on : (client client_now : ℕ) (front mid now : Option History) (old then new : Operator) → client_now ≡ client →
    Worked client front mid old then → Worked client_now mid now then new → Worked client front now old new
goes_on client client_now front mid now old then new same first more =
    worked_on client front mid now old then new first (subst (λ (n : ℕ). Worked n mid now then new) same more)
