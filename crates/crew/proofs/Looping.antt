-- A worker goes on in its loop.
use Rattle.std.proofs.Common.{◌≡◌, ◌≢◌, ℕ, ◌+◌, ◌-◌, ◌^◌, ◌<◌, ◌≤◌, min, true, false, Option, Some, None, List, [], ◌∷◌, ◌++◌}
use Rattle.std.proofs.Common.{length, refl, sym, ap, subst, ◌∙◌, arith, append_assoc}
use Rattle.std.specs.Prelude.{◌==◌}
use Rattle.std.proofs.lemmas.List.{length-append}
use Rattle.std.proofs.lemmas.Bool.Decides.{nat_tests}
use Rattle.turnstile.specs.declared.views.View.{View}
use Rattle.turnstile.specs.Rule.{entries_by}
use Rattle.turnstile.proofs.Kins.{entries_append}
use Rattle.shared_store.specs.Fronts.{front_of, told_history}
use Rattle.shared_store.specs.Passes.{PortValue, kept_of}
use Rattle.shared_store.specs.Trails.{entry_client}
use Rattle.store_core.specs.declared.entries.Entry.{Entry}
use Rattle.store_core.specs.Ports.{with_entries}
use Rattle.store_core.specs.declared.shards.ShardId.{ShardId}
use Rattle.store_core.specs.Histories.{History}
use Rattle.crew_core.specs.KeepingOn.{KeepsOn}
use Rattle.crew_core.specs.Working.{IsWorkersEntry, Role, as_collector, as_compactor, as_follower, as_pin, as_writer}
use Rattle.crew_core.proofs.Keeping.{on_both, on_same}
use Rattle.crew.specs.declared.ends.WorkerEnd.{WorkerEnd}
use Rattle.crew.specs.declared.ends.WorkerEnd.TheVariants as ends
use Rattle.crew.specs.declared.ends.WorkerTurn.TheVariants as turns
use Rattle.crew.specs.Ends.{EndMeans}
use Rattle.crew.specs.Looping.{EndCounts, StaysBelow}
use Rattle.crew.specs.Posts.{IsCounted, opened, own_calls}
use Rattle.stops_core.specs.Stops.{is_stop}
use Rattle.crew.specs.Turns.{HasFailed, IsFaulted, IsMarked, MakesFew}
use Rattle.crew.proofs.PortKeeping.{front_is, kept_pass, one_of, rest_is, some_is}

-- The worker has the role and the shard that it had, is ready for its next turn, and each entry since then of its client is a
-- worker's.
pub record WorksSoFar (role role_now : Role) (shard shard_now : ShardId) (ready_now : ℕ → Option History → Type 0)
    (client client_now : ℕ) (front now : Option History) : Type 0 where
  pub same_role : role_now ≡ role
  pub same_shard : shard_now ≡ shard
  pub same_client : client_now ≡ client
  pub ready : ready_now client now
  pub keeps : KeepsOn (IsWorkersEntry role shard) shard client front now

pub works_start : (role : Role) (shard : ShardId) (ready : ℕ → Option History → Type 0) (client : ℕ)
    (front : Option History) → ready client front → WorksSoFar role role shard shard ready client client front front
works_start role shard ready client front is = record {
  same_role = refl;
  same_shard = refl;
  same_client = refl;
  ready = is;
  keeps = on_same (IsWorkersEntry role shard) shard client front;
}

-- what a turn adds
pub works_end : (role role_now : Role) (shard shard_now : ShardId) (ready : ℕ → Option History → Type 0)
    (client client_now : ℕ) (front mid now : Option History) →
    WorksSoFar role role_now shard shard_now ready client client_now front mid →
    KeepsOn (IsWorkersEntry role_now shard_now) shard_now client_now mid now →
    KeepsOn (IsWorkersEntry role shard) shard client front now
works_end role role_now shard shard_now ready client client_now front mid now k more =
    on_both (IsWorkersEntry role shard) shard client front mid now k.keeps
    (subst (λ (n : ℕ). KeepsOn (IsWorkersEntry role shard) shard n mid now) k.same_client
    (subst (λ (s : ShardId). KeepsOn (IsWorkersEntry role s) s client_now mid now) k.same_shard
    (subst (λ (r : Role). KeepsOn (IsWorkersEntry r shard_now) shard_now client_now mid now) k.same_role more)))

pub works_on : (role role_now role_next : Role) (shard shard_now shard_next : ShardId)
    (ready ready_next : ℕ → Option History → Type 0) (client client_now client_next : ℕ) (front mid now : Option History) →
    WorksSoFar role role_now shard shard_now ready client client_now front mid →
    KeepsOn (IsWorkersEntry role_now shard_now) shard_now client_now mid now →
    role_next ≡ role_now → shard_next ≡ shard_now → client_next ≡ client_now → ready_next client_now now →
    WorksSoFar role role_next shard shard_next ready_next client client_next front now
works_on role role_now role_next shard shard_now shard_next ready ready_next client client_now client_next front mid now k more
    same_role same_shard same_client is = record {
      same_role = same_role ∙ k.same_role;
      same_shard = same_shard ∙ k.same_shard;
      same_client = same_client ∙ k.same_client;
      ready = subst (λ (n : ℕ). ready_next n now) k.same_client is;
      keeps = works_end role role_now shard shard_now ready client client_now front mid now k more;
    }

-- what the last turn's end means, of what the worker was to do at first
pub means_first : (role role_now : Role) (shard shard_now : ShardId) (ready : ℕ → Option History → Type 0)
    (client client_now last : ℕ) (front mid now : Option History) (end : WorkerEnd) →
    WorksSoFar role role_now shard shard_now ready client client_now front mid → last ≡ client_now →
    EndMeans role_now shard_now client_now now end → EndMeans role shard last now end
means_first role role_now shard shard_now ready client client_now last front mid now end k is m =
    subst (λ (n : ℕ). EndMeans role shard n now end) (sym is)
    (subst (λ (s : ShardId). EndMeans role s client_now now end) k.same_shard
    (subst (λ (r : Role). EndMeans r shard_now client_now now end) k.same_role m))

module _ {S : Type 0} (history : S → Option History) where
  pub below_start : (stop : Option ℕ) (v : View S Entry) → own_calls v ≡ 0 → StaysBelow history stop v
  below_start stop v none k is fits h told = let e : own_calls v ≡ 0 = none in omega arith

  -- what has come to a port's front, where it is told
  gain_is : (v w : View S Entry) (h : History) (more : List Entry) → opened history v ≡ Some h → opened history w ≡ Some h →
      front_of history w ≡ Some (with_entries (with_entries h v.gain) more) → w.gain ≡ v.gain ++ more
  gain_is v w h more told told2 is = rest_is h w.gain v.gain more
      (some_is (with_entries h w.gain) (with_entries (with_entries h v.gain) more) (sym (front_is history w h told2) ∙ is))

  few_more : (client : ℕ) (v w : View S Entry) (h : History) → opened history v ≡ Some h → opened history w ≡ Some h →
      v.number ≡ client → w.number ≡ client →
      MakesFew client (front_of history v) (front_of history w) → own_calls w ≤ own_calls v + 1
  few_more client v w h told told2 number number2 few =
      let (more, is, one) = subst (λ (f : Option History). MakesFew client f (front_of history w)) (front_is history v h told) few in
      let all : entries_by entry_client client w.gain ≡ entries_by entry_client client v.gain ++ entries_by entry_client client more =
      ap (entries_by entry_client client) (gain_is v w h more told told2 is) ∙ entries_append entry_client client v.gain more in
      let sum = ap length all ∙ length-append (entries_by entry_client client v.gain) (entries_by entry_client client more) in
      let a : own_calls w ≡ length (entries_by entry_client client w.gain) = ap (λ (n : ℕ). length (entries_by entry_client n w.gain))
      number2 in
      let b : own_calls v ≡ length (entries_by entry_client client v.gain) = ap (λ (n : ℕ). length (entries_by entry_client n v.gain))
      number in
      let o : length (entries_by entry_client client more) ≤ 1 = one in
      omega arith

  not_there : (k calls : ℕ) → is_stop (Some k) calls ≡ false → calls ≢ k
  not_there k calls e h = differs calls k e h
    where
      itself : (a b : ℕ) → a ≡ b → (a == b) ≡ true
      itself a b h = grind (arith, nat_tests)

      differs : (a b : ℕ) → (a == b) ≡ false → a ≢ b
      differs a b e h = let t : (a == b) ≡ true = itself a b h in cc

  bounded : (own calls k now : ℕ) → calls ≡ min own (2 ^ 64 - 1) → own ≤ k → calls ≢ k → k ≤ 2 ^ 64 - 1 → now ≤ own + 1 → now ≤ k
  bounded own calls k now a b c d e = grind arith

  pub below_on : (stop : Option ℕ) (p q : PortValue S) (calls : ℕ) → IsCounted history p calls → StaysBelow history stop p.known →
      is_stop stop calls ≡ false → kept_of q ≡ kept_of p →
      MakesFew p.known.number (front_of history p.known) (front_of history q.known) → StaysBelow history stop q.known
  below_on stop p q calls count below test kept few k is fits h told =
      let same = kept_pass p q kept in
      let told1 : opened history p.known ≡ Some h = sym (ap (told_history history) same.start) ∙ told in
      let more = few_more p.known.number p.known q.known h told1 told refl same.number few in
      let apart = not_there k calls (subst (λ (o : Option ℕ). is_stop o calls ≡ false) is test) in
      bounded (own_calls p.known) calls k (own_calls q.known) (count.counted h told1) (below k is fits h told1) apart (omega arith) more

  at_stop : (stop : Option ℕ) (calls : ℕ) → is_stop stop calls ≡ true → stop ≡ Some calls
  at_stop None calls e = absurd (let bad : false ≡ true = e in cc)
  at_stop (Some k) calls e = ap Some (sym (same calls k e))
    where
      same : (a b : ℕ) → (a == b) ≡ true → a ≡ b
      same a b h = grind (arith, nat_tests)

  exact : (own calls : ℕ) → calls ≡ min own (2 ^ 64 - 1) → own ≤ calls → own ≡ calls
  exact own calls a b = omega arith

  small : (own calls : ℕ) → calls ≡ min own (2 ^ 64 - 1) → calls < 2 ^ 64
  small own calls a = omega arith

  -- it is stopped
  pub stopped : (stop : Option ℕ) (p : PortValue S) (calls : ℕ) → IsCounted history p calls → StaysBelow history stop p.known →
      is_stop stop calls ≡ true → EndCounts history stop p.known ends.Stopped
  stopped stop p calls count below test =
      let is : stop ≡ Some calls = at_stop stop calls test in (
        calls,
        is,
        λ h told. exact (own_calls p.known) calls (count.counted h told)
            (below calls is (small (own_calls p.known) calls (count.counted h told)) h told),
      )

  ended_by : (stop : Option ℕ) (v w : View S Entry) (end : WorkerEnd) → w.start ≡ v.start → w.number ≡ v.number →
      (IsMarked (turns.End end) → HasFailed v.number (front_of history v) (front_of history w) × IsFaulted (turns.End end)) →
      EndCounts history stop w end
  ended_by stop v w ends.Stopped start number marked = absurd ((marked tt).1)
  ended_by stop v w ends.Faulted start number marked = λ h told.
      let told1 : opened history v ≡ Some h = sym (ap (told_history history) start) ∙ told in
      let (more, e, is, own, failed) = subst (λ (f : Option History). HasFailed v.number f (front_of history w))
      (front_is history v h told1) ((marked tt).0) in
      let gain : w.gain ≡ v.gain ++ (more ++ e ∷ []) = gain_is v w h (more ++ e ∷ []) told1 told is in
      let n : ℕ = v.number in
      let all : entries_by entry_client n w.gain ≡ entries_by entry_client n v.gain ++ (entries_by entry_client n more ++ e ∷ []) =
      ap (entries_by entry_client n) gain ∙ entries_append entry_client n v.gain (more ++ e ∷ [])
      ∙ ap (λ (es : List Entry). entries_by entry_client n v.gain ++ es)
      (entries_append entry_client n more (e ∷ [])
      ∙ ap (λ (es : List Entry). entries_by entry_client n more ++ es) (one_of n e own)) in (
        entries_by entry_client n v.gain ++ entries_by entry_client n more,
        e,
        ap (λ (m : ℕ). entries_by entry_client m w.gain) number ∙ all
            ∙ sym (append_assoc (entries_by entry_client n v.gain) (entries_by entry_client n more) (e ∷ [])),
        failed,
      )
  ended_by stop v w ends.Finished start number marked = tt
  ended_by stop v w ends.Memory start number marked = tt
  ended_by stop v w (ends.Misfit upper) start number marked = tt
  ended_by stop v w (ends.Damaged damage) start number marked = tt
  ended_by stop v w (ends.MembersFull version) start number marked = tt
  ended_by stop v w ends.Spent start number marked = tt
  ended_by stop v w (ends.Heavy weight) start number marked = tt

  -- it has ended by a turn
  pub ended : (stop : Option ℕ) (p q : PortValue S) (end : WorkerEnd) → kept_of q ≡ kept_of p →
      (IsMarked (turns.End end) → HasFailed p.known.number (front_of history p.known) (front_of history q.known) × IsFaulted
      (turns.End end)) →
      EndCounts history stop q.known end
  ended stop p q end kept marked =
      let same = kept_pass p q kept in ended_by stop p.known q.known end same.start same.number marked

-- that a worker was stopped says nothing of what it did
pub stopped_means : (role : Role) (shard : ShardId) (client : ℕ) (front : Option History) → EndMeans role shard client front ends.Stopped
stopped_means (as_writer appends) shard client front = tt
stopped_means as_compactor shard client front = tt
stopped_means as_collector shard client front = tt
stopped_means as_pin shard client front = tt
stopped_means (as_follower count) shard client front = tt
