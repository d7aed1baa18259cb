-- A keeper that stands in a run's shard, and what its versions make of it. Entries go newest first.
use Rattle.std.specs.Prelude.{⊤, nat_lt}
use Rattle.std.proofs.Common.{◌≡◌, ℕ, suc, ◌+◌, ◌*◌, ◌<◌, ◌≤◌, ◌^◌, true, false, Option, Some, None, List, [], ◌∷◌, inl, inr, refl, arith, subst, sym, ap, ◌∙◌}
use Rattle.std.proofs.lemmas.Bool.{eq-eqb}
use Rattle.std.proofs.lemmas.Bool.Decides.{nat_tests}
use Rattle.update_core.specs.declared.updates.Update.{Update}
use Rattle.spine_core.specs.declared.batches.Batch.{Batch}
use Rattle.spine_core.specs.Settled.{IsSettled, due_place, weights_of}
use Rattle.spine_core.proofs.Adjacent.{adjacent_weaker, none_found}
use Rattle.store_core.specs.declared.shards.ShardId.{ShardId}
use Rattle.store_core.specs.declared.calls.Call.{Call}
use Rattle.store_core.specs.declared.calls.Call.TheVariants.{Cas, Scan}
use Rattle.store_core.specs.declared.replies.Reply.{Reply}
use Rattle.store_core.specs.declared.entries.Entry.{Entry}
use Rattle.store_core.specs.Stores.{Stored}
use Rattle.store_core.specs.Histories.{reply}
use Rattle.store_core.specs.Newest.{replay_back}
use Rattle.state_core.specs.declared.kinds.Kind.TheVariants.{Keeper}
use Rattle.state_core.specs.declared.members.Member.{Member}
use Rattle.state_core.specs.declared.transitions.Transition.{Transition}
use Rattle.state_core.specs.declared.transitions.Transition.TheVariants.{Join, Merge}
use Rattle.state_core.specs.Lists.{Among}
use Rattle.state_core.specs.States.{ShardState}
use Rattle.state_core.specs.Steps.{Stands, joining}
use Rattle.version_codec.specs.Reading.{version_in}
use Rattle.state_core.proofs.ListLemmas.{among_back, among_map}
use Rattle.history_core.specs.Discipline.{LawfulBack}
use Rattle.history_core.specs.Stands.{StandsFor}
use Rattle.history_core.specs.Laws.{LastIs}
use Rattle.history_core.specs.Legal.{Absent, AtLast, HasMember}
use Rattle.history_core.specs.Placing.{AtLastScan, Commits, CommittedAs, Placed, placed, places, store_at}
use Rattle.history_core.specs.Upkeep.{HasKeeper, NoneIsDue}
use Rattle.history_core.proofs.StateFacts.{last_one, state_number}
use Rattle.load_core.specs.Effects.{CommitsNone, CommitsStep}
use Rattle.plain_run.specs.Settling.{IsSettledIn, KeeperAt}
use Rattle.plain_run.specs.Sessions.{QuietSince}
use Rattle.plain_run.proofs.Quietly.{quiet_commits, quiet_stays, scan_place}
use Rattle.plain_run.proofs.Stepped.{commits_by, step_commits}
use Rattle.plain_run.proofs.Views.{Alike, one_last, stands_changed}

-- ---- what a keeper's versions make of it

-- at least as much is less
pub keeper_lower : (shard : ShardId) (start : Stored) (es : List Entry) (member least low : ℕ) → low ≤ least → KeeperAt shard start es member least →
    KeeperAt shard start es member low
keeper_lower shard start es member least low less k = record {
  number = k.number;
  state = k.state;
  last = k.last;
  stands = k.stands;
  above = let above : least ≤ k.number = k.above in omega arith;
  few = k.few;
}

-- it stays while nothing is committed
pub keeper_quiet : (shard : ShardId) (list : List Update) (start : Stored) (client : ℕ) (es now : List Entry) (calls member least : ℕ) →
    QuietSince shard client start es now calls → KeeperAt shard start es member least → KeeperAt shard start now member least
keeper_quiet shard list start client es now calls member least q k = record {
  number = k.number;
  state = k.state;
  last = (quiet_stays shard list start client es now calls q).last k.number k.state k.last;
  stands = k.stands;
  above = k.above;
  few = k.few;
}

-- it stands in whichever state is the last version's
pub keeper_stands : (shard : ShardId) (start : Stored) (es : List Entry) (member least n : ℕ) (s : ShardState) →
    KeeperAt shard start es member least →
    LastIs (replay_back start es) shard n s → Stands member (λ m. m.kind ≡ Keeper) s.members
keeper_stands shard start es member least n s k last =
    subst (λ (t : ShardState). Stands member (λ m. m.kind ≡ Keeper) t.members)
    (one_last shard (replay_back start es) k.number n k.state s k.last last) k.stands

module _ (shard : ShardId) (list : List Update) (start : Stored) (st : StandsFor start shard list) (e : Entry) (es : List Entry)
    (l : LawfulBack start (e ∷ es)) where
  -- a version's number has a next one
  few : (step : Transition) (c : CommitsStep shard step e.call (reply (replay_back start es) e)) → c.number + 1 < 2 ^ 64
  few step c =
      let s = step_commits shard list start st e es l step c in
      let number : s.from.number ≡ c.number = state_number shard ((replay_back start es).logs shard) c.number s.from s.last.1 in
      let room : s.from.number + 1 < 2 ^ 64 = s.applies.room in
      omega (arith, number, room)

  pub keeper_joined : (now lease member : ℕ) (c : CommitsStep shard (Join Keeper now lease) e.call (reply (replay_back start es) e)) →
      c.to.next_member ≡ member + 1 → KeeperAt shard start (e ∷ es) member 1
  keeper_joined now lease member c next =
      let s = step_commits shard list start st e es l (Join Keeper now lease) c in
      let effect = s.applies.makes.effect in
      let number : s.from.next_member + 1 ≡ c.to.next_member = ap (λ (t : ShardState). t.next_member) (sym effect) in
      let same : s.from.next_member ≡ member = omega (arith, number, next) in
      let new = joining s.from Keeper now lease in
      record {
        number = c.number + 1;
        state = c.to;
        last = s.now;
        stands = subst (λ (t : ShardState). Stands member (λ m. m.kind ≡ Keeper) t.members) (sym effect)
            (among_back (λ m. (m.number ≡ member) × (m.kind ≡ Keeper)) s.from.members (new ∷ []) (inl (same, refl)));
        above = omega arith;
        few = few (Join Keeper now lease) c;
      }

  pub keeper_merged : (member token least : ℕ) (left right merged : Batch) → KeeperAt shard start es member least →
      CommitsStep shard (Merge member token left right merged) e.call (reply (replay_back start es) e) →
      KeeperAt shard start (e ∷ es) member (least + 1)
  keeper_merged member token least left right merged k c =
      let s = step_commits shard list start st e es l (Merge member token left right merged) c in
      let f : Member → Member = λ m. record m { token = token; hold = s.from.number + 1 } in
      let alike : Alike f = record { number = λ m. refl; kind = λ m. refl } in
      let (number, state) = last_one shard ((replay_back start es).logs shard) k.number c.number k.state s.from k.last.0 k.last.1 s.last.0 s.last.1 in
      let above : least ≤ k.number = k.above in
      let same : k.number ≡ c.number = number in
      record {
        number = c.number + 1;
        state = c.to;
        last = s.now;
        stands = subst (λ (t : ShardState). Stands member (λ m. m.kind ≡ Keeper) t.members) (sym s.applies.makes.effect)
            (stands_changed member member f (λ m. m.kind ≡ Keeper) (λ m. m.kind ≡ Keeper) s.from.members alike (λ m p. p) (λ m is p. p)
            (subst (λ (t : ShardState). Stands member (λ m. m.kind ≡ Keeper) t.members) state k.stands));
        above = omega (arith, above, same);
        few = few (Merge member token left right merged) c;
      }

-- ---- what a command saw

module _ (shard : ShardId) (list : List Update) (start : Stored) (client : ℕ) (es now : List Entry) (calls member least : ℕ)
    (q : QuietSince shard client start es now calls) (k : KeeperAt shard start es member least) where
  -- the keeper wasn't absent
  pub keeper_present : (version : ℕ) → Absent start shard member version (places client calls now) → ⊥
  keeper_present version h =
      let p = scan_place shard client start es now calls (AtLast start shard (λ n s. (n ≡ version) × (¬ HasMember member s))) q h in
      let (n, s, last, absent) = p.holds in
      let at = keeper_quiet shard list start client es p.place.before p.calls member least p.before k in
      absent.1 (among_map (λ m. (m.number ≡ member) × (m.kind ≡ Keeper)) (λ m. (m.number ≡ member) × ⊤) s.members (λ m is. (is.0, tt))
      (keeper_stands shard start p.place.before member least n s at last))

  -- where none was due the batches are settled
  pub none_is_due : (version : ℕ) → NoneIsDue start shard member version (places client calls now) → IsSettledIn (replay_back start now) shard
  none_is_due version h =
      let p = scan_place shard client start es now calls
      (AtLast start shard (λ n s. (n ≡ version) × HasKeeper member (λ m. ⊤) s × (due_place (weights_of s.batches) ≡ None))) q h in
      let (n, s, last, due) = p.holds in
      let at = (quiet_stays shard list start client es p.place.before p.calls p.before).last k.number k.state k.last in
      let same : s ≡ k.state = one_last shard (replay_back start p.place.before) n k.number s k.state last at in
      let there = (quiet_stays shard list start client es now calls q).last k.number k.state k.last in
      (k.number, k.state, there, subst (λ (t : ShardState). IsSettled (weights_of t.batches)) same (settled (weights_of s.batches) due.2))
    where
      not_below : (x y : ℕ) → nat_lt x (2 * y) ≡ false → 2 * y ≤ x
      not_below x y h = grind (arith, nat_tests)

      settled : (ws : List ℕ) → due_place ws ≡ None → IsSettled ws
      settled ws h =
          adjacent_weaker (λ x y. nat_lt x (2 * y) ≡ false) (λ x y. 2 * y ≤ x) not_below ws (none_found (λ x y. nat_lt x (2 * y)) ws h)

-- ---- what a command's last entry committed

-- it is the one that has P, where P is a commit's and the entries before it were quiet
pub newest_among : (shard : ShardId) (client : ℕ) (start : Stored) (since es : List Entry) (calls : ℕ) (e : Entry) (P : Placed → Type 0) →
    QuietSince shard client start since es calls → e.client ≡ client → ((p : Placed) → P p → Commits start shard p) →
    Among P (places client (calls + 1) (e ∷ es)) → P (placed e es)
newest_among shard client start since es calls e P q mine commits h = here
  where
    one_more : calls + 1 ≡ suc calls
    one_more = omega arith

    here : P (placed e es)
    here =
        let h2 = subst (λ (n : ℕ). Among P (places client n (e ∷ es))) one_more h in
        elim (rw (eq-eqb e.client client mine) at h2) [
          | inl k ↦ k
          | inr k ↦ absurd (quiet_commits shard client start since es calls q (among_map P (Commits start shard) (places client calls es) commits k))
        ]

-- an entry that was answered so committed
pub committed_commits : (shard : ShardId) (start : Stored) (step : Transition) (version : ℕ) (p : Placed) → CommittedAs start shard step version p →
    Commits start shard p
committed_commits shard start step version p c =
    let took = commits_by shard start p.entry p.before c.expected c.bytes version c.call_is c.reply_is in
    record { expected = c.expected; bytes = c.bytes; call_is = c.call_is; took = rw took.outcome_is refl; commit = took.commit }

-- a version that carries a transition is a commit of that one
pub carried_step : (shard : ShardId) (call : Call) (r : Reply) (x step : Transition) (number : ℕ) (bytes : List ℕ) (to : ShardState)
    (c : CommitsStep shard x call r) → call ≡ Cas shard (Some number) bytes → version_in shard (number + 1) bytes ≡ Some (to, step) → x ≡ step
carried_step shard call r x step number bytes to c is carries =
    let same : Cas shard (Some c.number) c.bytes ≡ Cas shard (Some number) bytes = sym c.call_is ∙ is in
    let n_is : c.number ≡ number = cc in
    let b_is : c.bytes ≡ bytes = cc in
    let mine : version_in shard (number + 1) bytes ≡ Some (c.to, x) = subst (λ (bs : List ℕ). version_in shard (number + 1) bs ≡ Some (c.to, x)) b_is
    (subst (λ (n : ℕ). version_in shard (n + 1) c.bytes ≡ Some (c.to, x)) n_is c.written) in
    let one : (c.to, x) ≡ (to, step) = cc in
    ap (λ (p : ShardState × Transition). p.1) one

-- the same of an entry that was answered so
pub committed_step : (shard : ShardId) (start : Stored) (x step : Transition) (version : ℕ) (e : Entry) (es : List Entry)
    (c : CommitsStep shard x e.call (reply (replay_back start es) e)) → CommittedAs start shard step version (placed e es) → x ≡ step
committed_step shard start x step version e es c k =
    let took = commits_by shard start e es (Some c.number) c.bytes version c.call_is k.reply_is in
    let number : version ≡ c.number + 1 = took.number in
    let same : Cas shard (Some c.number) c.bytes ≡ Cas shard k.expected k.bytes = sym c.call_is ∙ k.call_is in
    let b_is : k.bytes ≡ c.bytes = cc in
    carried_step shard e.call (reply (replay_back start es) e) x step c.number c.bytes k.to c c.call_is
    (subst (λ (n : ℕ). version_in shard n c.bytes ≡ Some (k.to, step)) number
    (subst (λ (bs : List ℕ). version_in shard version bs ≡ Some (k.to, step)) b_is k.carries))

-- where the newest entry commits, and the keeper stood before, no Scan showed it absent
pub keeper_missing : (shard : ShardId) (list : List Update) (start : Stored) (client : ℕ) (es before : List Entry) (e : Entry)
    (calls member least version : ℕ) → KeeperAt shard start es member least → QuietSince shard client start es before calls → e.client ≡ client →
    (step : Transition) → CommitsStep shard step e.call (reply (replay_back start before) e) →
    Absent start shard member version (places client (calls + 1) (e ∷ before)) → ⊥
keeper_missing shard list start client es before e calls member least version k q own step commits h =
    let h2 = subst (λ (n : ℕ). Absent start shard member version (places client n (e ∷ before))) one_more h in
    elim (rw (eq-eqb e.client client own) at h2) [
      | inl scan ↦ no_scan scan.0.0.0 scan.0.0.1
      | inr older ↦ keeper_present shard list start client es before calls member least q k version older.1
    ]
  where
    one_more : calls + 1 ≡ suc calls
    one_more = omega arith

    no_scan : (from : ℕ) → e.call ≡ Scan shard from → ⊥
    no_scan from is = let cas = commits.call_is in cc
