-- Each poll of a merge is legal at the end of a lawful history, once its draft is tried. Entries go newest first.
use Rattle.std.proofs.Common.{◌≡◌, ℕ, ◌<◌, true, false, Option, Some, None, List, ◌∷◌, ◌++◌, inl, inr, refl}
use Rattle.std.proofs.Common.{sym, ap, subst, ◌∙◌, arith, ◌≢◌}
use Rattle.std.specs.Prelude.{⊤, IsSomeAnd, unwrap_or}
use Rattle.update_core.specs.declared.updates.Update.{Update}
use Rattle.spine_core.specs.declared.batches.Batch.{Batch}
use Rattle.store_core.specs.declared.calls.Call.TheVariants as calls
use Rattle.store_core.specs.declared.replies.Reply.{Reply}
use Rattle.store_core.specs.declared.entries.Entry.{Entry}
use Rattle.store_core.specs.Histories.{reply}
use Rattle.store_core.specs.Stores.{Stored}
use Rattle.store_core.specs.Ports.{Answered, OfOthers}
use Rattle.store_core.specs.Newest.{mine_back, replay_back}
use Rattle.state_core.specs.declared.kinds.Kind.TheVariants.{Keeper}
use Rattle.state_core.specs.declared.members.Member.{Member}
use Rattle.state_core.specs.declared.refusals.Refusal.{Refusal}
use Rattle.state_core.specs.declared.refusals.Refusal.TheVariants as refusals
use Rattle.state_core.specs.declared.transitions.Transition.{Transition}
use Rattle.state_core.specs.declared.transitions.Transition.TheVariants.{Merge}
use Rattle.state_core.specs.Lists.{Among}
use Rattle.state_core.specs.Refusals.{follows, is_keeper, is_shaped, member_of}
use Rattle.state_core.specs.States.{ShardState}
use Rattle.update_core.specs.Limits.{most}
use Rattle.state_core.proofs.ListLemmas.{bool_cases}
use Rattle.version_codec.proofs.Facts.{version_in_state}
use Rattle.history_core.specs.declared.asked.Asked.{Asked}
use Rattle.history_core.specs.declared.asked.Asked.TheVariants as asks
use Rattle.history_core.specs.declared.merge_answers.MergeAnswer.{MergeAnswer}
use Rattle.history_core.specs.declared.merge_answers.MergeAnswer.TheVariants as answers
use Rattle.history_core.specs.Discipline.{LawfulBack, ShowsState}
use Rattle.history_core.specs.Legal.{AtLast, HasMember}
use Rattle.history_core.specs.Members.{JoinedAs}
use Rattle.history_core.specs.Placing.{AtLastScan, IsAnsweredScan, Placed, placed, places}
use Rattle.history_core.specs.Stands.{StandsFor}
use Rattle.history_core.specs.Upkeep.{HasKeeper, LegalMergeAt, LegalOfCompactor, MergedAs, TriesMerge}
use Rattle.history_core.proofs.Gaining.{mine_others, places_others}
use Rattle.history_core.proofs.StateFacts.{state_shard}
use Rattle.load_core.specs.declared.nexts.Next.{Next}
use Rattle.load_core.specs.declared.nexts.Next.TheVariants as nexts
use Rattle.load_core.specs.declared.polls.Poll.{Poll}
use Rattle.load_core.specs.declared.polls.Poll.TheVariants as polls
use Rattle.load_core.specs.declared.tries.Tried.{Tried}
use Rattle.load_core.specs.Attempts.{standing_refusal}
use Rattle.load_core.specs.Outcomes.{Newest}
use Rattle.load_core.specs.Trying as trying
use Rattle.load_core.proofs.SettingFollows.{next_is}
use Rattle.change_core.specs.Changes.{number_of}
use Rattle.change_core.proofs.Members.{found_kind, found_stands, kind_back, none_stands}
use Rattle.machine_core.specs.Machines as machines
use Rattle.merge_core.specs.Drafting.{IsDraft}
use Rattle.merge_core.proofs.Drafted.{draft_is_shaped}
use Rattle.token_machine.specs.declared.storeds.Stored.{Stored as Came}
use Rattle.token_machine.specs.declared.storeds.Stored.TheVariants as storeds
use Rattle.token_machine.specs.declared.storings.Storing.{Storing}
use Rattle.token_machine.specs.Legality.{LegalStored, StoresAt}
use Rattle.token_machine.specs.Outcomes.{IsInAs, IsTokenOld, stored}
use Rattle.token_machine.specs.Storings as storing
use Rattle.token_machine.specs.Storings.{sets}
use Rattle.token_machine.proofs.Members.{at_end}
use Rattle.token_machine.proofs.Merges.{merge_in}
use Rattle.token_machine.proofs.Once.{legal}
use Rattle.token_machine.proofs.Ways.{call_false, call_true}
use Rattle.merge_client.specs.declared.compactors.Compactor.{Compactor}
use Rattle.merge_client.specs.Following.{Follows, FollowsDraft, WasTried}
use Rattle.merge_client.specs.Machining.{command_in, kept, machine}
use Rattle.merge_client.specs.Merging.{IsReady, call_of, merge_poll, merge_refused}
use Rattle.merge_client.specs.Merging.{newest_number, owner, shard_of, verdict}
use Rattle.merge_client.proofs.DuePairs.{Why, absent, apart, found_so, old, shape, since_back, unfit, why}
use Rattle.merge_client.proofs.Preparing.{draft_free}
use Rattle.merge_client.proofs.Going.{step_of}
use Rattle.merge_client.proofs.Trying.{stores_at}
use Rattle.merge_client.proofs.LegalPolls as polled

module _ (client : ℕ) (c new : Compactor) (start : Stored) (list : List Update) (e : Entry) (others es : List Entry)
    (ready : IsReady c) (own : e.client ≡ client) (call_is : call_of c ≡ Some e.call) (of : OfOthers client others)
    (st : StandsFor start (shard_of c) list) (lawful : LawfulBack start (e ∷ (others ++ es))) (f : Follows client c start es)
    (more_is : new.storing.trying.calls ≡ trying.more c.storing.trying.calls) where
  abbrev here : Reply
  here = reply (replay_back start (others ++ es)) e

  abbrev now : List Entry
  now = e ∷ (others ++ es)

  abbrev Here : List Placed
  Here = places client new.storing.trying.calls now

  abbrev Past : List Placed
  Past = places client c.storing.trying.calls (others ++ es)

  abbrev Legal : Poll MergeAnswer → Type 0
  Legal poll = machines.LegalPoll machine client (kept c) new.storing.trying.calls poll start now list

  older : LawfulBack start (others ++ es)
  older = polled.older client c new start list e others es ready own call_is of st lawful f more_is

  entries_are : new.storing.trying.calls < most → Here ≡ placed e (others ++ es) ∷ Past
  entries_are = polled.entries_are client c new start list e others es ready own call_is of st lawful f more_is

  low : new.storing.trying.calls < most → c.storing.trying.calls < most
  low = polled.low client c new start list e others es ready own call_is of st lawful f more_is

  of_member : (m : ℕ) → c.member ≡ Some m → (asked : Asked) → c.asked ≡ Some asked → (answer : MergeAnswer) →
      ((k : ℕ) → LegalMergeAt start (command_in client (kept c) asked k) Here asked answer ≡
      IsSomeAnd c.member (λ n. LegalOfCompactor start (shard_of c) n c.token Here asked answer)) →
      (new.storing.trying.calls < most → LegalOfCompactor start (shard_of c) m c.token Here asked answer) → Legal (polls.Done answer)
  of_member = polled.of_member client c new start list e others es ready own call_is of st lawful f more_is

  -- ---- a merge

  module _ (none : c.reading.asked ≡ None) (s : Storing) (tried : Tried) (moves : storing.Moves c.storing here s tried)
      (busy : c.asked ≡ Some asks.Merge) (m : ℕ) (named : c.member ≡ Some m) (pos : 0 < c.token)
      (h : FollowsDraft client c start es m) where
    abbrev v : Compactor
    v = record c { storing = s }

    at : StoresAt Keeper m c.token c.storing client list start e others es
    at = stores_at client c start list e others es ready own call_is of st lawful f none m named pos h

    answers_with : (answer : MergeAnswer) →
        ((k : ℕ) → LegalMergeAt start (command_in client (kept c) asks.Merge k) Here asks.Merge answer ≡
        IsSomeAnd c.member (λ n. LegalOfCompactor start (shard_of c) n c.token Here asks.Merge answer)) →
        (new.storing.trying.calls < most → LegalOfCompactor start (shard_of c) m c.token Here asks.Merge answer) →
        Legal (polls.Done answer)
    answers_with answer form g = of_member m named asks.Merge busy answer form g

    merged : (version : ℕ) → IsInAs (stored s.trying c.token tried) version → Legal (polls.Done (answers.Merged version))
    merged version is =
        let step = step_of client c start es m named h in
        answers_with (answers.Merged version) (λ k. refl) (λ lt. subst (Among (MergedAs start (shard_of c) m c.token version))
        (sym (entries_are lt))
        (merge_in Keeper m c.token c.storing s client list start e others es at h.of_pair.left h.of_pair.right step.0 step.1 tried moves
        (low lt) version is))

    joined_here : JoinedAs Keeper (mine_back start (others ++ es) client) (shard_of c) m
    joined_here = subst (λ (os : List Answered). JoinedAs Keeper os (shard_of c) m) (sym (mine_others start client others es of))
        at.draws.joined

    shown_here : ShowsState (mine_back start (others ++ es) client) (shard_of c) h.state.number h.state
    shown_here = subst (λ (os : List Answered). ShowsState os (shard_of c) h.state.number h.state)
        (sym (mine_others start client others es of)) h.pair.shown

    -- a refusal is by the reply to a Scan
    idle : (refusal : Refusal) → IsAnsweredScan (shard_of c) (placed e (others ++ es)) → trying.IsScanning c.storing.trying.next
    idle refusal scan = by c.storing.trying.next refl
      where
        by : (n : Next) → c.storing.trying.next ≡ n → trying.IsScanning n
        by nexts.Attempt is = tt
        by nexts.Scan is = tt
        by (nexts.Cas r) is = absurd (elim (bool_cases (sets c.storing)) [
          | inl q ↦
              let k = next_is c.storing.setting e.call (call_true c.storing e.call q at.call_is) in
              let bad : calls.Set k.key k.bytes ≡ calls.Scan (shard_of c) scan.0.0 = sym k.call_is ∙ scan.0.1 in cc
          | inr q ↦
              let cas : e.call ≡ calls.Cas (shard_of c) r.expected r.bytes = call_false c.storing e.call q at.call_is
              ∙ ap (trying.call_by c.storing.trying.loader) is in
              let bad : calls.Cas (shard_of c) r.expected r.bytes ≡ calls.Scan (shard_of c) scan.0.0 = sym cas ∙ scan.0.1 in cc
        ])

    module _ (refusal : Refusal) (n : Newest c.storing.trying s.trying start e (others ++ es)
        (λ state. standing_refusal state c.storing.trying.step ≡ Some refusal)) (no_token : ¬ IsTokenOld refusal) where
      number : newest_number v ≡ n.state.number
      number = ap number_of n.cached

      told : (r : Refusal) → refusal ≡ r → Legal (merge_refused v r) → Legal (merge_refused v refusal)
      told r is g = subst (λ (q : Refusal). Legal (merge_refused v q)) (sym is) g

      kind_there : (w : Member) → member_of m n.state.members ≡ Some w → w.kind ≡ Keeper
      kind_there w found = found_kind m w Keeper n.state.members found
          (kind_back start (others ++ es) (shard_of c) list st older Keeper client m joined_here n.state.number n.state n.last)

      shaped : is_shaped n.state c.storing.trying.step ≡ true
      shaped =
          let p = h.of_pair in
          let (b, x, shows, reads) = h.pair.shown in
          let found = found_so p h.state p.rows h.pair.due in
          subst (λ (y : Transition). is_shaped n.state y ≡ true) (sym h.step)
          (draft_is_shaped (owner c) found.stands.before found.stands.behind p.left p.right p.rows h.draft h.state n.state
          (version_in_state (shard_of c) h.state.number b h.state x reads) found.stands.batches h.pair.few
          (subst (λ (k : ℕ). IsDraft (owner c) p.left p.right k p.rows h.draft) found.stands.since h.is_draft)
          (sym (state_shard (shard_of c) ((replay_back start (others ++ es)).logs (shard_of c)) n.state.number n.state n.last.1))
          (since_back start (shard_of c) list st (others ++ es) older client h.state n.state shown_here n.last))

      at_here : (P : Placed → Type 0) → P (placed e (others ++ es)) → new.storing.trying.calls < most → AtLastScan (shard_of c) P Here
      at_here P p lt = subst (AtLastScan (shard_of c) P) (sym (entries_are lt)) (inl (n.scan, p))

      -- it was tried, since the state that named the pair doesn't refuse it
      was_made : refusal ≡ refusals.NotPresent → new.storing.trying.calls < most →
          Among (λ q. TriesMerge (shard_of c) m c.token h.of_pair.left h.of_pair.right q.entry.call) Here
      was_made is lt = by c.storing.trying.next (idle refusal n.scan) h.tried
        where
          by : (x : Next) → trying.IsScanning x → WasTried client c es m h.of_pair h.state x →
              Among (λ q. TriesMerge (shard_of c) m c.token h.of_pair.left h.of_pair.right q.entry.call) Here
          by nexts.Attempt i w = absurd w
          by (nexts.Cas r) i w = absurd i
          by nexts.Scan i (inl w) = subst (Among (λ q. TriesMerge (shard_of c) m c.token h.of_pair.left h.of_pair.right q.entry.call))
              (sym (entries_are lt))
              (inr (subst (Among (λ q. TriesMerge (shard_of c) m c.token h.of_pair.left h.of_pair.right q.entry.call))
              (sym (places_others client c.storing.trying.calls others es of)) (w (low lt))))
          by nexts.Scan i (inr w) = absurd (
              let same_state : n.state ≡ h.state = at_end start (shard_of c) list st (others ++ es) older client m n.state.number n.state
              h.state (subst (λ (k : ℕ). ShowsState (mine_back start (others ++ es) client) (shard_of c) k h.state) w.1 shown_here)
              n.last in
              let free = draft_free (shard_of c) m c.token (mine_back start es client) h.of_pair h.state h.draft h.pair
              (subst (λ (k : ℕ). IsDraft (record { shard = shard_of c; member = k; token = c.token }) h.of_pair.left h.of_pair.right
              h.of_pair.since h.of_pair.rows h.draft) (ap (λ (o : Option ℕ). unwrap_or o 0) named) h.is_draft) in
              let so : standing_refusal h.state h.draft.step ≡ Some refusal = subst (λ (y : Transition). standing_refusal h.state y ≡ Some
              refusal) h.step (subst (λ (z : ShardState). standing_refusal z c.storing.trying.step ≡ Some refusal) same_state n.so) in
              let bad : None ≡ Some refusal = sym free ∙ so in cc)

      merge_why : {merged : Batch} → Why n.state m c.token h.of_pair.left h.of_pair.right
          (Merge m c.token h.of_pair.left h.of_pair.right merged) refusal →
          c.storing.trying.step ≡ Merge m c.token h.of_pair.left h.of_pair.right merged → Legal (merge_refused v refusal)
      merge_why (shape bad) step = absurd (let x = subst (λ (y : Transition). is_shaped n.state y ≡ true) step shaped in
          let wrong : true ≡ false = sym x ∙ bad in cc)
      merge_why (absent is gone) step = told refusals.NoMember is (answers_with (answers.Expired (newest_number v)) (λ k. refl)
          (λ lt. at_here (AtLast start (shard_of c) (λ k z. (k ≡ newest_number v) × (¬ HasMember m z)))
          (n.state.number, n.state, n.last, (sym number, none_stands m (λ w. ⊤) n.state.members gone)) lt))
      merge_why (unfit w found other) step = absurd (let wrong : true ≡ false = sym (ap is_keeper (kind_there w found)) ∙ other in cc)
      merge_why (old w found high is) step = absurd (no_token (subst IsTokenOld (sym is) tt))
      merge_why (apart w found lower is gone) step = told refusals.NotPresent is
          (answers_with (answers.Superseded (newest_number v)) (λ k. refl)
          (λ lt. (
            h.of_pair.left,
            h.of_pair.right,
            was_made is lt,
            at_here (AtLast start (shard_of c) (λ k z. (k ≡ newest_number v) × HasKeeper m (λ x. x.token ≢ c.token) z ×
                (follows h.of_pair.left h.of_pair.right z.batches ≡ false))) (
                  n.state.number,
                  n.state,
                  n.last,
                  (
                    sym number,
                    found_stands m w (λ x. (x.kind ≡ Keeper) × (x.token ≢ c.token)) n.state.members found
                        (kind_there w found, λ same_token. omega (arith, same_token, lower)),
                    gone,
                  ),
                ) lt,
          )))

      refused_legal : Legal (merge_refused v refusal)
      refused_legal =
          let step = step_of client c start es m named h in
          merge_why (why n.state m c.token h.of_pair.left h.of_pair.right step.0 refusal
          (subst (λ (y : Transition). standing_refusal n.state y ≡ Some refusal) step.1 n.so)) step.1

    merge_came : (came : Came) → stored s.trying c.token tried ≡ came →
        LegalStored client m c.token c.storing s start e (others ++ es) came → Legal (merge_poll v came)
    merge_came storeds.Going is g = tt
    merge_came storeds.Fault is g = tt
    merge_came storeds.Spent is g = λ lt. subst (AtLastScan (shard_of c) (AtLast start (shard_of c) (λ n z. n ≡ most)))
        (sym (entries_are lt)) (inl (g.scan, (g.state.number, g.state, g.last, g.so.1)))
    merge_came (storeds.Damaged damage) is g = absurd g
    merge_came (storeds.Now version) is g = merged version (subst (λ (x : Came). IsInAs x version) (sym is) refl)
    merge_came (storeds.Before version) is g = merged version (subst (λ (x : Came). IsInAs x version) (sym is) refl)
    merge_came (storeds.Refused refusal) is g = refused_legal refusal g.0 g.1
    merge_came storeds.Strange is g = absurd g

    pub merge_legal : Legal (verdict v asks.Merge tried)
    merge_legal = merge_came (stored s.trying c.token tried) refl
        (legal Keeper m c.token c.storing client list start e others es at s tried moves)
