-- Of a command's entries only the last Cas can have committed. Entries go newest first.
use Rattle.std.proofs.Common.{◌≡◌, ◌≢◌, ℕ, ◌+◌, ◌<◌, true, false, Option, Some, None, Ok, List, [], ◌∷◌, ◌++◌, inl, inr, refl}
use Rattle.std.proofs.Common.{sym, ap, subst, ◌∙◌}
use Rattle.std.specs.Prelude.{IsSome}
use Rattle.std.specs.List.{AllByRecursion}
use Rattle.update_core.specs.declared.updates.Update.{Update}
use Rattle.store_core.specs.declared.shards.ShardId.{ShardId}
use Rattle.store_core.specs.declared.calls.Call.{Call}
use Rattle.store_core.specs.declared.calls.Call.TheVariants as calls
use Rattle.store_core.specs.declared.entries.Entry.{Entry}
use Rattle.store_core.specs.declared.replies.Reply.{Reply}
use Rattle.store_core.specs.declared.replies.Reply.TheVariants as replies
use Rattle.store_core.specs.declared.versions.Version.{Version}
use Rattle.store_core.specs.Histories.{reply, reply_by}
use Rattle.store_core.specs.Stores.{Stored}
use Rattle.store_core.specs.Newest.{replay_back}
use Rattle.state_core.specs.declared.kinds.Kind.{Kind}
use Rattle.state_core.specs.States.{ShardState}
use Rattle.state_core.specs.Lists.{Among}
use Rattle.update_core.specs.Limits.{most}
use Rattle.state_core.proofs.Rising.{number_rises}
use Rattle.history_core.specs.Placing.{Commits, Placed, placed, places}
use Rattle.history_core.proofs.Gaining.{places_others}
use Rattle.load_core.specs.declared.nexts.Next.{Next}
use Rattle.load_core.specs.declared.nexts.Next.TheVariants as nexts
use Rattle.load_core.specs.declared.readies.Ready.{Ready}
use Rattle.load_core.specs.declared.tries.Tried.{Tried}
use Rattle.load_core.specs.declared.tries.Tried.TheVariants as tries
use Rattle.load_core.specs.declared.tryings.Trying.{Trying}
use Rattle.load_core.specs.Attempts.{IsReady}
use Rattle.load_core.specs.Loading.{newest_after, scan_of}
use Rattle.load_core.specs.Runs.{IsNotIn}
use Rattle.load_core.specs.Trying as trying
use Rattle.load_core.proofs.Causes.{newest_none}
use Rattle.load_core.proofs.Outcomes.{HowMoved, cased, failed, how_moved, newest_at, scan_call, scanned}
use Rattle.load_core.proofs.SettingFollows.{next_is}
use Rattle.token_machine.specs.declared.storings.Storing.{Storing}
use Rattle.token_machine.specs.Following.{CommitsLast, FollowsStoring, IsLastCas}
use Rattle.token_machine.specs.Legality.{StoresAt, StoringMoves}
use Rattle.token_machine.proofs.Following.{last_on, to_scan}
use Rattle.token_machine.proofs.Once.{lawful, none_before}
use Rattle.token_machine.proofs.Reasons.{spends_lower}
use Rattle.token_machine.proofs.Stepping.{storing_moved}
use Rattle.token_machine.proofs.Unspent.{cas_told}
use Rattle.token_machine.proofs.Ways.{Way, call_false, call_true, set, try, way}

-- where none of the entries commits
none_last : (start : Stored) (shard : ShardId) (next : Next) (tried : Option ℕ) (ps : List Placed) → ¬ Among
    (Commits start shard) ps →
    AllByRecursion (CommitsLast start shard next tried) ps
none_last start shard next tried [] none = tt
none_last start shard next tried (p ∷ ps) none = (
  (λ c. absurd (none (inl c))),
  none_last start shard next tried ps
      (λ h. none (inr h)),
)

module _ (kind : Kind) (member token : ℕ) (s : Storing) (client : ℕ) (list : List Update) (start : Stored) (e : Entry)
    (others es : List Entry) (at : StoresAt kind member token s client list start e others es) where
  abbrev Before : List Entry
  Before = others ++ es

  abbrev Answer : Reply
  Answer = reply (replay_back start Before) e

  abbrev Shard : ShardId
  Shard = s.trying.loader.shard

  abbrev Here : Trying → Type 0
  Here t = CommitsLast start Shard t.next t.tried (placed e Before)

  abbrev Older : Trying → Type 0
  Older t = AllByRecursion (CommitsLast start Shard t.next t.tried) (places client s.trying.calls es)

  abbrev Lasts : Trying → Type 0
  Lasts t = Here t × Older t

  module _ (lt : s.trying.calls < most) where
    -- no entry of the command commits while a Cas comes next
    older_on : (t : Trying) → ((n : Option ℕ) → IsLastCas s.trying.next s.trying.tried n → IsLastCas t.next t.tried n) → Older t
    older_on t on = last_on start Shard s.trying.next t.next s.trying.tried t.tried on (places client s.trying.calls es)
        (at.storing.last lt)

    after_cas : (rd : Ready) → s.trying.next ≡ nexts.Cas rd → (t : Trying) → Older t
    after_cas rd next t = older_on t (λ n h. absurd (subst (λ (m : Next). IsLastCas m s.trying.tried n) next h))

    module _ (call : e.call ≡ trying.call_of s.trying) where
      -- a Scan commits nothing
      scan_here : trying.IsScanning s.trying.next → (t : Trying) → Here t
      scan_here idle t c = absurd (let bad : scan_of s.trying.loader ≡ calls.Cas Shard c.expected c.bytes =
          sym (call ∙ scan_call s.trying idle) ∙ c.call_is in cc)

      -- it leaves the last Cas
      scan_lasts : trying.IsScanning s.trying.next → (t u : Trying) → t ≡ u → u.next ≡ nexts.Scan → u.tried ≡ s.trying.tried →
          Lasts t
      scan_lasts idle t u is next tried = subst Lasts (sym is) (
        scan_here idle u,
        older_on u (λ n h. subst (λ (m : Next). IsLastCas m u.tried n) (sym next)
            (subst (λ (o : Option ℕ). IsLastCas nexts.Scan o n) (sym tried) (to_scan s.trying.next s.trying.tried idle n h))),
      )

      -- where it shows a state that takes the transition, none has committed
      goes_lasts : (vs : List Version) → trying.IsScanning s.trying.next → Answer ≡ replies.Versions vs → (t : Trying)
          (newest : Option ShardState) (rd : Ready) →
          newest_after Shard s.trying.loader.cached vs ≡ Ok newest → trying.IsReadyAfter Shard newest s.trying.step rd → Lasts t
      goes_lasts vs idle r t None rd reads ready =
          absurd (let none = (newest_none Shard s.trying.loader.cached vs reads).1 in
          let bad : false ≡ true = subst (λ (o : Option ShardState). IsSome o) none at.seen in cc)
      goes_lasts vs idle r t (Some st) rd reads ready =
          let last = newest_at start list client s.trying s.trying e others es at.sound.trying call at.of_others at.stands
          (lawful kind member token s client list start e others es at) at.follows vs st idle r reads in
          let lower = spends_lower s.trying.step member token st rd.after at.spends ready.applies in
          let none = none_before kind member token s client list start e others es at st last lower lt in (
            scan_here idle t,
            none_last start Shard t.next t.tried (places client s.trying.calls es)
                (subst (λ (ps : List Placed). ¬ Among (Commits start Shard) ps)
                (places_others client s.trying.calls others es at.of_others) none),
          )

      after_scan : (vs : List Version) → trying.IsScanning s.trying.next → Answer ≡ replies.Versions vs → (t : Trying)
          (tried : Tried) →
          trying.ComesTo (newest_after Shard s.trying.loader.cached vs) (trying.called s.trying) t tried → Lasts t
      after_scan vs idle r t tries.Goes (newest, rd, reads, ready, now) = goes_lasts vs idle r t newest rd reads ready
      after_scan vs idle r t (tries.Refused refusal) (st, reads, refused, now) =
          scan_lasts idle t (trying.holding (trying.called s.trying) (Some st) nexts.Scan) now refl refl
      after_scan vs idle r t tries.Spent (st, reads, free, last, now) =
          scan_lasts idle t (trying.holding (trying.called s.trying) (Some st) nexts.Scan) now refl refl
      after_scan vs idle r t (tries.Damaged damage) (reads, now) = scan_lasts idle t (trying.called s.trying) now refl refl
      after_scan vs idle r t tries.Fault n = absurd n
      after_scan vs idle r t tries.Again n = absurd n
      after_scan vs idle r t tries.Begun n = absurd n
      after_scan vs idle r t (tries.Committed version) n = absurd n

      -- what is ready follows the newest state that was seen
      ready_on : (rd : Ready) → s.trying.next ≡ nexts.Cas rd → (st : ShardState) × IsReady st s.trying.step rd
      ready_on rd next = go s.trying.loader.cached at.seen
          (subst (λ (m : Next). trying.IsReadyNext s.trying.loader s.trying.step m) next at.sound.trying).0
        where
          go : (o : Option ShardState) → IsSome o → trying.IsReadyAfter Shard o s.trying.step rd →
              (st : ShardState) × IsReady st s.trying.step rd
          go None some h = absurd (let bad : false ≡ true = some in cc)
          go (Some st) some h = (st, h)

      cas_here : (rd : Ready) → s.trying.next ≡ nexts.Cas rd → (t : Trying) (tried : Tried) → IsNotIn tried →
          trying.MovesAfterCas (trying.asked (trying.called s.trying) rd) rd Answer t tried → Here t
      cas_here rd next t tries.Begun out (answer, none, now) c =
          let (st, ready) = ready_on rd next in absurd (let bad : Some st.number ≡ None = sym ready.expected_is ∙ none in cc)
      cas_here rd next t tries.Again out (nf, nc, now) c = absurd (cas_told
          (replay_back start Before) Shard c.expected c.bytes e.outcome c.took c.commit
          (subst (λ (q : Call). reply_by (replay_back start Before) q e.outcome ≢ replies.Failed) c.call_is nf)
          (subst (λ (q : Call). (v : ℕ) → reply_by (replay_back start Before) q e.outcome ≢ replies.Committed v) c.call_is nc))
      cas_here rd next t tries.Fault out (answer, now) c =
          let (st, ready) = ready_on rd next in
          let same : calls.Cas Shard c.expected c.bytes ≡ calls.Cas Shard rd.expected rd.bytes = sym c.call_is ∙ call ∙ ap
          (trying.call_by s.trying.loader) next in
          let at_st : c.expected ≡ Some st.number = (let x : c.expected ≡ rd.expected = cc in x) ∙ ready.expected_is in
          let risen : Some rd.after.number ≡ Some (st.number + 1) = ap (λ (n : ℕ). Some n)
          (number_rises st rd.after s.trying.step ready.applies) in
          subst (λ (z : Trying). IsLastCas z.next z.tried c.expected) (sym now)
          (subst (IsLastCas nexts.Scan (Some rd.after.number)) (sym at_st) risen)
      cas_here rd next t tries.Goes out n c = absurd n
      cas_here rd next t (tries.Committed version) out n c = absurd out
      cas_here rd next t (tries.Refused refusal) out n c = absurd n
      cas_here rd next t tries.Spent out n c = absurd n
      cas_here rd next t (tries.Damaged damage) out n c = absurd n

      tried_lasts : (t : Trying) (tried : Tried) → IsNotIn tried → trying.Moves s.trying Answer t tried → Lasts t
      tried_lasts t tried out m = go (how_moved s.trying t Answer tried m)
        where
          go : HowMoved s.trying t Answer tried → Lasts t
          go (scanned vs idle r c) = after_scan vs idle r t tried c
          go (failed idle r is now) = scan_lasts idle t (trying.called s.trying) now refl refl
          go (cased rd next k) = (cas_here rd next t tried out k, after_cas rd next t)

    lasts : (new : Storing) (tried : Tried) → IsNotIn tried → StoringMoves s start e Before new tried → Lasts new.trying
    lasts new tried out moves = by (way s new Answer tried moves)
      where
        by : Way s Answer new tried → Lasts new.trying
        by (set q (p, progress, m, n, is)) = subst (λ (z : Storing). Lasts z.trying) (sym n) (
          (λ c. absurd (let k = next_is s.setting e.call (call_true s e.call q at.call_is) in
              let bad : calls.Set k.key k.bytes ≡ calls.Cas Shard c.expected c.bytes = sym k.call_is ∙ c.call_is in cc)),
          at.storing.last lt,
        )
        by (try q (t, m, n)) = subst (λ (z : Storing). Lasts z.trying) (sym n)
            (tried_lasts (call_false s e.call q at.call_is) t tried out m)

  -- it follows again after each reply but that of the commit
  pub storing_stays : (new : Storing) (tried : Tried) → IsNotIn tried → StoringMoves s start e Before new tried →
      FollowsStoring client member token new start (e ∷ Before)
  storing_stays new tried out moves = storing_moved client s start e others es at.sound at.own at.call_is at.of_others member token
      at.storing at.seen new tried (λ lt. lasts lt new tried out moves) out moves
