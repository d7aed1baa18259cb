-- What is in and what isn't of a command under a token, by the last state. Entries go newest first.
use Rattle.std.proofs.Common.{◌≡◌, ℕ, zero, suc, ◌+◌, ◌<◌, ◌≤◌, ◌==◌, ◌&&◌, false, Option, Some, None, List}
use Rattle.std.proofs.Common.{[], ◌∷◌, ◌++◌, length, inl, inr, refl, sym, ap, subst, ◌∙◌, arith, eqb}
use Rattle.std.specs.Prelude.{⊤, unwrap_or}
use Rattle.std.specs.List.{AllByRecursion}
use Rattle.std.proofs.lemmas.Bool.{eqb-true, eq-eqb}
use Rattle.update_core.specs.declared.updates.Update.{Update}
use Rattle.store_core.specs.declared.shards.ShardId.{ShardId}
use Rattle.store_core.specs.declared.part_keys.PartKey.{PartKey}
use Rattle.store_core.specs.declared.calls.Call.TheVariants as calls
use Rattle.store_core.specs.declared.entries.Entry.{Entry}
use Rattle.store_core.specs.declared.replies.Reply.{Reply}
use Rattle.store_core.specs.Histories.{reply}
use Rattle.store_core.specs.Stores.{Stored}
use Rattle.store_core.specs.Ports.{Answered}
use Rattle.store_core.specs.Newest.{replay_back, mine_back}
use Rattle.state_core.specs.declared.kinds.Kind.{Kind}
use Rattle.state_core.specs.declared.refusals.Refusal.{Refusal}
use Rattle.state_core.specs.declared.refusals.Refusal.TheVariants as refusals
use Rattle.state_core.specs.declared.transitions.Transition.{Transition}
use Rattle.state_core.specs.Lists.{Among}
use Rattle.state_core.specs.States.{ShardState}
use Rattle.state_core.specs.Steps.{Spends, Stands}
use Rattle.version_codec.specs.Reading.{version_in}
use Rattle.update_core.specs.Limits.{most}
use Rattle.state_core.proofs.ListLemmas.{among_map, bool_cases}
use Rattle.history_core.specs.Discipline.{IsCasUnder, LawfulBack, Owns, SpendsIn, StoredAs}
use Rattle.history_core.specs.Discipline.{IsStored}
use Rattle.history_core.specs.Laws.{LastIs}
use Rattle.history_core.specs.Placing.{Commits, CommitsUnder, IsAnsweredScan, OnlyOne, Placed, placed, places}
use Rattle.history_core.proofs.Answering.{committed_once}
use Rattle.history_core.proofs.Entries.{lawful_older, mine_older}
use Rattle.history_core.proofs.Gaining.{mine_others}
use Rattle.history_core.proofs.Logs.{and_true}
use Rattle.load_core.specs.declared.nexts.Next.{Next}
use Rattle.load_core.specs.declared.nexts.Next.TheVariants as nexts
use Rattle.load_core.specs.declared.tries.Tried.{Tried}
use Rattle.load_core.specs.declared.tries.Tried.TheVariants as tries
use Rattle.load_core.specs.declared.tryings.Trying.{Trying}
use Rattle.load_core.specs.Attempts.{standing_refusal}
use Rattle.load_core.specs.Outcomes.{Committing, Newest}
use Rattle.load_core.specs.Runs.{OnlyCarries}
use Rattle.load_core.specs.Setting as setting
use Rattle.load_core.specs.Trying as trying
use Rattle.load_core.proofs.Outcomes.{HowMoved, cased, committed_here, failed, how_moved, never_damaged, newest_refused}
use Rattle.load_core.proofs.Outcomes.{newest_spent, scanned}
use Rattle.load_core.proofs.Runs.{moves_same}
use Rattle.token_machine.specs.declared.storings.Storing.{Storing}
use Rattle.token_machine.specs.Following.{CommitsLast, FollowsStoring, IsAfter, IsLastCas, Lower, UsesToken}
use Rattle.token_machine.specs.Legality.{IsInNever, IsInOnce, LegalStored, StepAs, StepAt, StoresAt, StoringMoves}
use Rattle.token_machine.specs.Outcomes.{stored, token_outcome}
use Rattle.token_machine.specs.Storings.{sets_before}
use Rattle.token_machine.proofs.Following.{storing_past}
use Rattle.token_machine.proofs.Members.{joined_owns}
use Rattle.token_machine.proofs.Reasons.{TokenThere, spends_lower, token_there}
use Rattle.token_machine.proofs.Spendings.{none_own, none_under, one_under, own_under}
use Rattle.token_machine.proofs.Ways.{IsTried, call_false, sets_done, tried_way}

-- an answered Scan commits nothing
pub scan_no_commit : (start : Stored) (shard : ShardId) (e : Entry) (before : List Entry) → IsAnsweredScan shard
    (placed e before) → ¬ Commits start shard (placed e before)
scan_no_commit start shard e before scan k = let bad : calls.Scan shard scan.0.0 ≡ calls.Cas shard k.expected k.bytes = sym scan.0.1 ∙ k.call_is in cc

-- what holds of the one alone is carried over
pub once_as : {A : Type 0} (P Q R : A → Type 0) → ((x : A) → Q x → R x) → (xs : List A) → OnlyOne P Q xs → OnlyOne P R xs
once_as P Q R f [] h = h
once_as P Q R f (x ∷ xs) (inl h) = inl (h.0, f x h.1, h.2)
once_as P Q R f (x ∷ xs) (inr h) = inr (h.0, once_as P Q R f xs h.1)

-- ---- the command's entries

module _ (start : Stored) (shard : ShardId) (step : Transition) (member token : ℕ) (spends : Spends step member token) where
  -- a Cas of the command that commits does so under the token
  under_of : (p : Placed) → OnlyCarries shard step p.entry.call → IsAfter p.entry.call → Commits start shard p →
      CommitsUnder start shard member token p
  under_of p carries after k = (
    k,
    subst (IsCasUnder shard member token) (sym k.call_is)
        (go k.expected k.bytes (subst (OnlyCarries shard step) k.call_is carries) (subst IsAfter k.call_is after)),
  )
    where
      go : (expected : Option ℕ) (bytes : List ℕ) → OnlyCarries shard step (calls.Cas shard expected bytes) → IsAfter
          (calls.Cas shard expected bytes) → IsCasUnder shard member token (calls.Cas shard expected bytes)
      go None bytes h a = absurd a
      go (Some n) bytes h a = (refl, subst (λ (o : Option (ShardState × Transition)). SpendsIn o member token) (sym h.1.1) spends)

  among_under : (ps : List Placed) → AllByRecursion (λ p. OnlyCarries shard step p.entry.call) ps → AllByRecursion
      (λ p. IsAfter p.entry.call) ps → Among (Commits start shard) ps → Among (CommitsUnder start shard member token) ps
  among_under [] a b h = h
  among_under (p ∷ ps) a b (inl h) = inl (under_of p a.0 b.0 h)
  among_under (p ∷ ps) a b (inr h) = inr (among_under ps a.1 b.1 h)

  -- and by the transition
  step_at : (client : ℕ) (own : List Answered) (p : Placed) → OnlyCarries shard step p.entry.call → IsAfter p.entry.call →
      (k : Commits start shard p) → p.entry.client ≡ client →
      LawfulBack start (p.entry ∷ p.before) → ((q : PartKey) (b : List ℕ) → StoredAs (mine_back start p.before client) q b →
      StoredAs own q b) → StepAt client own start shard step p
  step_at client own p carries after k client_is l later = go k.expected refl
      (subst (OnlyCarries shard step) k.call_is carries) (subst IsAfter k.call_is after)
    where
      go : (expected : Option ℕ) → k.expected ≡ expected → OnlyCarries shard step (calls.Cas shard expected k.bytes) → IsAfter
          (calls.Cas shard expected k.bytes) → StepAt client own start shard step p
      go None e h a = absurd a
      go (Some n) e h a = record { commit = k; number = n; expected_is = e; to = h.1.0; written = h.1.1; client_is = client_is; lawful = l; stored = later }

  -- where one alone commits under the token, one alone commits
  pub once_in : (client : ℕ) (own : List Answered) (k : ℕ) (es : List Entry) → LawfulBack start es →
      ((q : PartKey) (b : List ℕ) → StoredAs (mine_back start es client) q b → StoredAs own q b) →
      AllByRecursion (λ p. OnlyCarries shard step p.entry.call) (places client k es) → AllByRecursion
      (λ p. IsAfter p.entry.call) (places client k es) →
      OnlyOne (CommitsUnder start shard member token) (λ p. ⊤) (places client k es) → OnlyOne (Commits start shard)
      (StepAt client own start shard step) (places client k es)
  once_in client own zero es l later carry after one = absurd one
  once_in client own (suc k) [] l later carry after one = absurd one
  once_in client own (suc k) (e ∷ es) l later carry after one =
      let older : (q : PartKey) (b : List ℕ) → StoredAs (mine_back start es client) q b → StoredAs own q b = λ q b h. later q b
      (mine_older (λ (o : Answered). IsStored q b o.entry.call o.reply) start e es client h) in
      elim (bool_cases (eqb e.client client)) [
        | inl q ↦
            let here : Placed = placed e es in
            let carry2 : AllByRecursion (λ p. OnlyCarries shard step p.entry.call)
            (placed e es ∷ places client k es) = rw q at carry in
            let after2 : AllByRecursion (λ p. IsAfter p.entry.call) (placed e es ∷ places client k es) = rw q at after in
            let one2 : OnlyOne (CommitsUnder start shard member token) (λ p. ⊤)
            (placed e es ∷ places client k es) = rw q at one in
            rw q (elim one2 [
              | inl w ↦ inl (
                w.0.0,
                step_at client own here carry2.0 after2.0 w.0.0 (eqb-true e.client client q) l older,
                λ h.
                    w.2 (among_under (places client k es) carry2.1 after2.1 h),
              )
              | inr w ↦ inr (
                (λ h. w.0 (under_of here carry2.0 after2.0 h)),
                once_in client own k es
                    (lawful_older start e es l) older carry2.1 after2.1 w.1,
              )
            ])
        | inr q ↦ rw q (once_in client own (suc k) es (lawful_older start e es l) older (rw q at carry) (rw q at after)
            (rw q at one))
      ]

-- ---- by the last state

module _ (kind : Kind) (member token : ℕ) (s : Storing) (client : ℕ) (list : List Update) (start : Stored) (e : Entry)
    (others es : List Entry) (at : StoresAt kind member token s client list start e others es) where
  abbrev Shard : ShardId
  Shard = s.trying.loader.shard

  abbrev Before : List Entry
  Before = others ++ es

  abbrev Own : List Answered
  Own = mine_back start (others ++ es) client

  own_is : Own ≡ mine_back start es client
  own_is = mine_others start client others es at.of_others

  pub lawful : LawfulBack start Before
  lawful = lawful_older start e Before at.lawful

  pub past : FollowsStoring client member token s start Before
  past = storing_past client member token s start others es at.of_others at.storing

  owned : Owns Own Shard member
  owned = subst (λ (os : List Answered). Owns os Shard member) (sym own_is)
      (joined_owns kind (mine_back start es client) Shard member at.draws.joined)

  pub none_before : (st : ShardState) → LastIs (replay_back start Before) Shard st.number st → Lower member token st →
      s.trying.calls < most → ¬ Among (Commits start Shard) (places client s.trying.calls Before)
  none_before st last lower lt h =
      none_under start Shard list at.stands client member token Before lawful owned st.number st last lower s.trying.calls
      (among_under start Shard s.trying.step member token at.spends (places client s.trying.calls Before) (past.carry lt)
      (past.after lt) h)

  -- the reply, and a call of the transition which came to an end by it
  abbrev Answer : Reply
  Answer = reply (replay_back start Before) e

  abbrev Told : Storing → Tried → Type 0
  Told new tried = IsTried s Answer new tried

  call : (new : Storing) (tried : Tried) → Told new tried → e.call ≡ trying.call_of s.trying
  call new tried w = call_false s e.call w.unset at.call_is

  -- ---- the commit that was just answered

  in_now : (new : Storing) (version : ℕ) → Told new (tries.Committed version) → IsInOnce client s start e Before version
  in_now new version w = record {
    done = done_by (how_moved s.trying w.to Answer (tries.Committed version) w.moves);
    stored = past.stored;
    once = λ lt. inl (
      c.commit,
      (
        record {
          commit = c.commit;
          number = c.from.number;
          expected_is = c.expected_is;
          to = c.carries.to;
          written = subst (λ (b : List ℕ). version_in Shard (c.from.number + 1) b ≡ Some
              (c.carries.to, s.trying.step)) c.same numbered;
          client_is = at.own;
          lawful = at.lawful;
          stored = λ k b h. h;
        },
        c.number,
      ),
      none_before c.from c.last (spends_lower s.trying.step member token c.from c.carries.to at.spends c.applies) lt,
    );
  }
    where
      c : Committing s.trying w.to start e Before version
      c = committed_here start list client s.trying w.to e others es at.sound.trying (call new (tries.Committed version) w)
          at.of_others at.stands lawful at.follows version w.moves

      numbered : version_in Shard (c.from.number + 1) c.carries.bytes ≡ Some (c.carries.to, s.trying.step)
      numbered = subst (λ (k : ℕ). version_in Shard k c.carries.bytes ≡ Some
          (c.carries.to, s.trying.step)) c.number c.carries.carries

      done_by : HowMoved s.trying w.to Answer (tries.Committed version) → setting.IsDone s.setting
      done_by (scanned vs idle r m) = absurd m
      done_by (failed idle r bad now) = absurd (let no_fault : tries.Committed version ≡ tries.Fault = bad in cc)
      done_by (cased rd next m) = sets_done rd s.setting (subst (λ (n : Next). sets_before n s.setting ≡ false) next w.unset)
          at.sound.setting

  -- ---- a refusal

  module _ (new : Storing) (refusal : Refusal) (w : Told new (tries.Refused refusal)) where
    abbrev RefusedBy : Storing → Type 0
    RefusedBy z = Newest s.trying z.trying start e Before (λ state. standing_refusal state s.trying.step ≡ Some refusal)

    newest : RefusedBy new
    newest = subst RefusedBy (sym w.is) (newest_refused start list client s.trying w.to e others es at.sound.trying
        (call new (tries.Refused refusal) w) at.of_others at.stands lawful at.follows refusal w.moves)

    same_failed : new.trying.failed ≡ false → s.trying.failed ≡ false
    same_failed fine = (moves_same s.trying w.to Answer (tries.Refused refusal) w.moves).failed
        (sym (ap (λ (z : Storing). z.trying.failed) w.is) ∙ fine)

    -- the Scan leaves the last Cas
    same_tried : new.trying.tried ≡ s.trying.tried
    same_tried = ap (λ (z : Storing). z.trying.tried) w.is ∙ go (how_moved s.trying w.to Answer (tries.Refused refusal) w.moves)
      where
        go : HowMoved s.trying w.to Answer (tries.Refused refusal) → w.to.tried ≡ s.trying.tried
        go (scanned vs idle r (st, reads, refused, now)) = ap (λ (z : Trying). z.tried) now
        go (failed idle r bad now) = absurd (let no_fault : tries.Refused refusal ≡ tries.Fault = bad in cc)
        go (cased rd next m) = absurd m

    -- which is as the version that it was for
    last_version : (next : Next) (n : ℕ) → IsLastCas next s.trying.tried (Some n) → unwrap_or new.trying.tried 0 ≡ n + 1
    last_version nexts.Scan n h = ap (λ (o : Option ℕ). unwrap_or o 0) (same_tried ∙ h)
    last_version nexts.Attempt n h = absurd h
    last_version (nexts.Cas r) n h = absurd h

    once_last : (ps : List Placed) → AllByRecursion (CommitsLast start Shard s.trying.next s.trying.tried) ps →
        OnlyOne (Commits start Shard) (StepAt client Own start Shard s.trying.step) ps →
        OnlyOne (Commits start Shard) (StepAs client Own start Shard s.trying.step (unwrap_or new.trying.tried 0)) ps
    once_last [] h one = one
    once_last (p ∷ ps) h (inl k) = inl (
      k.0,
      (
        k.1,
        last_version s.trying.next k.1.number (subst (λ (n : Option ℕ).
            IsLastCas s.trying.next s.trying.tried n) k.1.expected_is (h.0 k.1.commit)),
      ),
      k.2,
    )
    once_last (p ∷ ps) h (inr k) = inr (k.0, once_last ps h.1 k.1)

    -- where the token isn't spent none of the command's entries has committed
    never_in : Lower member token newest.state → IsInNever client s start e Before
    never_in lower lt (inl k) = scan_no_commit start Shard e Before newest.scan k
    never_in lower lt (inr h) = none_before newest.state newest.last lower lt h

    -- where the last state has the token, one of the command's calls has committed, which was after all parts were set
    in_before : Stands member (λ m. m.token ≡ token) newest.state.members → IsInOnce client s start e Before
        (unwrap_or new.trying.tried 0)
    in_before stands = record {
      done = all_set (λ left. (past.settable left).fresh (own_under start Shard list at.stands client member token Before lawful
          owned newest.state.number newest.state newest.last at.some_token stands));
      stored = past.stored;
      once = λ lt. inr (
        scan_no_commit start Shard e Before newest.scan,
        once_last (places client s.trying.calls Before) (past.last lt)
            (once_in start Shard s.trying.step member token at.spends client Own s.trying.calls Before lawful (λ q b h. h)
            (past.carry lt) (past.after lt)
            (committed_once start Shard list Before at.stands lawful client s.trying.calls member token newest.state.number
            newest.state owned newest.last at.some_token stands (past.fresh lt))),
      );
    }
      where
        all_set : (setting.IsOpen s.setting → ⊥) → setting.IsDone s.setting
        all_set none = more s.setting.place (length s.setting.keys) at.sound.setting.within none
          where
            more : (a b : ℕ) → a ≤ b → (a < b → ⊥) → a ≡ b
            more a b le none = grind arith

    -- the token isn't above the last one drawn, and not at it where none of the command's calls failed
    never_ahead : (last : ℕ) → TokenThere newest.state member token last → (last == token) && new.trying.failed ≡ false → ⊥
    never_ahead last there test =
        let above : ¬ (token < last) = λ lt.
        at.draws.drawn last lt (subst (λ (os : List Answered). Among (λ (o : Answered).
        UsesToken Shard member last o.entry.call) os) own_is
        (among_map (λ (o : Answered). IsCasUnder Shard member last o.entry.call)
        (λ (o : Answered). UsesToken Shard member last o.entry.call) Own (λ o h. inr h)
        (own_under start Shard list at.stands client member last Before lawful owned newest.state.number newest.state newest.last (omega arith) there.stands))) in
        let same : last ≡ token = (let le = there.reached in omega arith) in
        let fine : new.trying.failed ≡ false = rw (eq-eqb last token same) at test in
        none_own start Shard member token client (length Own) Before (past.unspent (same_failed fine))
        (one_under start Shard list at.stands client member token Before lawful owned newest.state.number newest.state newest.last at.some_token (subst (λ (t : ℕ). Stands member (λ m. m.token ≡ t) newest.state.members) same there.stands))

  refused_legal : (new : Storing) (refusal : Refusal) → Told new (tries.Refused refusal) →
      LegalStored client member token s new start e Before (token_outcome new.trying token refusal)
  refused_legal new (refusals.TokenOld last) w =
      let n = newest new (refusals.TokenOld last) w in
      let there = token_there n.state member token last s.trying.step at.spends n.so in
      elim (bool_cases ((last == token) && new.trying.failed)) [
        | inl both ↦ rw both (in_before new (refusals.TokenOld last) w
            (subst (λ (k : ℕ). Stands member (λ m. m.token ≡ k) n.state.members)
            (eqb-true last token (and_true (last == token) new.trying.failed both).0) there.stands))
        | inr other ↦ absurd (never_ahead new (refusals.TokenOld last) w last there other)
      ]
  refused_legal new other w = (newest new other w, λ h. h, never_in new other w)

  -- ---- each outcome

  abbrev SpentBy : Storing → Type 0
  SpentBy z = Newest s.trying z.trying start e Before (λ state. (standing_refusal state s.trying.step ≡ None) ×
      (state.number ≡ most))

  spent_legal : (new : Storing) → Told new tries.Spent → SpentBy new
  spent_legal new w = subst SpentBy (sym w.is) (newest_spent start list client s.trying w.to e others es at.sound.trying
      (call new tries.Spent w) at.of_others at.stands lawful at.follows w.moves)

  pub legal : (new : Storing) (tried : Tried) → StoringMoves s start e Before new tried →
      LegalStored client member token s new start e Before (stored new.trying token tried)
  legal new tries.Begun moves = tt
  legal new tries.Again moves = tt
  legal new tries.Goes moves = tt
  legal new tries.Fault moves = tt
  legal new (tries.Committed version) moves = in_now new version (tried_way s new Answer (tries.Committed version) moves tt)
  legal new (tries.Refused refusal) moves = refused_legal new refusal (tried_way s new Answer (tries.Refused refusal) moves tt)
  legal new tries.Spent moves = spent_legal new (tried_way s new Answer tries.Spent moves tt)
  legal new (tries.Damaged damage) moves = let w = tried_way s new Answer (tries.Damaged damage) moves tt in
      never_damaged start list client s.trying w.to e others es at.sound.trying (call new (tries.Damaged damage) w)
      at.of_others at.stands lawful at.follows damage w.moves
