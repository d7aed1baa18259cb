-- What a reader's commands come to in a session. Entries go newest first.
use Rattle.std.proofs.Common.{◌≡◌, ℕ, ◌+◌, ◌<◌, ◌≤◌, true, false, Option, Some, Ok, List, ◌∷◌, refl, sym, ap, subst, ◌∙◌, arith}
use Rattle.std.specs.Prelude.{nat_le}
use Rattle.std.proofs.lemmas.Bool.Decides.{nat_tests}
use Rattle.update_core.specs.declared.updates.Update.{Update}
use Rattle.update_core.specs.Collections.{SnapshotAnswer, ListenAnswer, snapshot_answer, listen_answer}
use Rattle.update_core.specs.Collections.{content, early, late, behind, ended, quiet, step}
use Rattle.update_core.specs.Frontiers.{after}
use Rattle.store_core.specs.declared.entries.Entry.{Entry}
use Rattle.store_core.specs.Stores.{Stored}
use Rattle.store_core.specs.Histories.{History, reply}
use Rattle.store_core.specs.Newest.{replay_back}
use Rattle.state_core.specs.declared.transitions.Transition.{Transition}
use Rattle.state_core.specs.declared.transitions.Transition.TheVariants.{Advance, Leave}
use Rattle.history_core.specs.declared.asked.Asked.{Asked}
use Rattle.history_core.specs.declared.asked.Asked.TheVariants as asks
use Rattle.history_core.specs.declared.read_answers.ReadAnswer.{ReadAnswer}
use Rattle.history_core.specs.declared.read_answers.ReadAnswer.TheVariants as reads
use Rattle.history_core.specs.Legal.{Absent, Listens, Snapshots}
use Rattle.history_core.specs.Placing.{places}
use Rattle.history_core.specs.Stands.{accepted}
use Rattle.load_core.specs.Effects.{CommitsNone}
use Rattle.read_client.specs.Machining as read
use Rattle.feed_text.specs.declared.replies.RunReply.TheVariants as replies
use Rattle.driving.specs.Drives.{Answered, Going}
use Rattle.driving.specs.Goings.{Goes}
use Rattle.driving.proofs.GoingLaws.{Between, going_so}
use Rattle.plain_run.specs.Answering.{Closed, Replies, StillSettled, read_reply}
use Rattle.plain_run.specs.PlainRuns.{View, listen_text, since_reply, snapshot_text, view_since}
use Rattle.plain_run.specs.Sessions.{QuietSince, ViewAt}
use Rattle.plain_run.proofs.DriveLaws.{lawful_last, unmoved}
use Rattle.plain_run.proofs.Quietly.{quiet_view}
use Rattle.plain_run.proofs.Refused.{scan_absent, scan_listen, scan_since, scan_snapshot}
use Rattle.plain_run.proofs.SettledLaws.{leave_closes, quiet_settled}
use Rattle.plain_run.proofs.Views.{advances_since}
use Rattle.plain_run.proofs.SessionLaws.{all_quiet}
use Rattle.store_core.specs.declared.shards.ShardId.{ShardId}

module _ (shard : ShardId) where
  -- ---- reads

  -- a member's command of the run's reader
  abbrev pub reading : ℕ → Option (Option ℕ) → Transition → Asked → read.Kept
  reading number listen tried asked = record { asked = Some asked; member = Some number; listen = listen; shard = shard; step = tried }

module _ (shard : ShardId) (client : ℕ) where
  -- where a command has committed nothing, the view is as it was, and what it saw is what the view says
  seen : (list : List Update) (start : Stored) (es now before : List Entry) (e : Entry) (calls reader : ℕ) (view : View) →
      Between shard list start es now →
      Going shard client start es before calls → e.client ≡ client → now ≡ e ∷ before →
      CommitsNone (reply (replay_back start before) e) → ViewAt shard list start es reader view →
      QuietSince shard client start es now (calls + 1) × ViewAt shard list start now reader view
  seen list start es now before e calls reader view b g own split none v =
      let q = all_quiet shard client list start es now before e calls reader view b g own split none v in
      (q, quiet_view shard list start client es now (calls + 1) reader view q v)

  module _ (a d : Option History) (number : ℕ) (listen : Option (Option ℕ)) (tried : Transition) where
    -- a reader that reads stands
    pub stands_still : (list : List Update) (start : Stored) (es now before : List Entry) (e : Entry) (calls version : ℕ) →
        Between shard list start es now →
        Going shard client start es before calls → e.client ≡ client → now ≡ e ∷ before → CommitsNone (reply (replay_back start before) e) →
        Absent start shard number version (places client (calls + 1) now) → (view : View) → ViewAt shard list start es number view → ⊥
    stands_still list start es now before e calls version b g own split none h view v =
        let (q, kept) = seen list start es now before e calls number view b g own split none v in
        scan_absent shard list start client es now (calls + 1) number view q v version h

    pub snapshots : (t : ℕ) (answer : ReadAnswer) → Goes shard a d
        (Answered read.machine client (reading shard number listen tried (asks.Snapshot t)) answer) →
        Goes shard a d (Replies shard number (λ view. snapshot_text (snapshot_answer view.collection t)) (λ view. view) (read_reply answer))
    snapshots t answer went =
        going_so shard a d (Read answer) (Replies shard number (λ view. snapshot_text (snapshot_answer view.collection t)) (λ view. view)
        (read_reply answer)) went
        (λ list start es now b x. go answer list start es now b x)
      where
        Read : ReadAnswer → List Update → Stored → List Entry → List Entry → Type 0
        Read answer list start es now = Answered read.machine client (reading shard number listen tried (asks.Snapshot t)) answer list start es now

        says : (y : SnapshotAnswer) (list : List Update) (start : Stored) (es now before : List Entry) (e : Entry) (calls : ℕ) →
            Between shard list start es now →
            Going shard client start es before calls → e.client ≡ client → now ≡ e ∷ before → CommitsNone (reply (replay_back start before) e) →
            Snapshots list start shard number t y (places client (calls + 1) now) → (view : View) →
            ViewAt shard list start es number view →
            (snapshot_text y ≡ snapshot_text (snapshot_answer view.collection t)) × ViewAt shard list start now number view
        says y list start es now before e calls b g own split none h view v =
            let (q, kept) = seen list start es now before e calls number view b g own split none v in
            (sym (ap snapshot_text (scan_snapshot shard list start client es now (calls + 1) number view q v number t y h)), kept)

        go : (answer : ReadAnswer) (list : List Update) (start : Stored) (es now : List Entry) → Between shard list start es now →
            Read answer list start es now →
            Replies shard number (λ view. snapshot_text (snapshot_answer view.collection t)) (λ view. view) (read_reply answer) list start es now
        go (reads.Rows rows) list start es now b x = says
            (content rows) list start es now x.before x.entry x.calls b x.going x.own x.split x.effect.effect x.legal.0
        go (reads.Early since) list start es now b x = says
            (early since) list start es now x.before x.entry x.calls b x.going x.own x.split x.effect.effect x.legal.0
        go (reads.Late upper) list start es now b x = says
            (late upper) list start es now x.before x.entry x.calls b x.going x.own x.split x.effect.effect x.legal.0
        go (reads.Expired version) list start es now b x = stands_still list start es now x.before x.entry x.calls version b x.going x.own x.split x.effect.effect x.legal.0
        go (reads.Opened member version since) list start es now b x = absurd x.legal.0
        go (reads.MembersFull version) list start es now b x = absurd x.legal.0
        go (reads.Step from to rows) list start es now b x = absurd x.legal.0
        go (reads.Quiet upper) list start es now b x = absurd x.legal.0
        go reads.Ended list start es now b x = absurd x.legal.0
        go (reads.Advanced version) list start es now b x = absurd x.legal.0
        go (reads.Back since) list start es now b x = absurd x.legal.0
        go (reads.Renewed version) list start es now b x = absurd x.legal.0
        go (reads.Closed version) list start es now b x = absurd x.legal.0

    pub listens : (t : ℕ) (answer : ReadAnswer) → Goes shard a d
        (Answered read.machine client (reading shard number listen tried (asks.Listen t)) answer) →
        Goes shard a d (Replies shard number (λ view. listen_text (listen_answer view.collection (after t))) (λ view. view) (read_reply answer))
    listens t answer went =
        going_so shard a d (Read answer) (Replies shard number (λ view. listen_text (listen_answer view.collection (after t))) (λ view. view)
        (read_reply answer)) went
        (λ list start es now b x. go answer list start es now b x)
      where
        Read : ReadAnswer → List Update → Stored → List Entry → List Entry → Type 0
        Read answer list start es now = Answered read.machine client (reading shard number listen tried (asks.Listen t)) answer list start es now

        says : (y : ListenAnswer) (list : List Update) (start : Stored) (es now before : List Entry) (e : Entry) (calls : ℕ) →
            Between shard list start es now →
            Going shard client start es before calls → e.client ≡ client → now ≡ e ∷ before → CommitsNone (reply (replay_back start before) e) →
            Listens list start shard number (after t) y (places client (calls + 1) now) → (view : View) →
            ViewAt shard list start es number view →
            (listen_text y ≡ listen_text (listen_answer view.collection (after t))) × ViewAt shard list start now number view
        says y list start es now before e calls b g own split none h view v =
            let (q, kept) = seen list start es now before e calls number view b g own split none v in
            (sym (ap listen_text (scan_listen shard list start client es now (calls + 1) number view q v number (after t) y h)), kept)

        go : (answer : ReadAnswer) (list : List Update) (start : Stored) (es now : List Entry) → Between shard list start es now →
            Read answer list start es now →
            Replies shard number (λ view. listen_text (listen_answer view.collection (after t))) (λ view. view)
            (read_reply answer) list start es now
        go (reads.Step from to rows) list start es now b x = says
            (step rows to) list start es now x.before x.entry x.calls b x.going x.own x.split x.effect.effect x.legal.0.1
        go (reads.Early since) list start es now b x = says
            (behind since) list start es now x.before x.entry x.calls b x.going x.own x.split x.effect.effect x.legal.0
        go (reads.Quiet upper) list start es now b x = says
            (quiet upper) list start es now x.before x.entry x.calls b x.going x.own x.split x.effect.effect x.legal.0
        go reads.Ended list start es now b x = says ended list start es now x.before x.entry x.calls b x.going x.own x.split x.effect.effect x.legal.0
        go (reads.Expired version) list start es now b x = stands_still list start es now x.before x.entry x.calls version b x.going x.own x.split x.effect.effect x.legal.0
        go (reads.Opened member version since) list start es now b x = absurd x.legal.0
        go (reads.MembersFull version) list start es now b x = absurd x.legal.0
        go (reads.Rows rows) list start es now b x = absurd x.legal.0
        go (reads.Late upper) list start es now b x = absurd x.legal.0
        go (reads.Advanced version) list start es now b x = absurd x.legal.0
        go (reads.Back since) list start es now b x = absurd x.legal.0
        go (reads.Renewed version) list start es now b x = absurd x.legal.0
        go (reads.Closed version) list start es now b x = absurd x.legal.0

    -- ---- what was settled while it reads

    -- nothing was committed
    settles : (list : List Update) (start : Stored) (es now before : List Entry) (e : Entry) (calls : ℕ) → Between shard list start es now →
        Going shard client start es before calls → e.client ≡ client → now ≡ e ∷ before → CommitsNone (reply (replay_back start before) e) →
        StillSettled shard number list start es now
    settles list start es now before e calls b g own split none = λ view v.
        quiet_settled shard list start client es now (calls + 1) (seen list start es now before e calls number view b g own split none v).0

    pub snapshots_settle : (t : ℕ) (answer : ReadAnswer) → Goes shard a d
        (Answered read.machine client (reading shard number listen tried (asks.Snapshot t)) answer) → Goes shard a d (StillSettled shard number)
    snapshots_settle t answer went =
        going_so shard a d (Read answer) (StillSettled shard number) went (λ list start es now b x. go answer list start es now b x)
      where
        Read : ReadAnswer → List Update → Stored → List Entry → List Entry → Type 0
        Read answer list start es now = Answered read.machine client (reading shard number listen tried (asks.Snapshot t)) answer list start es now

        go : (answer : ReadAnswer) (list : List Update) (start : Stored) (es now : List Entry) → Between shard list start es now →
            Read answer list start es now → StillSettled shard number list start es now
        go (reads.Rows rows) list start es now b x = settles list start es now x.before x.entry x.calls b x.going x.own x.split x.effect.effect
        go (reads.Early since) list start es now b x = settles list start es now x.before x.entry x.calls b x.going x.own x.split x.effect.effect
        go (reads.Late upper) list start es now b x = settles list start es now x.before x.entry x.calls b x.going x.own x.split x.effect.effect
        go (reads.Expired version) list start es now b x = settles list start es now x.before x.entry x.calls b x.going x.own x.split x.effect.effect
        go (reads.Step from to rows) list start es now b x = absurd x.legal.0
        go (reads.Quiet upper) list start es now b x = absurd x.legal.0
        go reads.Ended list start es now b x = absurd x.legal.0
        go (reads.Opened member version since) list start es now b x = absurd x.legal.0
        go (reads.MembersFull version) list start es now b x = absurd x.legal.0
        go (reads.Advanced version) list start es now b x = absurd x.legal.0
        go (reads.Back since) list start es now b x = absurd x.legal.0
        go (reads.Renewed version) list start es now b x = absurd x.legal.0
        go (reads.Closed version) list start es now b x = absurd x.legal.0

    pub listens_settle : (t : ℕ) (answer : ReadAnswer) → Goes shard a d
        (Answered read.machine client (reading shard number listen tried (asks.Listen t)) answer) → Goes shard a d (StillSettled shard number)
    listens_settle t answer went =
        going_so shard a d (Read answer) (StillSettled shard number) went (λ list start es now b x. go answer list start es now b x)
      where
        Read : ReadAnswer → List Update → Stored → List Entry → List Entry → Type 0
        Read answer list start es now = Answered read.machine client (reading shard number listen tried (asks.Listen t)) answer list start es now

        go : (answer : ReadAnswer) (list : List Update) (start : Stored) (es now : List Entry) → Between shard list start es now →
            Read answer list start es now → StillSettled shard number list start es now
        go (reads.Rows rows) list start es now b x = absurd x.legal.0
        go (reads.Early since) list start es now b x = settles list start es now x.before x.entry x.calls b x.going x.own x.split x.effect.effect
        go (reads.Late upper) list start es now b x = absurd x.legal.0
        go (reads.Expired version) list start es now b x = settles list start es now x.before x.entry x.calls b x.going x.own x.split x.effect.effect
        go (reads.Step from to rows) list start es now b x = settles list start es now x.before x.entry x.calls b x.going x.own x.split x.effect.effect
        go (reads.Quiet upper) list start es now b x = settles list start es now x.before x.entry x.calls b x.going x.own x.split x.effect.effect
        go reads.Ended list start es now b x = settles list start es now x.before x.entry x.calls b x.going x.own x.split x.effect.effect
        go (reads.Opened member version since) list start es now b x = absurd x.legal.0
        go (reads.MembersFull version) list start es now b x = absurd x.legal.0
        go (reads.Advanced version) list start es now b x = absurd x.legal.0
        go (reads.Back since) list start es now b x = absurd x.legal.0
        go (reads.Renewed version) list start es now b x = absurd x.legal.0
        go (reads.Closed version) list start es now b x = absurd x.legal.0

    -- ---- a new since

    pub advancing : (to : ℕ) (answer : ReadAnswer) → Goes shard a d
        (Answered read.machine client (reading shard number listen (Advance number to) (asks.Advance to)) answer) →
        Goes shard a d (Replies shard number (λ view. since_reply view.own to) (λ view. view_since view to) (read_reply answer))
    advancing to answer went =
        going_so shard a d (Read answer) (Replies shard number (λ view. since_reply view.own to) (λ view. view_since view to)
        (read_reply answer)) went
        (λ list start es now b x. go answer list start es now b x)
      where
        Read : ReadAnswer → List Update → Stored → List Entry → List Entry → Type 0
        Read answer list start es now = Answered read.machine client (reading shard number listen (Advance number to)
            (asks.Advance to)) answer list start es now

        taken : (view : View) → view.own ≤ to → replies.Accepted ≡ since_reply view.own to
        taken view le = let test : nat_le view.own to ≡ true = grind (arith, nat_tests) in rw test refl

        refused : (view : View) (since : ℕ) → to < since → since ≡ view.own →
            (replies.Back since ≡ since_reply view.own to) × (view ≡ view_since view to)
        refused view since below is = let test : nat_le view.own to ≡ false = grind (arith, nat_tests) in
            (rw test (ap replies.Back is), rw test refl)

        go : (answer : ReadAnswer) (list : List Update) (start : Stored) (es now : List Entry) → Between shard list start es now →
            Read answer list start es now →
            Replies shard number (λ view. since_reply view.own to) (λ view. view_since view to) (read_reply answer) list start es now
        go (reads.Advanced version) list start es now b x = λ view v.
            let q = (unmoved shard client list start es now x.before x.entry x.calls b x.split x.going).quiet v.number v.state v.last in
            let at = quiet_view shard list start client es x.before x.calls number view q v in
            let (le, there) = advances_since shard list start b.stands x.entry x.before
            (lawful_last shard list start es now x.before x.entry b x.split) number to view at x.effect.effect in
            (taken view le, subst (λ (fs : List Entry). ViewAt shard list start fs number (view_since view to)) (sym x.split) there)
        go (reads.Back since) list start es now b x = λ view v.
            let (q, kept) = seen list start es now x.before x.entry x.calls number view b x.going x.own x.split x.effect.effect v in
            let is = scan_since shard list start client es now (x.calls + 1) number view q v since x.legal.0.0 in
            let (same, stays) = refused view since x.legal.0.1 is in
            (same, subst (λ (z : View). ViewAt shard list start now number z) stays kept)
        go (reads.Expired version) list start es now b x = stands_still list start es now x.before x.entry x.calls version b x.going x.own x.split x.effect.effect x.legal.0
        go (reads.Opened member version since) list start es now b x = absurd x.legal.0
        go (reads.MembersFull version) list start es now b x = absurd x.legal.0
        go (reads.Rows rows) list start es now b x = absurd x.legal.0
        go (reads.Early since) list start es now b x = absurd x.legal.0
        go (reads.Late upper) list start es now b x = absurd x.legal.0
        go (reads.Step from upper rows) list start es now b x = absurd x.legal.0
        go (reads.Quiet upper) list start es now b x = absurd x.legal.0
        go reads.Ended list start es now b x = absurd x.legal.0
        go (reads.Renewed version) list start es now b x = absurd x.legal.0
        go (reads.Closed version) list start es now b x = absurd x.legal.0

    -- ---- the reader leaves

    pub leaves_reader : (answer : ReadAnswer) → Goes shard a d
        (Answered read.machine client (reading shard number listen (Leave number) asks.CloseReader) answer) →
        Goes shard a d (Closed shard (Ok tt))
    leaves_reader answer went =
        going_so shard a d (Read answer) (Closed shard (Ok tt)) went (λ list start es now b x. go answer list start es now b x)
      where
        Read : ReadAnswer → List Update → Stored → List Entry → List Entry → Type 0
        Read answer list start es now = Answered read.machine client (reading shard number listen
            (Leave number) asks.CloseReader) answer list start es now

        go : (answer : ReadAnswer) (list : List Update) (start : Stored) (es now : List Entry) → Between shard list start es now →
            Read answer list start es now → Closed shard (Ok tt) list start es now
        go (reads.Closed version) list start es now b x =
            leave_closes shard client list start es now x.before x.entry x.calls b x.going x.split number x.effect.effect
        go (reads.Opened member version since) list start es now b x = absurd x.legal.0
        go (reads.MembersFull version) list start es now b x = absurd x.legal.0
        go (reads.Rows rows) list start es now b x = absurd x.legal.0
        go (reads.Early since) list start es now b x = absurd x.legal.0
        go (reads.Late upper) list start es now b x = absurd x.legal.0
        go (reads.Step from to rows) list start es now b x = absurd x.legal.0
        go (reads.Quiet upper) list start es now b x = absurd x.legal.0
        go reads.Ended list start es now b x = absurd x.legal.0
        go (reads.Advanced version) list start es now b x = absurd x.legal.0
        go (reads.Back since) list start es now b x = absurd x.legal.0
        go (reads.Renewed version) list start es now b x = absurd x.legal.0
        go (reads.Expired version) list start es now b x = absurd x.legal.0
