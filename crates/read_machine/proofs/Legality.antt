-- What a reading is answered is legal, and nothing that it reads is damaged. Entries go newest first.
use Rattle.std.proofs.Common.{◌≡◌, ℕ, ◌+◌, ◌<◌, ◌^◌, Bool, true, false, cond, Option, Some, None, Ok, Err, List, [], ◌∷◌, ◌++◌}
use Rattle.std.proofs.Common.{inl, inr, refl, sym, ap, subst, ◌∙◌, arith, take}
use Rattle.std.specs.Prelude.{⊤, IsSomeAnd, is_none}
use Rattle.std.specs.List.{slice_get}
use Rattle.std.proofs.lemmas.Bool.{eq-eqb}
use Rattle.update_core.specs.declared.updates.Update.{Update}
use Rattle.update_core.specs.Updates.{weight_of}
use Rattle.part_codec.specs.declared.part_faults.PartFault.{PartFault}
use Rattle.part_codec.specs.Reading.{all_of}
use Rattle.store_core.specs.declared.part_keys.PartKey.{PartKey}
use Rattle.store_core.specs.declared.calls.Call.{Call}
use Rattle.store_core.specs.declared.calls.Call.TheVariants as calls
use Rattle.store_core.specs.declared.entries.Entry.{Entry}
use Rattle.store_core.specs.declared.replies.Reply.{Reply}
use Rattle.store_core.specs.declared.replies.Reply.TheVariants as replies
use Rattle.store_core.specs.declared.versions.Version.{Version}
use Rattle.store_core.specs.Histories.{reply}
use Rattle.store_core.specs.Ports.{Answered, OfOthers, answered}
use Rattle.store_core.specs.Stores.{Stored}
use Rattle.store_core.specs.Newest.{mine_back, replay_back}
use Rattle.state_core.specs.declared.members.Member.{Member}
use Rattle.state_core.specs.Refusals.{member_of}
use Rattle.state_core.specs.States.{IsState, Names, ShardState, is_writer}
use Rattle.update_core.specs.Limits.{most}
use Rattle.state_core.proofs.ListLemmas.{each_map}
use Rattle.history_core.specs.Accepting.{is_cas}
use Rattle.history_core.specs.Discipline.{GotAs, Hold, IsGot, LawfulBack}
use Rattle.history_core.specs.Laws.{LastIs}
use Rattle.history_core.specs.Legal.{AtLast, HasMember}
use Rattle.history_core.specs.Members.{JoinedAs}
use Rattle.history_core.specs.Placing.{AtLastScan, IsAnsweredScan, Placed, placed, places}
use Rattle.history_core.specs.Readings.{rows_in}
use Rattle.history_core.specs.Stands.{StandsFor}
use Rattle.history_core.proofs.Entries.{lawful_older}
use Rattle.history_core.proofs.Gaining.{mine_others}
use Rattle.load_core.specs.declared.damages.Damage.{Damage}
use Rattle.load_core.specs.declared.damages.Damage.TheVariants as damages
use Rattle.load_core.specs.declared.fetches.Fetched.{Fetched}
use Rattle.load_core.specs.declared.fetches.Fetched.TheVariants as fetches
use Rattle.load_core.specs.declared.gettings.Getting.{Getting}
use Rattle.load_core.specs.declared.polls.Poll.{Poll}
use Rattle.load_core.specs.declared.polls.Poll.TheVariants as polls
use Rattle.load_core.specs.Following.{FollowsLoading}
use Rattle.load_core.specs.Getting as getting
use Rattle.load_core.specs.Loading.{newest_after, scan_of}
use Rattle.load_core.specs.PartsFollowing.{BringsBytes, IsGotSoFar}
use Rattle.load_core.specs.Trying.{more}
use Rattle.load_core.proofs.GettingFollows.{all_got, got_later, still_got}
use Rattle.load_core.proofs.Scanned.{undamaged}
use Rattle.change_core.specs.Changes.{is_gone}
use Rattle.change_core.proofs.Members.{found_kind, found_stands, kind_back, none_stands, places_now}
use Rattle.read_machine.specs.declared.courses.Course.{Course}
use Rattle.read_machine.specs.declared.looks.Look.TheVariants as looks
use Rattle.read_machine.specs.declared.sights.Sight.{Sight}
use Rattle.read_machine.specs.declared.sights.Sight.TheVariants as sights
use Rattle.read_machine.specs.declared.stages.Stage.{Stage}
use Rattle.read_machine.specs.declared.stages.Stage.TheVariants as stages
use Rattle.read_machine.specs.Courses.{MovesByFetched, counted, expired, holding, missing_poll, read_call, rows_by, rows_poll}
use Rattle.read_machine.specs.Courses.{sight_of, sight_poll}
use Rattle.read_machine.specs.Following.{FollowsAsked, FollowsStage, IsRead, SinceGot, SinceMissing}
use Rattle.read_machine.specs.Questions.{IsQuestion, NoScanOf, Questions, ShownAt, own_count}
use Rattle.read_machine.specs.Readings.{IsGetting, SoundBy}
use Rattle.read_machine.proofs.FollowsOn.{get_is, scan_done, scan_is, scan_last}
use Rattle.read_machine.proofs.HowRead.{HowGot, HowRead, IsScanStage, checked, damaged, fails, gains, got, heavy, misses, scanned}
use Rattle.read_machine.proofs.HowRead.{spoilt, unscanned}
use Rattle.read_machine.proofs.Parts.{names_key, some_parts, some_is}
use Rattle.read_machine.proofs.Places.{gone_back, joined_owns, next_count, read_no_cas}
use Rattle.read_machine.proofs.Since.{asked_others, since_rules}
use Rattle.read_machine.proofs.Sound.{HowSight, answers, at_stage, empty, gone, how_sight, parts, strange}
use Rattle.read_machine.proofs.Stretch.{replay_behind}
use Rattle.read_machine.proofs.Undamaged.{got_light, got_reads, last_then, part_reads}

-- what a poll comes to is legal at the end of these entries, after one call more
abbrev pub LegalAfter : {Q A : Type 0} → Questions Q A → ℕ → Course → Q → Stored → List Update → List Entry → Poll A → Type 0
LegalAfter W client c q start list es (polls.Done answer) =
    more c.calls < most → W.Legal q c.loader.shard c.member start (places client (more c.calls) es) list answer
LegalAfter W client c q start list es polls.Spent = ⊥
LegalAfter W client c q start list es (polls.Damaged damage) = ⊥
LegalAfter W client c q start list es _ = ⊤

module _ {Q A : Type 0} (W : Questions Q A) (L : IsQuestion W) (start : Stored) (list : List Update) (client : ℕ) (c : Course)
    (q : Q) (e : Entry)
    (others es : List Entry) (s : SoundBy W c q) (call_is : read_call c c.stage ≡ Some e.call) (own : e.client ≡ client)
    (of : OfOthers client others) (st : StandsFor start c.loader.shard list) (lawful : LawfulBack start (e ∷ (others ++ es)))
    (shown : FollowsLoading c.loader (mine_back start es client)) (f : FollowsAsked W.kind client c start es) where
  before : LawfulBack start (others ++ es)
  before = lawful_older start e (others ++ es) lawful

  abbrev calls_now : ℕ
  calls_now = more c.calls

  abbrev rep : Reply
  rep = reply (replay_back start (others ++ es)) e

  abbrev All : List Entry
  All = e ∷ (others ++ es)

  abbrev ps : List Placed
  ps = places client calls_now All

  abbrev LegalOf : Poll A → Type 0
  LegalOf poll = LegalAfter W client c q start list All poll

  told : (poll p : Poll A) → poll ≡ p → LegalOf p → LegalOf poll
  told poll p is h = subst LegalOf (sym is) h

  -- a member that is found asks this
  takes : (k : ShardState) → LastIs (replay_back start (others ++ es)) c.loader.shard k.number k → (m : Member) →
      member_of c.member k.members ≡ Some m → m.kind ≡ W.kind
  takes k last m found = found_kind c.member m W.kind k.members found
      (kind_back start (others ++ es) c.loader.shard list st before W.kind client c.member
      (subst (λ (os : List Answered). JoinedAs W.kind os c.loader.shard c.member) (sym
      (mine_others start client others es of)) f.member)
      k.number k last)

  -- ---- after a Scan

  module _ (vs : List Version) (stage : IsScanStage c.stage) (reply_is : rep ≡ replies.Versions vs) where
    scan_call : e.call ≡ scan_of c.loader
    scan_call = scan_is W L start list client c q e others es s call_is own of st lawful shown f stage

    done_scan : IsAnsweredScan c.loader.shard (placed e (others ++ es))
    done_scan = scan_done W L start list client c q e others es s call_is own of st lawful shown f vs stage reply_is

    newest_here : (k : ShardState) → newest_after c.loader.shard c.loader.cached vs ≡ Ok (Some k) →
        LastIs (replay_back start (others ++ es)) c.loader.shard k.number k
    newest_here k newest = scan_last W L start list client c q e others es s call_is own of st lawful shown f vs k stage reply_is
        newest

    -- no version is damaged
    never_bad : (damage : Damage) → newest_after c.loader.shard c.loader.cached vs ≡ Err damage → ⊥
    never_bad damage bad = undamaged start list (others ++ es) before c.loader st e vs scan_call (sym reply_is) damage bad

    -- a member that isn't there has expired
    expired_legal : (k : ShardState) → LastIs (replay_back start (others ++ es)) c.loader.shard k.number k →
        member_of c.member k.members ≡ None → LegalOf (polls.Done (W.expired q k.number))
    expired_legal k last none = λ less. L.gone q c.loader.shard c.member k.number start ps list
        (subst (AtLastScan c.loader.shard (AtLast start c.loader.shard (λ n s2. (n ≡ k.number) × (¬ HasMember c.member s2))))
        (sym (places_now client c.calls calls_now e others es refl less own of))
        (inl (done_scan, (k.number, k, last, (refl, none_stands c.member (λ m. ⊤) k.members none)))))

    shown_now : (k : ShardState) → LastIs (replay_back start (others ++ es)) c.loader.shard k.number k → (m : Member) →
        member_of c.member k.members ≡ Some m → calls_now < most →
        ShownAt client c.loader.shard c.member calls_now list start [] e (others ++ es) k
    shown_now k last m at less = record {
      own = own;
      answered = done_scan;
      last = last;
      stands = st;
      lawful = lawful;
      quiet = tt;
      few = let one = next_count c.calls calls_now refl less in omega arith;
      found = m;
      found_is = at;
    }

    look_legal : (k : ShardState) (sight : Sight A) (poll : Poll A) → HowSight W q k c.member sight →
        LastIs (replay_back start (others ++ es)) c.loader.shard k.number k →
        poll ≡ sight_poll W (holding (counted c) k) q sight → LegalOf poll
    look_legal k sight poll how last p = go how
      where
        say : (x : Sight A) → sight ≡ x → LegalOf (sight_poll W (holding (counted c) k) q x) → LegalOf poll
        say x is h = told poll (sight_poll W (holding (counted c) k) q x) (p ∙ ap (sight_poll W (holding (counted c) k) q) is) h

        go : HowSight W q k c.member sight → LegalOf poll
        go (gone none is) = say sights.Gone is (expired_legal k last none)
        go (strange m at kind is) = absurd (
            let so : W.takes m.kind ≡ true = ap W.takes (takes k last m at) ∙ L.kind_taken in
            let bad : true ≡ false = sym so ∙ kind in cc)
        go (answers m a at look is) = say (sights.Answer a) is (λ less.
            L.seen q client c.loader.shard c.member calls_now list start [] e (others ++ es) k a
            (shown_now k last m at less) look)
        go (empty m at look is) = say (sights.Answer (W.answer q k [])) is (λ less.
            L.got q client c.loader.shard c.member calls_now list start [] e (others ++ es) k [] []
            (shown_now k last m at less) look refl)
        go (parts m key keys at look is) = say (sights.Parts (key ∷ keys)) is tt

  -- ---- the parts that are read

  module _ (k : ShardState) (cached : c.loader.cached ≡ Some k) (w : SinceGot W.kind client c start (others ++ es) k)
      (reads : IsGetting W c q k)
      (stage : c.stage ≡ stages.Get) where
    -- the entries since the Scan with this one, the Scan, those before it, and the store then
    abbrev front : List Entry
    front = e ∷ w.since.later

    abbrev scan : Entry
    scan = w.since.scan

    abbrev back : List Entry
    back = w.since.before

    abbrev then : Stored
    then = replay_back start (scan ∷ back)

    split : All ≡ front ++ (scan ∷ back)
    split = ap (λ (x : List Entry). e ∷ x) w.since.split

    lawful_front : LawfulBack start (front ++ (scan ∷ back))
    lawful_front = subst (LawfulBack start) split lawful

    own_front : mine_back then front client ≡ answered e rep ∷ mine_back then w.since.later client
    own_front =
        let store_is : replay_back then w.since.later ≡ replay_back start (others ++ es) =
        sym (replay_behind start w.since.later (scan ∷ back)) ∙ ap (replay_back start) (sym w.since.split) in
        rw (eq-eqb e.client client own) (ap (λ (x : Stored). answered e
        (reply x e) ∷ mine_back then w.since.later client) store_is)

    -- the key that is asked for
    key : (x : PartKey) × (getting.key_of c.getting ≡ Some x) × (e.call ≡ calls.Get x)
    key = get_is W L start list client c q e others es s call_is own of st lawful shown f stage

    rules : IsState k
    rules = since_rules W.kind client c start (others ++ es) k w.since

    named : Names k key.0
    named = names_key W L c q k key.0 rules reads key.1

    -- bytes that come were got of that key since the Scan
    got_now : (b : List ℕ) → rep ≡ replies.Bytes (Some b) → GotAs (mine_back then front client) key.0 b
    got_now b is_b =
        let here : IsGot key.0 b (calls.Get key.0) (replies.Bytes (Some b)) = (refl, refl) in
        let this : IsGot key.0 b e.call rep =
        subst (IsGot key.0 b e.call) (sym is_b) (subst (λ (x : Call). IsGot key.0 b x (replies.Bytes (Some b)))
        (sym key.2) here) in
        subst (λ (os : List Answered). GotAs os key.0 b) (sym own_front) (inl this)

    -- bytes that come are a part
    read_now : (b : List ℕ) → rep ≡ replies.Bytes (Some b) → (part : List Update) × (rows_in b ≡ Some part)
    read_now b is_b = got_reads client start c.loader.shard list st front scan back lawful_front k w.since.answered w.since.last
        key.0 b named
        (got_now b is_b)

    never_spoilt : (b : List ℕ) (fault : PartFault) → rep ≡ replies.Bytes (Some b) → all_of b ≡ Err fault → ⊥
    never_spoilt b fault is_b bad =
        let (part, reads_as) = read_now b is_b in
        let good : all_of b ≡ Ok part = (part_reads b part reads_as).reads in
        let wrong : Ok part ≡ Err fault = sym good ∙ bad in cc

    held_front : Hold (GotAs (mine_back then front client)) (take c.getting.place c.getting.keys) c.getting.rows
    held_front = subst (λ (os : List Answered). Hold (GotAs os) (take c.getting.place c.getting.keys) c.getting.rows)
        (sym own_front)
        (got_later (mine_back then w.since.later client) (answered e rep)
        (take c.getting.place c.getting.keys) c.getting.rows w.got)

    -- and with those that came before it isn't too heavy
    never_heavy : (b : List ℕ) (part : List Update) → rep ≡ replies.Bytes (Some b) → all_of b ≡ Ok part →
        2 ^ 62 < weight_of (c.getting.rows ++ part) → ⊥
    never_heavy b part is_b reads_it weighs =
        let (found, reads_as) = read_now b is_b in
        let good : all_of b ≡ Ok found = (part_reads b found reads_as).reads in
        let same : Ok found ≡ Ok part = sym good ∙ reads_it in
        let one : found ≡ part = cc in
        let some = some_parts W L c q k rules reads in
        let held2 = subst (λ (ks : List PartKey). Hold (GotAs (mine_back then front client))
        (take c.getting.place ks) c.getting.rows)
        some.keys_are held_front in
        let at = subst (λ (ks : List PartKey). slice_get ks c.getting.place ≡ Some key.0) some.keys_are key.1 in
        let le = got_light client start c.loader.shard list st front scan back lawful_front k w.since.answered w.since.last
        some.test
        c.getting.place key.0 b c.getting.rows part held2 at (got_now b is_b)
        (subst (λ (us : List Update). rows_in b ≡ Some us) one reads_as) in
        absurd (omega arith)

    -- ---- the last part

    -- the Scan is the command's last one that was answered
    quiet_front : NoScanOf client c.loader.shard front
    quiet_front = (
      (λ mine it. let bad : calls.Get key.0 ≡ calls.Scan c.loader.shard it.0.0 = sym key.2 ∙ it.0.1 in cc),
      w.quiet,
    )

    few_front : calls_now < most → own_count client front < calls_now
    few_front less =
        let one = next_count c.calls calls_now refl less in
        let older = w.count (omega arith) in
        let count : own_count client front ≡ own_count client w.since.later + 1 = rw (eq-eqb e.client client own) refl in
        omega arith

    shown_then : calls_now < most → ShownAt client c.loader.shard c.member calls_now list start front scan back k
    shown_then less = record {
      own = w.since.own;
      answered = w.since.answered;
      last = w.since.last;
      stands = st;
      lawful = lawful_front;
      quiet = quiet_front;
      few = few_front less;
      found = reads.found;
      found_is = reads.found_is;
    }

    rows_legal : (g : Getting) → g.keys ≡ c.getting.keys → Hold (GotAs (mine_back then front client)) g.keys g.rows →
        LegalOf (rows_poll W (counted c) q g.rows)
    rows_legal g keys_are held =
        let rows_are : polls.Done (W.answer q k g.rows) ≡ rows_poll W (counted c) q g.rows =
        sym (ap (λ (o : Option ShardState). rows_by W o q g.rows) cached) in
        subst LegalOf rows_are
        (λ less. subst (λ (x : List Entry). W.Legal q c.loader.shard c.member start (places client calls_now x) list
        (W.answer q k g.rows))
        (sym split) (L.got q client c.loader.shard c.member calls_now list start front scan back k g.keys g.rows (shown_then less)
        (subst (λ (ks : List PartKey). W.look q k ≡ looks.Parts ks) (sym keys_are) reads.keys) held))

    -- what a Get comes to is legal
    get_legal : (new : Course) (poll : Poll A) (g : Getting) (fetched : Fetched) → getting.Moves c.getting rep g fetched →
        HowGot c.getting rep g fetched → MovesByFetched W (counted c) q g fetched new poll → LegalOf poll
    get_legal new poll g fetched moves how by = go how
      where
        say : (x : Fetched) → fetched ≡ x → MovesByFetched W (counted c) q g x new poll
        say x is = subst (λ (y : Fetched). MovesByFetched W (counted c) q g y new poll) is by

        go : HowGot c.getting rep g fetched → LegalOf poll
        go (fails is_r is_g is_f) = told poll polls.Fault (say fetches.Fault is_f).0 tt
        go (misses x is_r is_k is_g is_f) = told poll polls.More (say (fetches.Missing x) is_f).0 tt
        go (spoilt b x fault is_r reads_it is_k is_g is_f) = absurd (never_spoilt b fault is_r reads_it)
        go (heavy b part x is_r reads_it is_k weighs is_g is_f) = absurd (never_heavy b part is_r reads_it weighs)
        go (gains b part is_r reads_it is_g (inl (is_f, left))) = told poll polls.More (say fetches.More is_f).0 tt
        go (gains b part is_r reads_it is_g (inr (is_f, over))) =
            let (found, reads_as) = read_now b is_r in
            let bytes : BringsBytes rep = subst BringsBytes (sym is_r) (part_reads b found reads_as).bytes in
            let so_far : IsGotSoFar (answered e rep ∷ mine_back then w.since.later client) g =
            still_got (mine_back then w.since.later client) c.getting g (answered e rep) fetched w.got
            (subst (λ (x : Stage). read_call c x ≡ Some e.call) stage call_is) bytes moves in
            let held = all_got (answered e rep ∷ mine_back then w.since.later client) g so_far over in
            let held2 = subst (λ (os : List Answered). Hold (GotAs os) g.keys g.rows) (sym own_front) held in
            told poll (rows_poll W (counted c) q g.rows) (say fetches.Done is_f).0
            (rows_legal g (ap (λ (x : Getting). x.keys) is_g) held2)

  -- ---- the Scan after a missing part

  -- where a named part was missing the member stands no more
  never_stands : (k : ShardState) (x : PartKey) (w : SinceMissing W.kind client c start (others ++ es) x k) → Names k x →
      (k2 : ShardState) →
      LastIs (replay_back start (others ++ es)) c.loader.shard k2.number k2 → (m : Member) →
      member_of c.member k2.members ≡ Some m → ⊥
  never_stands k x w named k2 last m at =
      let lawful_there : LawfulBack start (w.since.later ++ (w.since.scan ∷ w.since.before)) = subst
      (LawfulBack start) w.since.split before in
      let last_there = subst (λ (z : List Entry). LastIs (replay_back start z) c.loader.shard k2.number k2) w.since.split last in
      let no_cas = each_map (λ y. y.client ≡ client → IsRead y.call) (λ y. y.client ≡ client →
      is_cas y.call ≡ false) w.since.later
      (λ y h mine. read_no_cas y.call (h mine)) w.since.reads in
      gone_back start (w.since.scan ∷ w.since.before) w.since.later c.loader.shard list st lawful_there k.number k
      (last_then client start c.loader.shard list st w.since.later w.since.scan w.since.before lawful_there k w.since.answered
      w.since.last)
      client c.member (joined_owns W.kind (mine_back start (w.since.scan ∷ w.since.before) client) c.loader.shard c.member
      w.since.member) no_cas
      w.rest w.mid w.parted x named w.missing k2.number k2 last_there
      (found_stands c.member m (λ y. is_writer y.kind ≡ false) k2.members at (ap is_writer (takes k2 last m at) ∙ L.leased))

  -- so that it has expired
  check_legal : (vs : List Version) (stage : IsScanStage c.stage) (reply_is : rep ≡ replies.Versions vs) (poll : Poll A)
      (k : ShardState)
      (x : PartKey) → SinceMissing W.kind client c start (others ++ es) x k → Names k x → (k2 : ShardState) →
      LastIs (replay_back start (others ++ es)) c.loader.shard k2.number k2 →
      poll ≡ missing_poll W (holding (counted c) k2) q x → LegalOf poll
  check_legal vs stage reply_is poll k x w named k2 last poll_is = go (member_of c.member k2.members) refl
    where
      go : (o : Option Member) → member_of c.member k2.members ≡ o → LegalOf poll
      go None none =
          let gone_now : is_gone c.member (Some k2) ≡ true = ap is_none none in
          told poll (polls.Done (W.expired q k2.number))
          (poll_is ∙ ap (λ (b : Bool). cond b (expired W (holding (counted c) k2) q) (polls.Damaged
          (damages.Missing x))) gone_now)
          (expired_legal vs stage reply_is k2 last none)
      go (Some m) at = absurd (never_stands k x w named k2 last m at)

  -- ---- any reply

  pub read_legal : (new : Course) (poll : Poll A) → HowRead W (counted c) q rep new poll → LegalOf poll
  read_legal new poll (unscanned stage is_r p n) = told poll polls.Fault p tt
  read_legal new poll (damaged vs damage stage is_r bad p n) = absurd (never_bad vs stage is_r damage bad)
  read_legal new poll (scanned vs k stage is_r newest goes) =
      let h : IsScanStage c.stage = subst IsScanStage (sym stage) tt in
      look_legal vs h is_r k (sight_of W q k c.member) poll (how_sight W q k c.member) (newest_here vs h is_r k newest) goes.0
  read_legal new poll (checked x vs k2 stage is_r newest p n) =
      let h : IsScanStage c.stage = subst IsScanStage (sym stage) tt in
      let later = asked_others W.kind start client others es of c f in
      let (k, cached, w) = some_is (SinceMissing W.kind client c start (others ++ es) x) c.loader.cached
      (subst (FollowsStage W.kind client c start (others ++ es)) stage later.reading) in
      let sounds = at_stage W c q s (stages.Check x) stage in
      let reads = subst (λ (o : Option ShardState). IsSomeAnd o (IsGetting W c q)) cached sounds.0 in
      check_legal vs h is_r poll k x w (names_key W L c q k x (since_rules W.kind client c start (others ++ es) k w.since) reads sounds.1) k2 (newest_here vs h is_r k2 newest) p
  read_legal new poll (got g fetched stage moves how by) =
      let later = asked_others W.kind start client others es of c f in
      let (k, cached, w) = some_is (SinceGot W.kind client c start (others ++ es)) c.loader.cached
      (subst (FollowsStage W.kind client c start (others ++ es)) stage later.reading) in
      let reads = subst (λ (o : Option ShardState). IsSomeAnd o (IsGetting W c q)) cached (at_stage W c q s stages.Get stage) in
      get_legal k cached w reads stage new poll g fetched moves how by
