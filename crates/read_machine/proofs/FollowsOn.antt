-- A reading follows from its client's own entries also after one more. Entries go newest first.
use Rattle.std.proofs.Common.{◌≡◌, ℕ, ◌+◌, min, Option, Some, None, Ok, List, [], ◌∷◌, ◌++◌, take, inl, inr, refl, sym, ap, subst}
use Rattle.std.proofs.Common.{◌∙◌, arith}
use Rattle.std.specs.Prelude.{IfSome, IsSomeAnd}
use Rattle.std.specs.Option.{option_map}
use Rattle.update_core.specs.declared.updates.Update.{Update}
use Rattle.store_core.specs.declared.shards.ShardId.{ShardId}
use Rattle.store_core.specs.declared.part_keys.PartKey.{PartKey}
use Rattle.store_core.specs.declared.versions.Version.{Version}
use Rattle.store_core.specs.declared.calls.Call.TheVariants as calls
use Rattle.store_core.specs.declared.replies.Reply.{Reply}
use Rattle.store_core.specs.declared.replies.Reply.TheVariants as replies
use Rattle.store_core.specs.declared.entries.Entry.{Entry}
use Rattle.store_core.specs.Stores.{Stored}
use Rattle.store_core.specs.Histories.{reply}
use Rattle.store_core.specs.Ports.{Answered, OfOthers, answered}
use Rattle.store_core.specs.Newest.{mine_back, replay_back}
use Rattle.state_core.specs.States.{ShardState}
use Rattle.update_core.specs.Limits.{most}
use Rattle.history_core.specs.Discipline.{LawfulBack, ShowsState}
use Rattle.history_core.specs.Laws.{LastIs}
use Rattle.history_core.specs.Members.{JoinedAs}
use Rattle.history_core.specs.Placing.{IsAnsweredScan, placed}
use Rattle.history_core.specs.Stands.{StandsFor}
use Rattle.history_core.proofs.Entries.{lawful_older}
use Rattle.history_core.proofs.Gaining.{mine_gained, mine_others}
use Rattle.load_core.specs.declared.damages.Damage.TheVariants as damages
use Rattle.load_core.specs.declared.fetches.Fetched.{Fetched}
use Rattle.load_core.specs.declared.fetches.Fetched.TheVariants as fetches
use Rattle.load_core.specs.declared.gettings.Getting.{Getting}
use Rattle.load_core.specs.declared.polls.Poll.{Poll}
use Rattle.load_core.specs.declared.polls.Poll.TheVariants as polls
use Rattle.load_core.specs.Following.{FollowsLoading}
use Rattle.load_core.specs.Getting as getting
use Rattle.load_core.specs.Loading.{Loading, newest_after, scan_from, scan_of}
use Rattle.load_core.specs.PartsFollowing.{BringsBytes}
use Rattle.load_core.proofs.Following.{newest_shows, shows_on}
use Rattle.load_core.proofs.GettingFollows.{got_later, still_got}
use Rattle.load_core.proofs.Scanned.{newest_last, scan_answer}
use Rattle.read_machine.specs.declared.courses.Course.{Course}
use Rattle.read_machine.specs.declared.sights.Sight.{Sight}
use Rattle.read_machine.specs.declared.sights.Sight.TheVariants as sights
use Rattle.read_machine.specs.declared.stages.Stage.{Stage}
use Rattle.read_machine.specs.declared.stages.Stage.TheVariants as stages
use Rattle.read_machine.specs.Courses.{GoesBy, MovesByFetched, counted, holding, missing_poll, read_call, rows_poll, sight_of}
use Rattle.read_machine.specs.Courses.{sight_poll, staged}
use Rattle.read_machine.specs.Following.{FollowsAsked, FollowsStage, IsRead, SinceGot, SinceMissing}
use Rattle.read_machine.specs.Questions.{IsQuestion, Questions}
use Rattle.read_machine.specs.Readings.{IsGetting, SoundBy}
use Rattle.read_machine.proofs.HowRead.{IsScanStage, HowGot, gains, fails, misses, spoilt, heavy, HowRead, unscanned, damaged}
use Rattle.read_machine.proofs.HowRead.{scanned, checked, got}
use Rattle.read_machine.proofs.Parts.{Asks, scans, gets, asks_call, names_key}
use Rattle.read_machine.proofs.Since.{got_more, missing_more, missing_now, since_rules}
use Rattle.read_machine.proofs.Sound.{Ends, HowSight, gone, strange as shown_strange, answers, empty, parts, at_stage, how_sight}
use Rattle.read_machine.proofs.Sound.{missing_ends, rows_ends}
use Rattle.read_machine.proofs.Stretch.{behind_scan, get_shows, part_there}
use Rattle.read_machine.proofs.Undamaged.{part_reads}

get_no_scan : (key : PartKey) (shard : ShardId) (from : ℕ) → calls.Get key ≡ calls.Scan shard from → ⊥
get_no_scan key shard from h = cc

staged_loader : {A : Type 0} (c : Course) (sight : Sight A) → (staged c sight).loader ≡ c.loader
staged_loader c sights.Gone = refl
staged_loader c sights.Strange = refl
staged_loader c (sights.Answer a) = refl
staged_loader c (sights.Parts ks) = refl

module _ {Q A : Type 0} (W : Questions Q A) (L : IsQuestion W) (start : Stored) (list : List Update) (client : ℕ) (c : Course)
    (q : Q) (e : Entry)
    (others es : List Entry) (s : SoundBy W c q) (call_is : read_call c c.stage ≡ Some e.call) (own : e.client ≡ client)
    (of : OfOthers client others) (st : StandsFor start c.loader.shard list) (lawful : LawfulBack start (e ∷ (others ++ es)))
    (shown : FollowsLoading c.loader (mine_back start es client)) (f : FollowsAsked W.kind client c start es) where
  -- the reply at its place
  abbrev here : Reply
  here = reply (replay_back start (others ++ es)) e

  abbrev was : List Answered
  was = mine_back start es client

  abbrev now : List Entry
  now = e ∷ (others ++ es)

  older : LawfulBack start (others ++ es)
  older = lawful_older start e (others ++ es) lawful

  -- with what holds of a longer list of own entries
  of_mine : (P : List Answered → Type 0) → P (answered e here ∷ was) → P (mine_back start now client)
  of_mine P p = subst P (sym (mine_gained start client e others es own of)) p

  joined_stays : JoinedAs W.kind (mine_back start now client) c.loader.shard c.member
  joined_stays = of_mine (λ os. JoinedAs W.kind os c.loader.shard c.member) (inr f.member)

  asks : Asks c e.call
  asks = asks_call c e.call call_is

  pub read : IsRead e.call
  read = by asks
    where
      by : Asks c e.call → IsRead e.call
      by (scans stage is) = subst IsRead (sym is) tt
      by (gets key stage at is) = subst IsRead (sym is) tt

  -- a Scan comes at these stages, and else the Get of the next part
  pub scan_is : IsScanStage c.stage → e.call ≡ scan_of c.loader
  scan_is h = by asks
    where
      by : Asks c e.call → e.call ≡ scan_of c.loader
      by (scans stage is) = is
      by (gets key stage at is) = absurd (subst IsScanStage stage h)

  pub get_is : c.stage ≡ stages.Get → (key : PartKey) × (getting.key_of c.getting ≡ Some key) × (e.call ≡ calls.Get key)
  get_is h = by asks
    where
      by : Asks c e.call → (key : PartKey) × (getting.key_of c.getting ≡ Some key) × (e.call ≡ calls.Get key)
      by (scans stage is) = absurd (subst IsScanStage h stage)
      by (gets key stage at is) = (key, at, is)

  -- a Get is no Scan
  no_scan : (key : PartKey) → e.call ≡ calls.Get key → ¬ IsAnsweredScan c.loader.shard (placed e [])
  no_scan key is h = let bad : calls.Get key ≡ calls.Scan c.loader.shard h.0.0 = sym is
      ∙ h.0.1 in get_no_scan key c.loader.shard h.0.0 bad

  pub staged_is : (stage : Stage) → c.stage ≡ stage → FollowsStage W.kind client c start es stage
  staged_is stage is = subst (FollowsStage W.kind client c start es) is f.reading

  -- ---- the newest state

  scan_shows : (vs : List Version) (k : ShardState) → IsScanStage c.stage → here ≡ replies.Versions vs →
      newest_after c.loader.shard c.loader.cached vs ≡ Ok (Some k) → ShowsState (answered e here ∷ was) c.loader.shard k.number k
  scan_shows vs k stage r newest = newest_shows c.loader (answered e here) was (scan_from c.loader.cached) vs k
      (scan_is stage) r shown newest

  -- after a Scan it is the last version's
  pub scan_last : (vs : List Version) (k : ShardState) → IsScanStage c.stage → here ≡ replies.Versions vs →
      newest_after c.loader.shard c.loader.cached vs ≡ Ok (Some k) →
      LastIs (replay_back start (others ++ es)) c.loader.shard k.number k
  scan_last vs k stage r newest = newest_last start list (others ++ es) older c.loader st e vs (scan_is stage) (sym r) client
      (subst (FollowsLoading c.loader) (sym (mine_others start client others es of)) shown) k newest

  pub scan_done : (vs : List Version) → IsScanStage c.stage → here ≡ replies.Versions vs →
      IsAnsweredScan c.loader.shard (placed e (others ++ es))
  scan_done vs stage r = (
    (scan_from c.loader.cached, scan_is stage),
    (scan_answer (replay_back start (others ++ es)) e c.loader.shard (scan_from c.loader.cached) vs (scan_is stage) (sym r)).0,
  )

  loads : (l : Loading) → IfSome l.cached (λ k. ShowsState (answered e here ∷ was) l.shard k.number k) →
      FollowsLoading l (mine_back start now client)
  loads l h = of_mine (λ os. FollowsLoading l os) h

  pub shown_still : FollowsLoading c.loader (mine_back start now client)
  shown_still = loads c.loader (shows_on (answered e here) was c.loader.shard c.loader.cached shown)

  held_shown : (k : ShardState) → ShowsState (answered e here ∷ was) c.loader.shard k.number k →
      FollowsLoading (holding c k).loader (mine_back start now client)
  held_shown k h = loads (holding c k).loader h

  -- ---- what is asked

  -- as it is, with one more call
  still_staged : (stage : Stage) → c.stage ≡ stage → FollowsStage W.kind client (counted c) start now stage
  still_staged stages.Scan is = tt
  still_staged stages.Get is = on c.loader.cached (staged_is stages.Get is)
    where
      on : (o : Option ShardState) → IsSomeAnd o (SinceGot W.kind client c start es) →
          IsSomeAnd o (SinceGot W.kind client (counted c) start now)
      on None h = absurd h
      on (Some k) h =
          let (key, at, call) = get_is is in
          got_more W.kind start client e others es own of c (counted c) k refl refl refl read (no_scan key call) h
          (got_later (mine_back (replay_back start (h.since.scan ∷ h.since.before)) h.since.later client) (answered e here)
          (take c.getting.place c.getting.keys) c.getting.rows h.got)
  still_staged (stages.Check key) is = on c.loader.cached (staged_is (stages.Check key) is)
    where
      on : (o : Option ShardState) → IsSomeAnd o (SinceMissing W.kind client c start es key) →
          IsSomeAnd o (SinceMissing W.kind client (counted c) start now key)
      on None h = absurd h
      on (Some k) h = missing_more W.kind start client e others es own of c (counted c) k key refl refl read h

  pub counted_on : FollowsAsked W.kind client (counted c) start now
  counted_on = record { member = joined_stays; reading = still_staged c.stage refl }

  -- bytes that are got are those of a part
  pub brings : (o : Option ShardState) (key : PartKey) (b : List ℕ) → IsSomeAnd o (SinceGot W.kind client c start es) →
      IsSomeAnd o (IsGetting W c q) →
      getting.key_of c.getting ≡ Some key → e.call ≡ calls.Get key → here ≡ replies.Bytes (Some b) → BringsBytes here
  brings None key b h g at call r = absurd h
  brings (Some k) key b h g at call r =
      let shows = get_shows (replay_back start (others ++ es)) e key (Some b) call r in
      let split : others ++ es ≡ (others ++ (h.since.later ++ (h.since.scan ∷ []))) ++ h.since.before =
      ap (λ (x : List Entry). others ++ x) h.since.split ∙ behind_scan others h.since.later h.since.scan h.since.before in
      let found = part_there start c.loader.shard list st k k.number (others ++ (h.since.later ++
      (h.since.scan ∷ []))) h.since.before
      (subst (LawfulBack start) split older) h.since.last key b (names_key W L c q k key (since_rules W.kind client c start es k h.since) g at)
      (subst (λ (x : List Entry). (replay_back start x).blobs key ≡ Some b) split shows) in
      subst BringsBytes (sym r) (part_reads b found.1.0 found.1.1).bytes

  -- with one more part, or none
  pub parts_on : (o : Option ShardState) (key : PartKey) (g : Getting) (fetched : Fetched) →
      IsSomeAnd o (SinceGot W.kind client c start es) →
      getting.key_of c.getting ≡ Some key → e.call ≡ calls.Get key → BringsBytes here → getting.Moves c.getting here g fetched →
      IsSomeAnd o (SinceGot W.kind client (record (counted c) { getting = g }) start now)
  parts_on None key g fetched h at call bytes moves = absurd h
  parts_on (Some k) key g fetched h at call bytes moves =
      got_more W.kind start client e others es own of c (record (counted c) { getting = g }) k refl refl refl read
      (no_scan key call) h
      (still_got (mine_back (replay_back start (h.since.scan ∷ h.since.before)) h.since.later client) c.getting g
      (answered e here) fetched h.got
      (ap (option_map (λ (x : PartKey). calls.Get x)) at ∙ ap Some (sym call)) bytes moves)

  missing_on : (o : Option ShardState) (key : PartKey) (g : Getting) → IsSomeAnd o (SinceGot W.kind client c start es) →
      (replay_back start (others ++ es)).blobs key ≡ None →
      IsSomeAnd o (SinceMissing W.kind client (record (counted c) { getting = g; stage = stages.Check key }) start now key)
  missing_on None key g h none = absurd h
  missing_on (Some k) key g h none = missing_now W.kind start client e others es own of c
      (record (counted c) { getting = g; stage = stages.Check key }) k key refl refl read none h

  -- ---- after a reply

  abbrev pub Goes : Course → Poll A → Type 0
  Goes new poll = FollowsLoading new.loader (mine_back start now client) × (¬ Ends poll →
      FollowsAsked W.kind client new start now)

  module _ (new : Course) (poll : Poll A) where
    -- it has ended
    over : (l : Loading) (p : Poll A) → new.loader ≡ l → FollowsLoading l (mine_back start now client) → Ends p → poll ≡ p →
        Goes new poll
    over l p is h ends e = (
      subst (λ (x : Loading). FollowsLoading x (mine_back start now client)) (sym is) h,
      λ goes. absurd (goes (subst Ends (sym e) ends)),
    )

    -- it goes on
    on : (z : Course) → new ≡ z → FollowsLoading z.loader (mine_back start now client) → FollowsAsked W.kind client z start now →
        Goes new poll
    on z is h a = (
      subst (λ (x : Course). FollowsLoading x.loader (mine_back start now client)) (sym is) h,
      λ goes. subst (λ (x : Course). FollowsAsked W.kind client x start now) (sym is) a,
    )

    look_on : (k : ShardState) (sight : Sight A) → HowSight W q k c.member sight →
        LastIs (replay_back start (others ++ es)) c.loader.shard k.number k →
        IsAnsweredScan c.loader.shard (placed e (others ++ es)) →
        ShowsState (answered e here ∷ was) c.loader.shard k.number k → GoesBy W (holding (counted c) k) q sight new poll →
        Goes new poll
    look_on k sight how last scan shows (p, n) = go how
      where
        ends : (x : Sight A) → sight ≡ x → Ends (sight_poll W (holding (counted c) k) q x) → Goes new poll
        ends x is h = over (holding c k).loader (sight_poll W (holding (counted c) k) q x)
            (ap (λ (z : Course). z.loader) n ∙ staged_loader (holding (counted c) k) sight) (held_shown k shows) h
            (p ∙ ap (sight_poll W (holding (counted c) k) q) is)

        go : HowSight W q k c.member sight → Goes new poll
        go (gone none is) = ends sights.Gone is tt
        go (shown_strange m at kind is) = ends sights.Strange is tt
        go (answers m a at look is) = ends (sights.Answer a) is tt
        go (empty m at look is) = ends (sights.Answer (W.answer q k [])) is tt
        go (parts m key keys at look is) =
            let z : Course = record (holding (counted c) k) { stage = stages.Get; getting = getting.begun (key ∷ keys) } in
            on z (n ∙ ap (staged (holding (counted c) k)) is) (held_shown k shows)
            (record {
              member = joined_stays;
              reading = record {
                since = record {
                  later = [];
                  scan = e;
                  before = others ++ es;
                  split = refl;
                  own = own;
                  answered = scan;
                  last = last;
                  reads = tt;
                  member = joined_stays;
                };
                quiet = tt;
                count = λ lt. (let m : z.calls ≡ min (c.calls + 1) most = refl in omega arith);
                got = refl;
              };
            })

    get_on : (g : Getting) (fetched : Fetched) → c.stage ≡ stages.Get → getting.Moves c.getting here g fetched →
        HowGot c.getting here g fetched → MovesByFetched W (counted c) q g fetched new poll → Goes new poll
    get_on g fetched stage moves how by = go how
      where
        told : (x : Fetched) → fetched ≡ x → MovesByFetched W (counted c) q g x new poll
        told x h = subst (λ (y : Fetched). MovesByFetched W (counted c) q g y new poll) h by

        reading : IsSomeAnd c.loader.cached (IsGetting W c q)
        reading = at_stage W c q s stages.Get stage

        goes_on : BringsBytes here → new ≡ record (counted c) { getting = g } → Goes new poll
        goes_on bytes n =
            let (key, at, call) = get_is stage in
            let z : Course = record (counted c) { getting = g } in
            let staged_now : FollowsStage W.kind client z start now stages.Get =
            parts_on c.loader.cached key g fetched (staged_is stages.Get stage) at call bytes moves in
            on z n shown_still
            (record { member = joined_stays; reading = subst (FollowsStage W.kind client z start now) (sym stage) staged_now })

        ends : (p : Poll A) → Ends p → poll ≡ p → new ≡ record (counted c) { getting = g } → Goes new poll
        ends p h is n = over c.loader p (ap (λ (x : Course). x.loader) n) shown_still h is

        go : HowGot c.getting here g fetched → Goes new poll
        go (gains b part r read_is is (inl (x, left))) = let (key, at, call) = get_is stage in
            goes_on (brings c.loader.cached key b (staged_is stages.Get stage) reading at call r) (told fetches.More x).1
        go (gains b part r read_is is (inr (x, done))) = let m = told fetches.Done x in
            ends (rows_poll W (counted c) q g.rows) (rows_ends W (counted c) q g.rows) m.0 m.1
        go (fails r is x) = goes_on (subst BringsBytes (sym r) tt) (told fetches.Fault x).1
        go (misses key r at is x) =
            let z : Course = record (counted c) { getting = g; stage = stages.Check key } in
            let (key2, at2, call) = get_is stage in
            let same : key2 ≡ key = let h : Some key2 ≡ Some key = sym at2 ∙ at in cc in
            let none = get_shows (replay_back start (others ++ es)) e key None (call
            ∙ ap (λ (k : PartKey). calls.Get k) same) r in
            on z (told (fetches.Missing key) x).1 shown_still
            (record { member = joined_stays; reading = missing_on c.loader.cached key g (staged_is stages.Get stage) none })
        go (spoilt b key fault r read_is at is x) = let m = told (fetches.Damaged (damages.Part key fault)) x in
            ends (polls.Damaged (damages.Part key fault)) tt m.0 m.1
        go (heavy b part key r read_is at weight is x) = let m = told (fetches.Damaged (damages.Weight key)) x in
            ends (polls.Damaged (damages.Weight key)) tt m.0 m.1

    pub read_on : HowRead W (counted c) q here new poll → Goes new poll
    read_on (unscanned stage r p n) = on (counted c) n shown_still counted_on
    read_on (damaged vs damage stage r newest p n) = on (counted c) n shown_still counted_on
    read_on (scanned vs k stage r newest by) =
        let h : IsScanStage c.stage = subst IsScanStage (sym stage) tt in
        look_on k (sight_of W q k c.member) (how_sight W q k c.member) (scan_last vs k h r newest) (scan_done vs h r)
        (scan_shows vs k h r newest) by
    read_on (checked key vs k stage r newest p n) =
        let h : IsScanStage c.stage = subst IsScanStage (sym stage) tt in
        over (holding c k).loader (missing_poll W (holding (counted c) k) q key) (ap (λ (x : Course). x.loader) n)
        (held_shown k (scan_shows vs k h r newest)) (missing_ends W (holding (counted c) k) q key) p
    read_on (got g fetched stage moves how by) = get_on g fetched stage moves how by
