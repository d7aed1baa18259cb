-- What a reading of the pair that is due comes to is legal for a compactor. Entries go newest first.
use Rattle.std.proofs.Common.{◌≡◌, ℕ, ◌+◌, ◌<◌, Bool, true, false, Option, Some, None, List, [], ◌∷◌, ◌++◌, refl}
use Rattle.std.proofs.Common.{sym, ap, subst, ◌∙◌, arith}
use Rattle.std.specs.Prelude.{⊤, IfSome, IsSomeAnd}
use Rattle.std.specs.List.{slice_get}
use Rattle.std.specs.Option.{option_map}
use Rattle.update_core.specs.declared.updates.Update.{Update}
use Rattle.spine_core.specs.declared.batches.Batch.{Batch}
use Rattle.spine_core.specs.Settled.{due_place, weights_of, with_next}
use Rattle.store_core.specs.declared.shards.ShardId.{ShardId}
use Rattle.store_core.specs.declared.part_keys.PartKey.{PartKey}
use Rattle.store_core.specs.declared.versions.Version.{Version}
use Rattle.store_core.specs.declared.replies.Reply.{Reply}
use Rattle.store_core.specs.declared.replies.Reply.TheVariants as replies
use Rattle.store_core.specs.declared.entries.Entry.{Entry}
use Rattle.store_core.specs.Histories.{reply}
use Rattle.store_core.specs.Stores.{Stored}
use Rattle.store_core.specs.Ports.{Answered, OfOthers}
use Rattle.store_core.specs.Newest.{replay_back}
use Rattle.state_core.specs.declared.kinds.Kind.TheVariants.{Keeper}
use Rattle.state_core.specs.declared.members.Member.{Member}
use Rattle.state_core.specs.Refusals.{member_of}
use Rattle.state_core.specs.States.{ShardState}
use Rattle.update_core.specs.Limits.{most}
use Rattle.history_core.specs.Discipline.{LawfulBack}
use Rattle.history_core.specs.Laws.{LastIs}
use Rattle.history_core.specs.Legal.{AtLast}
use Rattle.history_core.specs.Members.{JoinedAs}
use Rattle.history_core.specs.Placing.{IsAnsweredScan, placed, places}
use Rattle.history_core.specs.Stands.{StandsFor}
use Rattle.history_core.specs.Upkeep.{HasKeeper, NoneIsDue}
use Rattle.history_core.proofs.Entries.{lawful_older}
use Rattle.history_core.proofs.Gaining.{mine_others}
use Rattle.load_core.specs.declared.polls.Poll.{Poll}
use Rattle.load_core.specs.declared.polls.Poll.TheVariants as polls
use Rattle.load_core.specs.declared.damages.Damage.TheVariants as damages
use Rattle.load_core.specs.declared.fetches.Fetched.{Fetched}
use Rattle.load_core.specs.declared.fetches.Fetched.TheVariants as fetches
use Rattle.load_core.specs.declared.gettings.Getting.{Getting}
use Rattle.load_core.specs.Trying as trying
use Rattle.change_core.specs.Changes.{is_gone}
use Rattle.change_core.proofs.Members.{found_kind, found_stands, kind_back, scan_now}
use Rattle.read_machine.specs.declared.courses.Course.{Course}
use Rattle.read_machine.specs.declared.looks.Look.TheVariants as looks
use Rattle.read_machine.specs.declared.readings.Reading.{Reading}
use Rattle.read_machine.specs.declared.sights.Sight.{Sight}
use Rattle.read_machine.specs.declared.sights.Sight.TheVariants as sights
use Rattle.read_machine.specs.Courses.{MovesByFetched, counted, holding, missing_poll, rows_by, sight_of, sight_poll}
use Rattle.read_machine.specs.Following as reading
use Rattle.read_machine.specs.Readings as readings
use Rattle.read_machine.specs.declared.stages.Stage.TheVariants as stages
use Rattle.read_machine.proofs.FollowsOn.{scan_done, scan_last}
use Rattle.read_machine.proofs.HowRead.{HowRead, IsScanStage, checked, damaged, got, scanned, unscanned}
use Rattle.read_machine.proofs.Replied.{read_so, sound_by}
use Rattle.read_machine.proofs.Sound.{HowSight, answers, at_stage, empty, gone, how_sight, parts, strange}
use Rattle.merge_client.specs.declared.compactors.Compactor.{Compactor}
use Rattle.merge_client.specs.declared.dues.Due.{Due}
use Rattle.merge_client.specs.declared.founds.Found.{Found}
use Rattle.merge_client.specs.declared.founds.Found.TheVariants as founds
use Rattle.merge_client.specs.Finding.{finding, found_at, found_by, look_at, look_by, places_in}
use Rattle.merge_client.specs.Following.{Follows}
use Rattle.merge_client.specs.Merging.{IsReady, call_of, shard_of}
use Rattle.merge_client.proofs.Asking.{is_question}
use Rattle.merge_client.proofs.Finding.{inside, there}
use Rattle.merge_client.proofs.Reading.{lent, member_of_it, read_is}

-- a state that answers without parts has no pair that is due
none_due : (s : ShardState) (version : ℕ) → look_by s (places_in s) ≡ looks.Answer (founds.Nothing version) →
    (s.number ≡ version) × (due_place (weights_of s.batches) ≡ None)
none_due s version e = go (due_place (weights_of s.batches)) refl
  where
    go : (o : Option ℕ) → due_place (weights_of s.batches) ≡ o → (s.number ≡ version) × (due_place (weights_of s.batches) ≡ None)
    go None is =
        let none : places_in s ≡ None = ap (option_map with_next) is in
        let h : looks.Answer (founds.Nothing s.number) ≡ looks.Answer (founds.Nothing version) = sym (ap (look_by s) none) ∙ e in
        (cc, is)
    go (Some i) is =
        let at_both : places_in s ≡ Some (i, i + 1) = ap (option_map with_next) is in
        let far = there s i is in
        let (l, l_is) = inside s.batches i (omega (arith, far)) in
        let (r, r_is) = inside s.batches (i + 1) far in
        let bad : looks.Parts (l.parts ++ r.parts) ≡ looks.Answer (founds.Nothing version) =
        sym (ap (look_by s) at_both ∙ ap (λ (o : Option Batch). look_at s o (slice_get s.batches (i + 1))) l_is ∙ ap
        (look_at s (Some l)) r_is) ∙ e in
        absurd (cc)

-- where parts are named both batches are there
both_found : (s : ShardState) (keys : List PartKey) (rows : List Update) (version : ℕ) → look_by s (places_in s) ≡ looks.Parts keys →
    found_by s rows (places_in s) ≡ founds.Nothing version → ⊥
both_found s keys rows version e f = go (places_in s) e f
  where
    both : (l r : Option Batch) → look_at s l r ≡ looks.Parts keys → found_at s rows l r ≡ founds.Nothing version → ⊥
    both (Some l) (Some r) h k =
        let bad : founds.Due (record { left = l; right = r; since = s.since; rows = rows }) ≡ founds.Nothing version = k in cc
    both (Some l) None h k = let bad : looks.Answer (founds.Nothing s.number) ≡ looks.Parts keys = h in cc
    both None r h k = let bad : looks.Answer (founds.Nothing s.number) ≡ looks.Parts keys = h in cc

    go : (o : Option (ℕ × ℕ)) → look_by s o ≡ looks.Parts keys → found_by s rows o ≡ founds.Nothing version → ⊥
    go None h k = let bad : looks.Answer (founds.Nothing s.number) ≡ looks.Parts keys = h in cc
    go (Some i) h k = both (slice_get s.batches i.0) (slice_get s.batches i.1) h k

abbrev nothing_of : Poll Found → Option ℕ
nothing_of (polls.Done (founds.Nothing version)) = Some version
nothing_of _ = None

module _ (client : ℕ) (c : Compactor) (start : Stored) (list : List Update) (e : Entry) (others es : List Entry)
    (ready : IsReady c) (own : e.client ≡ client) (call_is : call_of c ≡ Some e.call) (of : OfOthers client others)
    (st : StandsFor start (shard_of c) list) (lawful : LawfulBack start (e ∷ (others ++ es))) (f : Follows client c start es)
    (q : Due) (some : c.reading.asked ≡ Some q) (version : ℕ) where
  abbrev here : Reply
  here = reply (replay_back start (others ++ es)) e

  abbrev now : List Entry
  now = e ∷ (others ++ es)

  abbrev k : Course
  k = c.reading.course

  abbrev Told : Type 0
  Told = trying.more k.calls < most → NoneIsDue start k.loader.shard k.member version (places client (trying.more k.calls) now)

  clash : (p : Poll Found) → polls.Done (founds.Nothing version) ≡ p → nothing_of p ≡ None → Told
  clash p is none = absurd (let bad : Some version ≡ None = ap nothing_of is ∙ none in cc)

  stands : StandsFor start k.loader.shard list
  stands = subst (λ (d : ShardId). StandsFor start d list)
      (sym (lent client c start list e others es ready own call_is of st lawful f q some).shard) st

  held : readings.Follows finding client c.reading start es
  held = (member_of_it client c start list e others es ready own call_is of st lawful f q some).follows.reading

  asked : reading.FollowsAsked Keeper client k start es
  asked = (let h = held.asked in subst (λ (o : Option Due). IfSome o (λ y. reading.FollowsAsked Keeper client k start es)) some h)

  older : LawfulBack start (others ++ es)
  older = lawful_older start e (others ++ es) lawful

  rule : readings.SoundBy finding k q
  rule = sound_by finding c.reading q some ready.sound.reading

  looked : (s : ShardState) (m : Member) (vs : List Version) → IsScanStage k.stage → here ≡ replies.Versions vs →
      LastIs (replay_back start (others ++ es)) k.loader.shard s.number s →
      IsAnsweredScan k.loader.shard (placed e (others ++ es)) → member_of k.member s.members ≡ Some m →
      look_by s (places_in s) ≡ looks.Answer (founds.Nothing version) → Told
  looked s m vs h r last scan found look lt =
      let due = none_due s version look in
      let keeper = found_kind k.member m Keeper s.members found (kind_back start (others ++ es) k.loader.shard list stands older Keeper
      client k.member (subst (λ (os : List Answered). JoinedAs Keeper os k.loader.shard k.member)
      (sym (mine_others start client others es of)) asked.member) s.number s last) in
      scan_now client k.calls (trying.more k.calls) e others es refl lt own of k.loader.shard
      (AtLast start k.loader.shard (λ n t. (n ≡ version) × HasKeeper k.member (λ m. ⊤) t × (due_place (weights_of t.batches) ≡ None)))
      scan (s.number, s, last, (due.0, found_stands k.member m (λ x. (x.kind ≡ Keeper) × ⊤) s.members found (keeper, tt), due.1))

  at_look : (s : ShardState) (sight : Sight Found) (vs : List Version) → HowSight finding q s k.member sight → IsScanStage k.stage →
      here ≡ replies.Versions vs → LastIs (replay_back start (others ++ es)) k.loader.shard s.number s →
      IsAnsweredScan k.loader.shard (placed e (others ++ es)) →
      polls.Done (founds.Nothing version) ≡ sight_poll finding (holding (counted k) s) q sight → Told
  at_look s sight vs how h r last scan p = go how
    where
      says : (x : Sight Found) → sight ≡ x → polls.Done (founds.Nothing version) ≡ sight_poll finding (holding (counted k) s) q x
      says x is = p ∙ ap (sight_poll finding (holding (counted k) s) q) is

      go : HowSight finding q s k.member sight → Told
      go (gone none is) = clash (polls.Done (founds.Gone s.number)) (says sights.Gone is) refl
      go (strange m at kind is) = clash (sight_poll finding (holding (counted k) s) q sights.Strange) (says sights.Strange is) refl
      go (answers m a at look is) =
          let same : founds.Nothing version ≡ a = (let two : polls.Done (founds.Nothing version) ≡ polls.Done a = says (sights.Answer a) is in cc) in
          looked s m vs h r last scan at (look ∙ ap looks.Answer (sym same))
      go (empty m at look is) = absurd (both_found s [] [] version look
          (sym (let two : polls.Done (founds.Nothing version) ≡ polls.Done (found_by s [] (places_in s)) =
          says (sights.Answer (found_by s [] (places_in s))) is in done_same two)))
        where
          done_same : {a b : Found} → polls.Done a ≡ polls.Done b → a ≡ b
          done_same h = cc
      go (parts m key keys at look is) = clash polls.More (says (sights.Parts (key ∷ keys)) is) refl

  at_check : (key : PartKey) (s : ShardState) (b : Bool) → is_gone k.member (Some s) ≡ b →
      polls.Done (founds.Nothing version) ≡ missing_poll finding (holding (counted k) s) q key → Told
  at_check key s true is p = clash (polls.Done (founds.Gone s.number)) (p ∙ rw is refl) refl
  at_check key s false is p = clash (polls.Damaged (damages.Missing key)) (p ∙ rw is refl) refl

  at_rows : (rows : List Update) (o : Option ShardState) → IsSomeAnd o (readings.IsGetting finding k q) →
      polls.Done (founds.Nothing version) ≡ rows_by finding o q rows → Told
  at_rows rows None h p = absurd h
  at_rows rows (Some s) h p = absurd (both_found s k.getting.keys rows version h.keys (sym (done_same p)))
    where
      done_same : {a b : Found} → polls.Done a ≡ polls.Done b → a ≡ b
      done_same h = cc

  at_get : (g : Getting) (x : Fetched) (new : Course) → k.stage ≡ stages.Get →
      MovesByFetched finding (counted k) q g x new (polls.Done (founds.Nothing version)) → Told
  at_get g fetches.More new stage m = clash polls.More m.0 refl
  at_get g fetches.Fault new stage m = clash polls.Fault m.0 refl
  at_get g (fetches.Missing key) new stage m = clash polls.More m.0 refl
  at_get g (fetches.Damaged damage) new stage m = clash (polls.Damaged damage) m.0 refl
  at_get g fetches.Done new stage m = at_rows g.rows k.loader.cached (at_stage finding k q rule stages.Get stage) m.0

  nothing_how : (new : Course) → HowRead finding (counted k) q here new (polls.Done (founds.Nothing version)) → Told
  nothing_how new (unscanned stage r p n) = clash polls.Fault p refl
  nothing_how new (damaged vs damage stage r bad p n) = clash (polls.Damaged damage) p refl
  nothing_how new (scanned vs s stage r newest by) =
      let h : IsScanStage k.stage = subst IsScanStage (sym stage) tt in
      let read = read_is client c start list e others es ready own call_is of st lawful f q some in
      at_look s (sight_of finding q s k.member) vs (how_sight finding q s k.member) h r
      (scan_last finding is_question start list client k q e others es rule read own of stands lawful held.shown asked vs s h r newest)
      (scan_done finding is_question start list client k q e others es rule read own of stands lawful held.shown asked vs h r) by.0
  nothing_how new (checked key vs s stage r newest p n) = at_check key s (is_gone k.member (Some s)) refl p
  nothing_how new (got g x stage moves how by) = at_get g x new stage by

  pub nothing_legal : (r : Reading Due) → readings.Moves finding c.reading here r (polls.Done (founds.Nothing version)) → Told
  nothing_legal r moves =
      let x = read_so finding c.reading r here (polls.Done (founds.Nothing version)) moves in
      nothing_how x.course x.how
