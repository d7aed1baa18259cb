-- A reading is sound after what a reply comes to.
use Rattle.std.proofs.Common.{◌≡◌, ℕ, Bool, true, false, Option, Some, None, List, [], ◌∷◌, inl, inr, refl, sym, ap, subst, ◌∙◌}
use Rattle.std.proofs.Common.{arith}
use Rattle.std.specs.Prelude.{⊤, IfSome, IsSomeAnd, if◌then◌else◌}
use Rattle.store_core.specs.declared.part_keys.PartKey.{PartKey}
use Rattle.store_core.specs.declared.replies.Reply.{Reply}
use Rattle.state_core.specs.declared.members.Member.{Member}
use Rattle.state_core.specs.Refusals.{member_of}
use Rattle.state_core.specs.States.{ShardState}
use Rattle.state_core.proofs.ListLemmas.{bool_cases}
use Rattle.load_core.specs.declared.damages.Damage.TheVariants as damages
use Rattle.load_core.specs.declared.fetches.Fetched.{Fetched}
use Rattle.load_core.specs.declared.fetches.Fetched.TheVariants as fetches
use Rattle.load_core.specs.declared.gettings.Getting.{Getting}
use Rattle.load_core.specs.declared.polls.Poll.{Poll}
use Rattle.load_core.specs.declared.polls.Poll.TheVariants as polls
use Rattle.load_core.specs.Getting as getting
use Rattle.change_core.specs.Changes.{is_gone}
use Rattle.read_machine.specs.declared.courses.Course.{Course}
use Rattle.read_machine.specs.declared.looks.Look.{Look}
use Rattle.read_machine.specs.declared.looks.Look.TheVariants as looks
use Rattle.read_machine.specs.declared.readings.Reading.{Reading}
use Rattle.read_machine.specs.declared.sights.Sight.{Sight}
use Rattle.read_machine.specs.declared.sights.Sight.TheVariants as sights
use Rattle.read_machine.specs.declared.stages.Stage.{Stage}
use Rattle.read_machine.specs.declared.stages.Stage.TheVariants as stages
use Rattle.read_machine.specs.Courses.{GoesBy, MovesByFetched, MovesByStage, counted, expired, holding, look_sight, member_sight}
use Rattle.read_machine.specs.Courses.{missing_poll, rows_by, rows_poll, sight_of, sight_poll, staged}
use Rattle.read_machine.specs.Questions.{Questions}
use Rattle.read_machine.specs.Readings.{IsGetting, IsReading, IsSound, SoundBy, asked_after}
use Rattle.read_machine.proofs.HowRead.{HowGot, gains, fails, misses, spoilt, heavy, HowRead, unscanned, damaged, scanned}
use Rattle.read_machine.proofs.HowRead.{checked, got, how_read}

-- the poll ends the command
abbrev pub Ends : {A : Type 0} → Poll A → Type 0
Ends polls.Busy = ⊥
Ends polls.More = ⊥
Ends polls.Fault = ⊥
Ends polls.Spent = ⊤
Ends (polls.Damaged damage) = ⊤
Ends (polls.Done answer) = ⊤

-- ---- what a state shows

module _ {Q A : Type 0} (W : Questions Q A) where
  -- The member is absent, or of another kind, or stands and is answered, or is told of parts, or there are none of them.
  pub data HowSight (q : Q) (s : ShardState) (member : ℕ) (sight : Sight A) : Type 0 where
    gone : member_of member s.members ≡ None → sight ≡ sights.Gone → HowSight q s member sight
    strange : (m : Member) → member_of member s.members ≡ Some m → W.takes m.kind ≡ false → sight ≡ sights.Strange →
        HowSight q s member sight
    answers : (m : Member) (a : A) → member_of member s.members ≡ Some m → W.look q s ≡ looks.Answer a → sight ≡ sights.Answer a →
        HowSight q s member sight
    empty : (m : Member) → member_of member s.members ≡ Some m → W.look q s ≡ looks.Parts [] →
        sight ≡ sights.Answer (W.answer q s []) →
        HowSight q s member sight
    parts : (m : Member) (k : PartKey) (ks : List PartKey) → member_of member s.members ≡ Some m →
        W.look q s ≡ looks.Parts (k ∷ ks) →
        sight ≡ sights.Parts (k ∷ ks) → HowSight q s member sight

  pub how_sight : (q : Q) (s : ShardState) (member : ℕ) → HowSight q s member (sight_of W q s member)
  how_sight q s member = go (member_of member s.members) refl
    where
      by : (m : Member) (l : Look A) → member_of member s.members ≡ Some m → W.look q s ≡ l →
          HowSight q s member (look_sight W q s l)
      by m (looks.Answer a) at e = answers m a at e refl
      by m (looks.Parts []) at e = empty m at e refl
      by m (looks.Parts (k ∷ ks)) at e = parts m k ks at e refl

      go : (o : Option Member) → member_of member s.members ≡ o → HowSight q s member (member_sight W o q s)
      go None at = gone at refl
      go (Some m) at = elim (bool_cases (W.takes m.kind)) [
        | inl e ↦ rw e (by m (W.look q s) at refl)
        | inr e ↦ strange m at e (rw e refl)
      ]

  either_ends : (b : Bool) (p r : Poll A) → Ends p → Ends r → Ends (if b then p else r)
  either_ends true p r h k = h
  either_ends false p r h k = k

  pub missing_ends : (c : Course) (q : Q) (key : PartKey) → Ends (missing_poll W c q key)
  missing_ends c q key = either_ends (is_gone c.member c.loader.cached) (expired W c q) (polls.Damaged
      (damages.Missing key)) tt tt

  pub rows_ends : (c : Course) (q : Q) (rows : _) → Ends (rows_poll W c q rows)
  rows_ends c q rows = go c.loader.cached
    where
      go : (o : Option ShardState) → Ends (rows_by W o q rows)
      go None = tt
      go (Some s) = tt

  -- ---- it is sound while it goes on

  -- the parts that are got stay the question's
  getting_as : (c : Course) (q : Q) (n : ℕ) (st : Stage) (g : Getting) (cached : Option ShardState) →
      IsSomeAnd cached (IsGetting W c q) →
      g.keys ≡ c.getting.keys → getting.IsOpen g → IsSomeAnd cached (IsGetting W
      (record c { calls = n; stage = st; getting = g }) q)
  getting_as c q n st g None h keys left = absurd h
  getting_as c q n st g (Some s) h keys left = record {
    found = h.found;
    found_is = h.found_is;
    keys = subst (λ (ks : List PartKey). W.look q s ≡ looks.Parts ks) (sym keys) h.keys;
    left = left;
  }

  getting_left : (c : Course) (q : Q) (cached : Option ShardState) → IsSomeAnd cached (IsGetting W c q) → getting.IsOpen c.getting
  getting_left c q None h = absurd h
  getting_left c q (Some s) h = h.left

  module _ (old : Course) (q : Q) (s : SoundBy W old q) where
    pub at_stage : (stage : Stage) → old.stage ≡ stage → IsReading W old stage q
    at_stage stage e = subst (λ (st : Stage). IsReading W old st q) e s.reading

    -- as it is, with one more call
    pub counted_sound : SoundBy W (counted old) q
    counted_sound = record { known = s.known; reading = by old.stage refl }
      where
        on : (c : Option ShardState) → IsSomeAnd c (IsGetting W old q) → IsSomeAnd c (IsGetting W (counted old) q)
        on None h = absurd h
        on (Some k) h = record { found = h.found; found_is = h.found_is; keys = h.keys; left = h.left }

        by : (stage : Stage) → old.stage ≡ stage → IsReading W (counted old) stage q
        by stages.Scan e = tt
        by stages.Get e = on old.loader.cached (at_stage stages.Get e)
        by (stages.Check key) e = let h = at_stage (stages.Check key) e in (on old.loader.cached h.0, h.1)

    module _ (reply : Reply) (new : Course) (poll : Poll A) (goes : ¬ Ends poll) where
      ended : (p : Poll A) → Ends p → poll ≡ p → SoundBy W new q
      ended p h e = absurd (goes (subst Ends (sym e) h))

      sight_sound : (k : ShardState) (sight : Sight A) → HowSight q k old.member sight →
          GoesBy W (holding (counted old) k) q sight new poll →
          SoundBy W new q
      sight_sound k sight how (p, n) = go how
        where
          ends : (x : Sight A) → sight ≡ x → Ends (sight_poll W (holding (counted old) k) q x) → SoundBy W new q
          ends x e h = ended (sight_poll W (holding (counted old) k) q x) h (p ∙ ap (sight_poll W (holding (counted old) k) q) e)

          go : HowSight q k old.member sight → SoundBy W new q
          go (gone none e) = ends sights.Gone e tt
          go (strange m at kind e) = ends sights.Strange e tt
          go (answers m a at look e) = ends (sights.Answer a) e tt
          go (empty m at look e) = ends (sights.Answer (W.answer q k [])) e tt
          go (parts m key ks at look e) =
              subst (λ (c : Course). SoundBy W c q) (sym (n ∙ ap (staged (holding (counted old) k)) e))
              (record { known = refl; reading = record { found = m; found_is = at; keys = look; left = omega arith } })

      got_sound : (g : Getting) (fetched : Fetched) → old.stage ≡ stages.Get → HowGot old.getting reply g fetched →
          MovesByFetched W (counted old) q g fetched new poll → SoundBy W new q
      got_sound g fetched stage how by = go how
        where
          told : (f : Fetched) → fetched ≡ f → MovesByFetched W (counted old) q g f new poll
          told f e = subst (λ (k : Fetched). MovesByFetched W (counted old) q g k new poll) e by

          reading : IsSomeAnd old.loader.cached (IsGetting W old q)
          reading = at_stage stages.Get stage

          left : getting.IsOpen old.getting
          left = getting_left old q old.loader.cached reading

          goes_on : new ≡ record (counted old) { getting = g } → g.keys ≡ old.getting.keys → getting.IsOpen g → SoundBy W new q
          goes_on e keys open_part =
              let z : Course = record (counted old) { getting = g } in
              let reads : IsReading W z stages.Get q =
              getting_as old q (counted old).calls old.stage g old.loader.cached reading keys open_part in
              subst (λ (c : Course). SoundBy W c q) (sym e)
              (record { known = s.known; reading = subst (λ (st : Stage). IsReading W z st q) (sym stage) reads })

          go : HowGot old.getting reply g fetched → SoundBy W new q
          go (gains b part r read is (inl (f, open_part))) = goes_on (told fetches.More f).1 (ap (λ
              (k : Getting). k.keys) is) open_part
          go (gains b part r read is (inr (f, done))) = ended (rows_poll W (counted old) q g.rows) (rows_ends
              (counted old) q g.rows)
              (told fetches.Done f).0
          go (fails r is f) = goes_on (told fetches.Fault f).1 (ap (λ (k : Getting). k.keys) is) (subst getting.IsOpen
              (sym is) left)
          go (misses key r at is f) =
              subst (λ (c : Course). SoundBy W c q) (sym (told (fetches.Missing key) f).1)
              (record {
                known = s.known;
                reading = (
                  getting_as old q (counted old).calls (stages.Check key) g old.loader.cached reading (ap (λ
                      (k : Getting). k.keys) is)
                      (subst getting.IsOpen (sym is) left),
                  ap getting.key_of is ∙ at,
                );
              })
          go (spoilt b key fault r read at is f) = ended (polls.Damaged (damages.Part key fault)) tt
              (told (fetches.Damaged (damages.Part key fault)) f).0
          go (heavy b part key r read at weight is f) = ended (polls.Damaged (damages.Weight key)) tt
              (told (fetches.Damaged (damages.Weight key)) f).0

      pub goes_sound : HowRead W (counted old) q reply new poll → SoundBy W new q
      goes_sound (unscanned st r p n) = subst (λ (c : Course). SoundBy W c q) (sym n) counted_sound
      goes_sound (damaged vs damage st r e p n) = ended (polls.Damaged damage) tt p
      goes_sound (scanned vs k st r e by) = sight_sound k (sight_of W q k old.member) (how_sight q k old.member) by
      goes_sound (checked key vs k st r e p n) = ended (missing_poll W (holding (counted old) k) q key)
          (missing_ends (holding (counted old) k) q key) p
      goes_sound (got g fetched st m how by) = got_sound g fetched st how by

  -- after a reply
  pub moved_sound : (old : Reading Q) (q : Q) (c : Course) (reply : Reply) (poll : Poll A) → IsSound W old → old.asked ≡ Some q →
      getting.IsSound c.getting → MovesByStage W old.course.stage (counted old.course) q reply c poll →
      (new : Reading Q) → new ≡ record { course = c; asked = asked_after old.asked poll } → IsSound W new
  moved_sound old q c reply poll s is g moves new e = subst (λ (r : Reading Q). IsSound W r) (sym e) (record {
    getting = g;
    asked = subst (λ (o : Option Q). IfSome (asked_after o poll) (SoundBy W c)) (sym is) (go poll refl);
  })
    where
      was : SoundBy W old.course q
      was = subst (λ (o : Option Q). IfSome o (SoundBy W old.course)) is s.asked

      on : ¬ Ends poll → SoundBy W c q
      on goes = goes_sound old.course q was reply c poll goes (how_read W (counted old.course) q reply c poll moves)

      no : (p : Poll A) → poll ≡ p → ¬ Ends p → ¬ Ends poll
      no p e h k = h (subst Ends e k)

      go : (p : Poll A) → poll ≡ p → IfSome (asked_after (Some q) p) (SoundBy W c)
      go polls.Busy e = on (no polls.Busy e (λ x. x))
      go polls.More e = on (no polls.More e (λ x. x))
      go polls.Fault e = on (no polls.Fault e (λ x. x))
      go polls.Spent e = tt
      go (polls.Damaged damage) e = tt
      go (polls.Done answer) e = tt
