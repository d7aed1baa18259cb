-- What a reply leaves of a reading, which call it makes, and what it follows by. Entries go newest first.
use Rattle.std.proofs.Common.{◌≡◌, ℕ, true, false, Option, Some, None, List, ◌∷◌, ◌++◌, inl, inr}
use Rattle.std.proofs.Common.{refl, sym, ap, subst, ◌∙◌}
use Rattle.std.specs.Prelude.{IfSome, IsSome, IsSomeAnd}
use Rattle.store_core.specs.declared.part_keys.PartKey.{PartKey}
use Rattle.store_core.specs.declared.shards.ShardId.{ShardId}
use Rattle.store_core.specs.declared.calls.Call.{Call}
use Rattle.store_core.specs.declared.calls.Call.TheVariants as calls
use Rattle.store_core.specs.declared.entries.Entry.{Entry}
use Rattle.store_core.specs.declared.replies.Reply.{Reply}
use Rattle.store_core.specs.Histories.{reply}
use Rattle.store_core.specs.Newest.{mine_back, replay_back}
use Rattle.store_core.specs.Ports.{OfOthers, answered}
use Rattle.store_core.specs.Stores.{Stored}
use Rattle.history_core.proofs.Gaining.{mine_gained, mine_others}
use Rattle.load_core.specs.declared.polls.Poll.{Poll}
use Rattle.load_core.specs.declared.polls.Poll.TheVariants as polls
use Rattle.load_core.specs.Loading.{scan_from}
use Rattle.load_core.specs.Following.{FollowsLoading}
use Rattle.load_core.proofs.Following.{shows_on}
use Rattle.machine_core.specs.Machines.{GoesOn}
use Rattle.read_machine.specs.declared.courses.Course.{Course}
use Rattle.read_machine.specs.declared.readings.Reading.{Reading}
use Rattle.read_machine.specs.declared.stages.Stage.{Stage}
use Rattle.read_machine.specs.declared.stages.Stage.TheVariants as stages
use Rattle.read_machine.specs.Courses.{counted, read_call}
use Rattle.read_machine.specs.Following.{FollowsAsked}
use Rattle.read_machine.specs.Questions.{Questions}
use Rattle.read_machine.specs.Readings.{Follows, IsSound, Moves, MovesBy}
use Rattle.read_machine.specs.Readings.{ReadsOf, SoundBy, asked_after, kept}
use Rattle.read_machine.proofs.HowRead.{HowRead, how_read}
use Rattle.read_machine.proofs.Parts.{Asks, asks_call, gets, scans}
use Rattle.read_machine.proofs.Since.{asked_others}
use Rattle.read_machine.proofs.Sound.{Ends}
use Rattle.read_machine.proofs.Ways.{Stays, stays}

pub none_open : {T : Type 0} (o : Option T) → ¬ IsSome o → o ≡ None
none_open None closed = refl
none_open (Some a) closed = absurd (closed refl)

-- what holds of each Scan of the shard and of each Get
pub of_reads : (P : Call → Type 0) (shard : ShardId) (call : Call) → ((from : ℕ) → P (calls.Scan shard from)) →
    ((key : PartKey) → P (calls.Get key)) → ReadsOf shard call → P call
of_reads P shard call scan get (inl (from, is)) = subst P (sym is) (scan from)
of_reads P shard call scan get (inr (key, is)) = subst P (sym is) (get key)

module _ {Q A : Type 0} (W : Questions Q A) where
  -- a command that is open and what a reply makes of it
  pub record Read (m new : Reading Q) (r : Reply) (poll : Poll A) : Type 0 where
    pub q : Q
    pub asked : m.asked ≡ Some q
    pub course : Course
    pub how : HowRead W (counted m.course) q r course poll
    pub now : new ≡ record { course = course; asked = asked_after (Some q) poll }

  pub read_so : (m new : Reading Q) (r : Reply) (poll : Poll A) → Moves W m r new poll → Read m new r poll
  read_so m new r poll moves = go m.asked refl moves
    where
      go : (o : Option Q) → m.asked ≡ o → IsSomeAnd o (λ q. MovesBy W q m r new poll) → Read m new r poll
      go None is h = absurd h
      go (Some q) is (c, h, now) = record {
        q = q;
        asked = is;
        course = c;
        how = how_read W
            (counted m.course) q r c poll h;
        now = now;
      }

  pub read_stays : (m new : Reading Q) (r : Reply) (poll : Poll A) → Moves W m r new poll → Stays (counted m.course) new.course
  read_stays m new r poll moves =
      let x = read_so m new r poll moves in
      subst (λ (z : Reading Q). Stays (counted m.course) z.course) (sym x.now) (stays W
      (counted m.course) x.q r x.course poll x.how)

  pub same_kept : (m new : Reading Q) → Stays (counted m.course) new.course → new.asked ≡ m.asked → kept new ≡ kept m
  same_kept m new s asked = λ i. record { asked = asked i; member = s.member i; shard = s.shard i }

  pub more_kept : (m new : Reading Q) (r : Reply) (poll : Poll A) → Moves W m r new poll → GoesOn poll → kept new ≡ kept m
  more_kept m new r poll moves on =
      let x = read_so m new r poll moves in
      same_kept m new (read_stays m new r poll moves) (ap (λ (z : Reading Q). z.asked) x.now ∙ as_asked poll x.q on ∙ sym x.asked)
    where
      as_asked : (p : Poll A) (q : Q) → GoesOn p → asked_after (Some q) p ≡ Some q
      as_asked polls.Busy q o = refl
      as_asked polls.More q o = refl
      as_asked polls.Fault q o = refl
      as_asked polls.Spent q o = absurd o
      as_asked (polls.Damaged damage) q o = absurd o
      as_asked (polls.Done a) q o = absurd o

  -- where it has ended nothing is asked
  pub ended_none : (m new : Reading Q) (r : Reply) (poll : Poll A) → Moves W m r new poll → Ends poll → new.asked ≡ None
  ended_none m new r poll moves over = let x = read_so m new r poll moves in ap (λ (z : Reading Q). z.asked) x.now
      ∙ go poll x.q over
    where
      go : (p : Poll A) (q : Q) → Ends p → asked_after (Some q) p ≡ None
      go polls.Busy q h = absurd h
      go polls.More q h = absurd h
      go polls.Fault q h = absurd h
      go polls.Spent q h = refl
      go (polls.Damaged damage) q h = refl
      go (polls.Done a) q h = refl

  -- ---- its call

  pub reads_of : (c : Course) (call : Call) → read_call c c.stage ≡ Some call → ReadsOf c.loader.shard call
  reads_of c call is = by (asks_call c call is)
    where
      by : Asks c call → ReadsOf c.loader.shard call
      by (scans st e) = inl (scan_from c.loader.cached, e)
      by (gets key st at e) = inr (key, e)

  pub same_call : (c : Course) (stage : Stage) → read_call (counted c) stage ≡ read_call c stage
  same_call c stages.Scan = refl
  same_call c stages.Get = refl
  same_call c (stages.Check key) = refl

  pub open_asked : (m : Reading Q) → IsSome m.asked → (q : Q) × (m.asked ≡ Some q)
  open_asked m is = go m.asked is refl
    where
      go : (o : Option Q) → IsSome o → m.asked ≡ o → (q : Q) × (m.asked ≡ Some q)
      go None some e = absurd (let bad : false ≡ true = some in cc)
      go (Some q) some e = (q, e)

  pub sound_by : (m : Reading Q) (q : Q) → m.asked ≡ Some q → IsSound W m → SoundBy W m.course q
  sound_by m q is s = let h = s.asked in subst (λ (o : Option Q). IfSome o (SoundBy W m.course)) is h

  -- ---- entries

  pub others_on : (client : ℕ) (m : Reading Q) (start : Stored) (others es : List Entry) → OfOthers client others →
      Follows W client m start es →
      Follows W client m start (others ++ es)
  others_on client m start others es of f = record {
    shown = subst (FollowsLoading m.course.loader) (sym (mine_others start client others es of)) f.shown;
    asked = go m.asked f.asked;
  }
    where
      go : (o : Option Q) → IfSome o (λ q. FollowsAsked W.kind client m.course start es) →
          IfSome o (λ q. FollowsAsked W.kind client m.course start (others ++ es))
      go None h = h
      go (Some q) h = asked_others W.kind start client others es of m.course h

  pub spared_on : (client : ℕ) (m : Reading Q) (start : Stored) (e : Entry) (others es : List Entry) → ¬ IsSome m.asked →
      e.client ≡ client →
      OfOthers client others → Follows W client m start es → Follows W client m start (e ∷ (others ++ es))
  spared_on client m start e others es closed own of f = record {
    shown = subst (FollowsLoading m.course.loader) (sym (mine_gained start client e others es own of))
        (shows_on (answered e (reply (replay_back start (others ++ es)) e)) (mine_back start es client) m.course.loader.shard
        m.course.loader.cached f.shown);
    asked = subst (λ (o : Option Q). IfSome o (λ q. FollowsAsked W.kind client m.course start (e ∷ (others ++ es))))
        (sym (none_open m.asked closed)) tt;
  }
