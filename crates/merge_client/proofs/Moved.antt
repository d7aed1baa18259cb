-- A compactor follows from its client's own entries after each reply. Entries go newest first.
use Rattle.std.proofs.Common.{◌≡◌, ℕ, ◌+◌, true, false, Option, Some, None, List, ◌∷◌, ◌++◌, inl, inr, refl, sym, ap}
use Rattle.std.proofs.Common.{subst, ◌∙◌, arith}
use Rattle.std.specs.Prelude.{IfSome, IsSome}
use Rattle.update_core.specs.declared.updates.Update.{Update}
use Rattle.store_core.specs.declared.shards.ShardId.{ShardId}
use Rattle.store_core.specs.declared.calls.Call.{Call}
use Rattle.store_core.specs.declared.calls.Call.TheVariants as calls
use Rattle.store_core.specs.declared.replies.Reply.{Reply}
use Rattle.store_core.specs.declared.entries.Entry.{Entry}
use Rattle.store_core.specs.Histories.{reply}
use Rattle.store_core.specs.Stores.{Stored}
use Rattle.store_core.specs.Ports.{Answered, OfOthers}
use Rattle.store_core.specs.Newest.{mine_back, replay_back}
use Rattle.state_core.specs.declared.kinds.Kind.TheVariants.{Keeper}
use Rattle.state_core.specs.declared.refusals.Refusal.{Refusal}
use Rattle.state_core.specs.declared.refusals.Refusal.TheVariants as refusals
use Rattle.state_core.specs.declared.transitions.Transition.{Transition}
use Rattle.state_core.specs.declared.transitions.Transition.TheVariants.{Join}
use Rattle.state_core.specs.States.{ShardState}
use Rattle.state_core.specs.Steps.{Applies}
use Rattle.version_codec.specs.Reading.{version_in}
use Rattle.history_core.specs.declared.asked.Asked.{Asked}
use Rattle.history_core.specs.declared.asked.Asked.TheVariants as asks
use Rattle.history_core.specs.declared.merge_answers.MergeAnswer.{MergeAnswer}
use Rattle.history_core.specs.declared.merge_answers.MergeAnswer.TheVariants as answers
use Rattle.history_core.specs.Discipline.{LawfulBack, Owns}
use Rattle.history_core.specs.Members.{IsKindJoin, KindJoins}
use Rattle.history_core.specs.Stands.{StandsFor}
use Rattle.history_core.proofs.Entries.{lawful_older}
use Rattle.history_core.proofs.Gaining.{mine_gained, mine_others}
use Rattle.history_core.proofs.Members.{member_new}
use Rattle.history_core.proofs.MemberStands.{is_join}
use Rattle.load_core.specs.declared.polls.Poll.{Poll}
use Rattle.load_core.specs.declared.polls.Poll.TheVariants as polls
use Rattle.load_core.specs.declared.tries.Tried.{Tried}
use Rattle.load_core.specs.declared.tries.Tried.TheVariants as tries
use Rattle.load_core.specs.declared.tryings.Trying.{Trying}
use Rattle.load_core.proofs.Gaining.{lawful_before}
use Rattle.load_core.proofs.Outcomes.{committed_here}
use Rattle.change_core.specs.declared.outcomes.Outcome.TheVariants as outcomes
use Rattle.token_machine.specs.declared.storeds.Stored.TheVariants as storeds
use Rattle.change_core.specs.Changes.{committed_outcome, last_member}
use Rattle.change_core.proofs.Forms.{refused_as}
use Rattle.machine_core.specs.Machines.{GoesOn}
use Rattle.token_machine.specs.declared.storeds.Stored.{Stored as Came}
use Rattle.token_machine.specs.declared.storings.Storing.{Storing}
use Rattle.token_machine.specs.Following.{Draws}
use Rattle.token_machine.specs.Outcomes.{token_outcome}
use Rattle.token_machine.specs.Storings as storing
use Rattle.token_machine.proofs.Members.{token_owned}
use Rattle.token_machine.proofs.Ways.{call_false, same, tried_way}
use Rattle.merge_client.specs.declared.compactors.Compactor.{Compactor}
use Rattle.merge_client.specs.declared.dues.Due.{Due}
use Rattle.merge_client.specs.Fitting.{bound_at}
use Rattle.merge_client.specs.Following.{Counts, Follows}
use Rattle.merge_client.specs.Merging.{IsOpen, IsReady, Moves, MovesBy, Wants, WantsBy, after_poll, call_of, change_poll}
use Rattle.merge_client.specs.Merging.{merge_poll, merge_refused, noted, own_member, shard_of, verdict}
use Rattle.merge_client.proofs.Counts.{counts_gained}
use Rattle.merge_client.proofs.Fits.{counts_on, counts_poll, counts_wanted, fit_moves}
use Rattle.merge_client.proofs.Noted.{noted_follows, noted_ready}
use Rattle.merge_client.proofs.ReadOn.{read_on, read_wants}
use Rattle.merge_client.proofs.Going.{Asks, asks_of, closes, going, merges, opens, renews}
use Rattle.merge_client.proofs.Trying.{call, no_later, over_same}
use Rattle.merge_client.proofs.Trying.{try_goes, try_over}
use Rattle.merge_client.proofs.Wanting.{try_wants}

pub is_there : {A : Type 0} (o : Option A) → IsSome o → (x : A) × (o ≡ Some x)
is_there None h = absurd (let bad : false ≡ true = h in cc)
is_there (Some x) h = (x, refl)

-- the member that a poll says has joined
abbrev opened_of : Poll MergeAnswer → Option ℕ
opened_of (polls.Done (answers.Opened member version)) = Some member
opened_of _ = None

refused_none : (c : Compactor) (refusal : Refusal) → opened_of (merge_refused c refusal) ≡ None
refused_none c refusals.NotPresent = refl
refused_none c refusals.NoMember = refl
refused_none c other = refl

merge_none : (c : Compactor) (came : Came) → opened_of (merge_poll c came) ≡ None
merge_none c (storeds.Refused refusal) = refused_none c refusal
merge_none c storeds.Going = refl
merge_none c storeds.Fault = refl
merge_none c storeds.Spent = refl
merge_none c (storeds.Damaged damage) = refl
merge_none c (storeds.Now version) = refl
merge_none c (storeds.Before version) = refl
merge_none c storeds.Strange = refl

module _ (client : ℕ) (c : Compactor) (start : Stored) (list : List Update) (e : Entry) (others es : List Entry)
    (ready : IsReady c) (own : e.client ≡ client) (call_is : call_of c ≡ Some e.call) (of : OfOthers client others)
    (st : StandsFor start (shard_of c) list) (lawful : LawfulBack start (e ∷ (others ++ es))) (f : Follows client c start es) where
  abbrev here : Reply
  here = reply (replay_back start (others ++ es)) e

  abbrev was : List Answered
  was = mine_back start es client

  abbrev now : List Entry
  now = e ∷ (others ++ es)

  abbrev Mine : List Answered
  Mine = mine_back start now client

  older : LawfulBack start (others ++ es)
  older = lawful_older start e (others ++ es) lawful

  module _ (none : c.reading.asked ≡ None) (s : Storing) (tried : Tried) (asked : Asked)
      (moves : storing.Moves c.storing here s tried) (busy : c.asked ≡ Some asked) where
    abbrev v : Compactor
    v = record c { storing = s }

    a : Asks client c start es asked
    a = asks_of client c start es asked busy none ready.drafted f

    -- an open whose Join is in has a member of which no token is used
    joined : (version at lease : ℕ) → tried ≡ tries.Committed version → c.storing.trying.step ≡ Join Keeper at lease →
        Draws Keeper s.trying.loader.shard (last_member s.trying.loader.cached) c.token Mine
    joined version at lease is step =
        let w = tried_way c.storing s here (tries.Committed version)
        (subst (storing.Moves c.storing here s) is moves) tt in
        let call_now = call_false c.storing e.call w.unset (call client c start list e others es ready own call_is of st lawful f none) in
        let k = committed_here start list client c.storing.trying w.to e others es ready.sound.storing.trying call_now of st older
        f.trying version w.moves in
        let to_is : w.to ≡ s.trying = sym (ap (λ (z : Storing). z.trying) w.is) in
        let applies : Applies k.from (Join Keeper at lease) k.carries.to =
        subst (λ (x : Transition). Applies k.from x k.carries.to) step k.applies in
        let one : k.carries.to.next_member ≡ k.from.next_member + 1 = ap (λ (z : ShardState). z.next_member) applies.makes.effect in
        let cached : s.trying.loader.cached ≡ Some k.carries.to = subst (λ (t : Trying). t.loader.cached ≡ Some k.carries.to) to_is
        k.cached in
        let last : k.carries.to.next_member ≡ last_member s.trying.loader.cached + 1 =
        subst (λ (o : Option ShardState). k.carries.to.next_member ≡ last_member o + 1) (sym cached) (omega (arith, one)) in
        let carried : version_in (shard_of c) version k.carries.bytes ≡ Some (k.carries.to, Join Keeper at lease) =
        k.carries.carries ∙ ap (λ (x : Transition). Some (k.carries.to, x)) step in
        let joins : KindJoins (version_in (shard_of c) version k.carries.bytes) Keeper (last_member s.trying.loader.cached) =
        subst (λ o. KindJoins o Keeper (last_member s.trying.loader.cached)) (sym carried) (refl, last) in
        let joined_now : IsKindJoin Keeper (shard_of c) (last_member s.trying.loader.cached) e.call here =
        subst (λ (q : Call). IsKindJoin Keeper (shard_of c) (last_member s.trying.loader.cached) q here) (sym k.carries.call_is)
        (subst (λ (r : Reply). IsKindJoin Keeper (shard_of c) (last_member s.trying.loader.cached)
        (calls.Cas (shard_of c) k.carries.expected k.carries.bytes) r) (sym k.carries.reply_is) (refl, joins)) in
        let unowned : ¬ Owns was (shard_of c) (last_member s.trying.loader.cached) =
        λ h. member_new start (shard_of c) list st e (others ++ es) lawful (last_member s.trying.loader.cached)
        (is_join Keeper (shard_of c) (last_member s.trying.loader.cached) e.call here joined_now) client
        (subst (λ (os : List Answered). Owns os (shard_of c) (last_member s.trying.loader.cached))
        (sym (mine_others start client others es of)) h) in
        subst (λ (d : ShardId). Draws Keeper d (last_member s.trying.loader.cached) c.token Mine)
        (sym (same c.storing s here tried moves).shard)
        (subst (λ (os : List Answered). Draws Keeper (shard_of c) (last_member s.trying.loader.cached) c.token os)
        (sym (mine_gained start client e others es own of)) (record {
          joined = inl joined_now;
          drawn = λ later lt h. elim h [
            | inl x ↦ no_later client c start list e others es ready own call_is of st lawful f none asked a
                (last_member s.trying.loader.cached) later lt x
            | inr x ↦ unowned (token_owned was (shard_of c) (last_member s.trying.loader.cached) later
                (lawful_before start e others es lawful client) x)
          ];
        }))

    -- what is told of an open
    opened : (j version : ℕ) → verdict v asked tried ≡ polls.Done (answers.Opened j version) →
        Draws Keeper s.trying.loader.shard j c.token Mine
    opened j version p = by tried refl
      where
        no : (x : Poll MergeAnswer) → verdict v asked tried ≡ x → opened_of x ≡ None → ⊥
        no x is none2 = let bad : Some j ≡ None = sym (ap opened_of p) ∙ ap opened_of is ∙ none2 in cc

        told : (k : Tried) → tried ≡ k → verdict v asked tried ≡ verdict v asked k
        told k is = ap (verdict v asked) is

        other_none : (k : Tried) → ((b : Asked) → opened_of (verdict v b k) ≡ None) → tried ≡ k → ⊥
        other_none k h is = no (verdict v asked k) (told k is) (h asked)

        committed : (n : ℕ) → tried ≡ tries.Committed n → Asks client c start es asked →
            Draws Keeper s.trying.loader.shard j c.token Mine
        committed n is (opens shard at lease q same_shard t) =
            let step : s.trying.step ≡ Join Keeper at lease = (same c.storing s here tried moves).step ∙ t.step in
            let told_is : verdict v asked tried ≡ polls.Done (answers.Opened (last_member s.trying.loader.cached) n) =
            told (tries.Committed n) is ∙ ap (λ (z : Asked). verdict v z (tries.Committed n)) q
            ∙ ap (λ (x : Transition). change_poll v (asks.OpenCompactor shard at lease) (committed_outcome s.trying.loader.cached x n)) step in
            let same_member : last_member s.trying.loader.cached ≡ j =
            (let two : Some (last_member s.trying.loader.cached) ≡ Some j = sym (ap opened_of told_is) ∙ ap opened_of p in cc) in
            subst (λ (x : ℕ). Draws Keeper s.trying.loader.shard x c.token Mine) same_member (joined n at lease is t.step)
        committed n is (renews at m q named t) = absurd (no (polls.Done (answers.Renewed n)) (told (tries.Committed n) is
            ∙ ap (λ (z : Asked). verdict v z (tries.Committed n)) q
            ∙ ap (λ (x : Transition). change_poll v (asks.RenewCompactor at) (committed_outcome s.trying.loader.cached x n))
            ((same c.storing s here tried moves).step ∙ t.step)) refl)
        committed n is (closes m q named t) = absurd (no (polls.Done (answers.Closed n)) (told (tries.Committed n) is
            ∙ ap (λ (z : Asked). verdict v z (tries.Committed n)) q
            ∙ ap (λ (x : Transition). change_poll v asks.CloseCompactor (committed_outcome s.trying.loader.cached x n))
            ((same c.storing s here tried moves).step ∙ t.step)) refl)
        committed n is (merges m q named pos h) = absurd (no (polls.Done (answers.Merged n)) (told (tries.Committed n) is
            ∙ ap (λ (z : Asked). verdict v z (tries.Committed n)) q) refl)

        refused_by : (refusal : Refusal) (b : Asked) → opened_of (verdict v b (tries.Refused refusal)) ≡ None
        refused_by refusal asks.Merge = merge_none v (token_outcome s.trying c.token refusal)
        refused_by refusal other = refused_as (λ o. opened_of (change_poll v other o) ≡ None) s.trying.loader.cached (own_member v)
            s.trying.step refusal refl (λ n. refl) (gone_none other) (λ n. refl) (λ n. refl)
          where
            gone_none : (b : Asked) (n : ℕ) → opened_of (change_poll v b (outcomes.Gone n)) ≡ None
            gone_none (asks.RenewCompactor at) n = refl
            gone_none other n = refl

        by : (k : Tried) → tried ≡ k → Draws Keeper s.trying.loader.shard j c.token Mine
        by (tries.Committed n) is = committed n is a
        by tries.Begun is = absurd (other_none tries.Begun begun_none is)
          where
            begun_none : (b : Asked) → opened_of (verdict v b tries.Begun) ≡ None
            begun_none asks.Merge = refl
            begun_none other = refl
        by tries.Again is = absurd (other_none tries.Again again_none is)
          where
            again_none : (b : Asked) → opened_of (verdict v b tries.Again) ≡ None
            again_none asks.Merge = refl
            again_none other = refl
        by tries.Goes is = absurd (other_none tries.Goes goes_none is)
          where
            goes_none : (b : Asked) → opened_of (verdict v b tries.Goes) ≡ None
            goes_none asks.Merge = refl
            goes_none other = refl
        by tries.Fault is = absurd (other_none tries.Fault fault_none is)
          where
            fault_none : (b : Asked) → opened_of (verdict v b tries.Fault) ≡ None
            fault_none asks.Merge = refl
            fault_none other = refl
        by (tries.Refused refusal) is = absurd (other_none (tries.Refused refusal) (refused_by refusal) is)
        by tries.Spent is = absurd (other_none tries.Spent spent_none is)
          where
            spent_none : (b : Asked) → opened_of (verdict v b tries.Spent) ≡ None
            spent_none asks.Merge = refl
            spent_none other = refl
        by (tries.Damaged damage) is = absurd (other_none (tries.Damaged damage) damaged_none is)
          where
            damaged_none : (b : Asked) → opened_of (verdict v b (tries.Damaged damage)) ≡ None
            damaged_none asks.Merge = refl
            damaged_none other = refl

    goes_on : GoesOn (verdict v asked tried) → Follows client v start now
    goes_on g = try_goes client c start list e others es ready own call_is of st lawful f none asked a s tried moves busy
        (going v asked tried g)

    same_over : Follows client (record v { asked = None }) start now
    same_over = over_same client c start list e others es ready own call_is of st lawful f none asked a s tried moves

    over : (member : Option ℕ) → IfSome member (λ n. Draws Keeper s.trying.loader.shard n c.token Mine) →
        Follows client (record v { asked = None; member = member }) start now
    over member h = try_over client c start list e others es ready own call_is of st lawful f none asked a s tried moves member h

    verdict_on : (p : Poll MergeAnswer) → verdict v asked tried ≡ p → Follows client (after_poll v p) start now
    verdict_on polls.Busy is = goes_on (subst GoesOn (sym is) tt)
    verdict_on polls.More is = goes_on (subst GoesOn (sym is) tt)
    verdict_on polls.Fault is = goes_on (subst GoesOn (sym is) tt)
    verdict_on polls.Spent is = same_over
    verdict_on (polls.Damaged damage) is = same_over
    verdict_on (polls.Done (answers.Opened j version)) is = over (Some j) (opened j version is)
    verdict_on (polls.Done (answers.Closed version)) is = over None tt
    verdict_on (polls.Done (answers.Expired version)) is = over None tt
    verdict_on (polls.Done other) is = same_over

  pub moved_on : Counts was c → (new : Compactor) (poll : Poll MergeAnswer) → Moves c here new poll → Follows client new start now
  moved_on counts new poll moves = go c.reading.asked refl moves
    where
      go : (o : Option Due) → c.reading.asked ≡ o → MovesBy o c here new poll → Follows client new start now
      go None none (s, tried, asked, m, busy, poll_is, new_is) =
          subst (λ (z : Compactor). Follows client z start now) (sym new_is)
          (verdict_on none s tried asked m busy poll (sym poll_is))
      go (Some q) some m = read_on client (noted c) start list e others es (noted_ready c ready) own call_is of st lawful
          (noted_follows client c start es f) q some new poll
          (fit_moves client c start list e others es ready own call_is of st lawful f counts q some new poll m)

  -- after want of memory
  pub wants_on : IsOpen c → (new : Compactor) → Wants c new → Follows client new start now
  wants_on is_open new w = go c.reading.asked refl w
    where
      go : (o : Option Due) → c.reading.asked ≡ o → WantsBy o c new → Follows client new start now
      go None none (idle, is) =
          let (asked, busy) = is_there c.asked is_open in
          subst (λ (z : Compactor). Follows client z start now) (sym is)
          (try_wants client c start list e others es ready own call_is of st lawful f none asked
          (asks_of client c start es asked busy none ready.drafted f) busy idle)
      go (Some q) some is = read_wants client (noted c) start list e others es (noted_ready c ready) own call_is of st lawful
          (noted_follows client c start es f) q some new is

  -- ---- what is counted

  pub moved_counts : Counts was c → (new : Compactor) (poll : Poll MergeAnswer) → Moves c here new poll → Counts Mine new
  moved_counts counts new poll moves = go c.reading.asked refl moves
    where
      go : (o : Option Due) → c.reading.asked ≡ o → MovesBy o c here new poll → Counts Mine new
      go None none (s, tried, asked, m, busy, poll_is, new_is) = subst (Counts Mine) (sym new_is)
          (counts_poll Mine (record c { storing = s }) poll (counts_gained client start e others es own of c.left_rows
          c.reading.course.getting (bound_at c.reading.course c.reading.course.stage) counts))
      go (Some q) some m = counts_on client c start list e others es ready own call_is of st lawful f counts q some new poll m

  pub wants_counts : Counts was c → (new : Compactor) → Wants c new → Counts Mine new
  wants_counts counts new w = go c.reading.asked refl w
    where
      go : (o : Option Due) → c.reading.asked ≡ o → WantsBy o c new → Counts Mine new
      go None none (idle, is) = subst (Counts Mine) (sym is) (counts_gained client start e others es own of c.left_rows
          c.reading.course.getting (bound_at c.reading.course c.reading.course.stage) counts)
      go (Some q) some is = subst (Counts Mine) (sym is)
          (counts_wanted client c start list e others es ready own call_is of st lawful f counts q some)
