-- Each outcome of a change is legal, and has its effect, for every kind of member. Entries go newest first.
use Rattle.std.proofs.Common.{◌≡◌, ℕ, ◌+◌, ◌-◌, ◌<◌, ◌≤◌, Bool, true, false, cond, Option, Some, None, List, ◌∷◌, ◌++◌, length, inl, inr, refl, sym, ap, subst, ◌∙◌, arith, ltb, eqb}
use Rattle.std.specs.Prelude.{⊤, not, is_none}
use Rattle.std.proofs.lemmas.Bool.{eqb-true}
use Rattle.std.proofs.lemmas.Bool.Decides.{leb_tells, nat_tests}
use Rattle.update_core.specs.declared.updates.Update.{Update}
use Rattle.store_core.specs.declared.shards.ShardId.{ShardId}
use Rattle.store_core.specs.declared.entries.Entry.{Entry}
use Rattle.store_core.specs.declared.replies.Reply.{Reply}
use Rattle.store_core.specs.Histories.{reply}
use Rattle.store_core.specs.Ports.{Answered}
use Rattle.store_core.specs.Stores.{Stored}
use Rattle.store_core.specs.Newest.{replay_back}
use Rattle.state_core.specs.declared.kinds.Kind.{Kind}
use Rattle.state_core.specs.declared.members.Member.{Member}
use Rattle.state_core.specs.declared.refusals.Refusal.{Refusal}
use Rattle.state_core.specs.declared.refusals.Refusal.TheVariants as refusals
use Rattle.state_core.specs.declared.transitions.Transition.{Transition}
use Rattle.state_core.specs.declared.transitions.Transition.TheVariants.{Init, Join, Leave, Renew, Advance, Expire, Append, Merge}
use Rattle.state_core.specs.Lists.{Among}
use Rattle.state_core.specs.Refusals.{any_kind, member_of, of_member, refusal_by_kind}
use Rattle.state_core.specs.States.{IsState, ShardState, is_reader, is_writer}
use Rattle.state_core.specs.Steps.{Applies, Stands}
use Rattle.update_core.specs.Limits.{most}
use Rattle.state_core.proofs.ListLemmas.{bool_cases}
use Rattle.history_core.specs.Discipline.{LawfulBack}
use Rattle.history_core.specs.Legal.{AtLast, HasMember}
use Rattle.history_core.specs.Members.{JoinedAs}
use Rattle.history_core.specs.Laws.{LastIs}
use Rattle.history_core.specs.Placing.{AtLastScan, CommittedAs, IsAnsweredScan, placed, places}
use Rattle.history_core.proofs.Entries.{lawful_older}
use Rattle.history_core.proofs.Gaining.{mine_others}
use Rattle.history_core.proofs.MemberStands.{HasKind}
use Rattle.history_core.proofs.StateFacts.{state_rules}
use Rattle.load_core.specs.declared.tries.Tried.{Tried}
use Rattle.load_core.specs.declared.tries.Tried.TheVariants as tries
use Rattle.load_core.specs.declared.tryings.Trying.{Trying}
use Rattle.load_core.specs.Attempts.{standing_refusal}
use Rattle.load_core.specs.Effects.{CommitsNone, IsShown, StepIn, TriedEffect}
use Rattle.load_core.specs.Outcomes.{Committing, Newest}
use Rattle.load_core.specs.Trying as trying
use Rattle.load_core.proofs.Effects.{tried_effect}
use Rattle.load_core.proofs.Outcomes.{committed_here, never_damaged, newest_refused, newest_spent}
use Rattle.load_core.proofs.Replied.{stop_shown}
use Rattle.load_core.proofs.Runs.{moves_same}
use Rattle.change_core.specs.declared.outcomes.Outcome.{Outcome}
use Rattle.change_core.specs.declared.outcomes.Outcome.TheVariants as outcomes
use Rattle.change_core.specs.Changes.{AsksBefore, ChangesAs, IsAnswerTo, IsChange, IsOfMember, Joins, committed_outcome, full_outcome, last_member, outcome, refused_outcome, since_of}
use Rattle.change_core.specs.Legality.{ChangeEffect, ChangesAt, JoinedIn, LegalChange}
use Rattle.change_core.proofs.Forms.{join_form, member_form, refused_as}
use Rattle.change_core.proofs.Members.{among_now, found_kind, found_stands, kind_back, none_stands, scan_now}

-- ---- why a change is refused

-- it is refused because 256 members stand, because the member doesn't, or because its since is past the time
pub data Why (member : ℕ) (s : ShardState) (step : Transition) (refusal : Refusal) : Type 0 where
  full : (count : ℕ) → refusal ≡ refusals.MembersFull count → length s.members ≡ 256 → Joins step → Why member s step refusal
  absent : refusal ≡ refusals.NoMember → member_of member s.members ≡ None → IsOfMember step → Why member s step refusal
  back : (since : ℕ) → refusal ≡ refusals.Back since → Stands member (λ m. m.since ≡ since) s.members → AsksBefore since step →
      IsOfMember step → Why member s step refusal

join_why : (member : ℕ) (s : ShardState) (kind : Kind) (now lease : ℕ) (refusal : Refusal) → IsState s →
    refusal_by_kind s (Join kind now lease) ≡ Some refusal → Why member s (Join kind now lease) refusal
join_why member s kind now lease refusal rules h = elim (leb_tells 256 (length s.members)) [
  | inl p ↦
      let le : 256 ≤ length s.members = p.1 in
      let few = rules.few in
      let there : Some (refusals.MembersFull (length s.members)) ≡ Some refusal = rw p.0 at h in
      let is : refusals.MembersFull (length s.members) ≡ refusal = cc in
      full (length s.members) (sym is) (omega arith) tt
  | inr p ↦ absurd (let bad : None ≡ Some refusal = rw p.0 at h in cc)
]

-- a change of a member that stands and fits is refused only for what it asks
member_why : (member : ℕ) (s : ShardState) (step : Transition) (fits : Kind → Bool) (next : Member → Option Refusal) (refusal : Refusal) →
    IsOfMember step → ((m : Member) → member_of member s.members ≡ Some m → fits m.kind ≡ true) →
    ((m : Member) → member_of member s.members ≡ Some m → next m ≡ Some refusal → Why member s step refusal) →
    of_member (member_of member s.members) fits next ≡ Some refusal → Why member s step refusal
member_why member s step fits next refusal of fit asked h = go (member_of member s.members) refl h
  where
    go : (o : Option Member) → member_of member s.members ≡ o → of_member o fits next ≡ Some refusal → Why member s step refusal
    go None is k = absent (let same : refusals.NoMember ≡ refusal = cc in sym same) is of
    go (Some m) is k = asked m is (rw (fit m is) at k)

none_asked : (A : Type 0) (refusal : Refusal) → None ≡ Some refusal → A
none_asked A refusal bad = absurd (cc)

since_why : (member to : ℕ) (s : ShardState) (m : Member) (refusal : Refusal) → member_of member s.members ≡ Some m →
    cond (ltb to m.since) (Some (refusals.Back m.since)) None ≡ Some refusal → Why member s (Advance member to) refusal
since_why member to s m refusal is k = elim (bool_cases (ltb to m.since)) [
  | inl e ↦
      let k2 : Some (refusals.Back m.since) ≡ Some refusal = rw e at k in
      let same : refusals.Back m.since ≡ refusal = cc in
      back m.since (sym same) (found_stands member m (λ w. w.since ≡ m.since) s.members is refl) (grind (arith, nat_tests)) tt
  | inr e ↦ absurd (let bad : None ≡ Some refusal = rw e at k in cc)
]

pub why : (kind : Kind) (member : ℕ) (s : ShardState) (step : Transition) (refusal : Refusal) → IsState s → IsChange kind member step →
    (IsOfMember step → HasKind kind member s) → standing_refusal s step ≡ Some refusal → Why member s step refusal
why kind member s step refusal rules change kinds h = by step change.changes kinds (let shaped = change.shaped s in rw shaped at h)
  where
    by : (x : Transition) → ChangesAs kind member x → (IsOfMember x → HasKind kind member s) → refusal_by_kind s x ≡ Some refusal →
        Why member s x refusal
    by Init is of k = absurd is
    by (Join other now lease) is of k = join_why member s other now lease refusal rules k
    by (Leave m) is of k =
        let k2 = subst (λ (n : ℕ). refusal_by_kind s (Leave n) ≡ Some refusal) is k in
        subst (λ (n : ℕ). Why member s (Leave n) refusal) (sym is)
        (member_why member s (Leave member) any_kind (λ m. None) refusal tt (λ w found. refl)
        (λ w found bad. none_asked (Why member s (Leave member) refusal) refusal bad) k2)
    by (Renew m now) is of k =
        let k2 = subst (λ (n : ℕ). refusal_by_kind s (Renew n now) ≡ Some refusal) is.0 k in
        subst (λ (n : ℕ). Why member s (Renew n now) refusal) (sym is.0)
        (member_why member s (Renew member now) (λ q. not (is_writer q)) (λ m. None) refusal tt
        (λ w found. ap (λ (q : Kind). not (is_writer q)) (found_kind member w kind s.members found (of tt)) ∙ ap not is.1)
        (λ w found bad. none_asked (Why member s (Renew member now) refusal) refusal bad) k2)
    by (Advance m to) is of k =
        let k2 = subst (λ (n : ℕ). refusal_by_kind s (Advance n to) ≡ Some refusal) is.0 k in
        subst (λ (n : ℕ). Why member s (Advance n to) refusal) (sym is.0)
        (member_why member s (Advance member to) is_reader (λ m. cond (ltb to m.since) (Some (refusals.Back m.since)) None) refusal tt
        (λ w found. ap is_reader (found_kind member w kind s.members found (of tt)) ∙ is.1)
        (λ w found asked. since_why member to s w refusal found asked) k2)
    by (Expire now) is of k = absurd is
    by (Append m token expected upper parts rows weight) is of k = absurd is
    by (Merge m token left right merged) is of k = absurd is

-- ---- at its place

module _ (kind : Kind) (member : ℕ) (t new : Trying) (client : ℕ) (list : List Update) (start : Stored) (e : Entry)
    (others es : List Entry) (c : ChangesAt kind member t client list start e others es) where
  abbrev Goes : Tried → Type 0
  Goes x = trying.Moves t (reply (replay_back start (others ++ es)) e) new x

  abbrev Own : ShardId
  Own = t.loader.shard

  abbrev Legal : Outcome → Type 0
  Legal o = LegalChange start Own member t.step o (places client new.calls (e ∷ (others ++ es)))

  before : LawfulBack start (others ++ es)
  before = lawful_older start e (others ++ es) c.at.lawful

  refused_at : (refusal : Refusal) → Goes (tries.Refused refusal) →
      Newest t new start e (others ++ es) (λ s. standing_refusal s t.step ≡ Some refusal)
  refused_at refusal m = newest_refused start list client t new e others es c.at.sound c.at.call_is c.at.of_others c.at.stands before c.at.follows refusal m

  committed_at : (version : ℕ) → Goes (tries.Committed version) → Committing t new start e (others ++ es) version
  committed_at version m = committed_here start list client t new e others es c.at.sound c.at.call_is c.at.of_others c.at.stands before c.at.follows version m

  -- the member has the kind as which it was joined
  kinds_at : (n : ℕ) (s : ShardState) → LastIs (replay_back start (others ++ es)) Own n s → IsOfMember t.step → HasKind kind member s
  kinds_at n s last of = kind_back start (others ++ es) Own list c.at.stands before kind client member
      (subst (λ (own : List Answered). JoinedAs kind own Own member) (sym (mine_others start client others es c.at.of_others))
      (c.joined of)) n s last

  committed_legal : (version : ℕ) → new.step ≡ t.step → new.calls ≡ trying.more t.calls → new.calls < most →
      Goes (tries.Committed version) → Legal (committed_outcome new.loader.cached new.step version)
  committed_legal version same counted less m =
      subst (λ (x : Transition). Legal (committed_outcome new.loader.cached x version)) (sym same) (by t.step refl)
    where
      k : Committing t new start e (others ++ es) version
      k = committed_at version m

      plain : Among (CommittedAs start Own t.step version) (places client new.calls (e ∷ (others ++ es)))
      plain = among_now client t.calls new.calls e others es counted less c.at.own c.at.of_others
          (CommittedAs start Own t.step version) k.carries

      joins : (other : Kind) (now lease : ℕ) → t.step ≡ Join other now lease →
          Legal (outcomes.Joined (last_member new.loader.cached) version (since_of new.loader.cached))
      joins other now lease is =
          let made : Applies k.from (Join other now lease) k.carries.to =
          subst (λ (x : Transition). Applies k.from x k.carries.to) is k.applies in
          let next : k.carries.to.next_member ≡ k.from.next_member + 1 = ap (λ (s : ShardState). s.next_member) made.makes.effect in
          let last : last_member new.loader.cached ≡ k.carries.to.next_member - 1 = ap last_member k.cached in
          let joined : k.carries.to.next_member ≡ last_member new.loader.cached + 1 = omega arith in
          let since : k.carries.to.since ≡ since_of new.loader.cached = sym (ap since_of k.cached) in
          among_now client t.calls new.calls e others es counted less c.at.own c.at.of_others
          (JoinedIn start Own t.step (last_member new.loader.cached) version (since_of new.loader.cached)) (k.carries, joined, since)

      by : (x : Transition) → t.step ≡ x → Legal (committed_outcome new.loader.cached x version)
      by (Join other now lease) is = joins other now lease is
      by Init is = plain
      by (Leave m) is = plain
      by (Renew m now) is = plain
      by (Advance m to) is = plain
      by (Expire now) is = plain
      by (Append m token expected upper parts rows weight) is = plain
      by (Merge m token left right merged) is = plain

  -- why the newest state refuses it
  why_at : (refusal : Refusal) (m : Goes (tries.Refused refusal)) → Why member (refused_at refusal m).state t.step refusal
  why_at refusal m =
      let at = refused_at refusal m in
      let rules = state_rules Own ((replay_back start (others ++ es)).logs Own) at.state.number at.state at.last.1 in
      why kind member at.state t.step refusal rules c.change (kinds_at at.state.number at.state at.last) at.so

  -- what holds of the outcome that the newest state gives
  by_why : (P : Outcome → Type 0) (refusal : Refusal) (m : Goes (tries.Refused refusal)) →
      ((s : ShardState) → LastIs (replay_back start (others ++ es)) Own s.number s → IsAnsweredScan Own (placed e (others ++ es)) →
      Joins t.step →
      length s.members ≡ 256 → P (full_outcome s.number)) →
      ((s : ShardState) → LastIs (replay_back start (others ++ es)) Own s.number s → IsAnsweredScan Own (placed e (others ++ es)) →
      IsOfMember t.step →
      member_of member s.members ≡ None → P (outcomes.Gone s.number)) →
      ((s : ShardState) → LastIs (replay_back start (others ++ es)) Own s.number s → IsAnsweredScan Own (placed e (others ++ es)) →
      (since : ℕ) →
      Stands member (λ w. w.since ≡ since) s.members → AsksBefore since t.step → P (outcomes.Back since)) →
      P (refused_outcome new.loader.cached member t.step refusal)
  by_why P refusal m when_full when_gone when_back =
      let at = refused_at refusal m in
      subst (λ (o : Option ShardState). P (refused_outcome o member t.step refusal)) (sym at.cached)
      (on at.state at.last at.scan (why_at refusal m))
    where
      on : (s : ShardState) → LastIs (replay_back start (others ++ es)) Own s.number s → IsAnsweredScan Own (placed e (others ++ es)) →
          Why member s t.step refusal → P (refused_outcome (Some s) member t.step refusal)
      on s last scan (full count is many joins) = subst (λ (x : Refusal). P (refused_outcome (Some s) member t.step x)) (sym is)
          (subst P (sym (join_form (Some s) member t.step (refusals.MembersFull count) joins)) (when_full s last scan joins many))
      on s last scan (absent is none of) = subst (λ (x : Refusal). P (refused_outcome (Some s) member t.step x)) (sym is)
          (subst P (sym (member_form (Some s) member t.step refusals.NoMember of))
          (let gone : is_none (member_of member s.members) ≡ true = ap is_none none in rw gone (when_gone s last scan of none)))
      on s last scan (back since is stands before_it of) = subst (λ (x : Refusal). P (refused_outcome (Some s) member t.step x)) (sym is)
          (subst P (sym (member_form (Some s) member t.step (refusals.Back since) of)) (when_back s last scan since stands before_it))

  scanned : new.calls ≡ trying.more t.calls → new.calls < most → (s : ShardState) →
      LastIs (replay_back start (others ++ es)) Own s.number s →
      IsAnsweredScan Own (placed e (others ++ es)) → (P : ℕ → ShardState → Type 0) → P s.number s →
      AtLastScan Own (AtLast start Own P) (places client new.calls (e ∷ (others ++ es)))
  scanned counted less s last scan P p =
      scan_now client t.calls new.calls e others es counted less c.at.own c.at.of_others Own (AtLast start Own P) scan
      (s.number, s, last, p)

  refused_legal : (refusal : Refusal) → new.calls ≡ trying.more t.calls → new.calls < most → Goes (tries.Refused refusal) →
      Legal (refused_outcome new.loader.cached member t.step refusal)
  refused_legal refusal counted less m = by_why Legal refusal m
      (λ s last scan joins many. by_number s last scan many (eqb s.number most) refl)
      (λ s last scan of none. scanned counted less s last scan (λ n q. (n ≡ s.number) × (¬ HasMember member q))
      (refl, none_stands member (λ w. ⊤) s.members none))
      (λ s last scan since stands before_it.
      (scanned counted less s last scan (λ n q. Stands member (λ w. w.since ≡ since) q.members) stands, before_it))
    where
      by_number : (s : ShardState) → LastIs (replay_back start (others ++ es)) Own s.number s →
          IsAnsweredScan Own (placed e (others ++ es)) →
          length s.members ≡ 256 → (b : Bool) → eqb s.number most ≡ b → Legal (cond b outcomes.Spent (outcomes.Full s.number))
      by_number s last scan many true top = scanned counted less s last scan (λ n q. n ≡ most) (eqb-true s.number most top)
      by_number s last scan many false below =
          scanned counted less s last scan (λ n q. (n ≡ s.number) × (length q.members ≡ 256)) (refl, many)

  -- it ends with no other outcome than its own
  pub change_answered : (tried : Tried) → Goes tried → IsAnswerTo t.step (outcome new member tried)
  change_answered tried moves = by tried moves
    where
      same_step : new.step ≡ t.step
      same_step = (moves_same t new (reply (replay_back start (others ++ es)) e) tried moves).step

      in_as : (version : ℕ) (x : Transition) → IsAnswerTo x (committed_outcome new.loader.cached x version)
      in_as version (Join other now lease) = tt
      in_as version Init = tt
      in_as version (Leave m) = tt
      in_as version (Renew m now) = tt
      in_as version (Advance m to) = tt
      in_as version (Expire now) = tt
      in_as version (Append m token expected upper parts rows weight) = tt
      in_as version (Merge m token left right merged) = tt

      full_as : (number : ℕ) (b : Bool) → Joins t.step → IsAnswerTo t.step (cond b outcomes.Spent (outcomes.Full number))
      full_as number true joins = tt
      full_as number false joins = joins

      by : (x : Tried) → Goes x → IsAnswerTo t.step (outcome new member x)
      by (tries.Committed version) m =
          subst (λ (x : Transition). IsAnswerTo t.step (committed_outcome new.loader.cached x version)) (sym same_step)
          (in_as version t.step)
      by tries.Begun m = tt
      by tries.Again m = tt
      by tries.Goes m = tt
      by tries.Fault m = tt
      by (tries.Refused refusal) m =
          subst (λ (x : Transition). IsAnswerTo t.step (refused_outcome new.loader.cached member x refusal)) (sym same_step)
          (by_why (IsAnswerTo t.step) refusal m (λ s last scan joins many. full_as s.number (eqb s.number most) joins)
          (λ s last scan of none. of)
          (λ s last scan since stands before_it. before_it))
      by tries.Spent m = tt
      by (tries.Damaged damage) m =
          never_damaged start list client t new e others es c.at.sound c.at.call_is c.at.of_others c.at.stands before c.at.follows damage m

  -- whatever it comes to
  pub change_legal : (tried : Tried) → Goes tried → new.calls < most → Legal (outcome new member tried)
  change_legal tried moves less = by tried moves
    where
      same_step : new.step ≡ t.step
      same_step = (moves_same t new (reply (replay_back start (others ++ es)) e) tried moves).step

      counted : new.calls ≡ trying.more t.calls
      counted = (moves_same t new (reply (replay_back start (others ++ es)) e) tried moves).calls

      by : (x : Tried) → Goes x → Legal (outcome new member x)
      by (tries.Committed version) m = committed_legal version same_step counted less m
      by tries.Begun m = tt
      by tries.Again m = tt
      by tries.Goes m = tt
      by tries.Fault m = tt
      by (tries.Refused refusal) m =
          subst (λ (x : Transition). Legal (refused_outcome new.loader.cached member x refusal)) (sym same_step)
          (refused_legal refusal counted less m)
      by tries.Spent m =
          let at = newest_spent start list client t new e others es c.at.sound c.at.call_is c.at.of_others c.at.stands before c.at.follows m in
          scan_now client t.calls new.calls e others es counted less c.at.own c.at.of_others Own
          (AtLast start Own (λ n s. n ≡ most)) at.scan (at.state.number, at.state, at.last, at.so.1)
      by (tries.Damaged damage) m = never_damaged start list client t new e others es c.at.sound c.at.call_is c.at.of_others c.at.stands before c.at.follows damage m

-- ---- what its call commits

module _ (member : ℕ) (t new : Trying) (r : Reply) (sound : trying.IsSound t) where
  abbrev Did : Outcome → Type 0
  Did o = ChangeEffect t.loader.shard t.step (trying.call_of t) r o

  committed_effect : (version : ℕ) → new.step ≡ t.step → StepIn t r new → Did (committed_outcome new.loader.cached new.step version)
  committed_effect version same k =
      subst (λ (x : Transition). Did (committed_outcome new.loader.cached x version)) (sym same) (by t.step refl)
    where
      joins : (other : Kind) (now lease : ℕ) → t.step ≡ Join other now lease →
          Did (outcomes.Joined (last_member new.loader.cached) version (since_of new.loader.cached))
      joins other now lease is =
          let made : Applies k.from (Join other now lease) k.commits.to =
          subst (λ (x : Transition). Applies k.from x k.commits.to) is k.applies in
          let next : k.commits.to.next_member ≡ k.from.next_member + 1 = ap (λ (s : ShardState). s.next_member) made.makes.effect in
          let last : last_member new.loader.cached ≡ k.commits.to.next_member - 1 = ap last_member k.cached in
          let joined : k.commits.to.next_member ≡ last_member new.loader.cached + 1 = omega arith in
          (k.commits, joined, sym (ap since_of k.cached))

      by : (x : Transition) → t.step ≡ x → Did (committed_outcome new.loader.cached x version)
      by (Join other now lease) is = joins other now lease is
      by Init is = k.commits
      by (Leave m) is = k.commits
      by (Renew m now) is = k.commits
      by (Advance m to) is = k.commits
      by (Expire now) is = k.commits
      by (Append m token expected upper parts rows weight) is = k.commits
      by (Merge m token left right merged) is = k.commits

  refused_effect : (refusal : Refusal) → CommitsNone r × IsShown t.loader.shard (trying.call_of t) r →
      Did (refused_outcome new.loader.cached member new.step refusal)
  refused_effect refusal h =
      refused_as Did new.loader.cached member new.step refusal h (λ v. h) (λ v. h) (λ since. h) (λ v. h)

  pub change_effect : (tried : Tried) → trying.Moves t r new tried → Did (outcome new member tried)
  change_effect tried moves = by tried moves (tried_effect t new r tried sound moves)
    where
      by : (x : Tried) → trying.Moves t r new x → TriedEffect t r new x → Did (outcome new member x)
      by (tries.Committed version) m k = committed_effect version (moves_same t new r (tries.Committed version) m).step k
      by tries.Begun m k = inr k
      by tries.Again m k = inl k
      by tries.Goes m k = inl k
      by tries.Fault m k = k
      by (tries.Refused refusal) m k = refused_effect refusal (k, stop_shown t new r (tries.Refused refusal) tt m)
      by tries.Spent m k = (k, stop_shown t new r tries.Spent tt m)
      by (tries.Damaged damage) m k = k
