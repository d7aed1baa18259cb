-- A run's merges from the compactor's open to its close, as the code makes them. Entries go newest first.
use Rattle.std.proofs.Common.{◌≡◌, ℕ, ◌+◌, ◌<◌, ◌≤◌, Bool, true, false, Option, Some, None, Result, Ok, Err, List, refl, sym, ap, subst, ◌∙◌, arith}
use Rattle.std.specs.Prelude.{IfSome, IsSome, unwrap_or}
use Rattle.update_core.specs.declared.updates.Update.{Update}
use Rattle.store_core.specs.declared.shards.ShardId.{ShardId}
use Rattle.store_core.specs.declared.entries.Entry.{Entry}
use Rattle.store_core.specs.Stores.{Stored}
use Rattle.store_core.specs.Histories.{History}
use Rattle.store_core.specs.Newest.{replay_back}
use Rattle.state_core.specs.declared.kinds.Kind.TheVariants.{Keeper}
use Rattle.state_core.specs.declared.transitions.Transition.TheVariants.{Init, Join, Leave}
use Rattle.history_core.specs.declared.asked.Asked.{Asked}
use Rattle.history_core.specs.declared.asked.Asked.TheVariants as asks
use Rattle.history_core.specs.declared.merge_answers.MergeAnswer.{MergeAnswer}
use Rattle.history_core.specs.declared.merge_answers.MergeAnswer.TheVariants as merges
use Rattle.load_core.specs.Fronts.{Backwards, WhereLawful}
use Rattle.load_core.proofs.Remaining.{begun_cost}
use Rattle.machine_core.proofs.Fronts.{everywhere}
use Rattle.read_machine.specs.Courses as courses
use Rattle.token_machine.specs.Storings.{begun, no_parts}
use Rattle.merge_client.specs.declared.compactors.Compactor.{Compactor}
use Rattle.merge_client.specs.declared.dues.Due.{Due}
use Rattle.merge_client.specs.declared.pairs.Pair.{Pair}
use Rattle.merge_client.specs.Polling.{CostAt, CostBy}
use Rattle.merge_client.specs.Beginning as beginning
use Rattle.merge_client.specs.Following as following
use Rattle.merge_client.specs.Machining as merge
use Rattle.merge_client.specs.Merging as merging
use Rattle.driving.specs.Drives.{Answered}
use Rattle.driving.specs.Goings.{Goes, GrowsBy}
use Rattle.driving.proofs.GoingLaws.{Between, going_so, more_going, no_going}
use Rattle.plain_run.specs.declared.places.Place.{Place}
use Rattle.plain_run.specs.declared.session_faults.SessionFault.{SessionFault}
use Rattle.plain_run.specs.declared.session_faults.SessionFault.TheVariants as faults
use Rattle.plain_run.specs.Answering.{TendsTo}
use Rattle.plain_run.specs.Compacting.{CompactorReady, LeavesKeeper, MakesCompactor, MergesAll, MergesMade, MergesNext, keeper_of, merge_made}
use Rattle.plain_run.specs.Drives.{Failed}
use Rattle.plain_run.specs.PlainRuns.{View}
use Rattle.plain_run.specs.Sessions.{ViewAt}
use Rattle.plain_run.specs.Settling.{GetsSettled, IsSettledIn, KeeperAt}
use Rattle.plain_run.proofs.CompactLaws.{compacting}
use Rattle.plain_run.proofs.ReplyLaws.{failed_more, the_some}
use Rattle.plain_run.proofs.KeeperLaws.{keeper_lower}
use Rattle.plain_run.proofs.TendLaws.{failed_tends, somewhere}

module _ (shard : ShardId) where
  -- a fault after earlier entries
  later : (a b d : Option History) (first : List Update → Stored → List Entry → List Entry → Type 0) (fault : SessionFault) →
      Goes shard a b first → Goes shard b d (λ list start es now. Failed shard fault start es now) →
      Goes shard a d (λ list start es now. Failed shard fault start es now)
  later a b d first fault x y = failed_more (somewhere shard) a b d first fault x y

  -- ---- merges, one after the other

  module _ (member : ℕ) where
    pub made_none : (a : Option History) → Goes shard a a (MergesMade shard member 0)
    made_none a = no_going shard a (MergesMade shard member 0) (λ list start es reader view v k. (v, k))

    pub made_one : (a b d : Option History) (count : ℕ) → Goes shard a b (MergesMade shard member count) →
        Goes shard b d (MergesNext shard member (Ok true)) → Goes shard a d (MergesMade shard member (count + 1))
    made_one a b d count x y =
        more_going shard a b d (MergesMade shard member count) (MergesNext shard member (Ok true)) (MergesMade shard member (count + 1)) x y
        (λ list start es mid now b1 b2 f g reader view v k.
        let (at, kept) = f reader view v k in
        g reader (count + 1) view at kept)

    pub made_all : (a b d : Option History) (count : ℕ) → Goes shard a b (MergesMade shard member count) →
        Goes shard b d (MergesNext shard member (Ok false)) → Goes shard a d (MergesAll shard member (Ok tt))
    made_all a b d count x y =
        more_going shard a b d (MergesMade shard member count) (MergesNext shard member (Ok false)) (MergesAll shard member (Ok tt)) x y
        (λ list start es mid now b1 b2 f g reader view v k.
        let (at, kept) = f reader view v k in
        let (there, rest) = g reader (count + 1) view at kept in
        (there, keeper_lower shard start now member (count + 1) 1 (omega arith) rest.0, rest.1))

    pub made_fails : (a b d : Option History) (count : ℕ) (fault : SessionFault) → Goes shard a b (MergesMade shard member count) →
        Goes shard b d (MergesNext shard member (Err fault)) → Goes shard a d (MergesAll shard member (Err fault))
    made_fails a b d count faults.Damaged x y =
        more_going shard a b d (MergesMade shard member count) (MergesNext shard member (Err faults.Damaged))
        (MergesAll shard member (Err faults.Damaged)) x y
        (λ list start es mid now b1 b2 f g reader view v k.
        let (at, kept) = f reader view v k in
        g reader (count + 1) view at kept)
    made_fails a b d count faults.Memory x y = later a b d (MergesMade shard member count) faults.Memory x y
    made_fails a b d count faults.Store x y = later a b d (MergesMade shard member count) faults.Store x y
    made_fails a b d count faults.MembersFull x y = later a b d (MergesMade shard member count) faults.MembersFull x y
    made_fails a b d count faults.Spent x y = later a b d (MergesMade shard member count) faults.Spent x y

    -- no shard has so many versions
    pub made_too_many : (a b : Option History) (count : ℕ) → 18446744073709551615 ≤ count → Goes shard a b (MergesMade shard member count) →
        Goes shard a b (MergesAll shard member (Err faults.Damaged))
    made_too_many a b count many x =
        going_so shard a b (MergesMade shard member count) (MergesAll shard member (Err faults.Damaged)) x
        (λ list start es now bt f reader view v k.
        let (at, kept) = f reader view v k in
        let above : count + 1 ≤ kept.number = kept.above in
        let few : kept.number < 18446744073709551616 = kept.few in
        omega (arith, many, above, few))

  -- ---- from the open to the close

  pub compacts : (a b d e : Option History) (c : Compactor) (reader : ℕ) (result : Result Unit SessionFault) →
      Goes shard a b (MakesCompactor shard (Ok c)) → Goes shard b d (MergesAll shard (keeper_of c) (Ok tt)) →
      Goes shard d e (LeavesKeeper shard (keeper_of c) result) → Goes shard a e (TendsTo shard reader (GetsSettled shard) result)
  compacts a b d e c reader (Ok done) x y z =
      more_going shard a d e Merged (LeavesKeeper shard (keeper_of c) (Ok done)) (TendsTo shard reader (GetsSettled shard) (Ok done)) first z
      (λ list start es mid now b1 b2 f g view v.
      let (at, kept, settled) = f view v in
      let (there, stays) = g reader view at kept in
      (there, stays settled))
    where
      Merged : List Update → Stored → List Entry → List Entry → Type 0
      Merged list start es now =
          (view : View) → ViewAt shard list start es reader view →
          ViewAt shard list start now reader view × KeeperAt shard start now (keeper_of c) 1 × IsSettledIn (replay_back start now) shard

      first : Goes shard a d Merged
      first = more_going shard a b d (MakesCompactor shard (Ok c)) (MergesAll shard (keeper_of c) (Ok tt)) Merged x y
          (λ list start es mid now b1 b2 f g view v.
          let (at, kept) = f reader view v in
          g reader view at kept)
  compacts a b d e c reader (Err fault) x y z =
      failed_tends (somewhere shard) a e reader (GetsSettled shard) fault
      (later a b e (MakesCompactor shard (Ok c)) fault x (later b d e (MergesAll shard (keeper_of c) (Ok tt)) fault y z))

  pub compacts_not : (a b d : Option History) (c : Compactor) (reader : ℕ) (fault : SessionFault) →
      Goes shard a b (MakesCompactor shard (Ok c)) → Goes shard b d (MergesAll shard (keeper_of c) (Err fault)) →
      Goes shard a d (TendsTo shard reader (GetsSettled shard) (Err fault))
  compacts_not a b d c reader faults.Damaged x y =
      more_going shard a b d (MakesCompactor shard (Ok c)) (MergesAll shard (keeper_of c) (Err faults.Damaged))
      (TendsTo shard reader (GetsSettled shard) (Err faults.Damaged)) x y
      (λ list start es mid now b1 b2 f g view v.
      let (at, kept) = f reader view v in
      g reader view at kept)
  compacts_not a b d c reader faults.Memory x y = later a b d (MakesCompactor shard (Ok c)) faults.Memory x y
  compacts_not a b d c reader faults.Store x y = later a b d (MakesCompactor shard (Ok c)) faults.Store x y
  compacts_not a b d c reader faults.MembersFull x y = later a b d (MakesCompactor shard (Ok c)) faults.MembersFull x y
  compacts_not a b d c reader faults.Spent x y = later a b d (MakesCompactor shard (Ok c)) faults.Spent x y

-- ---- commands that are begun

-- a compactor with a command begun, of its member
pub record Begun (shard : ShardId) (old new : Compactor) (asked : Asked) : Type 0 where
  pub number : ℕ
  pub had : old.member ≡ Some number
  pub token : ℕ
  pub kept : merge.kept new ≡ compacting shard 0 None None number token asked

module _ (shard : ShardId) (client : ℕ) where
  pub merge_begun : (front : Option History) (old new : Compactor) → CompactorReady shard client front old → beginning.Merging old new →
      Begun shard old new asks.Merge
  merge_begun front old new ready (n, has, is) =
      subst (λ (c : Compactor). Begun shard old c asks.Merge) (sym is) (record {
        number = n;
        had = has;
        token = old.token + 1;
        kept = λ i. record { asked = Some asks.Merge; member = has i; token = old.token + 1; shard = ready.shard i };
      })

  pub leave_begun : (front : Option History) (old new : Compactor) → CompactorReady shard client front old →
      beginning.Changing old asks.CloseCompactor (λ member. Leave member) new → Begun shard old new asks.CloseCompactor
  leave_begun front old new ready (n, has, is) =
      subst (λ (c : Compactor). Begun shard old c asks.CloseCompactor) (sym is) (record {
        number = n;
        had = has;
        token = old.token;
        kept = λ i. record { asked = Some asks.CloseCompactor; member = has i; token = old.token; shard = ready.shard i };
      })

  -- an answer that says whether a merge was made leaves the member
  merge_keeps : (member : Option ℕ) (answer : MergeAnswer) (made : Bool) → merge_made answer ≡ Ok made → merging.member_after member answer ≡ member
  merge_keeps member (merges.Merged version) made is = refl
  merge_keeps member (merges.NothingDue version) made is = refl
  merge_keeps member (merges.Superseded version) made is = refl
  merge_keeps member (merges.Opened joined version) made is = cc
  merge_keeps member (merges.MembersFull version) made is = cc
  merge_keeps member (merges.Renewed version) made is = cc
  merge_keeps member (merges.Closed version) made is = cc
  merge_keeps member (merges.Expired version) made is = cc

  pub member_merged : (old begun new : Compactor) (answer : MergeAnswer) (made : Bool) → Begun shard old begun asks.Merge →
      merge.Ended (merge.kept begun) answer new → merge_made answer ≡ Ok made → new.member ≡ old.member
  member_merged old begun new answer made b over is =
      over.member ∙ merge_keeps begun.member answer made is ∙ ap (λ (k : merge.Kept). k.member) b.kept ∙ sym b.had

  pub ready_merged : (a d : Option History) (old begun new : Compactor) (answer : MergeAnswer) (made : Bool) → CompactorReady shard client a old →
      Begun shard old begun asks.Merge → merge.Ended (merge.kept begun) answer new → merging.IsSound new → following.FollowsWhere client d new →
      merge_made answer ≡ Ok made → CompactorReady shard client d new
  ready_merged a d old begun new answer made ready b over sound follows is = record {
    shard = over.shard ∙ ap (λ (k : merge.Kept). k.shard) b.kept;
    sound = sound;
    follows = follows;
    free = over.asked;
    member = subst (λ (m : Option ℕ). IsSome m) (sym (member_merged old begun new answer made b over is)) ready.member;
  }

module _ (shard : ShardId) (a d : Option History) where
  -- a merge that was not answered
  pub failed_merge : (member : ℕ) (fault : SessionFault) → Goes shard a d (λ list start es now. Failed shard fault start es now) →
      Goes shard a d (MergesNext shard member (Err fault))
  failed_merge member faults.Damaged went =
      going_so shard a d (λ list start es now. ⊥) (MergesNext shard member (Err faults.Damaged)) went (λ list start es now b x. absurd x)
  failed_merge member faults.Memory went = went
  failed_merge member faults.Store went = went
  failed_merge member faults.MembersFull went = went
  failed_merge member faults.Spent went = went

  -- a merge's result
  pub merge_told : (old begun : Compactor) (asked : Asked) (answer : MergeAnswer) (result : Result Bool SessionFault) →
      (b : Begun shard old begun asked) → result ≡ merge_made answer → Goes shard a d (MergesNext shard b.number (merge_made answer)) →
      Goes shard a d (MergesNext shard (keeper_of old) result)
  merge_told old begun asked answer result b is went =
      let number : b.number ≡ keeper_of old = ap (λ (m : Option ℕ). unwrap_or m 0) (sym b.had) in
      subst (λ (r : Result Bool SessionFault). Goes shard a d (MergesNext shard (keeper_of old) r)) (sym is)
      (subst (λ (n : ℕ). Goes shard a d (MergesNext shard n (merge_made answer))) number went)

-- ---- what a command that is begun costs, and what it follows by

-- what isn't so of nothing
nothing : {A : Type 0} (o : Option A) (P : Type 0) → IfSome o (λ x. P) → (P → ⊥) → o ≡ None
nothing None P h never = refl
nothing (Some x) P h never = absurd (never h)

-- with a merge begun
abbrev merging_for : Compactor → ℕ → Compactor
merging_for old member = record old {
  asked = Some asks.Merge;
  token = old.token + 1;
  storing = begun (merging.unknown (merging.shard_of old)) Init no_parts;
  reading = record {
    course = courses.begun old.reading.course.getting old.storing.trying.loader member;
    asked = Some (record {});
  };
}

module _ (client : ℕ) (front : Option History) where
  pub open_cost : (shard : ShardId) (now lease : ℕ) → WhereLawful shard front (Backwards (CostAt 3 client (merging.opened shard now lease)))
  open_cost shard now lease =
      everywhere shard front (CostAt 3 client (merging.opened shard now lease))
      (λ start es list lt. begun_cost 3 client (merging.unknown shard) (Join Keeper now lease) start es (omega arith))

  pub merging_cost : (old new : Compactor) → beginning.Merging old new →
      WhereLawful (merging.shard_of new) front (Backwards (CostAt 3 client new))
  merging_cost old new (n, has, is) =
      subst (λ (c : Compactor). WhereLawful (merging.shard_of c) front (Backwards (CostAt 3 client c))) (sym is)
      (everywhere (merging.shard_of old) front (CostAt 3 client (merging_for old n)) (λ start es list lt. omega arith))

  pub closing_cost : (old new : Compactor) → old.asked ≡ None → merging.IsSound old →
      beginning.Changing old asks.CloseCompactor (λ member. Leave member) new →
      WhereLawful (merging.shard_of new) front (Backwards (CostAt 3 client new))
  closing_cost old new free sound (n, has, is) =
      subst (λ (c : Compactor). WhereLawful (merging.shard_of c) front (Backwards (CostAt 3 client c))) (sym is)
      (everywhere (merging.shard_of old) front (CostAt 3 client closing) (λ start es list lt. at start es))
    where
      closing : Compactor
      closing = record old {
        asked = Some asks.CloseCompactor;
        storing = begun old.storing.trying.loader (Leave n) no_parts;
      }

      none_read : old.reading.asked ≡ None
      none_read = nothing old.reading.asked (merging.IsLent old) sound.lent (λ lent. (let a : old.asked ≡ Some asks.Merge = lent.asked in cc))

      none_got : (o : Option Pair) → IfSome o (merging.IsGot old) → o ≡ None
      none_got None h = refl
      none_got (Some p) h = absurd (let a : old.asked ≡ Some asks.Merge = h.asked in cc)

      at : (start : Stored) (es : List Entry) → CostBy old.reading.asked old.pair 3 client closing start es
      at start es =
          subst (λ (o : Option Due). CostBy o old.pair 3 client closing start es) (sym none_read)
          (subst (λ (o : Option Pair). CostBy None o 3 client closing start es) (sym (none_got old.pair sound.got))
          (begun_cost 3 client old.storing.trying.loader (Leave n) start es (omega arith)))
