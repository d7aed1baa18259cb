-- What a poll comes to by the reply to its call: never Busy, and Fault only where the call failed.
use Rattle.std.proofs.Common.{◌≡◌, ◌≢◌, ◌==◌, ◌&&◌, ℕ, Option, Some, None, List, inl, inr, refl, sym, ap, subst, ◌∙◌}
use Rattle.std.specs.Prelude.{⊤}
use Rattle.store_core.specs.declared.part_keys.PartKey.{PartKey}
use Rattle.store_core.specs.declared.replies.Reply.{Reply}
use Rattle.store_core.specs.declared.replies.Reply.TheVariants as replies
use Rattle.store_core.specs.declared.versions.Version.{Version}
use Rattle.state_core.specs.declared.refusals.Refusal.{Refusal}
use Rattle.state_core.specs.declared.refusals.Refusal.TheVariants as refusals
use Rattle.state_core.proofs.ListLemmas.{bool_cases}
use Rattle.history_core.specs.declared.asked.Asked.{Asked}
use Rattle.history_core.specs.declared.asked.Asked.TheVariants as asks
use Rattle.history_core.specs.declared.merge_answers.MergeAnswer.{MergeAnswer}
use Rattle.load_core.specs.declared.damages.Damage.TheVariants as damages
use Rattle.load_core.specs.declared.fetches.Fetched.{Fetched}
use Rattle.load_core.specs.declared.polls.Poll.{Poll}
use Rattle.load_core.specs.declared.polls.Poll.TheVariants as polls
use Rattle.load_core.specs.declared.tries.Tried.{Tried}
use Rattle.load_core.specs.declared.tries.Tried.TheVariants as tries
use Rattle.change_core.specs.Changes.{outcome}
use Rattle.change_core.proofs.Forms.{committed_as, refused_as}
use Rattle.read_machine.specs.declared.courses.Course.{Course}
use Rattle.read_machine.specs.declared.readings.Reading.{Reading}
use Rattle.read_machine.specs.Courses.{MovesByFetched, counted}
use Rattle.read_machine.specs.Readings as readings
use Rattle.read_machine.proofs.HowRead.{HowGot, HowRead, checked, damaged, fails, gains, got, heavy, misses, scanned, spoilt, unscanned}
use Rattle.read_machine.proofs.Replied.{read_so}
use Rattle.token_machine.specs.Outcomes.{token_outcome}
use Rattle.token_machine.specs.Storings as storing
use Rattle.token_machine.proofs.Ways.{failed_fault, fault_failed}
use Rattle.merge_client.specs.declared.compactors.Compactor.{Compactor}
use Rattle.merge_client.specs.declared.dues.Due.{Due}
use Rattle.merge_client.specs.declared.founds.Found.{Found}
use Rattle.merge_client.specs.declared.founds.Found.TheVariants as founds
use Rattle.merge_client.specs.Finding.{finding}
use Rattle.merge_client.specs.Merging.{IsReady, Moves, MovesBy, change_poll, merge_poll, merge_refused, misfit, noted, own_member, read_poll, told_fit, verdict}
use Rattle.merge_client.proofs.Asking.{read_keeps}

-- a poll that isn't Busy, and is Fault only after a call that failed
abbrev pub Fits : Reply → Poll MergeAnswer → Type 0
Fits r polls.Busy = ⊥
Fits r polls.Fault = r ≡ replies.Failed
Fits r _ = ⊤

-- ---- a transition

token_fits : (c : Compactor) (r : Reply) (refusal : Refusal) → Fits r (merge_poll c (token_outcome c.storing.trying
    c.token refusal))
token_fits c r (refusals.TokenOld last) = elim (bool_cases ((last == c.token) && c.storing.trying.failed)) [
  | inl h ↦ rw h
      tt
  | inr h ↦ rw h tt
]
token_fits c r refusals.NotPresent = tt
token_fits c r refusals.NoMember = tt
token_fits c r other = tt

module _ (c : Compactor) (r : Reply) where
  merge_fits : (tried : Tried) → (tried ≡ tries.Fault → r ≡ replies.Failed) → Fits r (verdict c asks.Merge tried)
  merge_fits (tries.Committed version) f = tt
  merge_fits tries.Begun f = tt
  merge_fits tries.Again f = tt
  merge_fits tries.Goes f = tt
  merge_fits tries.Fault f = f refl
  merge_fits (tries.Refused refusal) f = token_fits c r refusal
  merge_fits tries.Spent f = tt
  merge_fits (tries.Damaged damage) f = tt

  -- by what comes of a change
  change_fits : (asked : Asked) (tried : Tried) → (tried ≡ tries.Fault → r ≡ replies.Failed) →
      Fits r (change_poll c asked (outcome c.storing.trying (own_member c) tried))
  change_fits asked (tries.Committed version) f = committed_as (λ o. Fits r (change_poll c asked o))
      c.storing.trying.loader.cached c.storing.trying.step version tt tt
  change_fits asked tries.Begun f = tt
  change_fits asked tries.Again f = tt
  change_fits asked tries.Goes f = tt
  change_fits asked tries.Fault f = f refl
  change_fits asked (tries.Refused refusal) f = refused_as (λ o. Fits r (change_poll c asked o))
      c.storing.trying.loader.cached (own_member c)
      c.storing.trying.step refusal tt (λ v. tt) (λ v. tt) (λ v. tt) (λ v. tt)
  change_fits asked tries.Spent f = tt
  change_fits asked (tries.Damaged damage) f = tt

  verdict_fits : (asked : Asked) (tried : Tried) → (tried ≡ tries.Fault → r ≡ replies.Failed) → Fits r (verdict c asked tried)
  verdict_fits asks.Merge tried f = merge_fits tried f
  verdict_fits other tried f = change_fits other tried f

-- ---- a reading

read_fits : (m new : Reading Due) (r : Reply) (p : Poll Found) → readings.IsSound finding m → readings.Moves finding m r new p →
    Fits r (read_poll p)
read_fits m new r p sound moves = by p moves
  where
    by : (x : Poll Found) → readings.Moves finding m r new x → Fits r (read_poll x)
    by polls.Busy h = absurd (read_keeps.never_busy m new r sound h)
    by polls.More h = tt
    by polls.Fault h = read_keeps.fault_failed m new r sound h
    by polls.Spent h = tt
    by (polls.Damaged damage) h = tt
    by (polls.Done (founds.Nothing version)) h = tt
    by (polls.Done (founds.Due p)) h = tt
    by (polls.Done (founds.Gone version)) h = tt

-- after a call that failed it is Fault
read_failed : (m new : Reading Due) (p : Poll Found) → readings.Moves finding m replies.Failed new p → p ≡ polls.Fault
read_failed m new p moves = let x = read_so finding m new replies.Failed p moves in by x.q x.course x.how
  where
    no_versions : (vs : List Version) → replies.Failed ≡ replies.Versions vs → ⊥
    no_versions vs h = cc

    no_bytes : (b : Option (List ℕ)) → replies.Failed ≡ replies.Bytes b → ⊥
    no_bytes b h = cc

    by : (q : Due) (k : Course) → HowRead finding (counted m.course) q replies.Failed k p → p ≡ polls.Fault
    by q k (unscanned st r is n) = is
    by q k (damaged vs damage st r e is n) = absurd (no_versions vs r)
    by q k (scanned vs s st r e goes) = absurd (no_versions vs r)
    by q k (checked key vs s st r e is n) = absurd (no_versions vs r)
    by q k (got g fetched st moved how goes) = of how
      where
        of : HowGot m.course.getting replies.Failed g fetched → p ≡ polls.Fault
        of (fails r is x) = (subst (λ (y : Fetched). MovesByFetched finding (counted m.course) q g y k p) x goes).0
        of (gains b part r reads is how2) = absurd (no_bytes (Some b) r)
        of (misses key r at is x) = absurd (no_bytes None r)
        of (spoilt b key fault r reads at is x) = absurd (no_bytes (Some b) r)
        of (heavy b part key r reads at weighs is x) = absurd (no_bytes (Some b) r)

-- that a part doesn't fit is told after any reply
told_fits : (r : Reply) (p : Poll Found) (o : Option PartKey) → Fits r (read_poll p) → Fits r (read_poll (told_fit o p))
told_fits r p None h = h
told_fits r p (Some key) h = tt

-- ---- each reply

moved_fits : (old new : Compactor) (r : Reply) (poll : Poll MergeAnswer) → IsReady old → Moves old r new poll → Fits r poll
moved_fits old new r poll ready moves = go old.reading.asked moves
  where
    go : (o : Option Due) → MovesBy o old r new poll → Fits r poll
    go None (s, tried, asked, m, asked_is, poll_is, new_is) = subst (Fits r) (sym poll_is) (verdict_fits (record old {
      storing = s;
    }) r asked tried
        (λ e. fault_failed old.storing s r (subst (λ (t : Tried). storing.Moves old.storing r s t) e m)))
    go (Some q) (w, p, m, (poll_is, new_is)) = subst (Fits r) (sym poll_is)
        (told_fits r p (misfit (noted old) w) (read_fits old.reading w r p ready.sound.reading m))

pub moved_busy : (old new : Compactor) (r : Reply) → IsReady old → ¬ Moves old r new polls.Busy
moved_busy old new r ready moves = moved_fits old new r polls.Busy ready moves

pub moved_fault : (old new : Compactor) (r : Reply) → IsReady old → Moves old r new polls.Fault → r ≡ replies.Failed
moved_fault old new r ready moves = moved_fits old new r polls.Fault ready moves

fault_poll : (c : Compactor) (asked : Asked) → verdict c asked tries.Fault ≡ polls.Fault
fault_poll c asks.Merge = refl
fault_poll c other = refl

more_poll : (p : Poll Found) → p ≡ polls.Fault → read_poll p ≡ polls.Fault
more_poll p is = ap read_poll is

no_more : (o : Option PartKey) (p : Poll Found) → p ≡ polls.Fault → ◌≢◌ {A = Poll MergeAnswer} polls.More (read_poll (told_fit o p))
no_more None p is h = let bad : polls.More ≡ polls.Fault = h ∙ more_poll p is in cc
no_more (Some key) p is h = let bad : polls.More ≡ polls.Damaged (damages.Weight key) = h in cc

-- while a command goes on no call fails
pub moved_more : (old new : Compactor) (r : Reply) → Moves old r new polls.More → r ≢ replies.Failed
moved_more old new r moves failed = go old.reading.asked (subst (λ (q : Reply). Moves old q new polls.More) failed moves)
  where
    go : (o : Option Due) → MovesBy o old replies.Failed new polls.More → ⊥
    go None (s, tried, asked, m, asked_is, poll_is, new_is) =
        let bad : polls.More ≡ polls.Fault = poll_is ∙ ap (λ (k : Tried). verdict (record old { storing = s }) asked k)
        (failed_fault old.storing s tried m) ∙ fault_poll (record old { storing = s }) asked in cc
    go (Some q) (w, p, m, (poll_is, new_is)) =
        no_more (misfit (noted old) w) p (read_failed old.reading w p m) poll_is
