-- The calls of a command of a run, which nobody else calls between. Entries go newest first.
use Rattle.std.proofs.Common.{◌≡◌, ℕ, suc, ◌+◌, inl, inr, List, [], ◌∷◌, ◌++◌, length, refl, sym, ap, subst, ◌∙◌, append_assoc, arith}
use Rattle.std.specs.Prelude.{Ok, Err, Option}
use Rattle.std.specs.List.{AllByRecursion}
use Rattle.update_core.specs.declared.updates.Update.{Update}
use Rattle.store_core.specs.declared.shards.ShardId.{ShardId}
use Rattle.store_core.specs.declared.entries.Entry.{Entry}
use Rattle.store_core.specs.Stores.{Stored}
use Rattle.store_core.specs.Histories.{History, reply}
use Rattle.store_core.specs.Newest.{replay_back}
use Rattle.state_core.specs.States.{ShardState}
use Rattle.update_core.specs.Limits.{most}
use Rattle.history_core.specs.Discipline.{LawfulBack}
use Rattle.history_core.specs.Laws.{LastIs}
use Rattle.history_core.specs.Stands.{StandsFor, accepted}
use Rattle.history_core.proofs.Entries.{lawful_older}
use Rattle.machine_core.specs.Machines.{Words}
use Rattle.driving.specs.declared.drive_faults.DriveFault.{DriveFault}
use Rattle.driving.specs.declared.drive_faults.DriveFault.TheVariants as drives
use Rattle.driving.specs.Drives.{BeginAtMost, Drove, Going, MayBegin, Scanned}
use Rattle.driving.specs.Goings.{Goes}
use Rattle.driving.proofs.GoingLaws.{Between}
use Rattle.plain_run.specs.declared.session_faults.SessionFault.{SessionFault}
use Rattle.plain_run.specs.Drives.{Driven, Failed}
use Rattle.plain_run.specs.PlainRuns.{View}
use Rattle.plain_run.specs.RunFaults.{drive_fault}
use Rattle.plain_run.specs.Sessions.{QuietSince, StartsAt}
use Rattle.plain_run.proofs.Quietly.{quiet_none, quiet_start, quiet_stays}
use Rattle.plain_run.proofs.Stepped.{first_never}
use Rattle.plain_run.proofs.Views.{more_keeps, more_starts}

module _ (shard : ShardId) where
  -- ---- entries that begin the shard at most

  -- what such entries of one client leave as it was
  pub record Unmoved (client : ℕ) (list : List Update) (start : Stored) (es now : List Entry) (calls : ℕ) : Type 0 where
    pub starts : (view : View) → StartsAt shard list start es view → StartsAt shard list start now view
    pub accepts : accepted shard list start now ≡ accepted shard list start es
    pub quiet : (n : ℕ) (s : ShardState) → LastIs (replay_back start es) shard n s → QuietSince shard client start es now calls

  module _ (client : ℕ) (list : List Update) (start : Stored) (st : StandsFor start shard list) (es : List Entry) where
    next_unmoved : (mid : List Entry) (e : Entry) (calls : ℕ) → LawfulBack start (e ∷ mid) → e.client ≡ client →
        MayBegin shard e.call (reply (replay_back start mid) e) → Unmoved client list start es mid calls →
        Unmoved client list start es (e ∷ mid) (calls + 1)
    next_unmoved mid e calls l own effect s = record {
      starts = λ view at. more_starts shard list start st e mid l view (s.starts view at) effect;
      accepts = more_keeps shard list start st e mid l effect ∙ s.accepts;
      quiet = λ n t last. still n t last effect;
    }
      where
        still : (n : ℕ) (t : ShardState) → LastIs (replay_back start es) shard n t →
            MayBegin shard e.call (reply (replay_back start mid) e) →
            QuietSince shard client start es (e ∷ mid) (calls + 1)
        still n t last (inl none) = quiet_none shard start client es mid calls e (s.quiet n t last) own none
        still n t last (inr first) =
            absurd (first_never shard list start st e mid l n t
            ((quiet_stays shard list start client es mid calls (s.quiet n t last)).last n t last) first)

    all_unmoved : (more : List Entry) → LawfulBack start (more ++ es) → AllByRecursion (λ e. e.client ≡ client) more →
        BeginAtMost shard start more es →
        Unmoved client list start es (more ++ es) (length more)
    all_unmoved [] l own begin = record { starts = λ view at. at; accepts = refl; quiet = λ n t last. quiet_start shard client start es }
    all_unmoved (e ∷ more) l own begin =
        let one : length more + 1 ≡ suc (length more) = omega arith in
        subst (λ (n : ℕ). Unmoved client list start es (e ∷ (more ++ es)) n) one
        (next_unmoved (more ++ es) e (length more) l own.0 begin.0 (all_unmoved more (lawful_older start e (more ++ es) l) own.1 begin.1))

  -- the last entry of a command, over its place
  pub lawful_last : (list : List Update) (start : Stored) (es now before : List Entry) (e : Entry) → Between shard list start es now →
      now ≡ e ∷ before → LawfulBack start (e ∷ before)
  lawful_last list start es now before e b split = subst (LawfulBack start) split b.lawful_now

  -- what the entries of a command before its last one leave as it was
  pub unmoved : (client : ℕ) (list : List Update) (start : Stored) (es now before : List Entry) (e : Entry) (calls : ℕ) →
      Between shard list start es now → now ≡ e ∷ before → Going shard client start es before calls →
      Unmoved client list start es before calls
  unmoved client list start es now before e calls b split g =
      let older = lawful_older start e before (lawful_last list start es now before e b split) in
      subst (λ (fs : List Entry). Unmoved client list start es fs calls) (sym g.split)
      (subst (λ (n : ℕ). Unmoved client list start es (g.more ++ es) n) g.as_many
      (all_unmoved client list start b.stands es g.more (subst (LawfulBack start) g.split older) g.of_client g.begin))

  -- ---- faults

  -- a Scan since later entries is one since earlier ones
  pub scanned_before : (P : ℕ → ShardState → Type 0) (list : List Update) (start : Stored) (es mid now : List Entry) →
      Between shard list start es mid → Scanned shard P start mid now → Scanned shard P start es now
  scanned_before P list start es mid now b s = record {
    place = s.place;
    more = s.more ++ b.more;
    split = s.split;
    since = s.since ∙ ap (λ (fs : List Entry). s.more ++ fs) b.split ∙ sym (append_assoc s.more b.more es);
    answered = s.answered;
    last = s.last;
  }

  -- ---- what a drive says, as a session says it

  module _ {M A : Type 0} (W : Words M A) (client : ℕ) (k : W.Kept) (own : W.shard k ≡ shard) (a d : Option History) where
    pub drive_answers : (answer : A) → Goes (W.shard k) a d (Drove W client k (Ok answer)) →
        Goes shard a d (Driven shard W client k (Ok answer))
    drive_answers answer went = subst (λ (s : ShardId). Goes s a d (Drove W client k (Ok answer))) own went

    -- a fault, by its own name
    there : (fault : DriveFault) → Goes (W.shard k) a d (Drove W client k (Err fault)) →
        Goes shard a d (λ list start es now. Failed shard (drive_fault fault) start es now)
    there drives.Memory went = subst (λ (s : ShardId). Goes s a d (Drove W client k (Err drives.Memory))) own went
    there drives.Store went = subst (λ (s : ShardId). Goes s a d (Drove W client k (Err drives.Store))) own went
    there drives.Damaged went = subst (λ (s : ShardId). Goes s a d (Drove W client k (Err drives.Damaged))) own went
    there drives.Spent went =
        subst (λ (s : ShardId). Goes s a d (λ list start es now. Scanned s (λ n t. n ≡ most) start es now)) own went

    pub drive_fails : (fault : DriveFault) (e : SessionFault) → e ≡ drive_fault fault → Goes (W.shard k) a d (Drove W client k (Err fault)) →
        Goes shard a d (Driven shard W client k (Err e))
    drive_fails fault e is went =
        subst (λ (f : SessionFault). Goes shard a d (λ list start es now. Failed shard f start es now)) (sym is) (there fault went)
