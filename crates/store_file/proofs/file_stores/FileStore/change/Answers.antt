use Rattle.std.proofs.Common.{List, [], ◌∷◌, ◌++◌, refl, sym, ap, subst, ◌∙◌}
use Rattle.store_core.specs.declared.entries.Entry.{Entry}
use Rattle.store_core.specs.declared.outcomes.Outcome.TheVariants.{Took, FailedLost}
use Rattle.store_core.specs.Contents.{stored_of}
use Rattle.store_core.specs.Stores.{Stored}
use Rattle.store_core.specs.Changes.{changes}
use Rattle.store_core.specs.Histories.{replay, entry_of}
use Rattle.store_file.specs.Replays.{Keeps}
use Rattle.store_file.specs.FileStores.{store_now, disk_of, opened_disk}
use Rattle.store_file.proofs.CallLaws.{is_change, keeps_after}
use Rattle.store_file.proofs.KeptSince.{kept_again, kept_by_change, kept_by_lost, kept_in}
use Rattle.store_file.proofs.Trails.{noted}
use Rattle.store_file.proofs.file_stores.FileStore.change.Goals as goal

pub added-requires-clause-spelled : goal.added-requires-clause-spelled
added-requires-clause-spelled g c = c.in_ok-change.ensures.read (is_change (store_now c.args.self.now) c.args.call.now c.requires.changes)

pub invariant_of-self : goal.invariant_of-self
invariant_of-self g c =
    let s = c.args.self.now in
    let kept = kept_again (opened_disk s) (disk_of s) (stored_of s.start.value) s.trail.items c.reserve.new.self.items s.shut
    c.reserve.ensures.items (kept_in s) in
    record {
      replayed = λ unshut. s.replayed unshut ∙ sym (ap (λ (l : List Entry). replay (stored_of s.start.value) l) c.reserve.ensures.items);
      kept = s.kept;
      done = kept.done;
      told = kept.told;
      made = kept.made;
      spelled = kept.spelled;
      recorded = kept.recorded;
      safe = kept.safe;
    }

pub invariant_of-self-in-Break-branch-4 : goal.invariant_of-self-in-Break-branch-4
invariant_of-self-in-Break-branch-4 g c =
    let s = c.args.self.now in
    let same = c.in_err-reply.ensures.err in
    let kept = kept_again (opened_disk s) (disk_of s) (stored_of s.start.value) s.trail.items c.reserve.new.self.items s.shut
    c.reserve.ensures.items (kept_in s) in
    record {
      replayed = λ unshut. same ∙ s.replayed unshut
          ∙ sym (ap (λ (l : List Entry). replay (stored_of s.start.value) l) c.reserve.ensures.items);
      kept = λ h is unshut. subst (λ (t : Stored). Keeps t s.journal.end h) (sym same) (s.kept h is unshut);
      done = kept.done;
      told = kept.told;
      made = kept.made;
      spelled = kept.spelled;
      recorded = kept.recorded;
      safe = kept.safe;
    }

pub invariant_of-self-then-added : goal.invariant_of-self-then-added
invariant_of-self-then-added g c =
    let s = c.args.self.now in
    let client = c.args.client in
    let copy = c.in_ok-copy.copy in
    let change = ap (λ (t : Stored). changes t c.args.call.now) (s.replayed c.requires.open) ∙ c.requires.changes in
    let more = c.note.ensures ∙ ap (λ (l : List Entry). l ++ entry_of client copy Took ∷ []) c.reserve.ensures.items in
    let back = c.in_ok-change.ensures.read (is_change (store_now s) c.args.call.now c.requires.changes) in
    let kept = kept_by_change (opened_disk s) (disk_of s) (stored_of s.start.value) s.trail.items c.note.new.trail.items s.shut c.requires.open
    (g.D.Disk.history c.added.new.journal.disk) client c.args.call.now copy s.journal.end c.in_ok-change.change c.in_ok-copy.ensures more
    c.requires.changes c.in_ok-change.ensures.spelled back (λ h is. (s.kept h is c.requires.open).rests) (c.if-not-has_room.ensures refl) c.added.ensures.records
    c.added.new.journal.end (c.added.ensures.there c.if-added.true) (kept_in s) in
    record {
      replayed = λ shut. noted (stored_of s.start.value) (stored_of s.current) (stored_of c.apply.new.self) s.trail.items
          c.note.new.trail.items
          client c.args.call.now copy Took
          (s.replayed shut) c.in_ok-reply.ensures.ok c.in_ok-copy.ensures more;
      kept = λ h is shut. keeps_after (stored_of s.current) (stored_of c.apply.new.self) (store_now s) c.args.call.now (s.replayed shut)
          c.in_ok-reply.ensures.ok c.added.new.journal.end h
          (c.added.ensures.kept c.if-added.true (stored_of s.current) (λ k known. s.kept k known shut) change h is);
      done = kept.done;
      told = kept.told;
      made = kept.made;
      spelled = kept.spelled;
      recorded = kept.recorded;
      safe = kept.safe;
    }

pub invariant_of-self-2 : goal.invariant_of-self-2
invariant_of-self-2 g c =
    let s = c.args.self.now in
    let client = c.args.client in
    let copy = c.in_ok-copy.copy in
    let more = c.note-2.ensures ∙ ap (λ (l : List Entry). l ++ entry_of client copy FailedLost ∷ []) c.reserve.ensures.items in
    let back = c.in_ok-change.ensures.read (is_change (store_now s) c.args.call.now c.requires.changes) in
    let kept = kept_by_lost (opened_disk s) (disk_of s) (stored_of s.start.value) s.trail.items c.note-2.new.trail.items s.shut c.requires.open
    (g.D.Disk.history c.added.new.journal.disk) client c.args.call.now copy s.journal.end c.in_ok-change.change c.in_ok-copy.ensures more
    c.requires.changes c.in_ok-change.ensures.spelled back (λ h is. (s.kept h is c.requires.open).rests) (c.if-not-has_room.ensures refl) c.added.ensures.records
    (kept_in s) in
    record {
      replayed = λ unshut. absurd cc;
      kept = λ h is unshut. absurd cc;
      done = kept.done;
      told = kept.told;
      made = kept.made;
      spelled = kept.spelled;
      recorded = kept.recorded;
      safe = kept.safe;
    }
