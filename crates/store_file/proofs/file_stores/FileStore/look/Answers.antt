use Rattle.std.proofs.Common.{List, [], ◌∷◌, ◌++◌, refl, sym, ap, ◌∙◌, subst}
use Rattle.store_core.specs.declared.calls.Call.{Call}
use Rattle.store_core.specs.declared.entries.Entry.{Entry}
use Rattle.store_core.specs.declared.outcomes.Outcome.TheVariants.{Took}
use Rattle.store_core.specs.Contents.{stored_of}
use Rattle.store_core.specs.Stores.{Stored}
use Rattle.store_core.specs.Changes.{changes}
use Rattle.store_core.specs.Histories.{replay, entry_of}
use Rattle.store_file.specs.Replays.{Keeps}
use Rattle.store_file.specs.FileStores.{store_now, disk_of, opened_disk}
use Rattle.store_file.proofs.CallLaws.{still_keeps}
use Rattle.store_file.proofs.KeptSince.{kept_again, kept_in, kept_look}
use Rattle.store_file.proofs.Trails.{noted}
use Rattle.store_file.proofs.file_stores.FileStore.look.Goals as goal

pub invariant_of-self : goal.invariant_of-self
invariant_of-self g c =
    let s = c.args.self.now in
    let kept = kept_again (opened_disk s) (disk_of s) (stored_of s.start.value) s.trail.items c.reserve.new.self.items s.shut
    c.reserve.ensures.items (kept_in s) in
    record {
      replayed = λ unshut. s.replayed unshut ∙ sym (ap (λ (l : List Entry). replay (stored_of s.start.value) l) c.reserve.ensures.items);
      kept = s.kept;
      done = kept.done;
      told = kept.told;
      made = kept.made;
      spelled = kept.spelled;
      recorded = kept.recorded;
      safe = kept.safe;
    }

pub invariant_of-self-in-Break-branch-3 : goal.invariant_of-self-in-Break-branch-3
invariant_of-self-in-Break-branch-3 g c =
    let s = c.args.self.now in
    let same = c.in_err-reply.ensures.err in
    let kept = kept_again (opened_disk s) (disk_of s) (stored_of s.start.value) s.trail.items c.reserve.new.self.items s.shut
    c.reserve.ensures.items (kept_in s) in
    record {
      replayed = λ unshut. same ∙ s.replayed unshut
          ∙ sym (ap (λ (l : List Entry). replay (stored_of s.start.value) l) c.reserve.ensures.items);
      kept = λ h is unshut. subst (λ (t : Stored). Keeps t s.journal.end h) (sym same) (s.kept h is unshut);
      done = kept.done;
      told = kept.told;
      made = kept.made;
      spelled = kept.spelled;
      recorded = kept.recorded;
      safe = kept.safe;
    }

pub invariant_of-self-2 : goal.invariant_of-self-2
invariant_of-self-2 g c =
    let s = c.args.self.now in
    let client = c.args.client in
    let copy = c.in_ok-copy.copy in
    let more = c.note.ensures ∙ ap (λ (l : List Entry). l ++ entry_of client copy Took ∷ []) c.reserve.ensures.items in
    let kept = kept_look (opened_disk s) (disk_of s) (stored_of s.start.value) s.trail.items c.note.new.trail.items s.shut c.requires.open
    (entry_of client copy Took) more refl
    (ap (λ (call : Call). changes (store_now s) call) c.in_ok-copy.ensures ∙ c.requires.same) (kept_in s) in
    record {
      replayed = λ shut. noted (stored_of s.start.value) (stored_of s.current) (stored_of c.apply.new.self) s.trail.items
          c.note.new.trail.items
          client c.args.call.now copy Took
          (s.replayed shut) c.in_ok-reply.ensures.ok c.in_ok-copy.ensures more;
      kept = λ h is shut. still_keeps (stored_of s.current) (stored_of c.apply.new.self) (store_now s) c.args.call.now (s.replayed shut)
          c.in_ok-reply.ensures.ok c.requires.same s.journal.end h (s.kept h is shut);
      done = kept.done;
      told = kept.told;
      made = kept.made;
      spelled = kept.spelled;
      recorded = kept.recorded;
      safe = kept.safe;
    }
