use Rattle.std.proofs.Common.{refl}
use Rattle.store_core.specs.declared.outcomes.Outcome.TheVariants.{FailedLost}
use Rattle.store_core.specs.Contents.{stored_of}
use Rattle.store_core.specs.Histories.{entry_of}
use Rattle.store_file.specs.FileStores.{disk_of, opened_disk}
use Rattle.store_file.proofs.KeptSince.{kept_again, kept_in, kept_shut}
use Rattle.store_file.proofs.file_stores.FileStore.refuse.Goals as goal

pub invariant_of-self : goal.invariant_of-self
invariant_of-self g c =
    let s = c.args.self.now in
    let kept = kept_again (opened_disk s) (disk_of s) (stored_of s.start.value) s.trail.items c.push.new.self.items s.shut
    c.in_err-push.ensures.items (kept_in s) in
    record {
      replayed = λ unshut. absurd cc;
      kept = s.kept;
      done = kept.done;
      told = kept.told;
      made = kept.made;
      spelled = kept.spelled;
      recorded = kept.recorded;
      safe = kept.safe;
    }

pub invariant_of-self-2 : goal.invariant_of-self-2
invariant_of-self-2 g c =
    let s = c.args.self.now in
    let kept = kept_shut (opened_disk s) (disk_of s) (stored_of s.start.value) s.trail.items c.push.new.self.items s.shut c.requires
    (entry_of c.args.client c.in_ok-call.call FailedLost) c.in_ok-push.ensures.items refl (kept_in s) in
    record {
      replayed = λ unshut. absurd cc;
      kept = s.kept;
      done = kept.done;
      told = kept.told;
      made = kept.made;
      spelled = kept.spelled;
      recorded = kept.recorded;
      safe = kept.safe;
    }
