use Rattle.std.proofs.Common.{List, sym, ap, ◌∙◌}
use Rattle.store_core.specs.declared.entries.Entry.{Entry}
use Rattle.store_core.specs.Contents.{stored_of}
use Rattle.store_core.specs.Histories.{replay}
use Rattle.store_file.proofs.KeptSince.{kept_at_first}
use Rattle.store_file.proofs.file_stores.FileStore.starting.Goals as goal

pub invariant_of-result : goal.invariant_of-result
invariant_of-result g c =
    let start = ap stored_of c.of-start.ensures in
    let kept = kept_at_first (stored_of c.args.contents) (stored_of c.of-start.result.value) c.args.end
    (g.D.Disk.history c.of-opened.result.value) (g.D.Disk.history c.args.disk) c.new.result.items
    (ap g.D.Disk.history c.of-opened.ensures) start c.new.ensures.items c.ranges.end.fits c.requires in
    record {
      replayed = λ unshut. sym start ∙ sym (ap (λ (l : List Entry). replay (stored_of c.of-start.result.value) l) c.new.ensures.items);
      kept = λ h is unshut. c.requires h is;
      done = kept.done;
      told = kept.told;
      made = kept.made;
      spelled = kept.spelled;
      recorded = kept.recorded;
      safe = kept.safe;
    }
