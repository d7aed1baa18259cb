use Rattle.std.proofs.Common.{sym, ap, ◌∙◌}
use Rattle.journal_core.specs.Disks.{DiskHistory}
use Rattle.journal_core.proofs.MemLaws.{disk_after-push}
use Rattle.journal_core.proofs.mem_disks.MemDisk.noted.Goals as goal

pub invariant_of-self-2 : goal.invariant_of-self-2
invariant_of-self-2 c = record {
  current = c.requires ∙ sym (ap (λ (h : DiskHistory). h.now.bytes)
      (disk_after-push c.args.self.now.start c.args.self.now.calls.items c.push.new.self.items c.args.call c.in_ok-push.ensures.items));
}

pub returns-clause-ok : goal.returns-clause-ok
returns-clause-ok c = disk_after-push c.args.self.now.start c.args.self.now.calls.items c.push.new.self.items c.args.call
    c.in_ok-push.ensures.items
