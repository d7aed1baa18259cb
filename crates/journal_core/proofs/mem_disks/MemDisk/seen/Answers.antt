use Rattle.std.proofs.Common.{sym, ◌∙◌}
use Rattle.std.specs.Prelude.{is_ok}
use Rattle.journal_core.proofs.MemLaws.{disk_after-push, seen_bytes}
use Rattle.journal_core.proofs.mem_disks.MemDisk.seen.Goals as goal

pub invariant_of-self : goal.invariant_of-self
invariant_of-self c = record {
  current = c.args.self.now.current ∙ sym (seen_bytes c.args.self.now.start c.args.self.now.calls.items c.push.new.self.items c.args.call
      (is_ok c.push.result) c.push.ensures.items c.requires);
}

pub returns-clause-ok : goal.returns-clause-ok
returns-clause-ok c = disk_after-push c.args.self.now.start c.args.self.now.calls.items c.push.new.self.items c.args.call
    c.in_ok-push.ensures.items
