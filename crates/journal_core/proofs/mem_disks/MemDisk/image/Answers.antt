use Rattle.std.proofs.Common.{ℕ, List, ap, ◌∙◌, take}
use Rattle.journal_core.specs.declared.disk_calls.DiskCall.{DiskCall}
use Rattle.journal_core.specs.Disks.{DiskHistory}
use Rattle.journal_core.specs.Images.{after_image_calls, first_image}
use Rattle.journal_core.proofs.Outcomes.{is_outcome}
use Rattle.journal_core.proofs.mem_disks.MemDisk.image.Goals as goal

pub returns-clause-crash : goal.returns-clause-crash
returns-clause-crash c =
    let left_is = ap (λ (h : DiskHistory). h.now.bytes) c.holding.ensures.disk ∙ c.in_ok-bytes.ensures ∙ c.in_ok-left.ensures
    ∙ ap (λ (l : List DiskCall). (after_image_calls c.args.written (first_image c.args.written c.start_of.result.now) l).left)
    c.first_calls-asked.ensures
    ∙ ap (λ (l : List ℕ). (after_image_calls c.args.written (first_image c.args.written l)
    (take c.args.calls c.args.self.now.calls.items)).left) c.start_of.ensures in
    is_outcome c.args.written c.args.self.now.start (take c.args.calls c.args.self.now.calls.items) _ left_is
