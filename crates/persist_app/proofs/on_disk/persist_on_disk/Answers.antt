use Rattle.std.proofs.Common.{ℕ, ◌+◌, ◌≤◌, Option, map, string_bytes, subst, arith}
use Rattle.store_core.specs.Histories.{History}
use Rattle.store_file.specs.FileStores.{disk_faults, file_faults, history_of, told}
use Rattle.persist_app.specs.DiskLefts.{opened}
use Rattle.persist_app.specs.TopEnds.{EndsTop}
use Rattle.persist_app.proofs.DiskEndings.{top_since, first_accepted, first_calls, stands_now, started}
use Rattle.persist_app.proofs.DiskOpenings.{rose_before}
use Rattle.persist_app.proofs.on_disk.persist_on_disk.Goals as goal

at_most : (a b more : ℕ) → a ≤ b → a ≤ b + more
at_most a b more le = omega arith

pub returns-in-Ok-clause-ends : goal.returns-in-Ok-clause-ends
returns-in-Ok-clause-ends g c =
    let words = map string_bytes c.args.words.now.items in
    let first = c.in-Ok.store in
    let last = c.over_file-status.result.store in
    let status = c.over_file-status.result.status in
    let left = g.So.Source.left in
    let reads = g.So.Source.reads in
    let faults = g.So.Source.faults in
    let taken = g.Si.Sink.taken in
    let puts = g.Si.Sink.faults in
    let src = c.args.src.now in
    let out = c.args.out.now in
    let src_now = c.over_file-status.new.src in
    let out_now = c.over_file-status.new.out in
    let ends = c.over_file-status.ensures.ends in
    top_since words status (opened last) (told last) (g.D.Disk.faults c.args.disk) (file_faults first) (file_faults last)
    (left src) (left src_now) (reads src) (reads src_now) (faults src) (faults src_now) (taken out) (taken out_now) (puts out) (puts out_now)
    (at_most (g.D.Disk.faults c.args.disk) (disk_faults first) first.refused c.in-Ok.ensures.later)
    (subst (λ (t : Option History). EndsTop words status t (told last) (file_faults first) (file_faults last)
    (left src) (left src_now) (reads src) (reads src_now) (faults src) (faults src_now) (taken out) (taken out_now) (puts out) (puts out_now))
    (started (history_of first) (history_of last) c.in-Ok.ensures.trail ends.store) ends)

pub returns-in-Ok-clause-stands : goal.returns-in-Ok-clause-stands
returns-in-Ok-clause-stands g c =
    let before = g.D.Disk.faults c.args.disk in
    let first = c.in-Ok.store in
    let last = c.over_file-status.result.store in
    λ none. stands_now last before (disk_faults last)
    (λ shut. rose_before before (disk_faults first) (disk_faults last) c.in-Ok.ensures.later (c.over_file-status.ensures.shut shut)) none

pub returns-in-Ok-clause-any_moment : goal.returns-in-Ok-clause-any_moment
returns-in-Ok-clause-any_moment g c = first_calls c.over_file-status.result.store

pub returns-in-Ok-clause-accepted : goal.returns-in-Ok-clause-accepted
returns-in-Ok-clause-accepted g c = first_accepted c.over_file-status.result.store
