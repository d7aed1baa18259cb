use Rattle.std.proofs.Common.{◌≡◌, ◌+◌, ℕ, List, length, subst, arith}
use Rattle.journal_core.specs.Calls.{MayStep, Steps, Wrote, MayHaveWritten}
use Rattle.journal_core.proofs.AddingRuns.{first_failed, second_failed, third_failed, fourth_failed, done_safely, has_added}
use Rattle.journal_core.proofs.journals.Journal.add.Goals as goal

pub returns-in_err-write_at-clause-any_moment : goal.returns-in_err-write_at-clause-any_moment
returns-in_err-write_at-clause-any_moment g c =
    let end = c.args.self.now.end in
    let old = g.D.Disk.history c.args.self.now.disk in
    let one = g.D.Disk.history c.write_at.new.self in
    first_failed end c.args.added.now old one c.requires.rests
    (subst (λ (l : List ℕ). MayStep (MayHaveWritten (end + 1) l) old one) c.bytes-staged.ensures c.in_err-write_at.ensures.err)

pub returns-in_err-sync-clause-any_moment : goal.returns-in_err-sync-clause-any_moment
returns-in_err-sync-clause-any_moment g c =
    let end = c.args.self.now.end in
    let old = g.D.Disk.history c.args.self.now.disk in
    let one = g.D.Disk.history c.write_at.new.self in
    let two = g.D.Disk.history c.sync.new.self in
    let first = subst (λ (l : List ℕ). Steps (Wrote (end + 1) l) old one) c.bytes-staged.ensures c.in_ok-write_at.ensures.ok in
    second_failed end c.args.added.now old one c.requires.rests first two c.in_err-sync.ensures.err

pub returns-in_err-write_at-2-clause-any_moment : goal.returns-in_err-write_at-2-clause-any_moment
returns-in_err-write_at-2-clause-any_moment g c =
    let end = c.args.self.now.end in
    let old = g.D.Disk.history c.args.self.now.disk in
    let one = g.D.Disk.history c.write_at.new.self in
    let two = g.D.Disk.history c.sync.new.self in
    let three = g.D.Disk.history c.write_at-2.new.self in
    let first = subst (λ (l : List ℕ). Steps (Wrote (end + 1) l) old one) c.bytes-staged.ensures c.in_ok-write_at.ensures.ok in
    third_failed end c.args.added.now old one c.requires.rests first two c.in_ok-sync.ensures.ok three c.in_err-write_at-2.ensures.err

pub returns-in_err-sync-2-clause-any_moment : goal.returns-in_err-sync-2-clause-any_moment
returns-in_err-sync-2-clause-any_moment g c =
    let end = c.args.self.now.end in
    let old = g.D.Disk.history c.args.self.now.disk in
    let one = g.D.Disk.history c.write_at.new.self in
    let two = g.D.Disk.history c.sync.new.self in
    let three = g.D.Disk.history c.write_at-2.new.self in
    let four = g.D.Disk.history c.sync-2.new.self in
    let first = subst (λ (l : List ℕ). Steps (Wrote (end + 1) l) old one) c.bytes-staged.ensures c.in_ok-write_at.ensures.ok in
    fourth_failed end c.args.added.now old one c.requires.rests first two c.in_ok-sync.ensures.ok three c.in_ok-write_at-2.ensures.ok four
    c.in_err-sync-2.ensures.err

pub returns-clause-any_moment : goal.returns-clause-any_moment
returns-clause-any_moment g c =
    let end = c.args.self.now.end in
    let old = g.D.Disk.history c.args.self.now.disk in
    let one = g.D.Disk.history c.write_at.new.self in
    let two = g.D.Disk.history c.sync.new.self in
    let three = g.D.Disk.history c.write_at-2.new.self in
    let four = g.D.Disk.history c.sync-2.new.self in
    let first = subst (λ (l : List ℕ). Steps (Wrote (end + 1) l) old one) c.bytes-staged.ensures c.in_ok-write_at.ensures.ok in
    done_safely end c.args.added.now old one c.requires.rests first two c.in_ok-sync.ensures.ok three c.in_ok-write_at-2.ensures.ok four
    c.in_ok-sync-2.ensures.ok

pub returns-clause-there : goal.returns-clause-there
returns-clause-there g c =
    let end = c.args.self.now.end in
    let old = g.D.Disk.history c.args.self.now.disk in
    let one = g.D.Disk.history c.write_at.new.self in
    let two = g.D.Disk.history c.sync.new.self in
    let three = g.D.Disk.history c.write_at-2.new.self in
    let four = g.D.Disk.history c.sync-2.new.self in
    let first = subst (λ (l : List ℕ). Steps (Wrote (end + 1) l) old one) c.bytes-staged.ensures c.in_ok-write_at.ensures.ok in
    let length_is : c.len.result ≡ length c.args.added.now = c.len.ensures in
    has_added end c.args.added.now old one c.requires.rests first two c.in_ok-sync.ensures.ok three c.in_ok-write_at-2.ensures.ok four
    c.in_ok-sync-2.ensures.ok
    c.requires.room (end + 9 + c.len.result) (omega arith)
