use Rattle.std.proofs.Common.{◌≡◌, sym, true, None}
use Rattle.std.specs.Prelude.{position}
use Rattle.update_core.specs.Frontiers.{covers}
use Rattle.plain_run.specs.Answering.{number_of}
use Rattle.plain_run.specs.PlainRuns.{is_outside}
use Rattle.plain_run.proofs.ReplyLaws.{in_range_told}
use Rattle.plain_run.proofs.sessions.Session.append.Goals as goal

pub returns-clause-told : goal.returns-clause-told
returns-clause-told g c =
    let a = g.S.Store.history c.args.port.now.store in
    let d = g.S.Store.history c.accept.new.port.store in
    let x = c.args.append in
    let forward : covers x.upper x.lower ≡ true = sym c.if-not-covers.ensures in
    let within : position (is_outside x) x.rows ≡ None = sym c.in_default.ensures in
    in_range_told c.args.self.now.place a d (number_of c.args.self.now.reader) x c.accept.result forward within c.accept.ensures.told
