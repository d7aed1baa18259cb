use Rattle.std.proofs.Common.{ap, length}
use Rattle.merge_client.proofs.Moving.{read_moves}
use Rattle.merge_client.proofs.compactors.Compactor.read_on.Goals as goal

pub returns-clause-moves : goal.returns-clause-moves
returns-clause-moves c =
    read_moves c.args.self.now c.args.reply c.react.new.self c.in_ok-read.read c.args.bound c.misfit-misfit.result
    (length c.as_slice-count.result.now) c.count.new.self c.fit-read.new.self c.take_back.new.self c.read_poll.new.self
    c.fit-read.result c.read_poll.result c.in_ok-read.ensures.moves c.requires.bound (ap length c.as_slice-count.ensures)
    c.count.ensures c.misfit-misfit.ensures c.fit-read.ensures.ends c.fit-read.ensures.poll c.take_back.ensures
    c.read_poll.ensures.keeps c.read_poll.ensures.poll
