use Rattle.read_client.proofs.Moving.{read_moves}
use Rattle.read_client.proofs.readers.Reader.after_read.Goals as goal

pub returns-clause-moves : goal.returns-clause-moves
returns-clause-moves c =
    read_moves c.args.self.now c.count.new.self c.react.new.self c.args.reply c.in_ok-poll.poll c.take_back.new.self
    c.count.ensures
    c.in_ok-poll.ensures.moves c.requires.shard c.take_back.ensures
