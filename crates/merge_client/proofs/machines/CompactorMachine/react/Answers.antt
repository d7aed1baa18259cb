use Rattle.merge_client.proofs.Shards.{settled_moves}
use Rattle.merge_client.proofs.Sound.{settled_sound}
use Rattle.merge_client.proofs.machines.CompactorMachine.react.Goals as goal

pub returns-clause-sound : goal.returns-clause-sound
returns-clause-sound c =
    settled_sound c.args.self.now c.reaction.new.self c.settle.new.self c.args.reply c.in_ok-poll.poll c.requires.ready
    c.reaction.ensures.storing c.reaction.ensures.reading c.in_ok-poll.ensures.moves c.settle.ensures

pub returns-clause-moves : goal.returns-clause-moves
returns-clause-moves c =
    settled_moves c.args.self.now c.reaction.new.self c.settle.new.self c.args.reply c.in_ok-poll.poll c.requires.ready
    c.in_ok-poll.ensures.moves c.settle.ensures
