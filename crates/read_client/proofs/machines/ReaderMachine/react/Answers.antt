use Rattle.read_client.proofs.Sound.{settled_sound, wants_sound}
use Rattle.read_client.proofs.machines.ReaderMachine.react.Goals as goal

pub returns-in_err-poll-clause-sound : goal.returns-in_err-poll-clause-sound
returns-in_err-poll-clause-sound c = wants_sound c.args.self.now c.reaction.new.self c.requires.open c.requires.ready
    c.reaction.ensures.reading c.in_err-poll.ensures.memory

pub returns-clause-sound : goal.returns-clause-sound
returns-clause-sound c =
    settled_sound c.args.self.now c.reaction.new.self c.settle.new.self c.args.reply c.in_ok-poll.poll c.requires.open
    c.requires.ready c.reaction.ensures.trying c.reaction.ensures.reading c.in_ok-poll.ensures.moves c.settle.ensures
