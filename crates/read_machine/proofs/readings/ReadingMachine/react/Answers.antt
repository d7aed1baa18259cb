use Rattle.read_machine.proofs.Sound.{moved_sound}
use Rattle.read_machine.proofs.readings.ReadingMachine.react.Goals as goal

pub returns-in_ok-poll-in-Some-clause-sound : goal.returns-in_ok-poll-in-Some-clause-sound
returns-in_ok-poll-in-Some-clause-sound g c =
    moved_sound g.Q.Question.question c.args.self.now c.in-Some.question c.react.new.self c.args.reply c.in_ok-poll-in-Some.poll
    c.requires.ready c.in-Some.is c.react.ensures.sound c.in_ok-poll-in-Some.ensures.moves c.settle.new.self c.settle.ensures
