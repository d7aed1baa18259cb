use Rattle.reclock_client.proofs.Beginnings.{begun_sound}
use Rattle.reclock_client.proofs.Owning.{begun_in_turn}
use Rattle.reclock_client.proofs.operators.Operator.begin.Goals as goal

pub returns-clause-sound : goal.returns-clause-sound
returns-clause-sound c = begun_sound c.args.self.now c.args.errand c.args.step c.requires.sound c.requires.free c.requires.light

pub returns-clause-turn : goal.returns-clause-turn
returns-clause-turn c = begun_in_turn c.args.self.now c.args.errand c.args.step c.requires.sound c.requires.turn.0 c.requires.free
    c.requires.light c.requires.takes c.requires.few
