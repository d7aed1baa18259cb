use Rattle.read_client.proofs.Moving.{unasked}
use Rattle.read_client.proofs.Sound.{prepared_sound}
use Rattle.read_client.proofs.machines.ReaderMachine.prepare.Goals as goal

pub returns-in_ok-prepare-clause-sound : goal.returns-in_ok-prepare-clause-sound
returns-in_ok-prepare-clause-sound c =
    prepared_sound c.args.self.now c.prepare.new.self c.requires.open c.requires.sound
    (unasked c.args.self.now c.is_none.result c.requires.sound c.is_none.ensures c.if-is_none.true)
    c.in_ok-prepare.ensures.prepares
    c.prepare.ensures.sound
