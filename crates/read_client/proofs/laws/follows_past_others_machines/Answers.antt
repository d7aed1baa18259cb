use Rattle.history_core.specs.declared.read_answers.ReadAnswer.{ReadAnswer}
use Rattle.machine_core.proofs.Polls.{spared_where}
use Rattle.read_client.specs.declared.readers.Reader.{Reader}
use Rattle.read_client.specs.Machining.{machine}
use Rattle.read_client.proofs.Machining.{keeps, not_open}
use Rattle.read_client.proofs.laws.follows_past_others_machines.Goals as goal

pub returns : goal.returns
returns c client front now call reply r closed = spared_where Reader ReadAnswer machine keeps client front now call reply r
    (not_open r.asked closed) tt
