use Rattle.history_core.specs.declared.read_answers.ReadAnswer.{ReadAnswer}
use Rattle.machine_core.proofs.Polls.{others_where}
use Rattle.read_client.specs.declared.readers.Reader.{Reader}
use Rattle.read_client.specs.Machining.{machine}
use Rattle.read_client.proofs.Machining.{keeps}
use Rattle.read_client.proofs.laws.follows_past_others.Goals as goal

pub returns : goal.returns
returns c = others_where Reader ReadAnswer machine keeps
