use Rattle.reclock_client.proofs.Agreeing.{bindings_are}
use Rattle.reclock_client.proofs.operators.Operator.bindings.Goals as goal

pub returns-clause-known : goal.returns-clause-known
returns-clause-known c = λ front k idle. bindings_are front c.args.self.now k idle
