use Rattle.reclock_client.proofs.Agreeing.{all_reclocked}
use Rattle.reclock_client.proofs.operators.Operator.collection.Goals as goal

pub returns-clause-known : goal.returns-clause-known
returns-clause-known c = λ front k idle. all_reclocked front c.args.self.now c.args.rows.now c.reclocked.result c.reclocked.ensures k idle
