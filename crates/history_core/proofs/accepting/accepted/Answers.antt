use Rattle.std.proofs.Common.{ap, ◌∙◌}
use Rattle.history_core.specs.Walks.{Walked}
use Rattle.history_core.proofs.AcceptedLaws.{walk_accepts}
use Rattle.history_core.proofs.accepting.accepted.Goals as goal

pub returns : goal.returns
returns c = λ origin shard is. c.into_rows.ensures ∙ ap (λ (w : Walked). w.rows) c.in_ok-walk.ensures ∙ walk_accepts origin shard c.args.start.now c.args.trail.now is
