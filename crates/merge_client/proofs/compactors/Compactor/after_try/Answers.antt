use Rattle.merge_client.proofs.Moving.{tried_moves}
use Rattle.merge_client.proofs.compactors.Compactor.after_try.Goals as goal

pub returns-in-Ok-clause-moves : goal.returns-in-Ok-clause-moves
returns-in-Ok-clause-moves c =
    tried_moves c.args.self.now c.args.reply c.react.new.self c.in-Ok.tried c.verdict.result c.requires.open c.in-Ok.ensures.moves
    c.verdict.ensures
