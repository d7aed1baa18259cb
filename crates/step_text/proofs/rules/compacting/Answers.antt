use Rattle.step_text.specs.declared.makes.Made.TheVariants as makes
use Rattle.step_text.proofs.Lines.{leased}
use Rattle.step_text.proofs.rules.compacting.Goals as goal

pub returns-in-Some : goal.returns-in-Some
returns-in-Some c =
    let words = c.in-Some.words in
    let told = c.in-Some.ensures in
    leased (λ lease. makes.Compactor lease) c.args.so_far c.args.rest.now words.name.now words.number told.0 told.1 told.2 c.making.result
    c.making.ensures
