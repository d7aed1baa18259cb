use Rattle.std.proofs.Common.{rules, ◌≡◌, ◌<◌, ◌≤◌, length, refl}
use Rattle.step_run.specs.declared.heard.Heard.{Heard}
use Rattle.step_run.specs.declared.heard.Heard.TheVariants as hears
use Rattle.step_run.specs.Lines.{BeginsOne}
use Rattle.step_run.proofs.Fitting.{becomes_at, becomes_none, first_begun}
use Rattle.step_run.proofs.lines.begin_at.Goals as goal

pub returns-then-place-clients-clause-begins : goal.returns-then-place-clients-clause-begins
returns-then-place-clients-clause-begins c =
    let high : length c.args.clients.now ≤ c.args.number = search rules in
    becomes_none (BeginsOne c.args.moment c.args.number c.args.what hears.Nothing) (hears.Nothing ≡ hears.Nothing) c.args.number c.args.clients.now high refl

pub returns-clause-begins : goal.returns-clause-begins
returns-clause-begins c =
    let less : c.args.number < length c.args.clients.now = search rules in
    let heard : Heard = hears.Client c.args.number 0 c.in_ok-said.said in
    becomes_at (BeginsOne c.args.moment c.args.number c.args.what heard) (heard ≡ hears.Nothing) c.args.number c.index-clients-place.result
    c.begin.new.client c.args.clients.now less (record { said = c.in_ok-said.said; begins = c.in_ok-said.ensures.begins; heard_is = refl })

pub returns-clause-fits : goal.returns-clause-fits
returns-clause-fits c = λ shard polls front h.
    first_begun shard polls c.args.number c.index-clients-place.result c.begin.new.client c.args.clients.now front
    (c.in_ok-said.ensures.fits shard c.args.number polls front) h
