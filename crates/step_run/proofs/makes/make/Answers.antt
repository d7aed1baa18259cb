use Rattle.std.proofs.Common.{sym, subst, Ok}
use Rattle.driving.specs.Goings.{Goes}
use Rattle.driving.proofs.GoingLaws.{grows_none, no_going}
use Rattle.step_text.specs.declared.makes.Made.{Made}
use Rattle.step_text.specs.declared.makes.Made.TheVariants as makes
use Rattle.step_run.specs.Makes.{Makes, MakesTo}
use Rattle.step_run.proofs.Opening.{makes_as}
use Rattle.step_run.proofs.makes.make.Goals as goal

pub returns-in-Writer-clause-told : goal.returns-in-Writer-clause-told
returns-in-Writer-clause-told g c =
    let a = g.S.Store.history c.args.port.now.store in
    let d = g.S.Store.history c.open_writer.new.port.store in
    let n = c.args.port.now.client in
    subst (λ (m : Made). Goes c.args.shard a d (MakesTo c.args.shard (Makes c.args.shard c.args.moment m n) c.open_writer.result)) (sym c.in-Writer.is)
    (makes_as c.args.shard a d _ _ (λ e list start es now h. h) c.open_writer.result c.open_writer.ensures.told)

pub returns-in-Reader-clause-told : goal.returns-in-Reader-clause-told
returns-in-Reader-clause-told g c =
    let a = g.S.Store.history c.args.port.now.store in
    let d = g.S.Store.history c.open_reader.new.port.store in
    let n = c.args.port.now.client in
    subst (λ (m : Made). Goes c.args.shard a d (MakesTo c.args.shard (Makes c.args.shard c.args.moment m n) c.open_reader.result)) (sym c.in-Reader.is)
    (makes_as c.args.shard a d _ _ (λ e list start es now h. h) c.open_reader.result c.open_reader.ensures.told)

pub returns-in-Compactor-clause-told : goal.returns-in-Compactor-clause-told
returns-in-Compactor-clause-told g c =
    let a = g.S.Store.history c.args.port.now.store in
    let d = g.S.Store.history c.open_compactor.new.port.store in
    let n = c.args.port.now.client in
    subst (λ (m : Made). Goes c.args.shard a d (MakesTo c.args.shard (Makes c.args.shard c.args.moment m n) c.open_compactor.result)) (sym c.in-Compactor.is)
    (makes_as c.args.shard a d _ _ (λ e list start es now h. h) c.open_compactor.result c.open_compactor.ensures.told)

pub returns-in-Collector-clause-told : goal.returns-in-Collector-clause-told
returns-in-Collector-clause-told g c =
    let a = g.S.Store.history c.args.port.now.store in
    let n = c.args.port.now.client in
    subst (λ (m : Made). Goes c.args.shard a a (MakesTo c.args.shard (Makes c.args.shard c.args.moment m n) (Ok c.collector.result))) (sym c.in-Collector.is)
    (no_going c.args.shard a (MakesTo c.args.shard (Makes c.args.shard c.args.moment (makes.Collector) n) (Ok c.collector.result)) (λ list start es. c.collector.ensures.made es))

pub returns-in-Collector-clause-by : goal.returns-in-Collector-clause-by
returns-in-Collector-clause-by g c = grows_none c.args.port.now.client (g.S.Store.history c.args.port.now.store)

pub returns-in-Collector-clause-fits : goal.returns-in-Collector-clause-fits
returns-in-Collector-clause-fits g c = λ polls. c.collector.ensures.fits c.args.port.now.client polls (g.S.Store.history c.args.port.now.store)

pub returns-in-Expirer-clause-told : goal.returns-in-Expirer-clause-told
returns-in-Expirer-clause-told g c =
    let a = g.S.Store.history c.args.port.now.store in
    let n = c.args.port.now.client in
    subst (λ (m : Made). Goes c.args.shard a a (MakesTo c.args.shard (Makes c.args.shard c.args.moment m n) (Ok c.expirer.result))) (sym c.in-Expirer.is)
    (no_going c.args.shard a (MakesTo c.args.shard (Makes c.args.shard c.args.moment (makes.Expirer) n) (Ok c.expirer.result)) (λ list start es. c.expirer.ensures.made es))

pub returns-in-Expirer-clause-by : goal.returns-in-Expirer-clause-by
returns-in-Expirer-clause-by g c = grows_none c.args.port.now.client (g.S.Store.history c.args.port.now.store)

pub returns-in-Expirer-clause-fits : goal.returns-in-Expirer-clause-fits
returns-in-Expirer-clause-fits g c = λ polls. c.expirer.ensures.fits c.args.port.now.client polls (g.S.Store.history c.args.port.now.store)
