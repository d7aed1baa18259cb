use Rattle.std.proofs.Common.{Ok, Option, Some, inl, inr, refl, ap, map, string_bytes, subst, ◌∙◌}
use Rattle.std.specs.Prelude.{IfSome}
use Rattle.store_core.specs.declared.shards.ShardId.{ShardId}
use Rattle.plain_run.specs.Endings.{StaysLawful}
use Rattle.persist_app.specs.declared.served.Served.{Served}
use Rattle.persist_app.specs.declared.served.Served.TheVariants as kinds
use Rattle.persist_app.specs.Endings.{Says}
use Rattle.persist_app.proofs.Performed.{same_shard}
use Rattle.persist_app.proofs.plain.perform.Goals as goal

pub returns-in-Ok-Some-Run-clause-lawful : goal.returns-in-Ok-Some-Run-clause-lawful
returns-in-Ok-Some-Run-clause-lawful g c = λ shard is.
    let words = map string_bytes c.args.words.now in
    let own = subst (λ (found : Option Served). IfSome found (Says words)) (c.in-Ok-Some-Run.field-0-is ∙ ap Some c.in-Ok-Some-Run.field-0-0-is) c.in-Ok-Some-Run.ensures.some in
    subst (λ (s : ShardId). StaysLawful s (g.S.Store.history c.args.port.now.store) (g.S.Store.history c.run.new.port.store))
    (c.place_of.ensures.shard ∙ same_shard words (kinds.Run c.in-Ok-Some-Run.shard) shard own is) c.run.ensures.lawful

pub returns-in-Ok-Some-Run-clause-idle : goal.returns-in-Ok-Some-Run-clause-idle
returns-in-Ok-Some-Run-clause-idle g c = λ none.
    absurd (none c.in-Ok-Some-Run.shard (inl (subst (λ (found : Option Served). IfSome found (Says (map string_bytes c.args.words.now)))
    (c.in-Ok-Some-Run.field-0-is ∙ ap Some c.in-Ok-Some-Run.field-0-0-is) c.in-Ok-Some-Run.ensures.some)))

pub returns-in-Ok-Some-Steps-clause-lawful : goal.returns-in-Ok-Some-Steps-clause-lawful
returns-in-Ok-Some-Steps-clause-lawful g c = λ shard is.
    let words = map string_bytes c.args.words.now in
    let own = subst (λ (found : Option Served). IfSome found (Says words)) (c.in-Ok-Some-Steps.field-0-is ∙ ap Some c.in-Ok-Some-Steps.field-0-0-is) c.in-Ok-Some-Steps.ensures.some in
    subst (λ (s : ShardId). StaysLawful s (g.S.Store.history c.args.port.now.store) (g.S.Store.history c.steps.new.port.store))
    (same_shard words (kinds.Steps c.in-Ok-Some-Steps.shard) shard own is) c.steps.ensures.lawful

pub returns-in-Ok-Some-Steps-clause-idle : goal.returns-in-Ok-Some-Steps-clause-idle
returns-in-Ok-Some-Steps-clause-idle g c = λ none.
    absurd (none c.in-Ok-Some-Steps.shard (inr (subst (λ (found : Option Served). IfSome found (Says (map string_bytes c.args.words.now)))
    (c.in-Ok-Some-Steps.field-0-is ∙ ap Some c.in-Ok-Some-Steps.field-0-0-is) c.in-Ok-Some-Steps.ensures.some)))

pub returns-in-Ok-None-clause-ends : goal.returns-in-Ok-None-clause-ends
returns-in-Ok-None-clause-ends g c = (c.command_of.ensures.none (c.in-Ok-None.is ∙ ap Ok c.in-Ok-None.field-0-is), refl)
