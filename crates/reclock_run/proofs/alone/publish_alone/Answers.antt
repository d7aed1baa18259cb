use Rattle.std.proofs.Common.{ap, ◌∙◌}
use Rattle.turnstile.specs.declared.views.View.{View}
use Rattle.store_core.specs.declared.entries.Entry.{Entry}
use Rattle.shared_store.specs.Passes.{PortKept, PortValue, kept_view}
use Rattle.reclock_run.proofs.alone.publish_alone.Goals as goal

pub returns-clause-same : goal.returns-clause-same
returns-clause-same g c =
    ap (λ (v : View _ Entry). kept_view v) c.back.ensures.known
    ∙ ap (λ (k : PortKept _). k.pass) c.sync_and_publish-end.ensures.kept
    ∙ ap (λ (p : PortValue _). kept_view p.known) c.at-port.ensures
    ∙ ap (λ (v : View _ Entry). kept_view v) c.at.ensures.known
