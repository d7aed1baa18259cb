use Rattle.std.proofs.Common.{refl, subst, sym}
use Rattle.machine_core.specs.Polling.{FollowsWhere}
use Rattle.try_machine.specs.declared.tryers.Tryer.{Tryer}
use Rattle.try_machine.proofs.Beginning.{asking_where}
use Rattle.history_core.specs.declared.asked.Asked.TheVariants as asks
use Rattle.history_core.specs.declared.expire_answers.ExpireAnswer.{ExpireAnswer}
use Rattle.maint_client.specs.declared.expiries.Expiry.{Expiry}
use Rattle.maint_client.specs.Expiring.{expiring, machine}
use Rattle.maint_client.proofs.expirers.Expirer.begin_expire.Goals as goal

pub returns-clause-follows : goal.returns-clause-follows
returns-clause-follows c = λ client front f.
    subst (λ (t : Tryer Expiry). FollowsWhere machine client front t) (sym c.begin.ensures)
    (asking_where Expiry ExpireAnswer expiring c.args.self.now.tryer (record { asked = asks.Expire c.args.now; out = c.new.result }) client front refl
    (λ start es. tt) f)
