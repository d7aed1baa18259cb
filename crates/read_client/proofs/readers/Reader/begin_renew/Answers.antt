use Rattle.std.proofs.Common.{refl}
use Rattle.history_core.specs.declared.asked.Asked.TheVariants as asks
use Rattle.state_core.specs.declared.transitions.Transition.TheVariants as steps
use Rattle.read_client.proofs.Begun.{change_follows}
use Rattle.read_client.proofs.readers.Reader.begin_renew.Goals as goal

pub returns-clause-follows : goal.returns-clause-follows
returns-clause-follows c = change_follows c.args.self.now (asks.RenewReader c.args.now) (λ m. steps.Renew m c.args.now)
    (λ m. refl) (λ l. refl) c.begin_change.new.self (c.in_ok-member.member, c.in_ok-member.ensures.1, c.begin_change.ensures)
