use Rattle.history_core.specs.declared.asked.Asked.TheVariants as asks
use Rattle.read_client.proofs.Begun.{read_follows}
use Rattle.read_client.proofs.readers.Reader.begin_next.Goals as goal

pub returns-clause-follows : goal.returns-clause-follows
returns-clause-follows c = read_follows c.args.self.now asks.Next c.args.self.now.listen c.in_ok-member.member
    c.in_ok-member.ensures.1 c.begin_read.new.self c.begin_read.ensures
