use Rattle.version_codec.proofs.Last.{joins_then, joins_else}
use Rattle.version_codec.proofs.heads.may_join.Goals as goal

pub returns-then-before-number : goal.returns-then-before-number
returns-then-before-number c = joins_then c.args.members.now _ c.args.next c.args.number c.in-len1-up.len_at_least c.if-before-number.true

pub returns-else-before-number : goal.returns-else-before-number
returns-else-before-number c = joins_else c.args.members.now _ c.args.next c.args.number c.in-len1-up.len_at_least c.if-before-number.false
