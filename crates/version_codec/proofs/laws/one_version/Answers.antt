use Rattle.version_codec.proofs.Facts as facts
use Rattle.version_codec.proofs.laws.one_version.Goals as goal

pub returns : goal.returns
returns c = facts.one_version
