use Rattle.state_core.proofs.Staying as laws
use Rattle.state_core.proofs.laws.others_stay.Goals as goal

pub returns : goal.returns
returns c = record { same = laws.others_stay; expire = laws.expire_keeps }
