use Rattle.token_machine.proofs.Following.{storing_begun, storing_past}
use Rattle.token_machine.proofs.LastCas.{storing_stays}
use Rattle.token_machine.proofs.laws.storings_follow.Goals as goal

pub returns : goal.returns
returns c = record {
  begun = storing_begun;
  moved = λ kind member token s new client list start e others es at tried out moves.
      storing_stays kind member token s client list start e others es at new tried out moves;
  others = storing_past;
}
