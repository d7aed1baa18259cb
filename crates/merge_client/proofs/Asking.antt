-- Which pair is due is a question to a shard, and so a reading that asks it is a machine.
use Rattle.std.proofs.Common.{refl}
use Rattle.machine_core.specs.Machines.{Ending, Keeps}
use Rattle.read_machine.specs.Questions.{IsQuestion}
use Rattle.read_machine.specs.Readings.{words}
use Rattle.read_machine.proofs.Keeping.{ending, keeps}
use Rattle.merge_client.specs.Finding.{finding}
use Rattle.merge_client.proofs.DueParts.{due_parts}
use Rattle.merge_client.proofs.Finding.{got_told, seen_told}

pub is_question : IsQuestion finding
is_question = record {
  kind_taken = refl;
  leased = refl;
  parts = λ q s keys rules e. due_parts s keys rules e;
  seen = λ q client shard member calls list start later scan before s answer at e.
      seen_told client shard member calls list start later scan before s at answer e;
  got = λ q client shard member calls list start later scan before s keys rows at e held.
      got_told client shard member calls list start later scan before s at keys rows e;
  gone = λ q shard member version start ps list h. h;
}

pub read_keeps : Keeps (words finding)
read_keeps = keeps finding is_question

pub read_ending : Ending (words finding)
read_ending = ending finding is_question
