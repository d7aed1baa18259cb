-- An operator's commands at work, by computation.
use Rattle.std.proofs.Common.{◌≡◌, Some, [], refl, true}
use Rattle.history_core.specs.declared.read_answers.ReadAnswer.TheVariants as reads
use Rattle.history_core.specs.declared.write_answers.WriteAnswer.TheVariants as writes
use Rattle.reclock_client.specs.declared.clock_answers.ClockAnswer.TheVariants as clocks
use Rattle.reclock_client.specs.declared.courses.Course.{Course}
use Rattle.reclock_client.specs.declared.errands.Errand.{Errand}
use Rattle.reclock_client.specs.declared.errands.Errand.TheVariants as errands
use Rattle.reclock_client.specs.declared.intakes.Intake.TheVariants as intakes
use Rattle.reclock_client.specs.declared.steps.Step.{Step}
use Rattle.reclock_client.specs.declared.steps.Step.TheVariants as steps
use Rattle.reclock_client.specs.Commands.{after_append_data, after_listen, after_append_remap, ends, goes, published_from}

-- an operator that has read up to 11, on an errand
abbrev read_up_to_11 : Errand → Step → Course
read_up_to_11 errand step = record {
  since = 0;
  bindings = [];
  intake = intakes.Nothing;
  synced = Some 11;
  listens = true;
  errand = Some errand;
  step = step;
  joined = true;
}

-- it proposes at 5, and nothing is new
pub lost_at_5 : after_listen (read_up_to_11 (errands.Mint 5 []) steps.Next) (reads.Quiet (Some 11)) ≡
    ends (read_up_to_11 (errands.Mint 5 []) steps.Next) (clocks.Lost (Some 11))
lost_at_5 = refl

-- it proposes at 11, and appends from there
pub appends_at_11 : after_listen (read_up_to_11 (errands.Mint 11 []) steps.Next) (reads.Quiet (Some 11)) ≡
    goes (read_up_to_11 (errands.Mint 11 []) steps.Next) (steps.AppendRemap 11)
appends_at_11 = refl

-- another was faster: it reads again
pub reads_again : after_append_remap (read_up_to_11 (errands.Mint 11 []) (steps.AppendRemap 11)) (Some (errands.Mint 11 []))
    (writes.Mismatch (Some 12)) ≡
    goes (read_up_to_11 (errands.Mint 11 []) (steps.AppendRemap 11)) steps.Next
reads_again = refl

-- the data shard has come as far
pub nothing_to_publish : published_from (read_up_to_11 (errands.Publish []) steps.Look) (Some 11) ≡
    ends (read_up_to_11 (errands.Publish []) steps.Look) (clocks.Published (Some 11))
nothing_to_publish = refl

-- a publish that is told another upper goes on from there
pub goes_on_from_7 : after_append_data (read_up_to_11 (errands.Publish []) (steps.AppendData 3)) (writes.Mismatch (Some 7)) ≡
    goes (read_up_to_11 (errands.Publish []) (steps.AppendData 3)) (steps.AppendData 7)
goes_on_from_7 = refl
