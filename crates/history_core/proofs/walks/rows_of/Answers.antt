use Rattle.std.proofs.Common.{◌≡◌, List, Option, sym, subst, arith}
use Rattle.std.specs.Prelude.{IfOk}
use Rattle.update_core.specs.declared.updates.Update.{Update}
use Rattle.part_codec.specs.Reading.{all_of}
use Rattle.history_core.specs.Stands.{rows_or_none}
use Rattle.history_core.proofs.ReadingFacts.{rows_in_bytes}
use Rattle.history_core.proofs.WalkSteps.{rows_read}
use Rattle.history_core.proofs.walks.rows_of.Goals as goal

pub returns-in-Ok : goal.returns-in-Ok
returns-in-Ok c = rows_read c.args.bytes.now c.in-Ok.rows (λ i. omega (arith, c.type_inv.bytes i)) c.in-Ok.ensures.exact

pub returns-in-Err : goal.returns-in-Err
returns-in-Err c =
    subst (λ (read : Option (List Update)). IfOk c.none_or_memory.result (λ rows. rows ≡ rows_or_none read)) (sym (rows_in_bytes c.args.bytes.now (λ i. omega (arith, c.type_inv.bytes i))))
    (c.none_or_memory.ensures (all_of c.args.bytes.now) c.in-Err.ensures.exact)
