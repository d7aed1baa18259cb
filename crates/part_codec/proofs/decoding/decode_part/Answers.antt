use Rattle.std.proofs.Common.{ap, subst, ◌∙◌, arith}
use Rattle.part_codec.specs.Reading.{Gives, all_of}
use Rattle.part_codec.proofs.Parts.{is_found, all_again}
use Rattle.part_codec.proofs.RefusedTold.{answered}
use Rattle.part_codec.proofs.decoding.decode_part.Goals as goal

pub returns-clause-found : goal.returns-clause-found
returns-clause-found c = is_found c.args.bytes.now c.all_rows.result (λ i. omega (arith, c.type_inv.bytes i)) c.all_rows.ensures

pub returns-clause-only : goal.returns-clause-only
returns-clause-only c = λ rows part. subst (λ f. Gives (λ found. found) c.all_rows.result f) (ap all_of part.1 ∙ all_again rows part.0) c.all_rows.ensures

pub returns-clause-refused : goal.returns-clause-refused
returns-clause-refused c = answered c.args.bytes.now c.all_rows.result (λ i. omega (arith, c.type_inv.bytes i)) c.all_rows.ensures
