use Rattle.std.proofs.Common.{◌∷◌, length, ◌∙◌}
use Rattle.std.specs.Int.{w32, to_be_bytes}
use Rattle.part_codec.proofs.Spelled.{rows_put, rows_fit}
use Rattle.part_codec.proofs.encoding.spelled.Goals as goal

pub loop-row-preserved : goal.loop-row-preserved
loop-row-preserved c =
    let rows = c.args.rows.now in
    let i = c.loop-row.row-index in
    let row = c.row-item.result in
    record {
      spelled = c.in_ok-put_row.ensures.written
          ∙ rows_put (80 ∷ 65 ∷ 82 ∷ 84 ∷ 1 ∷ to_be_bytes w32 (length rows)) c.loop-row.out.items rows i row c.loop-row-test.true c.row-item.is c.loop-row.invariant.spelled;
      fit = rows_fit rows i row c.loop-row-test.true c.row-item.is c.loop-row.invariant.fit c.in_ok-put_row.ensures.fits;
    }
