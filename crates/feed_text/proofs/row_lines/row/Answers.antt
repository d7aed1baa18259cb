use Rattle.std.proofs.Common.{length}
use Rattle.std.proofs.lemmas.Int.{to_z-of_z}
use Rattle.std.specs.Int.{w64}
use Rattle.feed_text.proofs.LineWords.{bad_size, row_here, refused_size}
use Rattle.feed_text.proofs.row_lines.row.Goals as goal

pub returns-in-Ok : goal.returns-in-Ok
returns-in-Ok c =
    let words = c.in-Some.words in
    let told = c.in-Some.ensures in
    let datum = c.in-Ok.ensures.ok in
    row_here c.args.line.now c.in-Ok.datum words.datum.now words.time words.diff _ told.0 told.1 told.2 datum.0 datum.1 datum.2 c.requires (to_z-of_z w64 words.diff told.1)

pub returns-in-Err-DatumSize : goal.returns-in-Err-DatumSize
returns-in-Err-DatumSize c =
    let words = c.in-Some.words in
    let told = c.in-Some.ensures in
    let size = refused_size c.in-Err-DatumSize.field-0 c.in-Err-DatumSize.field-0-0 (length words.datum.now) c.in-Err-DatumSize.field-0-is c.in-Err-DatumSize.ensures.size in
    bad_size c.args.line.now words.datum.now words.time words.diff told.0 told.1 told.2 size
