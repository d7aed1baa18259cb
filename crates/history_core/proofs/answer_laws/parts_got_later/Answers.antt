use Rattle.history_core.proofs.answer_laws.parts_got_later.Goals as goal
use Rattle.history_core.proofs.GotLaws.{later_law, content_law, slice_law}

pub returns : goal.returns
returns c = record { there = later_law; content = content_law; slice = slice_law }
