-- A disk on the way to one outcome of a crash.
use Rattle.journal_core.specs.declared.partials.Partial.{Partial}
use Rattle.journal_core.specs.Images.{Image}

-- as it is seen
abbrev pub seen_image : Partial → Image
seen_image p = record { now = p.now.items; left = p.left.items; more = p.more }
