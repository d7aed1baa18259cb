-- The text of a reply.
use Rattle.std.specs.Prelude.{◌≡◌, ℕ, List, [], ◌∷◌, ◌++◌, codes}
use Rattle.std.specs.Fmt.{decimal, signed_decimal}
use Rattle.std.specs.List.{flat_map}
use Rattle.update_core.specs.declared.rows.Row.{Row}
use Rattle.update_core.specs.declared.updates.Update.{Update}
use Rattle.feed_text.specs.declared.replies.RunReply.{RunReply}
use Rattle.feed_text.specs.declared.replies.RunReply.TheVariants.{Accepted, Empty, Range, Mismatch, Heavy, Rows, Early, Late, Step, Ended, Quiet, Back}
use Rattle.feed_text.specs.Grammar.{frontier_text, row_line}

-- `DIFF DATUM`
abbrev pub row_text : Row → List ℕ
row_text r = signed_decimal r.diff ++ 32 ∷ (r.datum ++ 10 ∷ [])

-- `TIME DIFF DATUM`
abbrev pub update_text : Update → List ℕ
update_text u = row_line u ++ 10 ∷ []

-- the lines of a reply, each with its line feed
abbrev pub reply_text : RunReply → List ℕ
reply_text Accepted = codes "ok\n"
reply_text Empty = codes "empty\n"
reply_text (Range row) = codes "range " ++ (decimal row ++ 10 ∷ [])
reply_text (Mismatch upper) = codes "mismatch " ++ (frontier_text upper ++ 10 ∷ [])
reply_text (Heavy weight) = codes "heavy " ++ (decimal weight ++ 10 ∷ [])
reply_text (Rows rows) = flat_map row_text rows ++ codes ".\n"
reply_text (Early since) = codes "early " ++ (decimal since ++ 10 ∷ [])
reply_text (Late upper) = codes "late " ++ (frontier_text upper ++ 10 ∷ [])
reply_text (Step updates upper) = flat_map update_text updates ++ (codes "upto " ++ (frontier_text upper ++ 10 ∷ []))
reply_text Ended = codes "ended\n"
reply_text (Quiet upper) = codes "quiet " ++ (frontier_text upper ++ 10 ∷ [])
reply_text (Back since) = codes "back " ++ (decimal since ++ 10 ∷ [])

-- the line that tells where a text stops being a feed
abbrev pub line_fault_text : ℕ → List ℕ
line_fault_text n = codes "line " ++ (decimal n ++ 10 ∷ [])

-- what was there, and maybe more after it
pub record Extends (before now : List ℕ) : Type 0 where
  pub more : List ℕ
  pub is : now ≡ before ++ more
