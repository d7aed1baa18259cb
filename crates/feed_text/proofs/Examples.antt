-- Texts with their feeds and faults, by computation.
use Rattle.std.proofs.Common.{◌≡◌, ◌≢◌, ℕ, ◌<◌, ◌≤◌, length, pos, negsuc, Some, List, [], ◌∷◌, ◌++◌, codes, refl, sym, ◌∙◌, arith, rules}
use Rattle.std.specs.Fmt.{digits}
use Rattle.std.specs.List.{AllByRecursion}
use Rattle.std.specs.Int.Signed.{mag}
use Rattle.update_core.specs.declared.updates.Update.{Update}
use Rattle.feed_text.specs.declared.feed_lines.FeedLine.{FeedLine}
use Rattle.feed_text.specs.declared.feed_lines.FeedLine.TheVariants.{Append, Snapshot, Listen, Since}
use Rattle.feed_text.specs.Lines.{lines_of}
use Rattle.feed_text.specs.Grammar.{feed_lines, IsRow, Spells, IsFirstFault}
use Rattle.feed_text.specs.Reading.{block_lines}
use Rattle.feed_text.specs.Replies.{reply_text}
use Rattle.feed_text.specs.declared.replies.RunReply.TheVariants.{Step}
use Rattle.feed_text.proofs.Rows.{row_starts}
use Rattle.feed_text.proofs.Spelling.{no_row, begins_open}
use Rattle.feed_text.proofs.TextLines.{lines_read_whole}
use Rattle.feed_text.proofs.Faults.{fault_refused}

abbrev pub fruit_text : List ℕ
fruit_text = codes "append 0 10\n3 1 apple\n4 1 pear\n7 -1 apple\n.\nsnapshot 5\nsnapshot 7\n"

abbrev pub fruit : List Update
fruit =
    record { datum = codes "apple"; time = 3; diff = pos 1 }
    ∷ record { datum = codes "pear"; time = 4; diff = pos 1 }
    ∷ record { datum = codes "apple"; time = 7; diff = negsuc 0 }
    ∷ []

abbrev pub fruit_feed : List FeedLine
fruit_feed =
    Append (record {
      lower = 0;
      upper = Some 10;
      rows = fruit;
    }) ∷ Snapshot 5 ∷ Snapshot 7 ∷ []

fruit_lines : lines_of fruit_text ≡ feed_lines fruit_feed
unfolding digits
fruit_lines = refl

row_within : (u : Update) → u.time < 10 → mag u.diff < 10 → 1 ≤ length u.datum → length u.datum ≤ 9 → AllByRecursion (λ b. 97 ≤ b) u.datum → IsRow u
row_within u time diff some few letters = record {
  time = omega arith;
  diff = record { sfits = omega arith };
  some = some;
  few = omega arith;
  one_line = letters_one_line u.datum letters;
}
  where
    letters_one_line : (bs : List ℕ) → AllByRecursion (λ b. 97 ≤ b) bs → AllByRecursion (λ b. b ≢ 10) bs
    letters_one_line [] h = tt
    letters_one_line (b ∷ bs) h = (λ e. omega (arith, h.0, e), letters_one_line bs h.1)

fruit_rows : AllByRecursion IsRow fruit
fruit_rows = (
  row_within _ (omega arith) (omega arith) (omega arith) (omega arith) (search rules),
  (
    row_within _ (omega arith) (omega arith) (omega arith) (omega arith) (search rules),
    (
      row_within _ (omega arith) (omega arith) (omega arith) (omega arith) (search rules),
      tt,
    ),
  ),
)

pub fruit_spells : Spells fruit_feed fruit_text
fruit_spells = record {
  feed = record {
    few = omega arith;
    each = (record { lower = omega arith; upper = omega arith; few = omega arith; rows = fruit_rows }, (omega arith, (omega arith, tt)));
  };
  lines = fruit_lines;
  few = omega arith;
}

-- an append whose second line is no row and no dot
abbrev pub cut_short_text : List ℕ
cut_short_text = codes "append 0 5\nx"

cut_short_lines : lines_of cut_short_text ≡ block_lines 0 (Some 5) [] ++ codes "x" ∷ []
unfolding digits
cut_short_lines = refl

pub cut_short_fault : IsFirstFault cut_short_text 2
cut_short_fault =
    fault_refused cut_short_text (block_lines 0 (Some 5) []) (codes "x") [] 2 (lines_read_whole cut_short_text (omega arith) ∙ cut_short_lines) refl
    (begins_open [] 0 (Some 5) [] (omega arith) tt (omega arith) (omega arith) (omega arith) tt)
    (no_row [] 0 (Some 5) [] (codes "x") tt (omega arith) (omega arith) tt (λ e. no_dot 120 46 refl refl (heads e)) (λ u is e. omega (arith, (row_starts u 120 [] is (sym e)).1)))
  where
    heads : {b c : ℕ} {bs cs : List ℕ} → b ∷ bs ≡ c ∷ cs → b ≡ c
    heads e = cc

    no_dot : (b c : ℕ) → b ≡ 120 → c ≡ 46 → b ≡ c → ⊥
    no_dot b c p q r = omega arith

pub nothing_spells : Spells [] []
nothing_spells = record { feed = record { few = omega arith; each = tt }; lines = refl; few = omega arith }

following_lines : lines_of (codes "listen 3\nsince 4\n") ≡ feed_lines (Listen 3 ∷ Since 4 ∷ [])
unfolding digits
following_lines = refl

fruit_step : reply_text (Step fruit (Some 10)) ≡ codes "3 1 apple\n4 1 pear\n7 -1 apple\nupto 10\n"
unfolding digits
fruit_step = refl
