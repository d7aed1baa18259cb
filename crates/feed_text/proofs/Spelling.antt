-- What no feed goes on with, and what some feed begins with: the facts that a reader of lines rests on.
use Rattle.std.proofs.Common.{◌≡◌, ◌⊎◌, inl, inr, ⊎_elim, ℕ, ◌+◌, ◌^◌, ◌<◌, ◌≤◌, Option, IfSome, List, [], ◌∷◌, ◌++◌, map, length, length-append, append_assoc, append-nil, refl, sym, ap, subst, ◌∙◌, arith}
use Rattle.std.specs.List.{AllByRecursion}
use Rattle.std.proofs.lemmas.List.Concat.{flat_map-append}
use Rattle.update_core.specs.declared.appends.FeedAppend.{FeedAppend}
use Rattle.update_core.specs.declared.updates.Update.{Update}
use Rattle.feed_text.specs.declared.feed_lines.FeedLine.{FeedLine}
use Rattle.feed_text.specs.declared.feed_lines.FeedLine.TheVariants.{Append, Snapshot, Listen, Since, Compact}
use Rattle.feed_text.specs.declared.limits.TheConstants.{MAX_COMMANDS, MAX_ROWS}
use Rattle.feed_text.specs.Lines.{lines_of}
use Rattle.feed_text.specs.Grammar.{append_line, row_line, dot_line, command_lines, feed_lines, IsRow, IsAppend, IsCommand, IsFeed, IsNoCommand, Spells, Begins}
use Rattle.feed_text.specs.Reading.{block_lines}
use Rattle.feed_text.proofs.Rows.{row_one, append_no_snapshot, append_no_listen, append_no_since, append_no_compact, row_no_dot}
use Rattle.feed_text.proofs.Commands.{commands_one}

pub all_append : {A : Type 0} (P : A → Type 0) (xs ys : List A) → AllByRecursion P xs → AllByRecursion P ys → AllByRecursion P (xs ++ ys)
all_append P [] ys a b = b
all_append P (x ∷ xs) ys a b = (a.0, all_append P xs ys a.1 b)

pub all_right : {A : Type 0} (P : A → Type 0) (xs ys : List A) → AllByRecursion P (xs ++ ys) → AllByRecursion P ys
all_right P [] ys a = a
all_right P (x ∷ xs) ys a = all_right P xs ys a.1

heads : {A : Type 0} {x y : A} {xs ys : List A} → x ∷ xs ≡ y ∷ ys → x ≡ y
heads e = cc

tails : {A : Type 0} {x y : A} {xs ys : List A} → x ∷ xs ≡ y ∷ ys → xs ≡ ys
tails e = cc

nil_no_cons : {A : Type 0} {x : A} {xs : List A} → [] ≡ x ∷ xs → ⊥
nil_no_cons e = cc

-- what feeds go on with after whole commands and one more line
after_commands : (commands fs : List FeedLine) (line : List ℕ) (more : List (List ℕ)) → AllByRecursion IsCommand commands → AllByRecursion IsCommand fs
    → feed_lines fs ≡ (feed_lines commands ++ line ∷ []) ++ more
    → (c : FeedLine) × (rest : List FeedLine) × (fs ≡ commands ++ c ∷ rest) × IsCommand c × (command_lines c ++ feed_lines rest ≡ line ∷ more)
after_commands commands fs line more hc hf e =
    let one = commands_one commands fs (line ∷ more) hc hf (sym (e ∙ append_assoc (feed_lines commands) (line ∷ []) more)) in
    next one.0 one.1 one.2
  where
    next : (rest : List FeedLine) → fs ≡ commands ++ rest → feed_lines rest ≡ line ∷ more
        → (c : FeedLine) × (rest : List FeedLine) × (fs ≡ commands ++ c ∷ rest) × IsCommand c × (command_lines c ++ feed_lines rest ≡ line ∷ more)
    next [] is e = absurd (nil_no_cons e)
    next (c ∷ rest) is e = (c, rest, is, (all_right IsCommand commands (c ∷ rest) (subst (λ f. AllByRecursion IsCommand f) is hf)).0, e)

-- the append that an open block is the beginning of
opened : (commands fs : List FeedLine) (lower : ℕ) (upper : Option ℕ) (rows : List Update) (more : List (List ℕ)) → AllByRecursion IsCommand commands → AllByRecursion IsCommand fs
    → feed_lines fs ≡ (feed_lines commands ++ block_lines lower upper rows) ++ more
    → (a : FeedAppend) × (xs : List (List ℕ)) × IsAppend a × (map row_line a.rows ++ dot_line ∷ xs ≡ map row_line rows ++ more)
opened commands fs lower upper rows more hc hf e =
    let first = after_commands commands fs (append_line lower upper) (map row_line rows ++ more) hc hf
    (e ∙ append_assoc (feed_lines commands) (block_lines lower upper rows) more ∙ sym (append_assoc (feed_lines commands) (append_line lower upper ∷ []) (map row_line rows ++ more))) in
    which first.0 first.1 first.3 first.4
  where
    which : (c : FeedLine) (rest : List FeedLine) → IsCommand c → command_lines c ++ feed_lines rest ≡ append_line lower upper ∷ (map row_line rows ++ more)
        → (a : FeedAppend) × (xs : List (List ℕ)) × IsAppend a × (map row_line a.rows ++ dot_line ∷ xs ≡ map row_line rows ++ more)
    which (Append a) rest is e = (a, feed_lines rest, is, sym (append_assoc (map row_line a.rows) (dot_line ∷ []) (feed_lines rest)) ∙ tails e)
    which (Snapshot t) rest is e = absurd (append_no_snapshot lower upper t (sym (heads e)))
    which (Listen t) rest is e = absurd (append_no_listen lower upper t (sym (heads e)))
    which (Since t) rest is e = absurd (append_no_since lower upper t (sym (heads e)))
    which Compact rest is e = absurd (append_no_compact lower upper (sym (heads e)))

-- the line after some rows of a block is the dot or the next row
next_in_block : (us vs : List Update) (line : List ℕ) (xs more : List (List ℕ)) → AllByRecursion IsRow us → AllByRecursion IsRow vs
    → map row_line us ++ dot_line ∷ xs ≡ map row_line vs ++ line ∷ more
    → (line ≡ dot_line) ⊎ ((u : Update) × (rest : List Update) × (us ≡ vs ++ u ∷ rest) × IsRow u × (line ≡ row_line u))
next_in_block [] [] line xs more hu hv e = inl (sym (heads e))
next_in_block [] (v ∷ vs) line xs more hu hv e = absurd (row_no_dot v hv.0 (sym (heads e)))
next_in_block (u ∷ us) [] line xs more hu hv e = inr (u, us, refl, hu.0, sym (heads e))
next_in_block (u ∷ us) (v ∷ vs) line xs more hu hv e =
    let first = row_one u v hu.0 hv.0 (heads e) in
    onto first (next_in_block us vs line xs more hu.1 hv.1 (tails e))
  where
    onto : u ≡ v → (line ≡ dot_line) ⊎ ((w : Update) × (rest : List Update) × (us ≡ vs ++ w ∷ rest) × IsRow w × (line ≡ row_line w))
        → (line ≡ dot_line) ⊎ ((w : Update) × (rest : List Update) × (u ∷ us ≡ v ∷ (vs ++ w ∷ rest)) × IsRow w × (line ≡ row_line w))
    onto first (inl dot) = inl dot
    onto first (inr row) = inr (row.0, row.1, (λ i. first i ∷ row.2 i), row.3, row.4)

-- a block is open until its dot
no_end : (us vs : List Update) (xs : List (List ℕ)) → AllByRecursion IsRow vs → map row_line us ++ dot_line ∷ xs ≡ map row_line vs ++ [] → ⊥
no_end [] [] xs hv e = nil_no_cons (sym e)
no_end [] (v ∷ vs) xs hv e = row_no_dot v hv.0 (sym (heads e))
no_end (u ∷ us) [] xs hv e = nil_no_cons (sym e)
no_end (u ∷ us) (v ∷ vs) xs hv e = no_end us vs xs hv.1 (tails e)

longer : {A : Type 0} (fs xs rest : List A) (x : A) → fs ≡ xs ++ x ∷ rest → length xs < length fs
longer fs xs rest x is = omega (arith, ap length is, length-append xs (x ∷ rest))

-- after whole commands comes an append line or the one line of a command
pub no_command : (commands : List FeedLine) (line : List ℕ) → AllByRecursion IsCommand commands
    → ((l : ℕ) (u : Option ℕ) → l < 2 ^ 64 → IfSome u (λ t. t < 2 ^ 64) → line ≡ append_line l u → ⊥)
    → IsNoCommand line
    → Begins (feed_lines commands ++ line ∷ []) → ⊥
no_command commands line each no_append none begins =
    let next = after_commands commands begins.0 line begins.1 each begins.2.each begins.3 in
    which next.0 next.1 next.3 next.4
  where
    which : (c : FeedLine) (rest : List FeedLine) → IsCommand c → command_lines c ++ feed_lines rest ≡ line ∷ begins.1 → ⊥
    which (Append a) rest is e = no_append a.lower a.upper is.lower is.upper (sym (heads e))
    which (Snapshot t) rest is e = none (Snapshot t) is (λ i. heads e i ∷ [])
    which (Listen t) rest is e = none (Listen t) is (λ i. heads e i ∷ [])
    which (Since t) rest is e = none (Since t) is (λ i. heads e i ∷ [])
    which Compact rest is e = none Compact is (λ i. heads e i ∷ [])

-- after the last command that a feed may have comes no line
pub too_many_commands : (commands : List FeedLine) (line : List ℕ) → AllByRecursion IsCommand commands → length commands ≡ MAX_COMMANDS
    → Begins (feed_lines commands ++ line ∷ []) → ⊥
too_many_commands commands line each many begins =
    let next = after_commands commands begins.0 line begins.1 each begins.2.each begins.3 in
    omega (arith, longer begins.0 commands next.1 next.0 next.2, begins.2.few, many)

-- in an open block comes a row or the dot
pub no_row : (commands : List FeedLine) (lower : ℕ) (upper : Option ℕ) (rows : List Update) (line : List ℕ)
    → AllByRecursion IsCommand commands → lower < 2 ^ 64 → IfSome upper (λ t. t < 2 ^ 64) → AllByRecursion IsRow rows
    → (line ≡ dot_line → ⊥) → ((u : Update) → IsRow u → line ≡ row_line u → ⊥)
    → Begins ((feed_lines commands ++ block_lines lower upper rows) ++ line ∷ []) → ⊥
no_row commands lower upper rows line each low up each_row no_dot none begins =
    let a = opened commands begins.0 lower upper rows (line ∷ begins.1) each begins.2.each (begins.3 ∙ append_assoc (feed_lines commands ++ block_lines lower upper rows) (line ∷ []) begins.1) in
    ⊎_elim no_dot (λ row. none row.0 row.3 row.4) (next_in_block a.0.rows rows line a.1 begins.1 a.2.rows each_row a.3)

-- after the last row that an append may have comes the dot
pub too_many_rows : (commands : List FeedLine) (lower : ℕ) (upper : Option ℕ) (rows : List Update) (line : List ℕ)
    → AllByRecursion IsCommand commands → lower < 2 ^ 64 → IfSome upper (λ t. t < 2 ^ 64) → AllByRecursion IsRow rows
    → length rows ≡ MAX_ROWS → (line ≡ dot_line → ⊥)
    → Begins ((feed_lines commands ++ block_lines lower upper rows) ++ line ∷ []) → ⊥
too_many_rows commands lower upper rows line each low up each_row many no_dot begins =
    let a = opened commands begins.0 lower upper rows (line ∷ begins.1) each begins.2.each (begins.3 ∙ append_assoc (feed_lines commands ++ block_lines lower upper rows) (line ∷ []) begins.1) in
    ⊎_elim no_dot (λ row. omega (arith, longer a.0.rows rows row.1 row.0 row.2, a.2.few, many)) (next_in_block a.0.rows rows line a.1 begins.1 a.2.rows each_row a.3)

pub begins_closed : (commands : List FeedLine) → IsFeed commands → Begins (feed_lines commands)
begins_closed commands feed = (commands, [], feed, sym (append-nil (feed_lines commands)))

pub begins_open : (commands : List FeedLine) (lower : ℕ) (upper : Option ℕ) (rows : List Update)
    → length commands + 1 ≤ MAX_COMMANDS → AllByRecursion IsCommand commands → lower < 2 ^ 64 → IfSome upper (λ t. t < 2 ^ 64) → length rows ≤ MAX_ROWS → AllByRecursion IsRow rows
    → Begins (feed_lines commands ++ block_lines lower upper rows)
begins_open commands lower upper rows few each low up few_rows each_row =
    let a : FeedAppend = record { lower = lower; upper = upper; rows = rows } in
    let is : IsAppend a = record { lower = low; upper = up; few = few_rows; rows = each_row } in
    let lines : feed_lines (commands ++ Append a ∷ []) ≡ (feed_lines commands ++ block_lines lower upper rows) ++ dot_line ∷ [] =
    flat_map-append command_lines commands (Append a ∷ [])
    ∙ ap (λ ls. feed_lines commands ++ ls) (append-nil (command_lines (Append a)))
    ∙ sym (append_assoc (feed_lines commands) (block_lines lower upper rows) (dot_line ∷ [])) in (
      commands ++ Append a ∷ [],
      dot_line ∷ [],
      record {
        few = omega (arith, length-append commands (Append a ∷ []), few);
        each = all_append IsCommand commands (Append a ∷ []) each (is, tt);
      },
      lines,
    )

-- a text that ends in an open block is no feed
pub open_spells_none : (commands : List FeedLine) (lower : ℕ) (upper : Option ℕ) (rows : List Update)
    → length commands + 1 ≤ MAX_COMMANDS → AllByRecursion IsCommand commands → lower < 2 ^ 64 → IfSome upper (λ t. t < 2 ^ 64) → length rows ≤ MAX_ROWS → AllByRecursion IsRow rows
    → (text : List ℕ) → lines_of text ≡ feed_lines commands ++ block_lines lower upper rows → (feed : List FeedLine) → Spells feed text → ⊥
open_spells_none commands lower upper rows few each low up few_rows each_row text is feed spells =
    let a = opened commands feed lower upper rows [] each spells.feed.each (sym spells.lines ∙ is ∙ sym (append-nil (feed_lines commands ++ block_lines lower upper rows))) in
    no_end a.0.rows rows a.1 each_row a.3
