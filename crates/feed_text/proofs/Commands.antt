-- Whole commands: the lines of a feed are those of one list of commands.
use Rattle.std.proofs.Common.{◌≡◌, ℕ, List, [], ◌∷◌, ◌++◌, map, append_assoc, append-nil, sym, ap, ◌∙◌, refl}
use Rattle.std.specs.List.{AllByRecursion}
use Rattle.update_core.specs.declared.updates.Update.{Update}
use Rattle.feed_text.specs.declared.feed_lines.FeedLine.{FeedLine}
use Rattle.feed_text.specs.declared.feed_lines.FeedLine.TheVariants.{Append, Snapshot, Listen, Since, Compact}
use Rattle.feed_text.specs.Grammar.{row_line, dot_line, command_lines, feed_lines, IsRow, IsCommand}
use Rattle.feed_text.proofs.Rows.{row_one, append_one, snapshot_one, listen_one, since_one, append_no_snapshot, append_no_listen, append_no_since, append_no_compact, listen_no_snapshot, listen_no_since, listen_no_compact, snapshot_no_compact, since_no_snapshot, since_no_compact, row_no_dot}

-- rows up to a dot are the same rows, and so is what comes after it
pub block_one : (us vs : List Update) (xs ys : List (List ℕ)) → AllByRecursion IsRow us → AllByRecursion IsRow vs
    → map row_line us ++ dot_line ∷ xs ≡ map row_line vs ++ dot_line ∷ ys → (us ≡ vs) × (xs ≡ ys)
block_one [] [] xs ys hu hv e = (refl, cc)
block_one [] (v ∷ vs) xs ys hu hv e = absurd (row_no_dot v hv.0 cc)
block_one (u ∷ us) [] xs ys hu hv e = absurd (row_no_dot u hu.0 cc)
block_one (u ∷ us) (v ∷ vs) xs ys hu hv e =
    let first = row_one u v hu.0 hv.0 cc in
    let rest = block_one us vs xs ys hu.1 hv.1 cc in
    (λ i. first i ∷ rest.0 i, rest.1)

-- the lines of a command, and what comes after them
pub command_one : (c d : FeedLine) (xs ys : List (List ℕ)) → IsCommand c → IsCommand d → command_lines c ++ xs ≡ command_lines d ++ ys → (c ≡ d) × (xs ≡ ys)
command_one (Append a) (Append b) xs ys hc hd e =
    let heads = append_one a.lower b.lower a.upper b.upper hc.lower hd.lower hc.upper hd.upper cc in
    let blocks = block_one a.rows b.rows xs ys hc.rows hd.rows (sym (append_assoc (map row_line a.rows) (dot_line ∷ []) xs) ∙ tails e ∙ append_assoc (map row_line b.rows) (dot_line ∷ []) ys) in
    (λ i. Append (record { lower = heads.0 i; upper = heads.1 i; rows = blocks.0 i }), blocks.1)
  where
    tails : {x y : List ℕ} {xs ys : List (List ℕ)} → x ∷ xs ≡ y ∷ ys → xs ≡ ys
    tails e = cc
command_one (Append a) (Snapshot t) xs ys hc hd e = absurd (append_no_snapshot a.lower a.upper t cc)
command_one (Append a) (Listen t) xs ys hc hd e = absurd (append_no_listen a.lower a.upper t cc)
command_one (Append a) (Since t) xs ys hc hd e = absurd (append_no_since a.lower a.upper t cc)
command_one (Append a) Compact xs ys hc hd e = absurd (append_no_compact a.lower a.upper cc)
command_one (Snapshot t) (Append b) xs ys hc hd e = absurd (append_no_snapshot b.lower b.upper t cc)
command_one (Snapshot s) (Snapshot t) xs ys hc hd e = (ap Snapshot (snapshot_one s t hc hd cc), cc)
command_one (Snapshot s) (Listen t) xs ys hc hd e = absurd (listen_no_snapshot t s cc)
command_one (Snapshot s) (Since t) xs ys hc hd e = absurd (since_no_snapshot t s cc)
command_one (Snapshot t) Compact xs ys hc hd e = absurd (snapshot_no_compact t cc)
command_one (Listen t) (Append b) xs ys hc hd e = absurd (append_no_listen b.lower b.upper t cc)
command_one (Listen s) (Snapshot t) xs ys hc hd e = absurd (listen_no_snapshot s t cc)
command_one (Listen s) (Listen t) xs ys hc hd e = (ap Listen (listen_one s t hc hd cc), cc)
command_one (Listen s) (Since t) xs ys hc hd e = absurd (listen_no_since s t cc)
command_one (Listen t) Compact xs ys hc hd e = absurd (listen_no_compact t cc)
command_one (Since t) (Append b) xs ys hc hd e = absurd (append_no_since b.lower b.upper t cc)
command_one (Since s) (Snapshot t) xs ys hc hd e = absurd (since_no_snapshot s t cc)
command_one (Since s) (Listen t) xs ys hc hd e = absurd (listen_no_since t s cc)
command_one (Since s) (Since t) xs ys hc hd e = (ap Since (since_one s t hc hd cc), cc)
command_one (Since t) Compact xs ys hc hd e = absurd (since_no_compact t cc)
command_one Compact (Append b) xs ys hc hd e = absurd (append_no_compact b.lower b.upper cc)
command_one Compact (Snapshot t) xs ys hc hd e = absurd (snapshot_no_compact t cc)
command_one Compact (Listen t) xs ys hc hd e = absurd (listen_no_compact t cc)
command_one Compact (Since t) xs ys hc hd e = absurd (since_no_compact t cc)
command_one Compact Compact xs ys hc hd e = (refl, cc)

-- a feed whose lines begin with those of some commands begins with these commands
pub commands_one : (cs fs : List FeedLine) (ys : List (List ℕ)) → AllByRecursion IsCommand cs → AllByRecursion IsCommand fs → feed_lines cs ++ ys ≡ feed_lines fs
    → (rest : List FeedLine) × (fs ≡ cs ++ rest) × (feed_lines rest ≡ ys)
commands_one [] fs ys hc hf e = (fs, refl, sym e)
commands_one (c ∷ cs) [] ys hc hf e = absurd (some c (feed_lines cs ++ ys) (sym (append_assoc (command_lines c) (feed_lines cs) ys) ∙ e))
  where
    some : (c : FeedLine) (xs : List (List ℕ)) → command_lines c ++ xs ≡ [] → ⊥
    some (Append a) xs e = cc
    some (Snapshot t) xs e = cc
    some (Listen t) xs e = cc
    some (Since t) xs e = cc
    some Compact xs e = cc
commands_one (c ∷ cs) (f ∷ fs) ys hc hf e =
    let first = command_one c f (feed_lines cs ++ ys) (feed_lines fs) hc.0 hf.0 (sym (append_assoc (command_lines c) (feed_lines cs) ys) ∙ e) in
    let rest = commands_one cs fs ys hc.1 hf.1 first.1 in
    (rest.0, (λ i. sym first.0 i ∷ rest.1 i), rest.2)

-- lines are those of one feed
pub feeds_one : (fs gs : List FeedLine) → AllByRecursion IsCommand fs → AllByRecursion IsCommand gs → feed_lines fs ≡ feed_lines gs → fs ≡ gs
feeds_one fs gs hf hg e =
    let one = commands_one fs gs [] hf hg (append-nil (feed_lines fs) ∙ e) in
    none one.0 one.2 one.1
  where
    none : (rest : List FeedLine) → feed_lines rest ≡ [] → gs ≡ fs ++ rest → fs ≡ gs
    none [] e is = sym (is ∙ append-nil fs)
    none (Append a ∷ rest) e is = cc
    none (Snapshot t ∷ rest) e is = cc
    none (Listen t ∷ rest) e is = cc
    none (Since t ∷ rest) e is = cc
    none (Compact ∷ rest) e is = cc
