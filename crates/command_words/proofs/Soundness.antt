-- The options that clap finds in the words are the words' own, and no other.
use Rattle.std.proofs.Common.{◌≡◌, ◌∙◌, ◌==◌, Bool, cond, codes, true, false}
use Rattle.std.proofs.Common.{⊎_elim, refl, sym, ap, ap₂, subst, arith, List, [], ◌∷◌, ◌++◌, map, length, Option}
use Rattle.std.proofs.Common.{Some, None, is_some, true≢false}
use Rattle.std.specs.Prelude.{⊤, fold, option_and_then, unwrap_or}
use Rattle.std.specs.List.{AllByRecursion, list_any, before_first, after_first, position_or_len}
use Rattle.std.specs.Str.{bytes_eq}
use Rattle.std.proofs.lemmas.Bool.{cases_lt}
use Rattle.std.proofs.lemmas.List.{append_assoc, take_all}
use Rattle.std.proofs.lemmas.List.Sums.{split_at_first, passes_at_first, fails_before_first}
use Rattle.std.proofs.lemmas.List.Folds.{list_any_at, list_any_none}
use borrow.Author.Tests.{eqb-true}
use Rattle.clap.specs.Lexer.{has_byte, long_of, long_of_rest, strip_byte}
use Rattle.clap.specs.Walk.{Held, Row, Text, Walk, has_row, settled, settled_rows, walked}
use Rattle.clap.specs.Simple.{Shape}
use Rattle.clap.specs.Kinds.{or_else}
use Rattle.clap.specs.Faults.{settle_fault, turn_fault, use_fault, walk_fault}
use Rattle.command_words.specs.Uses.{Options, Use, all_written, option_named, written}
use Rattle.command_words.specs.Program.{row}
use Rattle.command_words.proofs.Walks.{Pending, both_pass, dashes, holds, idle_at, idle_refuses, joined_turn, joined_walk, name_turn}
use Rattle.command_words.proofs.Walks.{name_walk, named_is, option_at, option_refuses, ready, rule, rules, settled_one, takes_value}
use Rattle.command_words.proofs.Walks.{unknown_refuses, unsettled, use_was_new, used_new}

-- ---- a word of an option

cut_at_equals : (t : Text) → has_byte 61 t ≡ true → t ≡ before_first (λ x. x == 61) t ++ 61 ∷ after_first (λ x. x == 61) t
cut_at_equals t h = ⊎_elim
    (λ within. split_at_first (λ x. x == 61) t 0 within ∙ ap (λ x. before_first (λ x. x == 61) t ++ x ∷ after_first (λ x. x == 61) t)
    (eqb-true _ 61 (passes_at_first (λ x. x == 61) t 0 within)))
    (λ past.
    let none : list_any (λ x. x == 61) t ≡ false =
    list_any_none (λ x. x == 61) t (λ k d l. fails_before_first (λ x. x == 61) t k d (omega arith)) in
    absurd (true≢false (sym h ∙ none)))
    (cases_lt (position_or_len (λ x. x == 61) t) (length t))

not_cut : (t : Text) → has_byte 61 t ≡ false → before_first (λ x. x == 61) t ≡ t
not_cut t h = ⊎_elim
    (λ within. absurd (true≢false
    (sym (list_any_at (λ x. x == 61) t (position_or_len (λ x. x == 61) t) 0 within (passes_at_first (λ x. x == 61) t 0 within)) ∙ h)))
    (λ past. take_all (position_or_len (λ x. x == 61) t) t past)
    (cases_lt (position_or_len (λ x. x == 61) t) (length t))

-- a word that begins with two hyphens
long_shape : (w : Text) (p : Text × Option Text) → long_of w ≡ Some p → (t : Text) × (w ≡ 45 ∷ 45 ∷ t) × (long_of_rest t ≡ Some p)
long_shape [] p e = cc
long_shape (a ∷ []) p e = go (a == 45) e
  where
    go : (x : Bool) → option_and_then long_of_rest (option_and_then (strip_byte 45) (cond x (Some []) None)) ≡ Some p
        → (t : Text) × (a ∷ [] ≡ 45 ∷ 45 ∷ t) × (long_of_rest t ≡ Some p)
    go true f = let bad : None ≡ Some p = f in cc
    go false f = let bad : None ≡ Some p = f in cc
long_shape (a ∷ b ∷ t) p e = go (a == 45) refl (b == 45) refl e
  where
    go : (x : Bool) → (a == 45) ≡ x → (y : Bool) → (b == 45) ≡ y
        → option_and_then long_of_rest (option_and_then (strip_byte 45) (cond x (Some (b ∷ t)) None)) ≡ Some p
        → (u : Text) × (a ∷ b ∷ t ≡ 45 ∷ 45 ∷ u) × (long_of_rest u ≡ Some p)
    go true first true second f = (
      t,
      ap₂ (λ x y. x ∷ y ∷ t) (eqb-true a 45 first) (eqb-true b 45 second),
      ap (λ z. option_and_then long_of_rest (cond z (Some t) None)) (sym second) ∙ f,
    )
    go true first false second f = let bad : None ≡ Some p = ap (λ z. option_and_then long_of_rest (cond z (Some t) None)) (sym second)
        ∙ f in cc
    go false first y second f = let bad : None ≡ Some p = f in cc

abbrev pub found : Text → Option Text → Option (Text × Option Text)
found n v = Some (n, v)

abbrev part : Option (Text × Option Text) → Text × Option Text
part o = unwrap_or o ([], None)

pub joined_written : (w n v : Text) → long_of w ≡ Some (n, Some v) → w ≡ codes "--" ++ (n ++ (codes "=" ++ v))
joined_written w n v e =
    let shape = long_shape w (n, Some v) e in
    shape.1 ∙ ap (λ t. 45 ∷ 45 ∷ t) (go shape.0 shape.2)
  where
    go : (t : Text) → long_of_rest t ≡ found n (Some v) → t ≡ n ++ 61 ∷ v
    go [] f = let bad : None ≡ found n (Some v) = f in cc
    go (x ∷ xs) f = by (has_byte 61 (x ∷ xs)) refl f
      where
        by : (b : Bool) → has_byte 61 (x ∷ xs) ≡ b → found (before_first (λ x. x == 61) (x ∷ xs))
            (cond b (Some (after_first (λ x. x == 61) (x ∷ xs))) None) ≡ found n (Some v) → x ∷ xs ≡ n ++ 61 ∷ v
        by true has g =
            let front : before_first (λ x. x == 61) (x ∷ xs) ≡ n = ap (λ o. (part o).0) g in
            let back : after_first (λ x. x == 61) (x ∷ xs) ≡ v = ap (λ o. unwrap_or (part o).1 []) g in
            cut_at_equals (x ∷ xs) has ∙ ap₂ (λ l r. l ++ 61 ∷ r) front back
        by false lacks g = let bad : None ≡ Some v = ap (λ o. (part o).1) g in cc

pub name_written : (w n : Text) → long_of w ≡ Some (n, None) → w ≡ codes "--" ++ n
name_written w n e =
    let shape = long_shape w (n, None) e in
    shape.1 ∙ ap (λ t. 45 ∷ 45 ∷ t) (go shape.0 shape.2)
  where
    go : (t : Text) → long_of_rest t ≡ found n None → t ≡ n
    go [] f = let bad : None ≡ found n None = f in cc
    go (x ∷ xs) f = by (has_byte 61 (x ∷ xs)) refl f
      where
        by : (b : Bool) → has_byte 61 (x ∷ xs) ≡ b → found (before_first (λ x. x == 61) (x ∷ xs))
            (cond b (Some (after_first (λ x. x == 61) (x ∷ xs))) None) ≡ found n None → x ∷ xs ≡ n
        by true has g = let bad : Some (after_first (λ x. x == 61) (x ∷ xs)) ≡ None = ap (λ o. (part o).1) g in cc
        by false lacks g = sym (not_cut (x ∷ xs) lacks) ∙ ap (λ o. (part o).0) g

-- ---- the words of a command

unfoldable pub FreshFor : List Row → List Use → Type 0
FreshFor rows [] = ⊤
FreshFor rows (u ∷ us) = (has_row u.name rows ≡ false) × FreshFor (rows ++ row u ∷ []) us

abbrev pub NoDashes : List Text → Type 0
NoDashes = AllByRecursion (λ w. bytes_eq w dashes ≡ false)

-- the words are options, of which these rows come
pub record Reads (options : Options) (before : List Row) (ws : List Text) (after : List Row) : Type 0 where
  pub uses : List Use
  pub words : ws ≡ all_written uses
  pub known : AllByRecursion (λ u. is_some (option_named u.name options) ≡ true) uses
  pub fresh : FreshFor before uses
  pub rows : after ≡ before ++ map row uses

no_more : (rows : List Row) → rows ≡ rows ++ []
no_more [] = refl
no_more (r ∷ rows) = ap (λ l. r ∷ l) (no_more rows)

reads_none : (options : Options) (before : List Row) → Reads options before [] before
unfolding FreshFor
reads_none options before = record { uses = []; words = refl; known = tt; fresh = tt; rows = no_more before }

reads_more : (options : Options) (u : Use) (before : List Row) (ws : List Text) (after : List Row) → is_some (option_named u.name options)
    ≡ true → has_row u.name before ≡ false
    → Reads options (before ++ row u ∷ []) ws after → Reads options before (written u ++ ws) after
unfolding FreshFor
reads_more options u before ws after known fresh r = record {
  uses = u ∷ r.uses;
  words = ap (λ l. written u ++ l) r.words;
  known = (known, r.known);
  fresh = (fresh, r.fresh);
  rows = r.rows ∙ append_assoc before (row u ∷ []) (map row r.uses);
}

-- where an option waits, a value and then options
pub record Waits (options : Options) (before : List Row) (n : Text) (ws : List Text) (after : List Row) : Type 0 where
  pub value : Text
  pub rest : List Text
  pub words : ws ≡ value ∷ rest
  pub fresh : has_row n before ≡ false
  pub reads : Reads options (before ++ row (record { name = n; value = value; joined = false }) ∷ []) rest after

module _ (base : Shape) (options : Options) where
  abbrev s : Shape
  s = ready base options

  abbrev ended : Walk → List Text → Held
  ended w ws = (fold (walked (rules options) []) w ws).held

  -- the walk passes from here to the end
  abbrev Passes : Walk → List Text → Type 0
  Passes w ws = (walk_fault s [] w ws ≡ []) × (settle_fault (rules options) false (ended w ws) ≡ [])

  abbrev left : Walk → List Text → List Row
  left w ws = (settled (rules options) (ended w ws)).rows

  abbrev Idle : List Text → Type 0
  Idle ws = (rows : List Row) (pending : Pending) → Passes (idle_at rows pending) ws
      → (settle_fault (rules options) false (holds rows pending) ≡ []) × Reads options (settled_rows (rules options) pending rows) ws
      (left (idle_at rows pending) ws)

  abbrev Waiting_ : List Text → Type 0
  Waiting_ ws = (n : Text) (o : Text × Bool) (rows : List Row) → option_named n options ≡ Some o → Passes (option_at n rows) ws
      → Waits options rows n ws (left (option_at n rows) ws)

  -- a turn that passed, and the walk after it
  turn_of : (w : Walk) (word : Text) (ws : List Text) → Passes w (word ∷ ws) → (turn_fault s [] w word ≡ [])
      × Passes (walked (rules options) [] w word) ws
  unfolding walk_fault
  turn_of w word ws h =
      let parts = both_pass (turn_fault s [] w word) (walk_fault s [] (walked (rules options) [] w word) ws) h.0 in
      (parts.0, (parts.1, h.1))

  is_known : (n : Text) (o : Text × Bool) → option_named n options ≡ Some o → is_some (option_named o.0 options) ≡ true
  is_known n o named = ap (λ x. is_some (option_named x options)) (named_is n options o named) ∙ ap is_some named

  joined_step : (w n v : Text) (o : Text × Bool) (ws : List Text) (rows : List Row) (pending : Pending) → bytes_eq w dashes ≡ false
      → Idle ws
      → long_of w ≡ Some (n, Some v) → option_named n options ≡ Some o → Passes (idle_at rows pending) (w ∷ ws)
      → (settle_fault (rules options) false (holds rows pending) ≡ []) × Reads options (settled_rows (rules options) pending rows) (w ∷ ws)
      (left (idle_at rows pending) (w ∷ ws))
  joined_step w n v o ws rows pending dull ih long named h =
      let now = settled_rows (rules options) pending rows in
      let u : Use = record { name = o.0; value = v; joined = true } in
      let turn = turn_of (idle_at rows pending) w ws h in
      let passed = both_pass (or_else (settle_fault (rules options) false (holds rows pending)) (use_fault false (rule o) (v ∷ []) now)) []
      (sym (joined_turn base options w n v o rows pending dull long named) ∙ turn.0) in
      let parts = both_pass (settle_fault (rules options) false (holds rows pending)) (use_fault false (rule o) (v ∷ []) now) passed.0 in
      let fresh : has_row o.0 now ≡ false = use_was_new o v now parts.1 in
      let goes : walked (rules options) [] (idle_at rows pending) w ≡ idle_at (now ++ row u ∷ []) None =
      joined_walk base options w n v o rows pending dull long named ∙ ap (λ r. idle_at r None) (used_new o v now fresh) in
      let rest : Reads options (now ++ row u ∷ []) ws (left (walked (rules options) [] (idle_at rows pending) w) ws) =
      subst (λ x. Passes x ws → Reads options (now ++ row u ∷ []) ws (left x ws)) (sym goes)
      (λ q. (ih (now ++ row u ∷ []) None q).1) turn.1 in
      let word : w ≡ codes "--" ++ (o.0 ++ (codes "=" ++ v)) = joined_written w n v long ∙ ap (λ x. codes "--" ++ (x ++ (codes "=" ++ v)))
      (sym (named_is n options o named)) in (
        parts.0,
        subst (λ x. Reads options now (x ∷ ws) (left (idle_at rows pending) (w ∷ ws))) (sym word)
            (reads_more options u now ws _ (is_known n o named) fresh rest),
      )

  name_step : (w n : Text) (o : Text × Bool) (ws : List Text) (rows : List Row) (pending : Pending) → bytes_eq w dashes ≡ false
      → Waiting_ ws
      → long_of w ≡ Some (n, None) → option_named n options ≡ Some o → Passes (idle_at rows pending) (w ∷ ws)
      → (settle_fault (rules options) false (holds rows pending) ≡ []) × Reads options (settled_rows (rules options) pending rows) (w ∷ ws)
      (left (idle_at rows pending) (w ∷ ws))
  name_step w n o ws rows pending dull ih long named h =
      let now = settled_rows (rules options) pending rows in
      let turn = turn_of (idle_at rows pending) w ws h in
      let passed = both_pass (settle_fault (rules options) false (holds rows pending)) []
      (sym (name_turn base options w n o rows pending dull long named) ∙ turn.0) in
      let goes : walked (rules options) [] (idle_at rows pending) w ≡ option_at o.0 now =
      name_walk base options w n o rows pending dull long named in
      let again : option_named o.0 options ≡ Some o = ap (λ x. option_named x options) (named_is n options o named) ∙ named in
      let rest : Waits options now o.0 ws (left (walked (rules options) [] (idle_at rows pending) w) ws) =
      subst (λ x. Passes x ws → Waits options now o.0 ws (left x ws)) (sym goes) (λ q. ih o.0 o now again q) turn.1 in
      let u : Use = record { name = o.0; value = rest.value; joined = false } in
      let word : w ≡ codes "--" ++ o.0 = name_written w n long ∙ ap (λ x. codes "--" ++ x) (sym (named_is n options o named)) in
      let words : written u ++ rest.rest ≡ w ∷ ws = ap₂ (λ x y. x ∷ y) (sym word) (sym rest.words) in (
        passed.0,
        subst (λ x. Reads options now x (left (idle_at rows pending) (w ∷ ws))) words
            (reads_more options u now rest.rest _ (is_known n o named) rest.fresh rest.reads),
      )

  idle_step : (w : Text) (ws : List Text) → bytes_eq w dashes ≡ false → Idle ws → Waiting_ ws → Idle (w ∷ ws)
  idle_step w ws dull ih waits rows pending h = go (long_of w) refl
    where
      Goal : Type 0
      Goal = (settle_fault (rules options) false (holds rows pending) ≡ []) × Reads options (settled_rows (rules options) pending rows)
          (w ∷ ws) (left (idle_at rows pending) (w ∷ ws))

      named : (n : Text) (v : Option Text) (o : Option (Text × Bool)) → long_of w ≡ Some (n, v) → option_named n options ≡ o
          → (settle_fault (rules options) false (holds rows pending) ≡ []) × Reads options (settled_rows (rules options) pending rows)
          (w ∷ ws) (left (idle_at rows pending) (w ∷ ws))
      named n v None long is =
          absurd (unknown_refuses base options w n v rows pending dull long is (turn_of (idle_at rows pending) w ws h).0)
      named n None (Some o) long is = name_step w n o ws rows pending dull waits long is h
      named n (Some v) (Some o) long is = joined_step w n v o ws rows pending dull ih long is h

      go : (l : Option (Text × Option Text)) → long_of w ≡ l
          → (settle_fault (rules options) false (holds rows pending) ≡ []) × Reads options (settled_rows (rules options) pending rows)
          (w ∷ ws) (left (idle_at rows pending) (w ∷ ws))
      go None long = absurd (idle_refuses base options w rows pending dull long (turn_of (idle_at rows pending) w ws h).0)
      go (Some p) long = named p.0 p.1 (option_named p.0 options) long refl

  waiting_step : (w : Text) (ws : List Text) → bytes_eq w dashes ≡ false → Idle ws → Waiting_ (w ∷ ws)
  waiting_step w ws dull ih n o rows named h = go (long_of w) refl
    where
      go : (l : Option (Text × Option Text)) → long_of w ≡ l → Waits options rows n (w ∷ ws) (left (option_at n rows) (w ∷ ws))
      go (Some p) long = absurd (option_refuses base options w p.0 n p.1 o rows dull long named (turn_of (option_at n rows) w ws h).0)
      go None long =
          let turn = turn_of (option_at n rows) w ws h in
          let goes = takes_value base options w n o rows dull long named turn.0 in
          let one = settled_one base options n w o rows named in
          let rest = subst (λ x. Passes x ws → (settle_fault (rules options) false (holds rows (Some (n, w ∷ []))) ≡ [])
          × Reads options (settled_rows (rules options) (Some (n, w ∷ [])) rows) ws (left x ws))
          (sym goes) (ih rows (Some (n, w ∷ []))) turn.1 in
          let fresh : has_row o.0 rows ≡ false = use_was_new o w rows (sym one.0 ∙ rest.0) in
          let same = named_is n options o named in
          let now : settled_rows (rules options) (Some (n, w ∷ [])) rows
          ≡ rows ++ row (record { name = n; value = w; joined = false }) ∷ [] =
          one.1 ∙ (used_new o w rows fresh ∙ ap (λ x. rows ++ row (record { name = x; value = w; joined = false }) ∷ []) same) in
          record {
            value = w;
            rest = ws;
            words = refl;
            fresh = ap (λ x. has_row x rows) (sym same) ∙ fresh;
            reads = subst (λ r. Reads options r ws (left (option_at n rows) (w ∷ ws))) now rest.1;
          }

  pub walk_reads : (ws : List Text) → NoDashes ws → Idle ws × Waiting_ ws
  unfolding walk_fault
  walk_reads [] dull = (
    λ rows pending h. (h.1, reads_none options _),
    λ n o rows named h. absurd (unsettled base options n o rows named h.1),
  )
  walk_reads (w ∷ ws) dull =
      let rest = walk_reads ws dull.1 in
      (idle_step w ws dull.0 rest.0 rest.1, waiting_step w ws dull.0 rest.0)
