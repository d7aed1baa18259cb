-- What clap's walk makes of a command's options.
use Rattle.std.proofs.Common.{◌≡◌, ◌∙◌, ◌||◌, ◌⊎◌, ℕ, Bool, cond, true, false, inl, inr}
use Rattle.std.proofs.Common.{⊎_elim, refl, sym, ap, List, [], ◌∷◌, ◌++◌, map, Option, Some, None}
use Rattle.std.proofs.Common.{option_map}
use Rattle.std.specs.Prelude.{slice_get}
use Rattle.std.specs.Str.{bytes_eq, chars}
use Rattle.std.proofs.lemmas.Bool.{or_parts}
use Rattle.std.proofs.lemmas.Slice.Eq.{bytes_eq-Decides}
use Rattle.clap.specs.Lexer.{long_of, short_of}
use Rattle.clap.specs.Walk.{Held, Row, Rule, Text, Waiting, Walk, idle, option, arg_by_id, arg_by_index, arg_by_long}
use Rattle.clap.specs.Walk.{arg_by_short, at_row, has_row, settled_rows, used, walked}
use Rattle.clap.specs.Walk.{without, bundle, bundle_met, more_values, plain, word_met}
use Rattle.clap.specs.Simple.{Shape, filled, filled_from}
use Rattle.clap.specs.Kinds.{Kinds, or_else}
use Rattle.clap.specs.declared.parser.matches.ValueSource.TheVariants.{CommandLine}
use Rattle.clap.specs.Faults.{bundle_fault, step_fault, word_fault, flags_fault, settle_fault}
use Rattle.clap.specs.Faults.{turn_fault, use_fault}
use Rattle.clap.specs.declared.error.kind.ErrorKind.TheVariants as kind
use Rattle.command_words.specs.Uses.{Options, option_named}
use Rattle.command_words.specs.Program.{option_rule, row}

-- ---- kinds

pub both_pass : (a b : Kinds) → or_else a b ≡ [] → (a ≡ []) × (b ≡ [])
both_pass [] b e = (refl, e)
both_pass (k ∷ ks) b e = cc

pub pass_both : (a b : Kinds) → a ≡ [] → b ≡ [] → or_else a b ≡ []
pass_both a b p q = ap (λ x. or_else x b) p ∙ q

-- ---- the options of a command, as clap has them

abbrev pub rule : Text × Bool → Rule
rule o = filled (option_rule o)

abbrev pub rules : Options → List Rule
rules options = map rule options

pub all_filled : (options : Options) (i : ℕ) → filled_from i (map option_rule options) ≡ rules options
all_filled [] i = refl
all_filled (o ∷ options) i = ap (λ l. rule o ∷ l) (all_filled options i)

pub by_long : (n : Text) (options : Options) → arg_by_long (rules options) n ≡ option_map rule (option_named n options)
by_long n [] = refl
by_long n (o ∷ options) = elim (bytes_eq o.0 n) as (λ b. cond (b || false) (Some (rule o)) (arg_by_long (rules options) n)
    ≡ option_map rule (cond b (Some o) (option_named n options))) [
      | true ↦ refl
      | false ↦ by_long n options
    ]

pub by_id : (n : Text) (options : Options) → arg_by_id (rules options) n ≡ option_map rule (option_named n options)
by_id n [] = refl
by_id n (o ∷ options) = elim (bytes_eq o.0 n) as (λ b. cond b (Some (rule o)) (arg_by_id (rules options) n)
    ≡ option_map rule (cond b (Some o) (option_named n options))) [
      | true ↦ refl
      | false ↦ by_id n options
    ]

pub by_short : (x : ℕ) (options : Options) → arg_by_short (rules options) x ≡ None
by_short x [] = refl
by_short x (o ∷ options) = by_short x options

pub by_index : (i : ℕ) (options : Options) → arg_by_index (rules options) i ≡ None
by_index i [] = refl
by_index i (o ∷ options) = by_index i options

pub named_is : (n : Text) (options : Options) (o : Text × Bool) → option_named n options ≡ Some o → o.0 ≡ n
named_is n [] o e = cc
named_is n (p ∷ options) o e = go (bytes_eq p.0 n) refl (named_is n options o) e
  where
    go : (b : Bool) → bytes_eq p.0 n ≡ b → (option_named n options ≡ Some o → o.0 ≡ n) → cond b (Some p) (option_named n options) ≡ Some o
        → o.0 ≡ n
    go true is rest f = let same : p ≡ o = cc in ap (λ (q : Text × Bool). q.0) (sym same) ∙ (bytes_eq-Decides p.0 n).0 is
    go false is rest f = rest f

-- ---- rows

pub at_new : (n : Text) (change : Row → List Row) (missing rows : List Row) → has_row n rows ≡ false → at_row n change missing rows
    ≡ rows ++ missing
at_new n change missing [] fresh = refl
at_new n change missing (r ∷ rows) fresh =
    let parts = or_parts (bytes_eq r.id n) (has_row n rows) fresh in
    rw (parts.0) (ap (λ l. r ∷ l) (at_new n change missing rows parts.1))

no_more : (rows : List Row) → rows ++ [] ≡ rows
no_more [] = refl
no_more (r ∷ rows) = ap (λ l. r ∷ l) (no_more rows)

pub used_new : (o : Text × Bool) (v : Text) (rows : List Row) → has_row o.0 rows ≡ false → used (rule o) (v ∷ []) rows
    ≡ rows ++ row (record { name = o.0; value = v; joined = true }) ∷ []
used_new o v rows fresh =
    let same : without o.0 rows ≡ rows = at_new o.0 (λ _. []) [] rows fresh ∙ no_more rows in
    rw (same) (at_new o.0 (more_values CommandLine (v ∷ [])) (row (record { name = o.0; value = v; joined = true }) ∷ []) rows fresh)

-- one value passes where the option was not given before
pub use_passes : (o : Text × Bool) (v : Text) (rows : List Row) → has_row o.0 rows ≡ false → use_fault false (rule o) (v ∷ []) rows ≡ []
use_passes o v rows fresh = rw (fresh) refl

pub use_was_new : (o : Text × Bool) (v : Text) (rows : List Row) → use_fault false (rule o) (v ∷ []) rows ≡ [] → has_row o.0 rows ≡ false
use_was_new o v rows e = go (has_row o.0 rows) refl
  where
    go : (b : Bool) → has_row o.0 rows ≡ b → has_row o.0 rows ≡ false
    go true is = let bad : kind.ArgumentConflict ∷ [] ≡ [] = rw (is) at e in absurd (cc)
    go false is = is

-- ---- the walk over a command's words

-- a command as clap has built it
pub record IsReady (options : Options) (s : Shape) : Type 0 where
  pub rules : s.rules ≡ rules options
  pub again : s.args_override_self ≡ false
  pub leaf : s.is_leaf ≡ true

abbrev pub Pending : Type 0
Pending = Option (Text × List Text)

abbrev pub holds : List Row → Pending → Held
holds rows pending = record { rows = rows; pending = pending; skip = 0 }

-- between two options, and where an option waits for its value
abbrev pub idle_at : List Row → Pending → Walk
idle_at rows pending = record { held = holds rows pending; waiting = idle; position = 1; is_trailing = false; stopped = None }

abbrev pub option_at : Text → List Row → Walk
option_at n rows = record { held = holds rows (Some (n, [])); waiting = option n; position = 1; is_trailing = false; stopped = None }

abbrev pub dashes : Text
dashes = 45 ∷ 45 ∷ []

-- the shape of a command's built rules
abbrev pub ready : Shape → Options → Shape
ready s options = record s { rules = rules options; args_override_self = false; is_leaf = true }

module _ (base : Shape) (options : Options) where
  abbrev s : Shape
  s = ready base options

  abbrev c : List Rule
  c = rules options

  -- an option in one word
  pub joined_walk : (w n v : Text) (o : Text × Bool) (rows : List Row) (pending : Pending) → bytes_eq w dashes ≡ false
      → long_of w ≡ Some (n, Some v) → option_named n options ≡ Some o
      → walked c [] (idle_at rows pending) w ≡ idle_at (used (rule o) (v ∷ []) (settled_rows c pending rows)) None
  unfolding walked
  joined_walk w n v o rows pending dull long named = rw (dull, long, by_long n options, named) refl

  pub joined_turn : (w n v : Text) (o : Text × Bool) (rows : List Row) (pending : Pending) → bytes_eq w dashes ≡ false
      → long_of w ≡ Some (n, Some v) → option_named n options ≡ Some o
      → turn_fault s [] (idle_at rows pending) w
      ≡ or_else (or_else (settle_fault c false (holds rows pending))
      (use_fault false (rule o) (v ∷ []) (settled_rows c pending rows))) []
  joined_turn w n v o rows pending dull long named = rw (dull, long, by_long n options, named) refl

  -- the name of an option, whose value is to follow
  pub name_walk : (w n : Text) (o : Text × Bool) (rows : List Row) (pending : Pending) → bytes_eq w dashes ≡ false
      → long_of w ≡ Some (n, None) → option_named n options ≡ Some o
      → walked c [] (idle_at rows pending) w ≡ option_at o.0 (settled_rows c pending rows)
  unfolding walked
  name_walk w n o rows pending dull long named = rw (dull, long, by_long n options, named) refl

  pub name_turn : (w n : Text) (o : Text × Bool) (rows : List Row) (pending : Pending) → bytes_eq w dashes ≡ false
      → long_of w ≡ Some (n, None) → option_named n options ≡ Some o
      → turn_fault s [] (idle_at rows pending) w ≡ or_else (settle_fault c false (holds rows pending)) []
  name_turn w n o rows pending dull long named = rw (dull, long, by_long n options, named) refl

  -- a value
  pub value_walk : (w n : Text) (o : Text × Bool) (rows : List Row) → bytes_eq w dashes ≡ false → long_of w ≡ None → short_of w ≡ None
      → option_named n options ≡ Some o
      → walked c [] (option_at n rows) w ≡ idle_at rows (Some (n, w ∷ []))
  unfolding walked
  value_walk w n o rows dull long short named = rw (dull, long, short, by_id n options, named)
      (rw ((bytes_eq-Decides n o.0).1 (sym (named_is n options o named))) refl)

  pub value_turn : (w n : Text) (o : Text × Bool) (rows : List Row) → bytes_eq w dashes ≡ false → long_of w ≡ None → short_of w ≡ None
      → option_named n options ≡ Some o
      → turn_fault s [] (option_at n rows) w ≡ []
  value_turn w n o rows dull long short named = rw (dull, long, short) refl

  -- a word that begins with one hyphen is refused, or read as one that does not
  pub short_either : (flags : Text) (rows : List Row) (pending : Pending)
      → (bundle_fault c false flags (holds rows pending) ≡ kind.UnknownArgument ∷ [])
      ⊎ ((bundle_fault c false flags (holds rows pending) ≡ []) × (bundle c flags (holds rows pending) ≡ (holds rows pending, plain)))
  unfolding flags_fault bundle_met
  short_either [] rows pending = inr (refl, refl)
  short_either (x ∷ xs) rows pending = go (slice_get (chars (x ∷ xs)) 0) refl
    where
      go : (first : Option ℕ) → slice_get (chars (x ∷ xs)) 0 ≡ first
          → (bundle_fault c false (x ∷ xs) (holds rows pending) ≡ kind.UnknownArgument ∷ [])
          ⊎ ((bundle_fault c false (x ∷ xs) (holds rows pending) ≡ [])
          × (bundle c (x ∷ xs) (holds rows pending) ≡ (holds rows pending, plain)))
      go None is = inr (rw (is) refl, rw (is) refl)
      go (Some y) is = inl (rw (is, by_short y options) refl)

  first_passes : (waiting : Waiting) (h : Held) (w : Text)
      → turn_fault s [] (record { held = h; waiting = waiting; position = 1; is_trailing = false; stopped = None }) w ≡ []
      → word_fault s [] false waiting w h ≡ []
  first_passes waiting h w e =
      (both_pass (word_fault s [] false waiting w h)
      (step_fault s 1 (word_met c [] false waiting 1 w h).0 (word_met c [] false waiting 1 w h).1) e).0

  -- between two options only an option goes on
  pub idle_refuses : (w : Text) (rows : List Row) (pending : Pending) → bytes_eq w dashes ≡ false → long_of w ≡ None
      → turn_fault s [] (idle_at rows pending) w ≡ [] → ⊥
  idle_refuses w rows pending dull long e = go (short_of w) refl
    where
      go : (o : Option Text) → short_of w ≡ o → ⊥
      go None short = let bad : kind.UnknownArgument ∷ [] ≡ [] = rw (dull, long, short, by_index 1 options) at e in absurd (cc)
      go (Some flags) short = ⊎_elim
          (λ refused.
          let here : word_fault s [] false idle w (holds rows pending) ≡ bundle_fault c false flags (holds rows pending) =
          rw (dull, long, short) refl in
          let bad : kind.UnknownArgument ∷ [] ≡ [] = sym refused ∙ (sym here ∙ first_passes idle (holds rows pending) w e) in absurd (cc))
          (λ passed. let bad : kind.UnknownArgument ∷ [] ≡ [] = rw (dull, long, short, passed.0, passed.1, by_index 1 options) at e in
          absurd (cc))
          (short_either flags rows pending)

  -- a name that the command lacks
  pub unknown_refuses : (w n : Text) (v : Option Text) (rows : List Row) (pending : Pending) → bytes_eq w dashes ≡ false
      → long_of w ≡ Some (n, v) → option_named n options ≡ None
      → turn_fault s [] (idle_at rows pending) w ≡ [] → ⊥
  unknown_refuses w n v rows pending dull long unnamed e = let bad : kind.UnknownArgument ∷ [] ≡ [] =
      rw (dull, long, by_long n options, unnamed) at e in absurd (cc)

  -- where a value is to follow, an option is refused
  pub option_refuses : (w m n : Text) (v : Option Text) (o : Text × Bool) (rows : List Row) → bytes_eq w dashes ≡ false
      → long_of w ≡ Some (m, v) → option_named n options ≡ Some o
      → turn_fault s [] (option_at n rows) w ≡ [] → ⊥
  option_refuses w m n v o rows dull long named e = go (option_named m options) refl v long
    where
      go : (p : Option (Text × Bool)) → option_named m options ≡ p → (u : Option Text) → long_of w ≡ Some (m, u) → ⊥
      go None unnamed u is = let bad : kind.UnknownArgument ∷ [] ≡ [] = rw (dull, is, by_long m options, unnamed) at e in absurd (cc)
      go (Some p) other None is = let bad : kind.InvalidValue ∷ [] ≡ [] =
          rw (dull, is, by_long m options, other, by_id n options, named) at e in absurd (cc)
      go (Some p) other (Some u) is = let bad : kind.InvalidValue ∷ [] ≡ [] =
          rw (dull, is, by_long m options, other, by_id n options, named) at e in absurd (cc)

  -- where a value is to follow, a word that passes is the value
  pub takes_value : (w n : Text) (o : Text × Bool) (rows : List Row) → bytes_eq w dashes ≡ false → long_of w ≡ None → option_named n options
      ≡ Some o
      → turn_fault s [] (option_at n rows) w ≡ [] → walked c [] (option_at n rows) w ≡ idle_at rows (Some (n, w ∷ []))
  unfolding walked
  takes_value w n o rows dull long named e = go (short_of w) refl
    where
      go : (p : Option Text) → short_of w ≡ p → walked c [] (option_at n rows) w ≡ idle_at rows (Some (n, w ∷ []))
      go None short = value_walk w n o rows dull long short named
      go (Some flags) short = ⊎_elim
          (λ refused.
          let here : word_fault s [] false (option n) w (holds rows (Some (n, []))) ≡ bundle_fault c false flags
          (holds rows (Some (n, []))) = rw (dull, long, short) refl in
          let bad : kind.UnknownArgument ∷ [] ≡ [] = sym refused ∙ (sym here ∙ first_passes (option n) (holds rows (Some (n, []))) w e) in
          absurd (cc))
          (λ passed. rw (dull, long, short, passed.1, by_id n options, named)
          (rw ((bytes_eq-Decides n o.0).1 (sym (named_is n options o named))) refl))
          (short_either flags rows (Some (n, [])))

  -- what the option that waits comes to
  pub settled_one : (n v : Text) (o : Text × Bool) (rows : List Row) → option_named n options ≡ Some o
      → (settle_fault c false (holds rows (Some (n, v ∷ []))) ≡ use_fault false (rule o) (v ∷ []) rows)
      × (settled_rows c (Some (n, v ∷ [])) rows ≡ used (rule o) (v ∷ []) rows)
  settled_one n v o rows named = (rw (by_id n options, named) refl, rw (by_id n options, named) refl)

  pub unsettled : (n : Text) (o : Text × Bool) (rows : List Row) → option_named n options ≡ Some o
      → settle_fault c false (holds rows (Some (n, []))) ≡ [] → ⊥
  unsettled n o rows named e = let bad : kind.InvalidValue ∷ [] ≡ [] = rw (by_id n options, named) at e in absurd (cc)
