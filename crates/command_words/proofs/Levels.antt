-- A whole parse: the command word, its options, and what has to be there.
use Rattle.std.proofs.Common.{◌≡◌, ◌∙◌, ◌&&◌, ◌||◌, Bool, cond, true, false, not}
use Rattle.std.proofs.Common.{refl, sym, ap, subst, List, [], ◌∷◌, ◌++◌, map, find, Some, None}
use Rattle.std.proofs.Common.{option_map, is_some, true≢false}
use Rattle.std.specs.Prelude.{fold}
use Rattle.std.specs.List.{AllByRecursion, list_any}
use Rattle.std.specs.Option.{option_map_or}
use Rattle.std.specs.Str.{bytes_eq}
use Rattle.std.proofs.lemmas.Bool.{or_parts, or_from}
use Rattle.clap.specs.Walk.{Row, Text, finished, has_row, nothing_held, rows_after, settled}
use Rattle.clap.specs.Walk.{walk, with_default}
use Rattle.clap.specs.Simple.{Shape}
use Rattle.clap.specs.Facts.{explicit_source}
use Rattle.clap.specs.Takes.{is_given}
use Rattle.clap.specs.Kinds.{Kinds, or_else}
use Rattle.clap.specs.Faults.{check_fault, default_fault, defaults_fault, level_fault}
use Rattle.clap.specs.Faults.{settle_fault, walk_fault}
use Rattle.clap.specs.declared.error.kind.ErrorKind.TheVariants as kind
use Rattle.command_words.specs.Uses.{AreGiven, Once, Options, Use, all_written, has_name, value_of}
use Rattle.command_words.specs.Program.{leaf, row}
use Rattle.command_words.proofs.Walks.{both_pass, pass_both, idle_at, rule, rules, ready}
use Rattle.command_words.proofs.Soundness.{FreshFor, NoDashes, walk_reads}
use Rattle.command_words.proofs.Completeness.{IsTaken, walk_takes}

-- ---- after the walk

no_default : (o : Text × Bool) (rows : List Row) → (default_fault rows (rule o) ≡ []) × (with_default rows (rule o) ≡ rows)
no_default o rows = (
  elim (has_row o.0 rows) as (λ b. cond (b || true) [] (or_else [] []) ≡ []) [ true ↦ refl | false ↦ refl ],
  elim (has_row o.0 rows) as (λ b. cond b rows rows ≡ rows) [ true ↦ refl | false ↦ refl ],
)

no_defaults : (options : Options) (rows : List Row) → defaults_fault rows (rules options) ≡ []
unfolding defaults_fault
no_defaults [] rows = refl
no_defaults (o ∷ options) rows =
    let none = no_default o rows in
    pass_both (default_fault rows (rule o)) (defaults_fault (with_default rows (rule o)) (rules options)) none.0
    (ap (λ x. defaults_fault x (rules options)) none.1 ∙ no_defaults options rows)

nothing_added : (options : Options) (rows : List Row) → fold with_default rows (rules options) ≡ rows
nothing_added [] rows = refl
nothing_added (o ∷ options) rows = ap (λ x. fold with_default x (rules options)) (no_default o rows).1 ∙ nothing_added options rows

given_is : (n : Text) (uses : List Use) → is_given n (map row uses) ≡ is_some (value_of n uses)
given_is n [] = refl
given_is n (u ∷ us) =
    elim (bytes_eq u.name n) as
    (λ b. option_map_or (λ r. explicit_source r.source) (cond b (Some (row u)) (find (λ r. bytes_eq r.id n) (map row us))) false
    ≡ is_some (option_map (λ u. u.value) (cond b (Some u) (find (has_name n) us)))) [
      | true ↦ refl
      | false ↦ given_is n us
    ]

abbrev Needed : Options → List Use → Type 0
Needed options uses = AllByRecursion (λ o. o.1 ≡ true → is_some (value_of o.0 uses) ≡ true) options

abbrev lacks_one : Options → List Use → Bool
lacks_one options uses = list_any (λ a. a.required && not (is_given a.id (map row uses))) (rules options)

needed_from : (options : Options) (uses : List Use) → lacks_one options uses ≡ false → Needed options uses
needed_from [] uses h = tt
needed_from (o ∷ options) uses h =
    let parts = or_parts (o.1 && not (is_given o.0 (map row uses))) (lacks_one options uses) h in (
      (λ needs. sym (given_is o.0 uses) ∙ go (is_given o.0 (map row uses)) (ap (λ b. b && not (is_given o.0 (map row uses))) (sym needs)
          ∙ parts.0)),
      needed_from options uses parts.1,
    )
  where
    go : (b : Bool) → not b ≡ false → b ≡ true
    go true e = refl
    go false e = absurd (true≢false e)

needed_to : (options : Options) (uses : List Use) → Needed options uses → lacks_one options uses ≡ false
needed_to [] uses h = refl
needed_to (o ∷ options) uses h = or_from (o.1 && not (is_given o.0 (map row uses))) (lacks_one options uses) (go o.1 h.0)
    (needed_to options uses h.1)
  where
    go : (b : Bool) → (b ≡ true → is_some (value_of o.0 uses) ≡ true) → (b && not (is_given o.0 (map row uses))) ≡ false
    go false g = refl
    go true g = ap not (given_is o.0 uses ∙ g refl)

row_named : (n : Text) (before : List Use) → has_row n (map row before) ≡ list_any (has_name n) before
row_named n [] = refl
row_named n (u ∷ us) = ap (λ b. bytes_eq u.name n || b) (row_named n us)

one_row_more : (before : List Use) (u : Use) → map row before ++ row u ∷ [] ≡ map row (before ++ u ∷ [])
one_row_more [] u = refl
one_row_more (v ∷ before) u = ap (λ l. row v ∷ l) (one_row_more before u)

once_from : (before uses : List Use) → FreshFor (map row before) uses → Once before uses
unfolding FreshFor
once_from before [] h = tt
once_from before (u ∷ us) h =
    (sym (row_named u.name before) ∙ h.0, once_from (before ++ u ∷ []) us (subst (λ l. FreshFor l us) (one_row_more before u) h.1))

once_to : (before uses : List Use) → Once before uses → FreshFor (map row before) uses
unfolding FreshFor
once_to before [] h = tt
once_to before (u ∷ us) h =
    (row_named u.name before ∙ h.0, subst (λ l. FreshFor l us) (sym (one_row_more before u)) (once_to (before ++ u ∷ []) us h.1))

-- ---- a command's own words

abbrev pub base_of : Text × Options → Shape
base_of e = record (leaf e) { no_binary_name = true; disable_help_flag = true; disable_help_subcommand = true; is_built = true }

-- a command as clap has built it
abbrev pub built_command : Text × Options → Shape
built_command e = ready (base_of e) e.1

abbrev pub command_fault : Text × Options → List Text → Kinds
command_fault e ws = level_fault (built_command e) [] nothing_held ws false []

abbrev pub command_rows : Text × Options → List Text → List Row
command_rows e ws = rows_after (rules e.1) [] ws

-- the words are options of the command, of which clap finds these rows
pub record Has (e : Text × Options) (ws : List Text) : Type 0 where
  pub uses : List Use
  pub words : ws ≡ all_written uses
  pub given : AreGiven e.1 uses
  pub rows : command_rows e ws ≡ map row uses

missing_one : (b : Bool) → cond b (kind.MissingRequiredArgument ∷ []) [] ≡ [] → b ≡ false
missing_one true e = cc
missing_one false e = refl

pub command_has : (e : Text × Options) (ws : List Text) → NoDashes ws → command_fault e ws ≡ [] → Has e ws
command_has e ws dull h =
    let s = built_command e in
    let end = (walk (rules e.1) [] nothing_held ws).held in
    let rest = or_else (settle_fault (rules e.1) false end) (or_else (defaults_fault (settled (rules e.1) end).rows (rules e.1))
    (check_fault s (finished (rules e.1) end) false)) in
    let walks = both_pass (walk_fault s [] (idle_at [] None) ws) rest h in
    let settles = both_pass (settle_fault (rules e.1) false end) (or_else (defaults_fault (settled (rules e.1) end).rows (rules e.1))
    (check_fault s (finished (rules e.1) end) false)) walks.1 in
    let checks = both_pass (defaults_fault (settled (rules e.1) end).rows (rules e.1))
    (check_fault s (finished (rules e.1) end) false) settles.1 in
    let reads = ((walk_reads (base_of e) e.1 ws dull).0 [] None (walks.0, settles.0)).1 in
    let rows_are : finished (rules e.1) end ≡ map row reads.uses = nothing_added e.1 (settled (rules e.1) end).rows ∙ reads.rows in
    let check : check_fault s (map row reads.uses) false ≡ [] = subst (λ r. check_fault s r false ≡ []) rows_are checks.1 in
    record {
      uses = reads.uses;
      words = reads.words;
      given = record {
        known = reads.known;
        once = once_from [] reads.uses reads.fresh;
        needed =
            needed_from e.1 reads.uses (missing_one (lacks_one e.1 reads.uses) check);
      };
      rows = rows_are;
    }

pub command_takes : (e : Text × Options) (uses : List Use) → AreGiven e.1 uses → AllByRecursion (IsTaken (base_of e) e.1) uses
    → (command_fault e (all_written uses) ≡ []) × (command_rows e (all_written uses) ≡ map row uses)
command_takes e uses given taken =
    let s = built_command e in
    let ws = all_written uses in
    let end = (walk (rules e.1) [] nothing_held ws).held in
    let takes = walk_takes (base_of e) e.1 uses [] [] None taken refl (once_to [] uses given.once) refl in
    let rows_are : finished (rules e.1) end ≡ map row uses = nothing_added e.1 (settled (rules e.1) end).rows ∙ takes.2 in
    let check : check_fault s (map row uses) false ≡ [] = ap (λ b. cond b (kind.MissingRequiredArgument ∷ []) [])
    (needed_to e.1 uses given.needed) in (
      pass_both (walk_fault s [] (idle_at [] None) ws) _ takes.0
          (pass_both (settle_fault (rules e.1) false end) (or_else (defaults_fault (settled (rules e.1) end).rows (rules e.1))
          (check_fault s (finished (rules e.1) end) false)) takes.1
          (pass_both (defaults_fault (settled (rules e.1) end).rows (rules e.1)) (check_fault s (finished (rules e.1) end) false)
          (no_defaults e.1 (settled (rules e.1) end).rows)
          (subst (λ r. check_fault s r false ≡ []) (sym rows_are) check))),
      rows_are,
    )
