-- The whole command line: a command word, and its options.
use Rattle.std.proofs.Common.{◌≡◌, ◌∙◌, ◌&&◌, ◌||◌, Bool, cond, codes, true, false}
use Rattle.std.proofs.Common.{⊎_elim, refl, sym, ap, List, [], ◌∷◌, ◌++◌, map, find, Option, Some, None}
use Rattle.std.proofs.Common.{option_map, is_some}
use Rattle.std.specs.Prelude.{fold}
use Rattle.std.specs.List.{AllByRecursion}
use Rattle.std.specs.Str.{bytes_eq}
use Rattle.std.proofs.lemmas.List.{append_assoc}
use Rattle.std.proofs.lemmas.Slice.Eq.{bytes_eq-Decides}
use Rattle.clap.specs.Lexer.{long_of, short_of}
use Rattle.clap.specs.Walk.{Names, Text, Walk, answers_to, finished, nothing_held, settled, walk, walked}
use Rattle.clap.specs.Walk.{idle, stop_after, word_met}
use Rattle.clap.specs.Simple.{App, Shape, built, entered, label_of, names_of, new_shape, subcommand_of}
use Rattle.clap.specs.Kinds.{Kinds, or_else}
use Rattle.clap.specs.Faults.{built_fault, bundle_fault, check_fault, defaults_fault, entered_fault, fault_of, is_simple_and_free}
use Rattle.clap.specs.Faults.{settle_fault, turn_fault, walk_fault, word_fault, step_fault}
use Rattle.clap.specs.declared.error.kind.ErrorKind.TheVariants as kind
use Rattle.clap.proofs.FaultLemmas.{stopped_fault}
use Rattle.command_words.specs.Uses.{AreGiven, Commands, Options, Use, all_written, command_named, commands}
use Rattle.command_words.specs.Program.{program, row}
use Rattle.command_words.proofs.Walks.{both_pass, dashes, pass_both, idle_at, short_either}
use Rattle.command_words.proofs.Soundness.{NoDashes}
use Rattle.command_words.proofs.Completeness.{IsTaken}
use Rattle.command_words.proofs.Levels.{Has, base_of, built_command, command_fault, command_has, command_rows, command_takes}

abbrev pub top : Shape
top = record (new_shape (codes "persist")) {
  no_binary_name = true;
  disable_help_flag = true;
  disable_help_subcommand = true;
  subcommand_required = true;
  is_leaf = false;
  is_built = true;
}

-- the program as clap has built it
abbrev pub whole : Commands → App
whole table = record { top = top; subs = map built_command table }

named_shape : (n : Text) (table : Commands) → find (λ s. answers_to n (label_of s)) (map built_command table) ≡ option_map built_command
    (command_named n table)
named_shape n [] = refl
named_shape n (e ∷ table) =
    elim (bytes_eq e.0 n) as
    (λ b. cond (b || false) (Some (built_command e)) (find (λ s. answers_to n (label_of s)) (map built_command table))
    ≡ option_map built_command (cond b (Some e) (command_named n table))) [
      | true ↦ refl
      | false ↦ named_shape n table
    ]

abbrev bare : Text × Options → Text × List Text
bare e = (e.0, [])

named_label : (n : Text) (table : Commands) → find (answers_to n) (names_of (whole table)) ≡ option_map bare (command_named n table)
named_label n [] = refl
named_label n (e ∷ table) = elim (bytes_eq e.0 n) as (λ b. cond (b || false) (Some (bare e)) (find (answers_to n) (names_of (whole table)))
    ≡ option_map bare (cond b (Some e) (command_named n table))) [
      | true ↦ refl
      | false ↦ named_label n table
    ]

pub command_is : (n : Text) (table : Commands) (e : Text × Options) → command_named n table ≡ Some e → e.0 ≡ n
command_is n [] e h = cc
command_is n (d ∷ table) e h = go (bytes_eq d.0 n) refl (command_is n table e) h
  where
    go : (b : Bool) → bytes_eq d.0 n ≡ b → (command_named n table ≡ Some e → e.0 ≡ n) → cond b (Some d) (command_named n table) ≡ Some e
        → e.0 ≡ n
    go true is rest f = let same : d ≡ e = cc in ap (λ (q : Text × Options). q.0) (sym same) ∙ (bytes_eq-Decides d.0 n).0 is
    go false is rest f = rest f

no_more : (ws : List Text) → ws ++ [] ≡ ws
no_more [] = refl
no_more (w ∷ ws) = ap (λ l. w ∷ l) (no_more ws)

abbrev stopped_at : Text → List Text → Walk
stopped_at n ws = record (idle_at [] None) { stopped = Some (n, ws) }

-- past the command word the walk only notes the words
notes_words : (names : Names) (n : Text) (before ws : List Text) → fold (walked [] names) (stopped_at n before) ws
    ≡ stopped_at n (before ++ ws)
unfolding walked
notes_words names n before [] = ap (stopped_at n) (sym (no_more before))
notes_words names n before (w ∷ ws) = notes_words names n (before ++ w ∷ []) ws ∙ ap (stopped_at n) (append_assoc before (w ∷ []) ws)

or_none : (k : Kinds) → or_else k [] ≡ k
or_none [] = refl
or_none (x ∷ xs) = refl

module _ (table : Commands) where
  abbrev names : Names
  names = names_of (whole table)

  -- what a parse comes to, by where its walk stands at the end
  abbrev after_walk : Walk → Kinds
  after_walk x = or_else (entered_fault (whole table) x.stopped)
      (or_else (settle_fault [] false x.held)
      (or_else (defaults_fault (settled [] x.held).rows [])
      (check_fault top (finished [] x.held) (is_some (entered (whole table) x.stopped)))))

  module _ (w : Text) (ws : List Text) (e : Text × Options) (named : command_named w table ≡ Some e) where
    meets : walked [] names (idle_at [] None) w ≡ stopped_at e.0 []
    unfolding walked
    meets = rw (named_label w table, named) refl

    no_help : (b : Bool) → cond (b && false) (kind.DisplayHelp ∷ kind.InvalidSubcommand ∷ []) [] ≡ []
    no_help true = refl
    no_help false = refl

    turn : turn_fault top names (idle_at [] None) w ≡ []
    turn = rw (named_label w table, named) (pass_both _ [] (no_help (bytes_eq e.0 (codes "help"))) refl)

    walks : walk_fault top names (idle_at [] None) (w ∷ ws) ≡ []
    unfolding walk_fault
    walks = pass_both (turn_fault top names (idle_at [] None) w) (walk_fault top names (walked [] names (idle_at [] None) w) ws) turn
        (ap (λ x. walk_fault top names x ws) meets ∙ stopped_fault top names (idle_at [] None) (e.0, []) ws)

    walk_is : walk [] names nothing_held (w ∷ ws) ≡ stopped_at e.0 ws
    walk_is = ap (λ x. fold (walked [] names) x ws) meets ∙ notes_words names e.0 [] ws

    again : command_named e.0 table ≡ Some e
    again = ap (λ x. command_named x table) (command_is w table e named) ∙ named

    pub named_rows : entered (whole table) (stop_after [] names (w ∷ ws)) ≡ Some (e.0, command_rows e ws)
    named_rows = ap (λ (x : Walk). entered (whole table) x.stopped) walk_is ∙ (rw (named_shape e.0 table, again) refl)

    ends : after_walk (stopped_at e.0 ws) ≡ command_fault e ws
    unfolding defaults_fault
    ends = rw (named_shape e.0 table, again) (or_none (command_fault e ws))

    pub named_fault : built_fault (whole table) nothing_held (w ∷ ws) ≡ command_fault e ws
    named_fault = ap (λ k. or_else k (after_walk (walk [] names nothing_held (w ∷ ws)))) walks ∙ (ap after_walk walk_is ∙ ends)

  -- a first word that is no command's
  unnamed_turn : (w : Text) → bytes_eq w dashes ≡ false → command_named w table ≡ None → turn_fault top names (idle_at [] None) w ≡ [] → ⊥
  unnamed_turn w dull unnamed h = long (long_of w) refl
    where
      first : word_fault top names false idle w nothing_held ≡ []
      first = (both_pass (word_fault top names false idle w nothing_held)
          (step_fault top 1 (word_met [] names false idle 1 w nothing_held).0 (word_met [] names false idle 1 w nothing_held).1) h).0

      short : long_of w ≡ None → (o : Option Text) → short_of w ≡ o → ⊥
      short none None is = let bad : kind.UnknownArgument ∷ kind.InvalidSubcommand ∷ [] ≡ [] =
          rw (named_label w table, unnamed, dull, none, is) at h in absurd (cc)
      short none (Some flags) is = ⊎_elim
          (λ refused.
          let here : word_fault top names false idle w nothing_held ≡ bundle_fault [] false flags nothing_held =
          rw (named_label w table, unnamed, dull, none, is) refl in
          let bad : kind.UnknownArgument ∷ [] ≡ [] = sym refused ∙ (sym here ∙ first) in absurd (cc))
          (λ passed. let bad : kind.UnknownArgument ∷ kind.InvalidSubcommand ∷ [] ≡ [] =
          rw (named_label w table, unnamed, dull, none, is, passed.0, passed.1) at h in absurd (cc))
          (short_either top [] flags [] None)

      long : (l : Option (Text × Option Text)) → long_of w ≡ l → ⊥
      long None is = short is (short_of w) refl
      long (Some p) is = let bad : kind.UnknownArgument ∷ [] ≡ [] = rw (named_label w table, unnamed, dull, is) at h in absurd (cc)

  unnamed_fault : (w : Text) (ws : List Text) → bytes_eq w dashes ≡ false → command_named w table ≡ None
      → built_fault (whole table) nothing_held (w ∷ ws) ≡ [] → ⊥
  unfolding walk_fault
  unnamed_fault w ws dull unnamed h =
      let walks = both_pass (walk_fault top names (idle_at [] None) (w ∷ ws)) (after_walk (walk [] names nothing_held (w ∷ ws))) h in
      let turns = both_pass (turn_fault top names (idle_at [] None) w)
      (walk_fault top names (walked [] names (idle_at [] None) w) ws) walks.0 in
      unnamed_turn w dull unnamed turns.0

  -- words that clap takes are a command and its options
  pub record IsRead (all : List Text) : Type 0 where
    pub command : Text × Options
    pub rest : List Text
    pub words : all ≡ command.0 ∷ rest
    pub named : command_named command.0 table ≡ Some command
    pub has : Has command rest
    pub rows : entered (whole table) (stop_after [] names all) ≡ Some (command.0, map row has.uses)

  pub program_reads : (words : List Text) → NoDashes words → built_fault (whole table) nothing_held words ≡ [] → IsRead words
  unfolding walk_fault defaults_fault
  program_reads [] dull h = let bad : kind.MissingSubcommand ∷ [] ≡ [] = h in absurd (cc)
  program_reads (w ∷ ws) dull h = go (command_named w table) refl
    where
      go : (e : Option (Text × Options)) → command_named w table ≡ e → IsRead (w ∷ ws)
      go None unnamed = absurd (unnamed_fault w ws dull.0 unnamed h)
      go (Some e) named =
          let has = command_has e ws dull.1 (sym (named_fault w ws e named) ∙ h) in
          record {
            command = e;
            rest = ws;
            words = ap (λ x. x ∷ ws) (sym (command_is w table e named));
            named = again w ws e named;
            has = has;
            rows = named_rows w ws e named ∙ ap (λ r. Some (e.0, r)) has.rows;
          }

  pub program_takes : (e : Text × Options) (uses : List Use) → command_named e.0 table ≡ Some e → AreGiven e.1 uses
      → AllByRecursion (IsTaken (base_of e) e.1) uses
      → (built_fault (whole table) nothing_held (e.0 ∷ all_written uses) ≡ [])
      × (entered (whole table) (stop_after [] names (e.0 ∷ all_written uses)) ≡ Some (e.0, map row uses))
  program_takes e uses named given taken =
      let takes = command_takes e uses given taken in
      (named_fault e.0 (all_written uses) e named ∙ takes.0, named_rows e.0 (all_written uses) e named ∙ ap (λ r. Some (e.0, r)) takes.1)

-- ---- this program

pub is_built : built (program commands) ≡ whole commands
is_built = refl

pub is_simple_program : is_simple_and_free (program commands) ≡ true
is_simple_program = refl

pub takes_as : (words : List Text) → fault_of (program commands) words ≡ built_fault (whole commands) nothing_held words
takes_as words = refl

pub rows_as : (words : List Text) → subcommand_of (program commands) words ≡ entered (whole commands)
    (stop_after [] (names_of (whole commands)) words)
rows_as words = refl
