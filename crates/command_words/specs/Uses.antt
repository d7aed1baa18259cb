-- How options stand on a command line.
use Rattle.std.specs.Prelude.{not, ◌==◌, ◌≡◌, ℕ, ⊤, Some, Bool, true, false, List, [], ◌∷◌, ◌++◌, Option, find, option_map}
use Rattle.std.specs.Prelude.{is_some, codes, if◌then◌else◌}
use Rattle.std.specs.List.{AllByRecursion, list_any}
use Rattle.std.specs.Str.{bytes_eq}

-- one option with its value, in one word or in two
pub record Use : Type 0 where
  pub name : List ℕ
  pub value : List ℕ
  pub joined : Bool

-- `--name=value`, or `--name` and `value`
abbrev pub written : Use → List (List ℕ)
written u = if u.joined then (codes "--" ++ (u.name ++ (codes "=" ++ u.value))) ∷ []
    else (codes "--" ++ u.name) ∷ u.value ∷ []

-- options one after another
abbrev pub all_written : List Use → List (List ℕ)
all_written [] = []
all_written (u ∷ us) = written u ++ all_written us

-- the options of a command: the name, and whether it has to be given
abbrev pub Options : Type 0
Options = List (List ℕ × Bool)

abbrev pub has_name : List ℕ → Use → Bool
has_name name u = bytes_eq u.name name

abbrev pub option_named : List ℕ → Options → Option (List ℕ × Bool)
option_named name options = find (λ o. bytes_eq o.0 name) options

-- the value that an option is given
abbrev pub value_of : List ℕ → List Use → Option (List ℕ)
value_of name uses = option_map (λ u. u.value) (find (has_name name) uses)

-- none of the options was given before, and none twice
abbrev pub Once : List Use → List Use → Type 0
Once before [] = ⊤
Once before (u ∷ us) = (list_any (has_name u.name) before ≡ false) × Once (before ++ u ∷ []) us

-- each is an option of the command, none is given twice, and what has to be given is there
pub record AreGiven (options : Options) (uses : List Use) : Type 0 where
  pub known : AllByRecursion (λ u. is_some (option_named u.name options) ≡ true) uses
  pub once : Once [] uses
  pub needed : AllByRecursion (λ o. o.1 ≡ true → is_some (value_of o.0 uses) ≡ true) options

-- the options of the commands
abbrev pub shard_options : Options
shard_options = (codes "shard", false) ∷ []

abbrev pub ingest_options : Options
ingest_options = (codes "shard", false) ∷ (codes "writers", true) ∷ (codes "compactors", true) ∷ (codes "collectors", true)
    ∷ (codes "stop", false) ∷ []

abbrev pub reclock_options : Options
reclock_options = (codes "remap", false) ∷ (codes "data", false) ∷ (codes "operators", true) ∷ []

-- the command words, each with its options
abbrev pub Commands : Type 0
Commands = List (List ℕ × Options)

abbrev pub commands : Commands
commands = (codes "run", shard_options) ∷ (codes "steps", shard_options) ∷ (codes "ingest", ingest_options)
    ∷ (codes "reclock", reclock_options) ∷ []

abbrev pub command_named : List ℕ → Commands → Option (List ℕ × Options)
command_named name table = find (λ e. bytes_eq e.0 name) table

-- the words are the command word and then these options, in any order
abbrev pub Spells : Commands → List (List ℕ) → List ℕ → List Use → Type 0
Spells table words name uses = (words ≡ name ∷ all_written uses)
    × ((options : Options) × (command_named name table ≡ Some (name, options)) × AreGiven options uses)

-- the word that ends the options of other programs
abbrev pub dashes : List ℕ
dashes = codes "--"

abbrev pub NoDashes : List (List ℕ) → Type 0
NoDashes = AllByRecursion (λ w. bytes_eq w dashes ≡ false)

-- a text that begins with no hyphen
abbrev pub is_dull : List ℕ → Bool
is_dull [] = true
is_dull (x ∷ xs) = not (x == 45)

abbrev pub AreDull : List Use → Type 0
AreDull = AllByRecursion (λ u. is_dull u.value ≡ true)
