-- What the words of a command mean.
use Rattle.std.specs.Prelude.{◌≡◌, ◌≢◌, ◌≤◌, ◌+◌, ℕ, List, [], Option, Some, None, option_map, codes, decimal}
use Rattle.std.specs.Int.{from_be_bytes, w128}
use Rattle.stops_core.specs.declared.stops.Stop.{Stop}
use Rattle.stops_text.specs.Stops.{Spells as SpellsStops}
use Rattle.uuid.specs.Text.{parsed}
use Rattle.command_words.specs.Uses.{Use, Spells, commands, value_of}
use Rattle.command_words.specs.declared.commands.CommandWords.{CommandWords}
use Rattle.command_words.specs.declared.commands.CommandWords.TheVariants as command

-- the number of the UUID that a text spells
abbrev pub uuid_number : List ℕ → Option ℕ
uuid_number text = option_map (from_be_bytes w128) (parsed text)

-- the shard that an option gives, by a UUID or by being left out
abbrev pub shard_in : ℕ → Option (List ℕ) → Option ℕ
shard_in default None = Some default
shard_in default (Some text) = uuid_number text

-- the option gives this number, from `low` to `high`, in its one decimal spelling
abbrev pub IsCount : ℕ → ℕ → Option (List ℕ) → ℕ → Type 0
IsCount low high value n = (value ≡ Some (decimal n)) × (low ≤ n) × (n ≤ high)

-- the option gives these stop numbers of so many workers, or is left out and gives none
abbrev pub AreStops : ℕ → Option (List ℕ) → List Stop → Type 0
AreStops workers None stops = stops ≡ []
AreStops workers (Some text) stops = SpellsStops workers text stops

-- a command word whose options have these values means this command
abbrev pub Means : List ℕ → (List ℕ → Option (List ℕ)) → CommandWords → Type 0
Means name value (command.Run shard) = (name ≡ codes "run") × (Some shard ≡ shard_in 1 (value (codes "shard")))
Means name value (command.Steps shard) = (name ≡ codes "steps") × (Some shard ≡ shard_in 1 (value (codes "shard")))
Means name value (command.Ingest shard writers compactors collectors stops) = (name ≡ codes "ingest")
    × (Some shard ≡ shard_in 1 (value (codes "shard"))) × IsCount 1 16 (value (codes "writers")) writers
    × IsCount 0 8 (value (codes "compactors")) compactors × IsCount 0 8 (value (codes "collectors")) collectors
    × AreStops (writers + compactors + collectors) (value (codes "stop")) stops
Means name value (command.Reclock remap shard operators) = (name ≡ codes "reclock")
    × (Some remap ≡ shard_in 2 (value (codes "remap"))) × (Some shard ≡ shard_in 3 (value (codes "data")))
    × (remap ≢ shard) × IsCount 1 16 (value (codes "operators")) operators

-- the words are this command
abbrev pub IsCommand : List (List ℕ) → CommandWords → Type 0
IsCommand words c = (name : List ℕ) × ((uses : List Use) × Spells commands words name uses × Means name (λ n. value_of n uses) c)

-- words mean one command at most
abbrev pub OneCommand : Type 0
OneCommand = (words : List (List ℕ)) (c d : CommandWords) → IsCommand words c → IsCommand words d → c ≡ d
