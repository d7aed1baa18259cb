-- What clap is asked to read, and what it finds.
use Rattle.std.specs.Prelude.{Bool, true, [], ◌∷◌, Some, None, map, codes}
use Rattle.clap.specs.Walk.{Row, Rule, Text, is_empty}
use Rattle.clap.specs.Simple.{App, Shape, new_rule, new_shape}
use Rattle.clap.specs.declared.builder.value_parser.Reading.TheVariants.{AsWritten}
use Rattle.clap.specs.declared.parser.matches.ValueSource.TheVariants.{CommandLine}
use Rattle.clap.specs.Values.{kind_of}
use Rattle.clap.specs.declared.error.Error.{Error}
use Rattle.clap.specs.declared.error.kind.ErrorKind.{ErrorKind}
use Rattle.clap.specs.declared.error.kind.ErrorKind.TheVariants as kind
use Rattle.command_words.specs.declared.faults.WordsFault.{WordsFault}
use Rattle.command_words.specs.declared.faults.WordsFault.TheVariants as fault
use Rattle.command_words.specs.Uses.{Commands, Options, Use}

-- an option that takes one value, by its long name alone
abbrev pub option_rule : Text × Bool → Rule
option_rule o = record (new_rule o.0) { long = Some o.0; required = o.1 }

-- a command word with its options
abbrev pub leaf : Text × Options → Shape
leaf e = record (new_shape e.0) { rules = map option_rule e.1 }

-- the whole program: it wants a command word, and knows no help
abbrev pub program : Commands → App
program table = record {
  top = record (new_shape (codes "persist")) {
    no_binary_name = true;
    disable_help_flag = true;
    disable_help_subcommand = true;
    subcommand_required = true;
    is_leaf = is_empty table;
  };
  subs = map leaf table;
}

-- what clap notes of an option that was given
abbrev pub row : Use → Row
row u = record {
  id = u.name;
  values = u.value ∷ [];
  count = None;
  source = Some CommandLine;
  reading = AsWritten;
}

-- what clap's refusal comes to, by its kind
abbrev pub refusal_as : ErrorKind → WordsFault
refusal_as kind.OutOfMemory = fault.Memory
refusal_as _ = fault.NoCommand

abbrev pub refusal_of : Error → WordsFault
refusal_of e = refusal_as (kind_of e)
