-- The texts of commands, as they stand behind `begin NAME `.
use Rattle.std.specs.Prelude.{⊤, ◌⊎◌, ℕ, ◌^◌, ◌<◌, List, ◌∷◌, ◌++◌, codes}
use Rattle.std.specs.Fmt.{decimal}
use Rattle.feed_text.specs.Grammar.{append_line}
use Rattle.step_text.specs.declared.commands.Command.{Command}
use Rattle.step_text.specs.declared.commands.Command.TheVariants as commands

-- a word and a time
abbrev pub timed : List ℕ → ℕ → List ℕ
timed word t = word ++ 32 ∷ decimal t

-- the text of a command; an append's rows stand in lines of their own
abbrev pub command_text : Command → List ℕ
command_text (commands.Append a) = append_line a.lower a.upper
command_text (commands.Snapshot t) = timed (codes "snapshot") t
command_text (commands.Listen t) = timed (codes "listen") t
command_text commands.Next = codes "next"
command_text (commands.Advance to) = timed (codes "advance") to
command_text commands.Renew = codes "renew"
command_text commands.Close = codes "close"
command_text commands.Merge = codes "merge"
command_text commands.Collect = codes "collect"
command_text commands.Expire = codes "expire"

-- a command with a time, within 64 bits
abbrev pub IsTimed : Command → Type 0
IsTimed (commands.Snapshot t) = t < 2 ^ 64
IsTimed (commands.Listen t) = t < 2 ^ 64
IsTimed (commands.Advance to) = to < 2 ^ 64
IsTimed _ = ⊥

-- a command of one word
abbrev pub IsBare : Command → Type 0
IsBare commands.Next = ⊤
IsBare commands.Renew = ⊤
IsBare commands.Close = ⊤
IsBare commands.Merge = ⊤
IsBare commands.Collect = ⊤
IsBare commands.Expire = ⊤
IsBare _ = ⊥

-- a command that has one line
abbrev pub IsShort : Command → Type 0
IsShort command = IsBare command ⊎ IsTimed command
