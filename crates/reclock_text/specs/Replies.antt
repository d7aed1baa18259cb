-- The texts of what `reclock` prints.
use Rattle.std.specs.Prelude.{ℕ, ◌+◌, ◌==◌, List, [], ◌∷◌, ◌++◌, codes, if◌then◌else◌}
use Rattle.std.specs.Fmt.{decimal}
use Rattle.std.specs.List.{flat_map}
use Rattle.update_core.specs.declared.updates.Update.{Update}
use Rattle.feed_text.specs.Replies.{update_text}
use Rattle.reclock_text.specs.Saws.{pair_text}

-- ` P:O`, where the offset isn't 0
abbrev pub seen : ℕ × ℕ → List ℕ
seen a = if a.1 == 0 then [] else pair_text a

-- the offsets of a frontier that aren't 0, of partitions from p on
abbrev pub seen_from : ℕ → List ℕ → List ℕ
seen_from p [] = []
seen_from p (o ∷ os) = seen (p, o) ++ seen_from (p + 1) os

-- `bind T P:O P:O ..`, with the partitions whose offset isn't 0
abbrev pub binding_text : ℕ × List ℕ → List ℕ
binding_text b = codes "bind " ++ (decimal b.0 ++ (seen_from 0 b.1 ++ 10 ∷ []))

abbrev pub bindings_text : List (ℕ × List ℕ) → List ℕ
bindings_text bs = flat_map binding_text bs

-- rows `TIME DIFF DATUM`, and a dot
abbrev pub block_text : List Update → List ℕ
block_text us = flat_map update_text us ++ codes ".\n"

-- `operator K`, and its own collection
abbrev pub operator_text : ℕ → List Update → List ℕ
operator_text k us = codes "operator " ++ (decimal k ++ 10 ∷ block_text us)

-- `data`, and the updates of the data shard
abbrev pub data_text : List Update → List ℕ
data_text us = codes "data\n" ++ block_text us

-- `unbound N`
abbrev pub unbound_text : ℕ → List ℕ
unbound_text n = codes "unbound " ++ (decimal n ++ 10 ∷ [])
