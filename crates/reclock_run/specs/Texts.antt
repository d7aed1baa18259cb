-- The whole text of what `reclock` prints.
use Rattle.std.specs.Prelude.{ℕ, ◌+◌, List, [], ◌∷◌, ◌++◌, length, replicate}
use Rattle.update_core.specs.declared.updates.Update.{Update}
use Rattle.remap_core.specs.declared.source_rows.SourceRow.{SourceRow}
use Rattle.remap_core.specs.Reclocking.{reclocked, without_time}
use Rattle.reclock_text.specs.Replies.{bindings_text, data_text, operator_text, unbound_text}

-- the collections of operators, the first of which has this number
abbrev pub operators_text : ℕ → List (List Update) → List ℕ
operators_text k [] = []
operators_text k (us ∷ more) = operator_text k us ++ operators_text (k + 1) more

-- the bindings, each operator's collection, the updates of the data shard, and how many rows have no time
abbrev pub printed : List (ℕ × List ℕ) → List (List Update) → List Update → ℕ → List ℕ
printed bs each held unbound = bindings_text bs ++ (operators_text 0 each ++ (data_text held ++ unbound_text unbound))

-- what is printed where so many operators, and the data shard, have the rows at the times that these bindings give them
abbrev pub plain_reclock : ℕ → List SourceRow → List (ℕ × List ℕ) → List ℕ
plain_reclock operators rows bs =
    printed bs (replicate operators (reclocked rows bs 0)) (reclocked rows bs 0) (length (without_time rows bs))
