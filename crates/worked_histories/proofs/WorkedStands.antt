-- What the store stands for after each call of the worked histories, by the law of lawful histories.
use Rattle.std.proofs.Common.{ℕ, List, [], ◌∷◌, inl, refl, subst}
use Rattle.update_core.specs.declared.updates.Update.{Update}
use Rattle.store_core.specs.Histories.{store_after}
use Rattle.store_core.specs.Stores.{empty_store}
use Rattle.history_core.specs.Stands.{StandsFor, accepted_of}
use Rattle.worked_histories.specs.Worked.{the_shard, early_row}
use Rattle.worked_histories.specs.WorkedTrail.{first_calls}
use Rattle.worked_histories.specs.WorkedCompacted.{undone_row, compacted}
use Rattle.history_core.proofs.LawfulLaws.{lawful_law}
use Rattle.worked_histories.proofs.WorkedLaw.{prefixes_lawful}
use Rattle.worked_histories.proofs.WorkedCompaction.{compacted_lawful, compacted_accepts}

pub starts : StandsFor empty_store the_shard []
starts = inl (record { no_version = refl; no_update = refl; no_key = λ k e. refl })

pub prefixes_stand : (n : ℕ) → StandsFor (store_after (first_calls n)) the_shard (accepted_of the_shard [] (first_calls n))
prefixes_stand n = lawful_law the_shard [] (first_calls n) starts (prefixes_lawful n)

pub compacted_stands : StandsFor (store_after compacted) the_shard (early_row ∷ undone_row ∷ [])
compacted_stands = subst (λ (us : List Update). StandsFor (store_after compacted) the_shard us) compacted_accepts
    (lawful_law the_shard [] compacted starts compacted_lawful)
