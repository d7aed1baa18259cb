-- A trail with one more entry leads to the store after it.
use Rattle.std.proofs.Common.{◌≡◌, ℕ, List, [], ◌∷◌, ◌++◌, sym, ap, ◌∙◌}
use Rattle.store_core.specs.declared.calls.Call.{Call}
use Rattle.store_core.specs.declared.outcomes.Outcome.{Outcome}
use Rattle.store_core.specs.declared.entries.Entry.{Entry}
use Rattle.store_core.specs.Stores.{Stored}
use Rattle.store_core.specs.Histories.{replay, after_outcome, entry_of}
use Rattle.store_core.proofs.HistoryLaws.{replay-push}

pub noted : (start now later : Stored) (old new : List Entry) (client : ℕ) (call copy : Call) (o : Outcome) → now ≡ replay start old
    → later ≡ after_outcome now call o → copy ≡ call
    → new ≡ old ++ entry_of client copy o ∷ [] → later ≡ replay start new
noted start now later old new client call copy o replayed after same is =
    after ∙ ap (λ (t : Stored). after_outcome t call o) replayed ∙ ap (λ (c : Call). after_outcome (replay start old) c o) (sym same)
    ∙ sym (replay-push start old (entry_of client copy o)) ∙ ap (λ (l : List Entry). replay start l) (sym is)
