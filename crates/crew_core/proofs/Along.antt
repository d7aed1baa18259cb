-- What each client keeps makes a lawful history, and what each entry keeps stays along it.
use Rattle.std.proofs.Common.{◌≡◌, ℕ, List, [], ◌∷◌, ◌++◌, refl, sym, ap, subst, append-nil, append_assoc}
use Rattle.std.specs.Prelude.{reverse}
use Rattle.std.specs.List.{AllByRecursion}
use Rattle.update_core.specs.declared.updates.Update.{Update}
use Rattle.store_core.specs.declared.shards.ShardId.{ShardId}
use Rattle.store_core.specs.declared.entries.Entry.{Entry}
use Rattle.store_core.specs.Stores.{Stored}
use Rattle.store_core.specs.Histories.{History}
use Rattle.store_core.specs.Ports.{Answered, with_entries}
use Rattle.store_core.specs.Newest.{mine_back}
use Rattle.store_core.proofs.NewestLaws.{mine-newest, newest-first}
use Rattle.history_core.specs.Discipline.{Allows, Lawful, LawfulBack}
use Rattle.history_core.specs.Stands.{StandsFor}
use Rattle.history_core.proofs.OneMore.{one_more}
use Rattle.history_core.proofs.Prefixes.{lawful_back}
use Rattle.crew_core.specs.Keeping.{Keeps}
use Rattle.crew_core.proofs.Keeping.{entries_joined, keeps_second, of_entries}

module _ (P : Stored → List Entry → Entry → Type 0) (shard : ShardId) (list : List Update) (InCrew : ℕ → Type 0)
    (Along : Stored → List Entry → Type 0)
    (allowed : (start : Stored) (es : List Entry) (e : Entry) → P start es e → Allows (mine_back start es e.client) e.call)
    (step : (start : Stored) (es : List Entry) (e : Entry) → StandsFor start shard list → LawfulBack start (e ∷ es) → P start es e →
    Along start es → Along start (e ∷ es)) where
  pub record Goes (h : History) (gain : List Entry) : Type 0 where
    pub lawful : Lawful (with_entries h gain)
    pub along : Along h.start (reverse (h.trail ++ gain))

  pub goes : (gain : List Entry) (h : History) → StandsFor h.start shard list → Lawful h →
      ((n : ℕ) → InCrew n → Keeps P shard n h gain) → AllByRecursion (λ e. InCrew e.client) gain → Along h.start (reverse h.trail) →
      Goes h gain
  goes [] h st l k each inv = record {
    lawful = subst (λ (es : List Entry). Lawful (of_entries h.start es)) (sym (append-nil h.trail)) l;
    along = subst (λ (es : List Entry). Along h.start (reverse es)) (sym (append-nil h.trail)) inv;
  }
  goes (e ∷ gain) h st l k each inv =
      let nothing : with_entries h [] ≡ h = ap (λ (es : List Entry). of_entries h.start es) (append-nil h.trail) in
      let here : P h.start (reverse h.trail) e = subst (λ (es : List Entry). P h.start (reverse es) e) (append-nil h.trail)
      (k e.client each.0 [] gain e refl refl list st (subst Lawful (sym nothing) l)) in
      let may = subst (λ (own : List Answered). Allows own e.call) (sym (mine-newest h e.client))
      (allowed h.start (reverse h.trail) e here) in
      let l2 : Lawful (with_entries h (e ∷ [])) = one_more h e l may in
      let turned : reverse (h.trail ++ e ∷ []) ≡ e ∷ reverse h.trail = newest-first h.trail e in
      let back : LawfulBack h.start (e ∷ reverse h.trail) = subst (LawfulBack h.start) turned (lawful_back (with_entries h (e ∷ [])) l2) in
      let inv2 : Along h.start (reverse (h.trail ++ e ∷ [])) =
      subst (Along h.start) (sym turned) (step h.start (reverse h.trail) e st back here inv) in
      let rest = goes gain (with_entries h (e ∷ [])) st l2 (λ n c. keeps_second P shard n h (e ∷ []) gain (k n c)) each.1 inv2 in
      record {
        lawful = subst Lawful (entries_joined h (e ∷ []) gain) rest.lawful;
        along = subst (λ (es : List Entry). Along h.start (reverse es)) (append_assoc h.trail (e ∷ []) gain) rest.along;
      }
