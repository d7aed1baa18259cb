-- What the collection in a state answers to a snapshot or a listen, as it is for all updates.
use Rattle.std.proofs.Common.{◌≡◌, ℕ, Option, List, inl, inr, refl}
use Rattle.std.specs.Prelude.{◌&&◌, nat_lt}
use Rattle.update_core.specs.declared.updates.Update.{Update}
use Rattle.update_core.specs.Collections.{content, early, late, behind, ended, quiet, step, snapshot_answer, listen_answer}
use Rattle.update_core.specs.Collections.{is_closed, is_past}
use Rattle.update_core.specs.Frontiers.{covers, is_from}
use Rattle.update_core.specs.Updates.{slice_of, sum_of}
use Rattle.state_core.specs.States.{ShardState}
use Rattle.state_core.proofs.ListLemmas.{bool_cases}
use Rattle.history_core.specs.Legal.{collection_in}

-- what a snapshot is answered with a since and an upper, as it is for all updates
pub data HowSnapshot (t : ℕ) (s : ShardState) : Type 0 where
  earlies : ((us : List Update) → snapshot_answer (collection_in us s) t ≡ early s.since) → HowSnapshot t s
  lates : ((us : List Update) → snapshot_answer (collection_in us s) t ≡ late s.upper) → HowSnapshot t s
  contents : ((us : List Update) → snapshot_answer (collection_in us s) t ≡ content (sum_of us t)) → HowSnapshot t s

pub how_snapshot : (t : ℕ) (s : ShardState) → HowSnapshot t s
how_snapshot t s = elim (bool_cases (nat_lt t s.since)) [
  | inl e ↦ earlies (λ us. rw e refl)
  | inr e ↦ elim (bool_cases (covers s.upper t)) [
    | inl c ↦ contents (λ us. rw (e, c) refl)
    | inr c ↦ lates (λ us. rw (e, c) refl)
  ]
]

-- the same of a listen
pub data HowListen (f : Option ℕ) (s : ShardState) : Type 0 where
  behinds : ((us : List Update) → listen_answer (collection_in us s) f ≡ behind s.since) → HowListen f s
  endeds : ((us : List Update) → listen_answer (collection_in us s) f ≡ ended) → HowListen f s
  quiets : ((us : List Update) → listen_answer (collection_in us s) f ≡ quiet s.upper) → HowListen f s
  steps : ((us : List Update) → listen_answer (collection_in us s) f ≡ step (slice_of us f s.upper) s.upper) → HowListen f s

pub how_listen : (f : Option ℕ) (s : ShardState) → HowListen f s
how_listen f s = elim (bool_cases (is_from f s.since)) [
  | inl e ↦ behinds (λ us. rw e refl)
  | inr e ↦ elim (bool_cases (is_closed f && is_closed s.upper)) [
    | inl c ↦ endeds (λ us. rw (e, c) refl)
    | inr c ↦ elim (bool_cases (is_past s.upper f)) [
      | inl p ↦ steps (λ us. rw (e, c, p) refl)
      | inr p ↦ quiets (λ us. rw (e, c, p) refl)
    ]
  ]
]
