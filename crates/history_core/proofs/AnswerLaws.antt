-- What replies tell, as laws over histories.
use Rattle.std.proofs.Common.{◌≡◌, ℕ, ◌+◌, ◌<◌, List, [], ◌∷◌, ◌⊎◌, inl, inr, refl, arith, subst, sym, ap, ◌∙◌, Some, length}
use Rattle.std.specs.Prelude.{reverse}
use Rattle.store_core.specs.declared.shards.ShardId.{ShardId}
use Rattle.store_core.specs.declared.entries.Entry.{Entry}
use Rattle.store_core.specs.Stores.{Log, Stored}
use Rattle.store_core.specs.Histories.{History, store_after, with_entry}
use Rattle.store_core.specs.Ports.{Answered}
use Rattle.store_core.specs.Newest.{replay_back, mine_back}
use Rattle.store_core.proofs.NewestLaws.{newest-first, replay-newest, mine-newest}
use Rattle.state_core.specs.States.{ShardState}
use Rattle.history_core.specs.Histories.{ever, bytes_from, version_at}
use Rattle.history_core.specs.Discipline.{ShowsState, LawfulBack}
use Rattle.history_core.specs.Stands.{IsLast, StateAt, StateIn, end_of}
use Rattle.history_core.specs.Answers.{own_of, GreatestShown, NewestShown}
use Rattle.history_core.proofs.Prefixes.{lawful_back}
use Rattle.history_core.proofs.Logs.{version_there, last_none_empty, empty_last}
use Rattle.history_core.proofs.Versions.{Agree, live, shows_ever, logs_agree}
use Rattle.history_core.proofs.Chains.{version_is}
use Rattle.history_core.proofs.Shown.{newest_shown}
use Rattle.history_core.proofs.Bases.{base_of}

-- a history with one more entry, the newest first
trail_after : (h : History) (e : Entry) → reverse (with_entry h e).trail ≡ e ∷ reverse h.trail
trail_after h e = newest-first h.trail e

store_next : (h : History) (e : Entry) → store_after (with_entry h e) ≡ replay_back h.start (e ∷ reverse h.trail)
store_next h e = replay-newest h.start (with_entry h e).trail ∙ ap (replay_back h.start) (trail_after h e)

own_next : (h : History) (e : Entry) (c : ℕ) → own_of (with_entry h e) c ≡ mine_back h.start (e ∷ reverse h.trail) c
own_next h e c = mine-newest (with_entry h e) c ∙ ap (λ es. mine_back h.start es c) (trail_after h e)

empty_or : {A : Type 0} (xs : List A) → (xs ≡ []) ⊎ (0 < length xs)
empty_or [] = inl refl
empty_or (x ∷ xs) = inr (omega arith)

no_bytes : (log : Log) (n : ℕ) (b : List ℕ) → log.versions ≡ [] → version_at log n ≡ Some b → ⊥
no_bytes log n b e h = let g = subst (λ (vs : List (List ℕ)). bytes_from log.first vs n ≡ Some b) e h in cc

-- the last version that ever was is live
last_lives : (now all : Log) (n : ℕ) (b : List ℕ) → Agree now all → n + 1 ≡ end_of now → version_at all n ≡ Some b →
    version_at now n ≡ Some b
last_lives now all n b agree last there =
    elim (empty_or now.versions) [
      | inl e ↦ absurd (no_bytes all n b (last_none_empty all (sym agree.last ∙ empty_last now e)) there)
      | inr some ↦
          let (v, h) = version_there now n (omega arith) (omega arith) in
          let old = agree.old n v h in
          let same : v ≡ b = cc in
          h ∙ ap Some same
    ]

-- the state that is shown at the last version is that version's
shown_last : (start : Stored) (shard : ShardId) → ((start.logs shard).versions ≡ [] → (start.logs shard).first ≡ 0) →
    (es : List Entry) (c n : ℕ) (s : ShardState) →
    IsLast (live start shard es) n → ShowsState (mine_back start es c) shard n s → StateIn shard (live start shard es) n s
shown_last start shard z es c n s last (b, x, shown, reads) =
    let there = last_lives (live start shard es) (ever start shard es) n b (logs_agree start shard z es) last (shows_ever start shard z es c n b shown) in
    (x, version_is shard (live start shard es) n b s x there reads)

pub newest_law : NewestShown
newest_law shard list h e n st l near most =
    let base = base_of h.start shard list st in
    let es = reverse h.trail in
    let l2 = subst (LawfulBack h.start) (trail_after h e) (lawful_back (with_entry h e) l) in
    let most2 = subst (λ (own : List Answered). GreatestShown own shard n) (own_next h e e.client) most in
    let last : IsLast (live h.start shard (e ∷ es)) n = newest_shown h.start shard base.begin.first es e near.0 n most2.bytes l2 near.1 near.2 near.3 most2.shown most2.greatest in (
      subst (λ (s : Stored). IsLast (s.logs shard) n) (sym (store_next h e)) last,
      λ s shows. subst (λ (q : Stored). StateAt q shard n s) (sym (store_next h e))
          (shown_last h.start shard base.begin.first (e ∷ es) e.client n s last (subst (λ (own : List Answered). ShowsState own shard n s) (own_next h e e.client) shows)),
    )
