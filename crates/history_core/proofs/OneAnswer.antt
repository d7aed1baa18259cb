-- A command that changes nothing, and an append, have one legal answer.
use Rattle.std.proofs.Common.{◌≡◌, ℕ, List, [], ◌∷◌, ◌⊎◌, inl, inr, refl, subst, sym, ap, ◌∙◌, Some, None, Option}
use Rattle.std.specs.Prelude.{reverse, IsSomeAnd}
use Rattle.update_core.specs.declared.updates.Update.{Update}
use Rattle.update_core.specs.Frontiers.{after}
use Rattle.update_core.specs.Updates.{weight_of}
use Rattle.update_core.specs.Collections.{Collection as PlainCollection, AppendAnswer, append_answer, mismatch, heavy, SnapshotAnswer, snapshot_answer, content, early, late, ListenAnswer, listen_answer, behind, ended, quiet, step}
use Rattle.store_core.specs.declared.shards.ShardId.{ShardId}
use Rattle.store_core.specs.declared.entries.Entry.{Entry}
use Rattle.store_core.specs.Stores.{Stored}
use Rattle.store_core.specs.Newest.{replay_back}
use Rattle.state_core.specs.Lists.{Among}
use Rattle.state_core.specs.States.{ShardState}
use Rattle.history_core.specs.declared.asked.Asked.{Asked}
use Rattle.history_core.specs.declared.asked.Asked.TheVariants as asks
use Rattle.history_core.specs.declared.write_answers.WriteAnswer.{WriteAnswer}
use Rattle.history_core.specs.declared.write_answers.WriteAnswer.TheVariants as writes
use Rattle.history_core.specs.declared.read_answers.ReadAnswer.{ReadAnswer}
use Rattle.history_core.specs.declared.read_answers.ReadAnswer.TheVariants as reads
use Rattle.history_core.specs.Stands.{accepted}
use Rattle.history_core.specs.Placing.{Placed, store_at, OnlyOne, Commits, AtLastScan}
use Rattle.history_core.specs.Legal.{entries_of, collection_in, CollectionIs, AtLast, HasMember, AcceptedAt, AnswersAppend, Declined, LegalOfWriter, LegalWriteAt, LegalStep, LegalOfReader, LegalReadAt}
use Rattle.history_core.specs.AnswerLaws.{IsRead, OneAppendAnswer, OneReadAnswer}
use Rattle.history_core.proofs.StateFacts.{last_one}

-- exactly one is some one
only_among : {A : Type 0} (P Q : A → Type 0) (xs : List A) → OnlyOne P Q xs → Among P xs
only_among P Q [] h = absurd h
only_among P Q (x ∷ xs) (inl h) = inl h.0
only_among P Q (x ∷ xs) (inr h) = inr (only_among P Q xs h.1)

-- there is one last Scan
both_at : (shard : ShardId) (P Q : Placed → Type 0) (ps : List Placed) → AtLastScan shard P ps → AtLastScan shard Q ps → (p : Placed) × P p × Q p
both_at shard P Q [] h g = absurd h
both_at shard P Q (p ∷ ps) (inl h) (inl g) = (p, h.1, g.1)
both_at shard P Q (p ∷ ps) (inl h) (inr g) = absurd (g.0 h.0)
both_at shard P Q (p ∷ ps) (inr h) (inl g) = absurd (h.0 g.0)
both_at shard P Q (p ∷ ps) (inr h) (inr g) = both_at shard P Q ps h.1 g.1

at_map : (shard : ShardId) (P Q : Placed → Type 0) (ps : List Placed) → ((p : Placed) → P p → Q p) → AtLastScan shard P ps → AtLastScan shard Q ps
at_map shard P Q [] f h = absurd h
at_map shard P Q (p ∷ ps) f (inl h) = inl (h.0, f p h.1)
at_map shard P Q (p ∷ ps) f (inr h) = inr (h.0, at_map shard P Q ps f h.1)

-- a collection is what it is
one_collection : (list : List Update) (start : Stored) (shard : ShardId) (es : List Entry) (c d : PlainCollection) → CollectionIs list start shard es c → CollectionIs list start shard es d → c ≡ d
one_collection list start shard es c d (n, s, last, is) (m, t, last2, is2) =
    let (same_number, same) = last_one shard ((replay_back start es).logs shard) n m s t last.0 last.1 last2.0 last2.1 in
    is ∙ ap (λ (q : ShardState). collection_in (accepted shard list start es) q) same ∙ sym is2

-- ---- appends

one_declined : (list : List Update) (start : Stored) (shard : ShardId) (rows : List Update) (expected : ℕ) (a b : AppendAnswer) (ps : List Placed) →
    Declined list start shard rows expected a ps → Declined list start shard rows expected b ps → a ≡ b
one_declined list start shard rows expected a b ps h g =
    let (p, x, y) = both_at shard (AnswersAppend list start shard rows expected a) (AnswersAppend list start shard rows expected b) ps h.at_scan g.at_scan in
    sym x.2 ∙ ap (λ (c : PlainCollection). append_answer c expected (weight_of rows)) (one_collection list start shard p.before x.0 y.0 x.1 y.1) ∙ y.2

one_append : (list : List Update) (start : Stored) (shard : ShardId) (member : ℕ) (ps : List Placed) (rows : List Update) (expected : ℕ) (new : Option ℕ) (a b : WriteAnswer) →
    LegalOfWriter list start shard member ps (asks.Append rows expected new) a → LegalOfWriter list start shard member ps (asks.Append rows expected new) b → a ≡ b
one_append list start shard member ps rows expected new (writes.Opened m v) b h g = absurd h
one_append list start shard member ps rows expected new (writes.MembersFull v) b h g = absurd h
one_append list start shard member ps rows expected new writes.Ok (writes.Opened m2 v2) h g = absurd g
one_append list start shard member ps rows expected new writes.Ok (writes.MembersFull v2) h g = absurd g
one_append list start shard member ps rows expected new writes.Ok writes.Ok h g = refl
one_append list start shard member ps rows expected new writes.Ok (writes.Mismatch u2) h g = absurd (g.none (only_among (Commits start shard) (AcceptedAt list start shard rows expected new) ps h))
one_append list start shard member ps rows expected new writes.Ok (writes.Heavy w2) h g = absurd (g.none (only_among (Commits start shard) (AcceptedAt list start shard rows expected new) ps h))
one_append list start shard member ps rows expected new writes.Ok (writes.Closed v2) h g = absurd g
one_append list start shard member ps rows expected new (writes.Mismatch u) (writes.Opened m2 v2) h g = absurd g
one_append list start shard member ps rows expected new (writes.Mismatch u) (writes.MembersFull v2) h g = absurd g
one_append list start shard member ps rows expected new (writes.Mismatch u) writes.Ok h g = absurd (h.none (only_among (Commits start shard) (AcceptedAt list start shard rows expected new) ps g))
one_append list start shard member ps rows expected new (writes.Mismatch u) (writes.Mismatch u2) h g = (let e : mismatch u ≡ mismatch u2 = one_declined list start shard rows expected (mismatch u) (mismatch u2) ps h g in ap writes.Mismatch (cc))
one_append list start shard member ps rows expected new (writes.Mismatch u) (writes.Heavy w2) h g = absurd (let e : mismatch u ≡ heavy w2 = one_declined list start shard rows expected (mismatch u) (heavy w2) ps h g in cc)
one_append list start shard member ps rows expected new (writes.Mismatch u) (writes.Closed v2) h g = absurd g
one_append list start shard member ps rows expected new (writes.Heavy w) (writes.Opened m2 v2) h g = absurd g
one_append list start shard member ps rows expected new (writes.Heavy w) (writes.MembersFull v2) h g = absurd g
one_append list start shard member ps rows expected new (writes.Heavy w) writes.Ok h g = absurd (h.none (only_among (Commits start shard) (AcceptedAt list start shard rows expected new) ps g))
one_append list start shard member ps rows expected new (writes.Heavy w) (writes.Mismatch u2) h g = absurd (let e : heavy w ≡ mismatch u2 = one_declined list start shard rows expected (heavy w) (mismatch u2) ps h g in cc)
one_append list start shard member ps rows expected new (writes.Heavy w) (writes.Heavy w2) h g = (let e : heavy w ≡ heavy w2 = one_declined list start shard rows expected (heavy w) (heavy w2) ps h g in ap writes.Heavy (cc))
one_append list start shard member ps rows expected new (writes.Heavy w) (writes.Closed v2) h g = absurd g
one_append list start shard member ps rows expected new (writes.Closed v) b h g = absurd h

pub append_law : OneAppendAnswer
append_law list h c rows expected new asked a b legal_a legal_b =
    let ps = entries_of c (reverse h.trail) in
    go c.member a b (subst (λ (q : Asked). LegalWriteAt list h.start c ps q a) asked legal_a) (subst (λ (q : Asked). LegalWriteAt list h.start c ps q b) asked legal_b)
  where
    go : (member : Option ℕ) (x y : WriteAnswer) → IsSomeAnd member (λ m. LegalOfWriter list h.start c.shard m (entries_of c (reverse h.trail)) (asks.Append rows expected new) x) →
        IsSomeAnd member (λ m. LegalOfWriter list h.start c.shard m (entries_of c (reverse h.trail)) (asks.Append rows expected new) y) → x ≡ y
    go None x y p q = absurd p
    go (Some m) x y p q = one_append list h.start c.shard m (entries_of c (reverse h.trail)) rows expected new x y p q

-- ---- reads

-- what the answer is, by the collection's own answer where the member stands
Given : List Update → Stored → ShardId → ℕ → (PlainCollection → ReadAnswer) → ReadAnswer → Placed → Type 0
Given list start shard member f a p =
    AtLast start shard (λ n s. (HasMember member s × (a ≡ f (collection_in (accepted shard list start p.before) s))) ⊎ ((¬ HasMember member s) × (a ≡ reads.Expired n))) p

one_given : (list : List Update) (start : Stored) (shard : ShardId) (member : ℕ) (f : PlainCollection → ReadAnswer) (a b : ReadAnswer) (ps : List Placed) →
    AtLastScan shard (Given list start shard member f a) ps → AtLastScan shard (Given list start shard member f b) ps → a ≡ b
unfolding Given
one_given list start shard member f a b ps h g = go (both_at shard (Given list start shard member f a) (Given list start shard member f b) ps h g)
  where
    go : (p : Placed) × Given list start shard member f a p × Given list start shard member f b p → a ≡ b
    go (p, (n, s, last, is), (m, t, last2, is2)) =
        let (same_number, same) = last_one shard ((store_at start p).logs shard) n m s t last.0 last.1 last2.0 last2.1 in
        let us = accepted shard list start p.before in
        elim is [
          | inl x ↦ elim is2 [
            | inl y ↦ x.1 ∙ ap (λ (q : ShardState). f (collection_in us q)) same ∙ sym y.1
            | inr y ↦ absurd (y.0 (subst (HasMember member) same x.0))
          ]
          | inr x ↦ elim is2 [
            | inl y ↦ absurd (x.0 (subst (HasMember member) (sym same) y.0))
            | inr y ↦ x.1 ∙ ap reads.Expired same_number ∙ sym y.1
          ]
        ]

-- a snapshot's answer as a reader's
rows_of : SnapshotAnswer → ReadAnswer
rows_of (content rows) = reads.Rows rows
rows_of (early since) = reads.Early since
rows_of (late upper) = reads.Late upper

snapshot_given : (list : List Update) (start : Stored) (shard : ShardId) (member : ℕ) (listen : Option (Option ℕ)) (ps : List Placed) (t : ℕ) (a : ReadAnswer) →
    LegalOfReader list start shard member listen ps (asks.Snapshot t) a → AtLastScan shard (Given list start shard member (λ c. rows_of (snapshot_answer c t)) a) ps
unfolding Given rows_of
snapshot_given list start shard member listen ps t (reads.Opened m v s) h = absurd h
snapshot_given list start shard member listen ps t (reads.MembersFull v) h = absurd h
snapshot_given list start shard member listen ps t (reads.Rows rows) h = at_map shard _ _ ps (λ p k. (k.0, k.1, k.2, inl (k.3.0, sym (ap rows_of k.3.1)))) h
snapshot_given list start shard member listen ps t (reads.Early since) h = at_map shard _ _ ps (λ p k. (k.0, k.1, k.2, inl (k.3.0, sym (ap rows_of k.3.1)))) h
snapshot_given list start shard member listen ps t (reads.Late upper) h = at_map shard _ _ ps (λ p k. (k.0, k.1, k.2, inl (k.3.0, sym (ap rows_of k.3.1)))) h
snapshot_given list start shard member listen ps t (reads.Step from to rows) h = absurd h
snapshot_given list start shard member listen ps t (reads.Quiet upper) h = absurd h
snapshot_given list start shard member listen ps t reads.Ended h = absurd h
snapshot_given list start shard member listen ps t (reads.Advanced v) h = absurd h
snapshot_given list start shard member listen ps t (reads.Back since) h = absurd h
snapshot_given list start shard member listen ps t (reads.Renewed v) h = absurd h
snapshot_given list start shard member listen ps t (reads.Closed v) h = absurd h
snapshot_given list start shard member listen ps t (reads.Expired v) h = at_map shard _ _ ps (λ p k. (k.0, k.1, k.2, inr (k.3.1, ap reads.Expired (sym k.3.0)))) h

-- a listen's answer as a reader's
step_from : Option ℕ → ListenAnswer → ReadAnswer
step_from f (behind since) = reads.Early since
step_from f ended = reads.Ended
step_from f (quiet upper) = reads.Quiet upper
step_from f (step rows to) = reads.Step f to rows

step_given : (list : List Update) (start : Stored) (shard : ShardId) (member : ℕ) (ps : List Placed) (f : Option ℕ) (a : ReadAnswer) →
    LegalStep list start shard member ps f a → AtLastScan shard (Given list start shard member (λ c. step_from f (listen_answer c f)) a) ps
unfolding Given step_from
step_given list start shard member ps f (reads.Opened m v s) h = absurd h
step_given list start shard member ps f (reads.MembersFull v) h = absurd h
step_given list start shard member ps f (reads.Rows rows) h = absurd h
step_given list start shard member ps f (reads.Early since) h = at_map shard _ _ ps (λ p k. (k.0, k.1, k.2, inl (k.3.0, sym (ap (step_from f) k.3.1)))) h
step_given list start shard member ps f (reads.Late upper) h = absurd h
step_given list start shard member ps f (reads.Step from to rows) h = at_map shard _ _ ps (λ p k. (k.0, k.1, k.2, inl (k.3.0, ap (λ (g : Option ℕ). reads.Step g to rows) h.0 ∙ sym (ap (step_from f) k.3.1)))) h.1
step_given list start shard member ps f (reads.Quiet upper) h = at_map shard _ _ ps (λ p k. (k.0, k.1, k.2, inl (k.3.0, sym (ap (step_from f) k.3.1)))) h
step_given list start shard member ps f reads.Ended h = at_map shard _ _ ps (λ p k. (k.0, k.1, k.2, inl (k.3.0, sym (ap (step_from f) k.3.1)))) h
step_given list start shard member ps f (reads.Advanced v) h = absurd h
step_given list start shard member ps f (reads.Back since) h = absurd h
step_given list start shard member ps f (reads.Renewed v) h = absurd h
step_given list start shard member ps f (reads.Closed v) h = absurd h
step_given list start shard member ps f (reads.Expired v) h = at_map shard _ _ ps (λ p k. (k.0, k.1, k.2, inr (k.3.1, ap reads.Expired (sym k.3.0)))) h

one_read : (list : List Update) (start : Stored) (shard : ShardId) (member : ℕ) (listen : Option (Option ℕ)) (ps : List Placed) (asked : Asked) → IsRead asked → (a b : ReadAnswer) →
    LegalOfReader list start shard member listen ps asked a → LegalOfReader list start shard member listen ps asked b → a ≡ b
one_read list start shard member listen ps (asks.Snapshot t) is a b h g =
    one_given list start shard member _ a b ps (snapshot_given list start shard member listen ps t a h) (snapshot_given list start shard member listen ps t b g)
one_read list start shard member listen ps (asks.Listen as_of) is a b h g =
    one_given list start shard member _ a b ps (step_given list start shard member ps (after as_of) a h) (step_given list start shard member ps (after as_of) b g)
one_read list start shard member None ps asks.Next is a b h g = absurd h
one_read list start shard member (Some f) ps asks.Next is a b h g =
    one_given list start shard member _ a b ps (step_given list start shard member ps f a h) (step_given list start shard member ps f b g)
one_read list start shard member listen ps other is a b h g = absurd is

pub read_law : OneReadAnswer
read_law list h c is a b legal_a legal_b = go c.asked is legal_a legal_b
  where
    ps : List Placed
    ps = entries_of c (reverse h.trail)

    some : (member : Option ℕ) (asked : Asked) → IsRead asked → IsSomeAnd member (λ m. LegalOfReader list h.start c.shard m c.listen ps asked a) → IsSomeAnd member (λ m. LegalOfReader list h.start c.shard m c.listen ps asked b) → a ≡ b
    some None asked r p q = absurd p
    some (Some m) asked r p q = one_read list h.start c.shard m c.listen ps asked r a b p q

    go : (asked : Asked) → IsRead asked → LegalReadAt list h.start c ps asked a → LegalReadAt list h.start c ps asked b → a ≡ b
    go (asks.Snapshot t) r p q = some c.member (asks.Snapshot t) r p q
    go (asks.Listen as_of) r p q = some c.member (asks.Listen as_of) r p q
    go asks.Next r p q = some c.member asks.Next r p q
    go other r p q = absurd r
