-- A journal goes on to make the store that was kept.
use Rattle.std.proofs.Common.{◌≡◌, inl, inr, ℕ, ◌^◌, ◌<◌, true, List, [], ◌∷◌, ◌++◌, length}
use Rattle.std.proofs.Common.{Option, Some, None, refl, sym, ap, ◌∙◌, subst, arith, lit<}
use Rattle.std.specs.List.{AllByRecursion}
use Rattle.std.proofs.lemmas.Bool.{cond-true}
use Rattle.std.proofs.lemmas.List.{append-nil}
use Rattle.store_core.specs.declared.calls.Call.{Call}
use Rattle.store_core.specs.Stores.{Stored, empty_store, after_call}
use Rattle.store_core.specs.Changes.{changes}
use Rattle.journal_core.specs.Disks.{DiskState, DiskHistory}
use Rattle.journal_core.specs.Crashes.{LeavesNow, Leaves, LeavesWhereTold}
use Rattle.journal_core.specs.Records.{at_rest, IsJournal, IsBeforeOrAfter, Rests, IsAtRest, HasAdded, AddsSafely, payloads_of}
use Rattle.journal_core.specs.Opening.{Turns, IsBegun}
use Rattle.journal_core.proofs.Adding.{at_rest_is, rests_leave}
use Rattle.journal_core.proofs.Payloads.{journal_read, length-at_rest}
use Rattle.store_file.specs.Payloads.{◌>>=◌, call_in}
use Rattle.store_file.specs.Replays.{taken, after_record, after_records, stored_by, Stands, StandsForEither, Keeps, KeepsWhereTold}

some_is : (a b : Stored) → Some a ≡ Some b → a ≡ b
some_is a b e = cc

one_more : (o : Option Stored) → (o >>= (λ t. Some t)) ≡ o
one_more (Some t) = refl
one_more None = refl

push_step : (ps : List (List ℕ)) (p : List ℕ) (t : Stored) (o : Option Stored)
    → ((u : Stored) → after_records u ps ≡ Some t → after_records u (ps ++ p ∷ []) ≡ after_record t p)
    → (o >>= (λ u. after_records u ps)) ≡ Some t → (o >>= (λ u. after_records u (ps ++ p ∷ []))) ≡ after_record t p
push_step ps p t (Some u) others is = others u is
push_step ps p t None others is = absurd cc

-- the last record takes effect last
pub after_records-push : (s : Stored) (ps : List (List ℕ)) (p : List ℕ) (t : Stored) → after_records s ps ≡ Some t
    → after_records s (ps ++ p ∷ []) ≡ after_record t p
after_records-push s [] p t is = one_more (after_record s p) ∙ ap (λ (u : Stored). after_record u p) (some_is s t is)
after_records-push s (q ∷ ps) p t is = push_step ps p t (after_record s q) (λ u. after_records-push u ps p t) is

-- a record of a change makes the store after it
pub makes_more : (ps : List (List ℕ)) (p : List ℕ) (s : Stored) (c : Call) → stored_by ps ≡ Some s → call_in p ≡ Some c
    → changes s c ≡ true → stored_by (ps ++ p ∷ []) ≡ Some (after_call s c)
makes_more ps p s c makes spelled change =
    after_records-push empty_store ps p s makes
    ∙ ap (λ o. o >>= taken s) spelled
    ∙ cond-true (changes s c) (Some (after_call s c)) None change

history_is : (h k : DiskHistory) → Some h ≡ Some k → h ≡ k
history_is h k e = cc

-- a disk that is at rest keeps what its records make
pub keeps_of : (s : Stored) (end : ℕ) (ps : List (List ℕ)) (h : DiskHistory) → end < 2 ^ 64 → Rests h.now end ps → stored_by ps ≡ Some s
    → Keeps s end h
keeps_of s end ps h small rests makes =
    let read : payloads_of h.now.bytes ≡ ps = journal_read ps h.now.bytes
    (omega (arith, rests.ends, ap length rests.bytes, length-at_rest ps))
    (subst (IsJournal ps) (sym (rests.bytes ∙ sym (append-nil (at_rest ps)))) (at_rest_is ps [])) in
    record { rests = subst (λ (l : List (List ℕ)). Rests h.now end l) (sym read) rests; makes = ap stored_by read ∙ makes }

-- what a journal is asked for before a record is added
pub keeps_rest : (s : Stored) (end : ℕ) (o : Option DiskHistory) → KeepsWhereTold s end o → IsAtRest o end
keeps_rest s end None keeps = tt
keeps_rest s end (Some h) keeps = (keeps h refl).rests

leaves_so : (P Q : List ℕ → Type 0) (h k : DiskHistory) → ((c : List ℕ) → P c → Q c) → Leaves P h k → Leaves Q h k
leaves_so P Q h k so safe = record {
  later = safe.later;
  grown = safe.grown;
  first = λ c left. so c (safe.first c left);
  each = all safe.later safe.each;
}
  where
    all : (later : List DiskState) → AllByRecursion (LeavesNow P) later → AllByRecursion (LeavesNow Q) later
    all [] each = tt
    all (s ∷ later) each = (λ c left. so c (each.0 c left), all later each.1)

-- the same where the disk is told
pub leaves_where_told : (P Q : List ℕ → Type 0) (old new : Option DiskHistory) → ((c : List ℕ) → P c → Q c) → LeavesWhereTold P old new
    → LeavesWhereTold Q old new
leaves_where_told P Q None new so none = none
leaves_where_told P Q (Some h) new so (k, at, leaves) = (k, at, leaves_so P Q h k so leaves)

module _ (s : Stored) (c : Call) (p : List ℕ) (end : ℕ) (spelled : call_in p ≡ Some c) (change : changes s c ≡ true) where
  -- the store with the change, or without
  pub added_safely : (old new : Option DiskHistory) → KeepsWhereTold s end old → AddsSafely p old new
      → LeavesWhereTold (StandsForEither s (after_call s c)) old new
  added_safely None new keeps safe = safe
  added_safely (Some h) new keeps safe = (
    safe.0,
    safe.1,
    leaves_so (IsBeforeOrAfter (payloads_of h.now.bytes) p) (StandsForEither s (after_call s c)) h safe.0 stands safe.2,
  )
    where
      stands : (b : List ℕ) → IsBeforeOrAfter (payloads_of h.now.bytes) p b → StandsForEither s (after_call s c) b
      stands b (inl before) = inl (record { payloads = payloads_of h.now.bytes; journal = before; makes = (keeps h refl).makes })
      stands b (inr after) = inr (record {
        payloads = payloads_of h.now.bytes ++ p ∷ [];
        journal = after;
        makes = makes_more (payloads_of h.now.bytes) p s c (keeps h refl).makes spelled change;
      })

  -- once it is there, with it
  pub added_keeps : (old new : Option DiskHistory) (end2 : ℕ) → KeepsWhereTold s end old → AddsSafely p old new → HasAdded p old new end2
      → KeepsWhereTold (after_call s c) end2 new
  added_keeps None new end2 keeps safe added k is = let e : None ≡ Some k = sym safe ∙ is in absurd cc
  added_keeps (Some h) new end2 keeps safe added k is =
      let same : added.0 ≡ k = history_is added.0 k (sym added.1 ∙ is) in
      let keeps_now : Keeps (after_call s c) end2 added.0 = record {
        rests = subst (λ (l : List (List ℕ)). Rests added.0.now end2 l) (sym added.3) added.2;
        makes = ap stored_by added.3 ∙ makes_more (payloads_of h.now.bytes) p s c (keeps h refl).makes spelled change;
      } in
      subst (λ (d : DiskHistory). Keeps (after_call s c) end2 d) same keeps_now

-- the bytes of a disk that is at rest stand for the store
pub keeps_stands : (s : Stored) (end : ℕ) (h : DiskHistory) → Keeps s end h → Stands s h.now.bytes
keeps_stands s end h keeps =
    let ps = payloads_of h.now.bytes in
    record {
      payloads = ps;
      journal = subst (IsJournal ps) (sym (keeps.rests.bytes ∙ sym (append-nil (at_rest ps)))) (at_rest_is ps []);
      makes = keeps.makes;
    }

-- a disk that is at rest leaves the store
pub rests_safely : (s : Stored) (end : ℕ) (h : DiskHistory) → Keeps s end h → LeavesNow (Stands s) h.now
rests_safely s end h keeps c left = record {
  payloads = payloads_of h.now.bytes;
  journal = rests_leave h.now h.now end (payloads_of h.now.bytes) keeps.rests refl keeps.rests.apart c left;
  makes = keeps.makes;
}

-- where the disk wasn't touched, a crash leaves the store
pub stays_safely : (s t : Stored) (end : ℕ) (old new : Option DiskHistory) → KeepsWhereTold s end old → new ≡ old
    → LeavesWhereTold (StandsForEither s t) old new
stays_safely s t end None new keeps same = same
stays_safely s t end (Some h) new keeps same = (
  h,
  same,
  record {
    later = [];
    grown = refl;
    first = λ c left. inl (rests_safely s end h (keeps h refl) c left);
    each = tt;
  },
)

-- a journal that has begun keeps the empty store
pub begun_keeps : (old new : Option DiskHistory) → Turns IsBegun old new → KeepsWhereTold empty_store 8 new
begun_keeps None new begun k is = let e : None ≡ Some k = sym begun ∙ is in absurd cc
begun_keeps (Some h) new begun k is =
    subst (λ (d : DiskHistory). Keeps empty_store 8 d) (history_is begun.0 k (sym begun.1 ∙ is))
    (keeps_of empty_store 8 [] begun.0 (lit< tt) begun.2 refl)
