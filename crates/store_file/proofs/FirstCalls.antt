-- The first records of a journal make the store after the first calls.
use Rattle.std.proofs.Common.{◌≡◌, ◌⊎◌, inl, inr, ℕ, zero, suc, ◌-◌, ◌≤◌, Bool, true, false, List, [], ◌∷◌, ◌++◌, length, map, take}
use Rattle.std.proofs.Common.{Option, Some, None, refl, sym, ap, ◌∙◌, subst, arith, if◌then◌else◌}
use Rattle.std.specs.List.{AllByRecursion}
use Rattle.std.proofs.lemmas.Bool.{and_parts, cond-true}
use Rattle.store_core.specs.declared.calls.Call.{Call}
use Rattle.store_core.specs.declared.outcomes.Outcome.{Outcome}
use Rattle.store_core.specs.declared.outcomes.Outcome.TheVariants.{Took, FailedTook, FailedLost}
use Rattle.store_core.specs.declared.entries.Entry.{Entry}
use Rattle.store_core.specs.Stores.{Stored, empty_store, after_call}
use Rattle.store_core.specs.Changes.{changes}
use Rattle.store_core.specs.Histories.{next, replay}
use Rattle.journal_core.specs.Disks.{DiskState, DiskHistory}
use Rattle.journal_core.specs.Crashes.{Leaves, LeavesNow, LeavesWhereTold}
use Rattle.journal_core.specs.Records.{payloads_of}
use Rattle.store_file.specs.Payloads.{◌>>=◌, call_in, payload_of}
use Rattle.store_file.specs.Replays.{taken, after_record, after_records, stored_by, Stands}
use Rattle.store_file.specs.SinceOpening.{AllDone, all_done, StandsForFirst, StandsWithNext, is_done, changed, AreSpelled, HasFirst, to_record}
use Rattle.store_file.specs.SinceOpening.{LeavesFirst, SafeSince, SafeWhereTold, MadeStart, ToldAsMuch, since}
use Rattle.store_file.proofs.SinceLaws.{after_done, journal_of}
use Rattle.store_file.proofs.Unchanged.{unchanged}

-- the records make a store after the next entry's call, where one comes
abbrev MadeWithNext : Stored → Stored → List Entry → List (List ℕ) → Type 0
MadeWithNext s t [] qs = ⊥
MadeWithNext s t (e ∷ rest) qs = after_records s qs ≡ Some (after_call t e.call)

-- the records make the store after the first entries, or with the next one
record FirstMade (s : Stored) (es : List Entry) (qs : List (List ℕ)) : Type 0 where
  front : List Entry
  rest : List Entry
  trail : es ≡ front ++ rest
  done : AllDone front
  made : (after_records s qs ≡ Some (replay s front)) ⊎ MadeWithNext s (replay s front) rest qs

heads : {A : Type 0} {x y : A} {xs ys : List A} → x ∷ xs ≡ y ∷ ys → x ≡ y
heads e = cc

tails : {A : Type 0} {x y : A} {xs ys : List A} → x ∷ xs ≡ y ∷ ys → xs ≡ ys
tails e = cc

take_none : (k : ℕ) → take {A = List ℕ} k [] ≡ []
take_none zero = refl
take_none (suc k) = refl

none_made : (s : Stored) (es : List Entry) → FirstMade s es []
none_made s es = record { front = []; rest = es; trail = refl; done = tt; made = inl refl }

took_of : (o : Outcome) → is_done o ≡ true → o ≡ Took
took_of Took done = refl
took_of FailedTook done = absurd cc
took_of FailedLost done = absurd cc

-- where each was done the last one was
pub last_done : (front : List Entry) (last : Entry) → all_done (front ++ last ∷ []) ≡ true → last.outcome ≡ Took
last_done [] last done = took_of last.outcome (and_parts (is_done last.outcome) true done).0
last_done (e ∷ front) last done = last_done front last (and_parts (is_done e.outcome) (all_done (front ++ last ∷ [])) done).1

module _ (s : Stored) (e : Entry) (es : List Entry) where
  -- an entry that was done goes before
  grow : (qs ps : List (List ℕ)) → is_done e.outcome ≡ true
      → ((t : Stored) → after_records (after_call s e.call) qs ≡ Some t → after_records s ps ≡ Some t) → FirstMade (after_call s e.call) es qs
      → FirstMade s (e ∷ es) ps
  grow qs ps done on first = record {
    front = e ∷ first.front;
    rest = first.rest;
    trail = ap (λ (l : List Entry). e ∷ l) first.trail;
    done = (took_of e.outcome done, first.done);
    made = by first.rest first.made;
  }
    where
      same : replay (next s e) first.front ≡ replay (after_call s e.call) first.front
      same = ap (λ (t : Stored). replay t first.front) (after_done s e.call e.outcome done)

      by : (rest : List Entry)
          → (after_records (after_call s e.call) qs ≡ Some (replay (after_call s e.call) first.front))
          ⊎ MadeWithNext (after_call s e.call) (replay (after_call s e.call) first.front) rest qs
          → (after_records s ps ≡ Some (replay (next s e) first.front)) ⊎ MadeWithNext s (replay (next s e) first.front) rest ps
      by rest (inl is) = inl (on _ is ∙ ap Some (sym same))
      by [] (inr none) = absurd none
      by (f ∷ rest) (inr is) = inr (on _ is ∙ ap (λ (t : Stored). Some (after_call t f.call)) (sym same))

  -- the record of a change
  one_record : (p : List ℕ) (qs : List (List ℕ)) (o : Option Stored) → call_in p ≡ Some e.call → changes s e.call ≡ true
      → after_records (after_call s e.call) qs ≡ o → after_records s (p ∷ qs) ≡ o
  one_record p qs o back change is =
      ap (λ (c : Option Call). (c >>= taken s) >>= (λ t. after_records t qs)) back
      ∙ ap (λ (t : Option Stored). t >>= (λ t. after_records t qs))
      (cond-true (changes s e.call) (Some (after_call s e.call)) None change)
      ∙ is

  module _ (k : ℕ) (on : (j : ℕ) → AreSpelled (after_call s e.call) es
      → FirstMade (after_call s e.call) es (take j (map payload_of (changed (after_call s e.call) es)))) where
    abbrev later : List Call
    later = changed (after_call s e.call) es

    first_by : (b d : Bool) → changes s e.call ≡ b → is_done e.outcome ≡ d
        → (cs : List Call) → cs ≡ (if b then e.call ∷ [] else []) ++ (if d then later else []) → map call_in (map payload_of cs) ≡ map Some cs
        → FirstMade s (e ∷ es) (take (suc k) (map payload_of cs))
    first_by true true change done cs is spelled =
        let all : map call_in (map payload_of (e.call ∷ later)) ≡ map Some (e.call ∷ later) =
        subst (λ (l : List Call). map call_in (map payload_of l) ≡ map Some l) is spelled in
        subst (λ (l : List Call). FirstMade s (e ∷ es) (take (suc k) (map payload_of l))) (sym is)
        (grow (take k (map payload_of later)) (payload_of e.call ∷ take k (map payload_of later)) done
        (λ t. one_record (payload_of e.call) (take k (map payload_of later)) (Some t) (heads all) change) (on k (tails all)))
    first_by true false change done cs is spelled =
        let all : map call_in (map payload_of (e.call ∷ [])) ≡ map Some (e.call ∷ []) =
        subst (λ (l : List Call). map call_in (map payload_of l) ≡ map Some l) is spelled in
        subst (λ (l : List Call). FirstMade s (e ∷ es) (take (suc k) (map payload_of l))) (sym is)
        (subst (λ (l : List (List ℕ)). FirstMade s (e ∷ es) (payload_of e.call ∷ l)) (sym (take_none k)) (record {
          front = [];
          rest = e ∷ es;
          trail = refl;
          done = tt;
          made = inr (one_record (payload_of e.call) [] (Some (after_call s e.call)) (heads all) change refl);
        }))
    first_by false true change done cs is spelled =
        subst (λ (l : List Call). FirstMade s (e ∷ es) (take (suc k) (map payload_of l))) (sym is)
        (grow (take (suc k) (map payload_of later)) (take (suc k) (map payload_of later)) done
        (λ t made. ap (λ (u : Stored). after_records u (take (suc k) (map payload_of later))) (sym (unchanged s e.call change)) ∙ made)
        (on (suc k) (subst (λ (l : List Call). map call_in (map payload_of l) ≡ map Some l) is spelled)))
    first_by false false change done cs is spelled =
        subst (λ (l : List Call). FirstMade s (e ∷ es) (take (suc k) (map payload_of l))) (sym is) (none_made s (e ∷ es))

first_made : (k : ℕ) (s : Stored) (es : List Entry) → AreSpelled s es → FirstMade s es (take k (map payload_of (changed s es)))
first_made zero s es spelled = none_made s es
first_made (suc k) s [] spelled = none_made s []
first_made (suc k) s (e ∷ es) spelled =
    first_by s e es k (λ j. first_made j (after_call s e.call) es) (changes s e.call) (is_done e.outcome) refl refl (changed s (e ∷ es)) refl
    spelled

-- ---- bytes

take_past : (xs ys : List (List ℕ)) (n : ℕ) → length xs ≤ n → take n (xs ++ ys) ≡ xs ++ take (n - length xs) ys
take_past [] ys n le = ap (λ (k : ℕ). take k ys) (omega arith)
take_past (x ∷ xs) ys zero le = absurd (omega (arith, le))
take_past (x ∷ xs) ys (suc n) le = ap (λ (l : List (List ℕ)). x ∷ l) (take_past xs ys n (omega (arith, le)))
    ∙ ap (λ (k : ℕ). x ∷ (xs ++ take k ys)) (omega arith)

goes_on : (t : Stored) (ps qs : List (List ℕ)) (o : Option Stored)
    → ((u : Stored) → after_records u ps ≡ Some t → after_records u (ps ++ qs) ≡ after_records t qs)
    → (o >>= (λ u. after_records u ps)) ≡ Some t → (o >>= (λ u. after_records u (ps ++ qs))) ≡ after_records t qs
goes_on t ps qs None on is = absurd cc
goes_on t ps qs (Some u) on is = on u is

after_both : (s t : Stored) (ps qs : List (List ℕ)) → after_records s ps ≡ Some t → after_records s (ps ++ qs) ≡ after_records t qs
after_both s t [] qs is =
    let same : s ≡ t = cc in
    ap (λ (u : Stored). after_records u qs) same
after_both s t (p ∷ ps) qs is = goes_on t ps qs (after_record s p) (λ u. after_both u t ps qs) is

module _ (o : DiskHistory) (start : Stored) (trail : List Entry) (made : stored_by (payloads_of o.now.bytes) ≡ Some start)
    (spelled : AreSpelled start trail) where
  stands_first : (c : List ℕ) → HasFirst (length (payloads_of o.now.bytes)) (to_record o start trail) c
      → StandsForFirst (record { start = start; trail = trail }) c
  stands_first c first = record { front = found.front; rest = found.rest; trail = found.trail; done = found.done; stands = by found.rest found.made }
    where
      ps : List (List ℕ)
      ps = payloads_of c

      more : List (List ℕ)
      more = map payload_of (changed start trail)

      k : ℕ
      k = length ps - length (payloads_of o.now.bytes)

      found : FirstMade start trail (take k more)
      found = first_made k start trail spelled

      makes : stored_by ps ≡ after_records start (take k more)
      makes = ap stored_by (sym first.0 ∙ take_past (payloads_of o.now.bytes) more (length ps) first.1)
          ∙ after_both empty_store start (payloads_of o.now.bytes) (take k more) made

      stands_for : (t : Stored) → after_records start (take k more) ≡ Some t → Stands t c
      stands_for t is = record { payloads = ps; journal = journal_of ps c first.2; makes = makes ∙ is }

      by : (rest : List Entry)
          → (after_records start (take k more) ≡ Some (replay start found.front)) ⊎ MadeWithNext start (replay start found.front) rest (take k more)
          → Stands (replay start found.front) c ⊎ StandsWithNext (replay start found.front) rest c
      by rest (inl is) = inl (stands_for (replay start found.front) is)
      by [] (inr none) = absurd none
      by (e ∷ rest) (inr is) = inr (stands_for (after_call (replay start found.front) e.call) is)

  all_stand : (ss : List DiskState) → AllByRecursion (LeavesFirst o start trail) ss
      → AllByRecursion (LeavesNow (StandsForFirst (record { start = start; trail = trail }))) ss
  all_stand [] each = tt
  all_stand (s ∷ ss) each = (λ c left. stands_first c (each.0 c left), all_stand ss each.1)

  pub safe_stands : (h : DiskHistory) → SafeSince o start trail h → Leaves (StandsForFirst (record { start = start; trail = trail })) o h
  safe_stands h safe = record {
    later = since o h;
    grown = safe.0;
    first = λ c left. stands_first c (safe.1 c left);
    each = all_stand (since o h) safe.2;
  }

-- whatever a crash left since the store was opened stands for the store after the first calls
pub leaves_first : (opened now : Option DiskHistory) (start : Stored) (trail : List Entry) → ToldAsMuch opened now → MadeStart opened start
    → AreSpelled start trail → SafeWhereTold opened start trail now
    → LeavesWhereTold (StandsForFirst (record { start = start; trail = trail })) opened now
leaves_first None None start trail told made spelled safe = refl
leaves_first None (Some h) start trail told made spelled safe = absurd cc
leaves_first (Some o) None start trail told made spelled safe = absurd cc
leaves_first (Some o) (Some h) start trail told made spelled safe =
    (h, refl, safe_stands o start trail (made o refl) spelled h (safe o refl h refl))
