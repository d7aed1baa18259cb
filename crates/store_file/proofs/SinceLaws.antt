-- What a crash left since a store was opened: how that goes on with one more call.
use Rattle.std.proofs.Common.{◌≡◌, inl, inr, ℕ, ◌-◌, ◌^◌, ◌<◌, ◌≤◌, Bool, true, false, List, [], ◌∷◌, ◌++◌, length, map, take, drop}
use Rattle.std.proofs.Common.{Option, Some, refl, sym, ap, ◌∙◌, subst, arith, append_assoc, length-append, if◌then◌else◌, ◌&&◌}
use Rattle.std.specs.List.{AllByRecursion}
use Rattle.std.proofs.lemmas.Bool.{and_parts, cond-true}
use Rattle.std.proofs.lemmas.List.{append-nil, map-append, take_at, take-append-drop}
use Rattle.store_core.specs.declared.calls.Call.{Call}
use Rattle.store_core.specs.declared.outcomes.Outcome.{Outcome}
use Rattle.store_core.specs.declared.outcomes.Outcome.TheVariants.{Took, FailedTook, FailedLost}
use Rattle.store_core.specs.declared.entries.Entry.{Entry}
use Rattle.store_core.specs.Stores.{Stored, after_call}
use Rattle.store_core.specs.Histories.{after_outcome, replay}
use Rattle.journal_core.specs.Disks.{DiskState, DiskHistory, byte_at, states}
use Rattle.journal_core.specs.Crashes.{Leaves, LeavesNow}
use Rattle.journal_core.specs.Records.{records, record_bytes, IsJournal, IsBeforeOrAfter, payloads_of}
use Rattle.journal_core.proofs.Payloads.{journal_read, records-push}
use Rattle.store_file.specs.Payloads.{call_in, payload_of}
use Rattle.store_file.specs.SinceOpening.{is_done, all_done, change_of, changed, AreSpelled, HasJust, HasFirst, since, to_record, LeavesFirst, SafeSince}

-- ---- bytes that are a journal

byte_after : (xs ys : List ℕ) (b : ℕ) → byte_at (xs ++ b ∷ ys) (length xs) ≡ Some b
byte_after [] ys b = refl
byte_after (x ∷ xs) ys b = byte_after xs ys b

some_number : (a b : ℕ) → Some a ≡ Some b → a ≡ b
some_number a b e = cc

pub just_so : (ps : List (List ℕ)) (bytes : List ℕ) → IsJournal ps bytes → HasJust ps bytes
just_so ps bytes is =
    let n = length (records ps) in (
      ap (λ (l : List ℕ). take n l) is.whole ∙ take_at (records ps) (is.gate ∷ is.rest) n refl,
      omega (arith, ap length is.whole, length-append (records ps) (is.gate ∷ is.rest)),
      λ one. is.shut (some_number is.gate 1
          (sym (ap (λ (l : List ℕ). byte_at l n) is.whole ∙ byte_after (records ps) is.rest is.gate) ∙ one)),
    )

pub journal_of : (ps : List (List ℕ)) (bytes : List ℕ) → HasJust ps bytes → IsJournal ps bytes
journal_of ps bytes just =
    of (drop (length (records ps)) bytes) (sym (take-append-drop (length (records ps)) bytes)
    ∙ ap (λ (l : List ℕ). l ++ drop (length (records ps)) bytes) just.0)
  where
    of : (rest : List ℕ) → bytes ≡ records ps ++ rest → IsJournal ps bytes
    of [] e = absurd (omega (arith, ap length e, ap length (append-nil (records ps)), just.1))
    of (gate ∷ rest) e = record {
      gate = gate;
      rest = rest;
      shut = λ one. just.2 (ap (λ (l : List ℕ). byte_at l (length (records ps))) e ∙ byte_after (records ps) rest gate ∙ ap Some one);
      whole = e;
    }

-- the journal of the first of some payloads
pub first_of : (least : ℕ) (payloads qs more : List (List ℕ)) (c : List ℕ) → payloads ≡ qs ++ more → least ≤ length qs
    → length (records qs) < 2 ^ 64 → IsJournal qs c → HasFirst least payloads c
first_of least payloads qs more c split le small is =
    subst (λ (l : List (List ℕ)). (take (length l) payloads ≡ l) × (least ≤ length l) × HasJust l c) (sym (journal_read qs c small is))
    (ap (λ (l : List (List ℕ)). take (length qs) l) split ∙ take_at qs more (length qs) refl, le, just_so qs c is)

-- it is that of the first of more payloads too
pub first_grows : (least : ℕ) (payloads more : List (List ℕ)) (c : List ℕ) → HasFirst least payloads c → HasFirst least (payloads ++ more) c
first_grows least payloads more c first =
    let qs = payloads_of c in
    let rest = drop (length qs) payloads in
    let split : payloads ++ more ≡ qs ++ (rest ++ more) =
    ap (λ (l : List (List ℕ)). l ++ more) (sym (take-append-drop (length qs) payloads) ∙ ap (λ (l : List (List ℕ)). l ++ rest) first.0)
    ∙ append_assoc qs rest more in
    (ap (λ (l : List (List ℕ)). take (length qs) l) split ∙ take_at qs (rest ++ more) (length qs) refl, first.1, first.2)

-- ---- entries

pub after_done : (s : Stored) (c : Call) (o : Outcome) → is_done o ≡ true → after_outcome s c o ≡ after_call s c
after_done s c Took done = refl
after_done s c FailedTook done = refl
after_done s c FailedLost done = absurd cc

if_same : (none : List Call) (b : Bool) → (if b then none else none) ≡ none
if_same none true = refl
if_same none false = refl

-- one more call after calls that were done
pub changed_more : (s : Stored) (es : List Entry) (e : Entry) → all_done es ≡ true
    → changed s (es ++ e ∷ []) ≡ changed s es ++ change_of (replay s es) e.call
changed_more s [] e done =
    ap (λ (l : List Call). change_of s e.call ++ l) (if_same [] (is_done e.outcome)) ∙ append-nil (change_of s e.call)
changed_more s (f ∷ fs) e done =
    let both = and_parts (is_done f.outcome) (all_done fs) done in
    let t = after_call s f.call in
    ap (λ (l : List Call). change_of s f.call ++ l)
    (cond-true (is_done f.outcome) (changed t (fs ++ e ∷ [])) [] both.0 ∙ changed_more t fs e both.1
    ∙ ap (λ (l : List Call). l ++ change_of (replay t fs) e.call) (sym (cond-true (is_done f.outcome) (changed t fs) [] both.0))
    ∙ ap (λ (u : Stored). (if is_done f.outcome then changed t fs else []) ++ change_of (replay u fs) e.call)
    (sym (after_done s f.call f.outcome both.0)))
    ∙ sym (append_assoc (change_of s f.call) (if is_done f.outcome then changed t fs else [])
    (change_of (replay (after_outcome s f.call f.outcome) fs) e.call))

under_if : (b rest : Bool) (more less : List Call) → (rest ≡ false → more ≡ less) → (b && rest) ≡ false
    → (if b then more else []) ≡ (if b then less else [])
under_if true rest more less same failed = same failed
under_if false rest more less same failed = refl

-- one more call after one that failed
pub changed_same : (s : Stored) (es : List Entry) (e : Entry) → all_done es ≡ false → changed s (es ++ e ∷ []) ≡ changed s es
changed_same s [] e failed = absurd cc
changed_same s (f ∷ fs) e failed =
    ap (λ (l : List Call). change_of s f.call ++ l)
    (under_if (is_done f.outcome) (all_done fs) (changed (after_call s f.call) (fs ++ e ∷ [])) (changed (after_call s f.call) fs)
    (λ rest. changed_same (after_call s f.call) fs e rest) failed)

done_go : (e : Entry) → e.outcome ≡ Took → (fs : List Entry) → all_done fs ≡ true → all_done (fs ++ e ∷ []) ≡ true
done_go e took [] d = ap (λ (o : Outcome). is_done o && true) took
done_go e took (f ∷ fs) d =
    let both = and_parts (is_done f.outcome) (all_done fs) d in
    ap (λ (b : Bool). b && all_done (fs ++ e ∷ [])) both.0 ∙ done_go e took fs both.1

pub done_more : (es es_now : List Entry) (e : Entry) → es_now ≡ es ++ e ∷ [] → e.outcome ≡ Took → all_done es ≡ true → all_done es_now ≡ true
done_more es es_now e is took done = ap all_done is ∙ done_go e took es done

under : (b : Bool) → (b && false) ≡ false
under true = refl
under false = refl

failed_go : (e : Entry) → e.outcome ≡ FailedLost → (fs : List Entry) → all_done (fs ++ e ∷ []) ≡ false
failed_go e lost [] = ap (λ (o : Outcome). is_done o && true) lost
failed_go e lost (f ∷ fs) = ap (λ (b : Bool). is_done f.outcome && b) (failed_go e lost fs) ∙ under (is_done f.outcome)

pub done_failed : (es es_now : List Entry) (e : Entry) → es_now ≡ es ++ e ∷ [] → e.outcome ≡ FailedLost → all_done es_now ≡ false
done_failed es es_now e is lost = ap all_done is ∙ failed_go e lost es

-- ---- moments

front_of : (xs ys zs : List DiskState) → xs ≡ ys ++ zs → take (length xs - length zs) xs ≡ ys
front_of xs ys zs split =
    let count : length xs - length zs ≡ length ys = omega (arith, ap length split, length-append ys zs) in
    ap (λ (n : ℕ). take n xs) count ∙ ap (λ (l : List DiskState). take (length ys) l) split ∙ take_at ys zs (length ys) refl

all_append : {A : Type 0} (P : A → Type 0) (xs ys : List A) → AllByRecursion P xs → AllByRecursion P ys → AllByRecursion P (xs ++ ys)
all_append P [] ys a b = b
all_append P (x ∷ xs) ys a b = (a.0, all_append P xs ys a.1 b)

all_so : {A : Type 0} (P Q : A → Type 0) (xs : List A) → ((x : A) → P x → Q x) → AllByRecursion P xs → AllByRecursion Q xs
all_so P Q [] so each = tt
all_so P Q (x ∷ xs) so each = (so x each.0, all_so P Q xs so each.1)

module _ (o : DiskHistory) (start : Stored) where
  -- of a disk that was just opened
  pub safe_at_first : (trail : List Entry) → LeavesFirst o start trail o.now → SafeSince o start trail o
  safe_at_first trail leaves =
      let none : since o o ≡ [] = front_of (states o) [] (states o) refl in (
        ap (λ (l : List DiskState). l ++ states o) (sym none),
        leaves,
        subst (λ (l : List DiskState). AllByRecursion (LeavesFirst o start trail) l) (sym none) tt,
      )

  leaves_more : (trail trail2 : List Entry) (more : List (List ℕ)) → to_record o start trail2 ≡ to_record o start trail ++ more
      → (s : DiskState) → LeavesFirst o start trail s → LeavesFirst o start trail2 s
  leaves_more trail trail2 more grown s leaves c left =
      subst (λ (l : List (List ℕ)). HasFirst (length (payloads_of o.now.bytes)) l c) (sym grown)
      (first_grows (length (payloads_of o.now.bytes)) (to_record o start trail) more c (leaves c left))

  -- the records stay the same
  pub safe_same : (trail trail2 : List Entry) (h : DiskHistory) → changed start trail2 ≡ changed start trail → SafeSince o start trail h
      → SafeSince o start trail2 h
  safe_same trail trail2 h same safe =
      let grown : to_record o start trail2 ≡ to_record o start trail ++ [] =
      ap (λ (l : List Call). payloads_of o.now.bytes ++ map payload_of l) same ∙ sym (append-nil (to_record o start trail)) in (
        safe.0,
        leaves_more trail trail2 [] grown o.now safe.1,
        all_so (LeavesFirst o start trail) (LeavesFirst o start trail2) (since o h) (leaves_more trail trail2 [] grown) safe.2,
      )

  -- there is one record more
  pub recorded_more : (trail trail2 : List Entry) (call : Call) → changed start trail2 ≡ changed start trail ++ call ∷ []
      → to_record o start trail2 ≡ to_record o start trail ++ payload_of call ∷ []
  recorded_more trail trail2 call more =
      ap (λ (l : List (List ℕ)). payloads_of o.now.bytes ++ l)
      (ap (λ (l : List Call). map payload_of l) more ∙ map-append payload_of (changed start trail) (call ∷ []))
      ∙ sym (append_assoc (payloads_of o.now.bytes) (map payload_of (changed start trail)) (payload_of call ∷ []))

  pub safe_more : (trail trail2 : List Entry) (call : Call) (h k : DiskHistory) → changed start trail2 ≡ changed start trail ++ call ∷ []
      → payloads_of h.now.bytes ≡ to_record o start trail
      → length (records (payloads_of h.now.bytes ++ payload_of call ∷ [])) < 2 ^ 64
      → Leaves (IsBeforeOrAfter (payloads_of h.now.bytes) (payload_of call)) h k → SafeSince o start trail h → SafeSince o start trail2 k
  safe_more trail trail2 call h k more recorded small leaves safe = (
    leaves.grown ∙ ap (λ (l : List DiskState). leaves.later ++ l) safe.0
        ∙ sym (append_assoc leaves.later (since o h) (states o))
        ∙ ap (λ (l : List DiskState). l ++ states o) (sym now),
    on o.now safe.1,
    subst (λ (l : List DiskState). AllByRecursion (LeavesFirst o start trail2) l) (sym now)
        (all_append (LeavesFirst o start trail2) leaves.later (since o h)
        (all_so (LeavesNow (IsBeforeOrAfter qs p)) (LeavesFirst o start trail2) leaves.later (λ s either c left. new c (either c left)) leaves.each)
        (all_so (LeavesFirst o start trail) (LeavesFirst o start trail2) (since o h) on safe.2)),
  )
    where
      qs : List (List ℕ)
      qs = payloads_of h.now.bytes

      p : List ℕ
      p = payload_of call

      grown : to_record o start trail2 ≡ to_record o start trail ++ p ∷ []
      grown = recorded_more trail trail2 call more

      on : (s : DiskState) → LeavesFirst o start trail s → LeavesFirst o start trail2 s
      on = leaves_more trail trail2 (p ∷ []) grown

      now : since o k ≡ leaves.later ++ since o h
      now = front_of (states k) (leaves.later ++ since o h) (states o)
          (leaves.grown ∙ ap (λ (l : List DiskState). leaves.later ++ l) safe.0 ∙ sym (append_assoc leaves.later (since o h) (states o)))

      all : to_record o start trail2 ≡ qs ++ p ∷ []
      all = grown ∙ ap (λ (l : List (List ℕ)). l ++ p ∷ []) (sym recorded)

      least : length (payloads_of o.now.bytes) ≤ length qs
      least = omega (arith, ap length recorded, length-append (payloads_of o.now.bytes) (map payload_of (changed start trail)))

      new : (c : List ℕ) → IsBeforeOrAfter qs p c → HasFirst (length (payloads_of o.now.bytes)) (to_record o start trail2) c
      new c (inl before) = first_of (length (payloads_of o.now.bytes)) (to_record o start trail2) qs (p ∷ []) c all least
          (omega (arith, small, ap length (records-push qs p), length-append (records qs) (record_bytes p))) before
      new c (inr after) = first_of (length (payloads_of o.now.bytes)) (to_record o start trail2) (qs ++ p ∷ []) [] c
          (all ∙ sym (append-nil (qs ++ p ∷ []))) (omega (arith, least, length-append qs (p ∷ []))) small after

-- a change that is read back
pub spelled_more : (start : Stored) (trail trail2 : List Entry) (call : Call) → changed start trail2 ≡ changed start trail ++ call ∷ []
    → call_in (payload_of call) ≡ Some call → AreSpelled start trail → AreSpelled start trail2
spelled_more start trail trail2 call more back spelled =
    let cs = changed start trail in
    ap (λ (l : List Call). map call_in (map payload_of l)) more
    ∙ ap (λ (l : List (List ℕ)). map call_in l) (map-append payload_of cs (call ∷ []))
    ∙ map-append call_in (map payload_of cs) (payload_of call ∷ [])
    ∙ ap (λ (l : List (Option Call)). l ++ call_in (payload_of call) ∷ []) spelled
    ∙ ap (λ (c : Option Call). map Some cs ++ c ∷ []) back
    ∙ sym (map-append Some cs (call ∷ []))
    ∙ ap (λ (l : List Call). map Some l) (sym more)

pub spelled_same : (start : Stored) (trail trail2 : List Entry) → changed start trail2 ≡ changed start trail → AreSpelled start trail
    → AreSpelled start trail2
spelled_same start trail trail2 same spelled =
    subst (λ (l : List Call). map call_in (map payload_of l) ≡ map Some l) (sym same) spelled
