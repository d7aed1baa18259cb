-- An image is one outcome of a crash.
use Rattle.std.proofs.Common.{◌≡◌, ◌⊎◌, inl, inr, ℕ, zero, suc, ◌+◌, ◌-◌, ◌<◌, ◌≤◌, true, false, List, [], ◌∷◌, ◌++◌}
use Rattle.std.proofs.Common.{length, take, drop, replicate, Option, refl, ap, ◌∙◌, arith, length-append}
use Rattle.std.proofs.Common.{length-take}
use Rattle.std.proofs.lemmas.Bool.{ltb-false, leb-false, and_cases, or_parts}
use Rattle.journal_core.specs.declared.disk_calls.DiskCall.{DiskCall}
use Rattle.journal_core.specs.declared.disk_calls.DiskCall.TheVariants.{Look, Write, Cut, Sync}
use Rattle.journal_core.specs.Disks.{DiskState, DiskHistory, Span, byte_at, touched, in_span, fresh_disk, with_state}
use Rattle.journal_core.specs.Calls.{over, write_span, cut_span}
use Rattle.journal_core.specs.Crashes.{MayLeave}
use Rattle.journal_core.specs.MemDisks.{after_disk_call, after_disk_calls, disk_after, bytes_or_none}
use Rattle.journal_core.specs.Images.{Image, partly, after_image_call, after_image_calls, first_image, image_of}
use Rattle.journal_core.proofs.Bytes.{byte_at-front, agrees_before}

byte_at-back : (xs ys : List ℕ) (p : ℕ) → length xs ≤ p → byte_at (xs ++ ys) p ≡ byte_at ys (p - length xs)
byte_at-back [] ys p le = ap (λ (q : ℕ). byte_at ys q) (omega arith)
byte_at-back (x ∷ xs) ys zero le = absurd (omega arith)
byte_at-back (x ∷ xs) ys (suc p) le = byte_at-back xs ys p (omega arith) ∙ ap (λ (q : ℕ). byte_at ys q) (omega arith)

byte_at-take : (n : ℕ) (xs : List ℕ) (p : ℕ) → p < n → byte_at (take n xs) p ≡ byte_at xs p
byte_at-take zero xs p lt = absurd (omega arith)
byte_at-take (suc n) [] p lt = refl
byte_at-take (suc n) (x ∷ xs) zero lt = refl
byte_at-take (suc n) (x ∷ xs) (suc p) lt = byte_at-take n xs p (omega arith)

byte_at-drop : (n : ℕ) (xs : List ℕ) (p : ℕ) → byte_at (drop n xs) p ≡ byte_at xs (n + p)
byte_at-drop zero xs p = ap (λ (q : ℕ). byte_at xs q) (omega arith)
byte_at-drop (suc n) [] p = refl
byte_at-drop (suc n) (x ∷ xs) p = byte_at-drop n xs p ∙ ap (λ (q : ℕ). byte_at (x ∷ xs) q) (suc_sum n p)
  where
    suc_sum : (n p : ℕ) → suc (n + p) ≡ suc n + p
    suc_sum n p = omega arith

-- a place outside a span
outside : (w : Span) (p : ℕ) → in_span w p ≡ false → (p < w.from) ⊎ (w.to ≤ p)
outside w p h = elim (and_cases _ _ h) [ inl below ↦ inl (leb-false w.from p below) | inr past ↦ inr (ltb-false p w.to past) ]

-- a write leaves what lies outside its range
pub over_outside : (at : ℕ) (new old : List ℕ) (p : ℕ) → p < length old → (p < at) ⊎ (at + length new ≤ p)
    → byte_at (over at new old) p ≡ byte_at old p
over_outside at new old p lt (inl before) =
    byte_at-front (take at old) (new ++ drop (at + length new) old) p (omega (arith, length-take at old)) ∙ byte_at-take at old p before
over_outside at new old p lt (inr after) =
    byte_at-back (take at old) (new ++ drop (at + length new) old) p (omega (arith, length-take at old))
    ∙ byte_at-back new (drop (at + length new) old) (p - length (take at old)) (omega (arith, length-take at old))
    ∙ byte_at-drop (at + length new) old (p - length (take at old) - length new)
    ∙ ap (λ (q : ℕ). byte_at old q) (omega (arith, length-take at old))

pub partly_outside : (at : ℕ) (new : List ℕ) (n : ℕ) (old : List ℕ) (p : ℕ) → p < length old → (p < at) ⊎ (at + length new ≤ p)
    → byte_at (partly at new n old) p ≡ byte_at old p
partly_outside at new n old p lt out =
    over_outside at (take n new) (old ++ replicate (at + length new - length old) 0) p
    (omega (arith, length-append old (replicate (at + length new - length old) 0))) (smaller out)
    ∙ byte_at-front old (replicate (at + length new - length old) 0) p lt
  where
    smaller : (p < at) ⊎ (at + length new ≤ p) → (p < at) ⊎ (at + length (take n new) ≤ p)
    smaller (inl before) = inl before
    smaller (inr after) = inr (omega (arith, length-take n new))

-- a disk and its image agree with what was sure, where that wasn't written over
record Agrees (d : DiskState) (s : Image) : Type 0 where
  pub same : s.now ≡ d.bytes
  pub now : (p : ℕ) → p < length d.settled → touched d.written p ≡ false → byte_at d.bytes p ≡ byte_at d.settled p
  pub left : (p : ℕ) → p < length d.settled → touched d.written p ≡ false → byte_at s.left p ≡ byte_at d.settled p

module _ (written : ℕ) where
  step : (d : DiskState) (s : Image) (c : DiskCall) → Agrees d s → Agrees (after_disk_call d c) (after_image_call written s c)
  step d s Look a = a
  step d s (Write at bytes true) a = record {
    same = ap (λ (l : List ℕ). over at bytes l) a.same;
    now = λ p lt out.
        let parts = or_parts _ _ out in
        let was = a.now p lt parts.1 in
        over_outside at bytes d.bytes p (agrees_before d.settled d.bytes p was lt) (outside (write_span at (length bytes)) p parts.0) ∙ was;
    left = λ p lt out.
        let parts = or_parts _ _ out in
        let was = a.left p lt parts.1 in
        partly_outside at bytes s.more s.left p (agrees_before d.settled s.left p was lt)
        (outside (write_span at (length bytes)) p parts.0) ∙ was;
  }
  step d s (Write at bytes false) a = record {
    same = a.same;
    now = λ p lt out. a.now p lt (or_parts _ _ out).1;
    left = λ p lt out. a.left p lt (or_parts _ _ out).1;
  }
  step d s (Cut len true) a = record {
    same = ap (λ (l : List ℕ). take len l) a.same;
    now = λ p lt out. let parts = or_parts _ _ out in cut_keeps d.bytes p lt parts (a.now p lt parts.1) (a.now p lt parts.1);
    left = λ p lt out. let parts = or_parts _ _ out in cut_keeps s.left p lt parts (a.now p lt parts.1) (a.left p lt parts.1);
  }
    where
      cut_keeps : (bytes : List ℕ) (p : ℕ) → p < length d.settled
          → (in_span (cut_span len d.bytes) p ≡ false) × (touched d.written p ≡ false) → byte_at d.bytes p ≡ byte_at d.settled p
          → byte_at bytes p ≡ byte_at d.settled p → byte_at (take len bytes) p ≡ byte_at d.settled p
      cut_keeps bytes p lt parts now was = by (outside (cut_span len d.bytes) p parts.0)
        where
          by : (p < len) ⊎ (length d.bytes ≤ p) → byte_at (take len bytes) p ≡ byte_at d.settled p
          by (inl before) = byte_at-take len bytes p before ∙ was
          by (inr past) = absurd (omega (arith, agrees_before d.settled d.bytes p now lt))
  step d s (Cut len false) a = record {
    same = a.same;
    now = λ p lt out. a.now p lt (or_parts _ _ out).1;
    left = λ p lt out. a.left p lt (or_parts _ _ out).1;
  }
  step d s (Sync true) a = record {
    same = a.same;
    now = λ p lt out. refl;
    left = λ p lt out. ap (λ (l : List ℕ). byte_at l p) a.same;
  }
  step d s (Sync false) a = a

  steps : (h : DiskHistory) (s : Image) (cs : List DiskCall) → Agrees h.now s
      → Agrees (after_disk_calls h cs).now (after_image_calls written s cs)
  steps h s [] a = a
  steps h s (c ∷ cs) a = steps (with_state h (after_disk_call h.now c)) (after_image_call written s c) cs (step h.now s c a)

  pub is_outcome : (start : Option (List ℕ)) (cs : List DiskCall) (left : List ℕ) → left ≡ image_of start cs written
      → MayLeave (disk_after start cs).now left
  is_outcome start cs left is p lt out =
      let a = steps (fresh_disk (bytes_or_none start)) (first_image written (bytes_or_none start)) cs
      (record { same = refl; now = λ p lt out. refl; left = λ p lt out. refl }) in
      ap (λ (l : List ℕ). byte_at l p) is ∙ a.left p lt out
