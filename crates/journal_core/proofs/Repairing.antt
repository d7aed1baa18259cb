-- How a journal begins, and how its end is repaired.
use Rattle.std.proofs.Common.{◌≡◌, ℕ, ◌+◌, List, [], ◌∷◌, ◌++◌, length, take, drop, Option, Some, None, refl, sym, ap}
use Rattle.std.proofs.Common.{◌∙◌, subst, arith, append_assoc, length-append}
use Rattle.std.proofs.lemmas.Bool.{or_from}
use Rattle.std.proofs.lemmas.List.{take_at, drop_at, drop_all, append-nil, nil_from_length}
use Rattle.journal_core.specs.Disks.{DiskState, DiskHistory, byte_at, settled_disk}
use Rattle.journal_core.specs.Calls.{over, cut_span, Wrote, WasCut, WasSynced, Steps}
use Rattle.journal_core.specs.Records.{records, at_rest, magic, Rests}
use Rattle.journal_core.specs.Opening.{Turns, IsEmpty, IsBegun, IsShut, IsTrimmed, IsRepaired}
use Rattle.journal_core.proofs.Bytes.{byte_at-front}
use Rattle.journal_core.proofs.Payloads.{length-at_rest}
use Rattle.journal_core.proofs.Moments.{Told, told_first, told_step}
use Rattle.journal_core.proofs.Adding.{below_span}

turns : (how : DiskState → DiskState → Type 0) (old new : Option DiskHistory) → Told (λ h k. how h.now k.now) old new → Turns how old new
turns how None new told = told
turns how (Some h) new told = told

-- the disk is as it was
abbrev Unmoved : DiskState → DiskState → Type 0
Unmoved old new = new ≡ old

unmoved : (old : Option DiskHistory) → Told (λ h k. Unmoved h.now k.now) old old
unmoved old = told_first (λ h k. Unmoved h.now k.now) old (λ h is. refl)

-- all of these bytes are at rest, and sure
settled_rests : (end : ℕ) (payloads : List (List ℕ)) → end ≡ length (records payloads)
    → Rests (settled_disk (at_rest payloads)) end payloads
settled_rests end payloads ends = record {
  bytes = refl;
  ends = omega (arith, length-at_rest payloads);
  sure = λ p lt. refl;
  apart = λ p lt. refl;
}

none_yet : at_rest [] ≡ 80 ∷ 69 ∷ 82 ∷ 83 ∷ 74 ∷ 78 ∷ 76 ∷ 49 ∷ 0 ∷ []
unfolding magic
none_yet = refl

eight : 8 ≡ length (records [])
unfolding magic
eight = refl

begins : (head : List ℕ) (old : DiskState) → head ≡ 80 ∷ 69 ∷ 82 ∷ 83 ∷ 74 ∷ 78 ∷ 76 ∷ 49 ∷ 0 ∷ [] → old.bytes ≡ []
    → over 0 head old.bytes ≡ at_rest []
begins head old is empty = ap (λ (l : List ℕ). over 0 head l) empty ∙ drop_none head ∙ is ∙ sym none_yet
  where
    nothing_left : (n : ℕ) → drop {A = ℕ} n [] ≡ []
    nothing_left n = drop_all n [] (omega arith)

    drop_none : (head : List ℕ) → over 0 head [] ≡ head
    drop_none head = ap (λ (l : List ℕ). head ++ l) (nothing_left (0 + length head)) ∙ append-nil head

-- a journal with no record was written, and then all was sure
pub begun : (head : List ℕ) (old one two : Option DiskHistory) → head ≡ 80 ∷ 69 ∷ 82 ∷ 83 ∷ 74 ∷ 78 ∷ 76 ∷ 49 ∷ 0 ∷ [] → IsEmpty old
    → Steps (Wrote 0 head) old one → Steps WasSynced one two → Turns IsBegun old two
begun head old one two is empty first second =
    turns IsBegun old two (told_step (λ h k. Wrote 0 head h.now k.now × (h.now.bytes ≡ [])) (λ h k. IsBegun h.now k.now) WasSynced old one
    two
    (told_step (λ h k. Unmoved h.now k.now × (h.now.bytes ≡ [])) (λ h k. Wrote 0 head h.now k.now × (h.now.bytes ≡ [])) (Wrote 0 head) old
    old one
    (told_first (λ h k. Unmoved h.now k.now × (h.now.bytes ≡ [])) old (λ h known. (refl, subst IsEmpty known empty)))
    first (λ h k s same step. (subst (λ (d : DiskState). Wrote 0 head d s) same.0 step, same.1)))
    second begins_with)
  where
    begins_with : (h k : DiskHistory) (s : DiskState) → Wrote 0 head h.now k.now × (h.now.bytes ≡ []) → WasSynced k.now s → IsBegun h.now s
    begins_with h k s wrote synced =
        let now : s ≡ settled_disk (at_rest []) = synced
        ∙ ap settled_disk (ap (λ (d : DiskState). d.bytes) wrote.0 ∙ begins head h.now is wrote.1) in
        subst (λ (d : DiskState). Rests d 8 []) (sym now) (settled_rests 8 [] eight)

over_one : (front rest : List ℕ) (gate b end : ℕ) → end ≡ length front → over end (b ∷ []) (front ++ gate ∷ rest) ≡ front ++ b ∷ rest
over_one front rest gate b end ends =
    let split : front ++ gate ∷ rest ≡ (front ++ gate ∷ []) ++ rest = sym (append_assoc front (gate ∷ []) rest) in
    ap (λ (l : List ℕ). l ++ (b ∷ drop (end + 1) (front ++ gate ∷ rest))) (take_at front (gate ∷ rest) end (sym ends))
    ∙ ap (λ (l : List ℕ). front ++ b ∷ drop (end + 1) l) split
    ∙ ap (λ (l : List ℕ). front ++ b ∷ l) (drop_at (front ++ gate ∷ []) rest (end + 1) (omega (arith, length-append front (gate ∷ []))))

-- a gate was closed, and then all was sure
pub gate_shut : (end gate : ℕ) (old one two : Option DiskHistory) → Steps (Wrote end (0 ∷ [])) old one → Steps WasSynced one two
    → Turns (IsShut end gate) old two
gate_shut end gate old one two first second =
    turns (IsShut end gate) old two (told_step (λ h k. Wrote end (0 ∷ []) h.now k.now) (λ h k. IsShut end gate h.now k.now) WasSynced old
    one two
    (told_step (λ h k. Unmoved h.now k.now) (λ h k. Wrote end (0 ∷ []) h.now k.now) (Wrote end (0 ∷ [])) old old one (unmoved old) first
    (λ h k s same step. subst (λ (d : DiskState). Wrote end (0 ∷ []) d s) same step))
    second shuts)
  where
    shuts : (h k : DiskHistory) (s : DiskState) → Wrote end (0 ∷ []) h.now k.now → WasSynced k.now s → IsShut end gate h.now s
    shuts h k s wrote synced front rest is ends =
        synced ∙ ap settled_disk (ap (λ (d : DiskState). d.bytes) wrote ∙ ap (λ (d : DiskState). over end (0 ∷ []) d.bytes) is
        ∙ over_one front rest gate 0 end ends)

-- what stands behind the last gate was cut
pub trimmed : (end len : ℕ) (old new : Option DiskHistory) → Steps (WasCut (end + 1)) old new → Turns (IsTrimmed end len) old new
trimmed end len old new step =
    turns (IsTrimmed end len) old new (told_step (λ h k. Unmoved h.now k.now) (λ h k. IsTrimmed end len h.now k.now) (WasCut (end + 1))
    old old new (unmoved old) step trims)
  where
    trims : (h k : DiskHistory) (s : DiskState) → Unmoved h.now k.now → WasCut (end + 1) k.now s → IsTrimmed end len h.now s
    trims h k s same cut payloads rest is ends size_is =
        let bytes = records payloads ++ 0 ∷ rest in
        let split : bytes ≡ at_rest payloads ++ rest = sym (append_assoc (records payloads) (0 ∷ []) rest) in
        let size : length (at_rest payloads) ≡ end + 1 = omega (arith, length-at_rest payloads) in
        let front : take (end + 1) bytes ≡ at_rest payloads = ap (λ (l : List ℕ). take (end + 1) l) split
        ∙ take_at (at_rest payloads) rest (end + 1) size in
        let now : s ≡ record { bytes = at_rest payloads; settled = bytes; written = cut_span (end + 1) bytes ∷ [] } =
        cut ∙ ap (λ (d : DiskState). let b : DiskState =
        record { bytes = take (end + 1) d.bytes; settled = d.settled; written = cut_span (end + 1) d.bytes ∷ d.written } in b) (same
        ∙ is)
        ∙ ap (λ (l : List ℕ). let b : DiskState = record { bytes = l; settled = bytes; written = cut_span (end + 1) bytes ∷ [] } in b)
        front in
        subst (λ (d : DiskState). Rests d end payloads) (sym now) (record {
          bytes = refl;
          ends = sym size;
          sure = λ p lt. ap (λ (l : List ℕ). byte_at l p) split ∙ byte_at-front (at_rest payloads) rest p lt;
          apart = λ p lt. or_from _ _ (below_span (cut_span (end + 1) bytes) p (omega (arith, size))) refl;
        })

-- nothing stands behind it
pub ends_there : (end len : ℕ) (old : Option DiskHistory) → end + 1 ≡ len → Turns (IsTrimmed end len) old old
ends_there end len old short = turns (IsTrimmed end len) old old
    (told_first (λ h k. IsTrimmed end len h.now k.now) old (λ h known. rests h))
  where
    rests : (h : DiskHistory) → IsTrimmed end len h.now h.now
    rests h payloads rest is ends size =
        let old_size : length h.now.bytes ≡ length (records payloads ++ 0 ∷ rest) = ap (λ (d : DiskState). length d.bytes) is in
        let none : rest ≡ [] = nil_from_length rest (omega (arith, length-append (records payloads) (0 ∷ rest))) in
        subst (λ (d : DiskState). Rests d end payloads) (sym (is ∙ ap (λ (l : List ℕ). settled_disk (records payloads ++ 0 ∷ l)) none))
        (settled_rests end payloads ends)

-- a gate that was closed, and then what stood behind it was cut
pub repaired : (end gate len : ℕ) (old mid new : Option DiskHistory) → Turns (IsShut end gate) old mid → Turns (IsTrimmed end len) mid new
    → Turns (IsRepaired end gate len) old new
repaired end gate len None None new first second = second
repaired end gate len None (Some m) new first second = absurd cc
repaired end gate len (Some h) None new first second = let e : None ≡ Some first.0 = first.1 in absurd cc
repaired end gate len (Some h) (Some m) new first second =
    let same : m ≡ first.0 = some_is m first.0 first.1 in (
      second.0,
      second.1,
      λ payloads rest is ends size.
          let mid_is : m.now ≡ settled_disk (records payloads ++ 0 ∷ rest) = ap (λ (d : DiskHistory). d.now) same
          ∙ first.2 (records payloads) rest is ends in
          let mid_size : length m.now.bytes ≡ length (records payloads ++ 0 ∷ rest) = ap (λ (d : DiskState). length d.bytes) mid_is in
          let old_size : length h.now.bytes ≡ length (records payloads ++ gate ∷ rest) = ap (λ (d : DiskState). length d.bytes) is in
          second.2 payloads rest mid_is ends (omega
          (arith, length-append (records payloads) (0 ∷ rest), length-append (records payloads) (gate ∷ rest))),
    )
  where
    some_is : (h k : DiskHistory) → Some h ≡ Some k → h ≡ k
    some_is h k e = cc
