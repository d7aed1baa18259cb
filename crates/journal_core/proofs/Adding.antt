-- What a crash leaves while a record is added.
use Rattle.std.proofs.Common.{◌≡◌, ◌≢◌, inl, inr, ℕ, ◌+◌, ◌<◌, ◌≤◌, false, List, [], ◌∷◌, ◌++◌}
use Rattle.std.proofs.Common.{length, take, drop, refl, sym, ap, ◌∙◌, subst, arith, append_assoc}
use Rattle.std.proofs.lemmas.Bool.{cases_eq, cases_lt, le-ltb, lt-leb, and_left, and_right, or_from}
use Rattle.std.proofs.lemmas.List.{take_all, take_at, drop_all, drop_at, append-nil}
use Rattle.journal_core.specs.Disks.{DiskState, Span, byte_at, touched, in_span, settled_disk}
use Rattle.journal_core.specs.Calls.{over, write_span}
use Rattle.journal_core.specs.Crashes.{LeavesNow}
use Rattle.journal_core.specs.Records.{records, at_rest, IsJournal, IsBeforeOrAfter, staged_bytes, Rests}
use Rattle.journal_core.proofs.Bytes.{agree_front, agree_but_one, agrees_before}
use Rattle.journal_core.proofs.Payloads.{length-staged, length-at_rest, opened}

pub below_span : (w : Span) (p : ℕ) → p < w.from → in_span w p ≡ false
below_span w p lt = and_left _ _ (lt-leb w.from p lt)

pub past_span : (w : Span) (p : ℕ) → w.to ≤ p → in_span w p ≡ false
past_span w p le = and_right _ _ (le-ltb p w.to le)

-- the bytes of a journal at rest, and whatever lies behind
pub at_rest_is : (payloads : List (List ℕ)) (rest : List ℕ) → IsJournal payloads (at_rest payloads ++ rest)
at_rest_is payloads rest = record { gate = 0; rest = rest; shut = omega arith; whole = append_assoc (records payloads) (0 ∷ []) rest }

-- Where nothing was written up to the end of a journal at rest that was sure, a crash leaves that journal.
pub rests_leave : (s t : DiskState) (end : ℕ) (payloads : List (List ℕ)) → Rests s end payloads → t.settled ≡ s.settled
    → ((p : ℕ) → p < length s.bytes → touched t.written p ≡ false) → LeavesNow (IsJournal payloads) t
rests_leave s t end payloads rests same apart c left =
    let front = agree_front s.bytes c (λ p lt.
    let here : byte_at t.settled p ≡ byte_at s.bytes p = ap (λ (l : List ℕ). byte_at l p) same ∙ rests.sure p lt in
    left p (agrees_before s.bytes t.settled p here lt) (apart p lt) ∙ here) in
    subst (IsJournal payloads) (sym (front.1 ∙ ap (λ (l : List ℕ). l ++ front.0) rests.bytes)) (at_rest_is payloads front.0)

-- where all is sure, a crash leaves what begins with it
pub settled_leave : (bytes : List ℕ) (P : List ℕ → Type 0) → ((rest : List ℕ) → P (bytes ++ rest)) → LeavesNow P (settled_disk bytes)
settled_leave bytes P holds c left =
    let front = agree_front bytes c (λ p lt. left p lt refl) in
    subst P (sym front.1) (holds front.0)

-- the bytes with a record behind the closed gate
abbrev pub with_staged : List (List ℕ) → List ℕ → List ℕ
with_staged payloads payload = records payloads ++ 0 ∷ staged_bytes payload

-- and with that gate open
abbrev pub with_gate : List (List ℕ) → List ℕ → List ℕ
with_gate payloads payload = records payloads ++ 1 ∷ staged_bytes payload

module _ (payloads : List (List ℕ)) (payload : List ℕ) (end : ℕ) (ends : end ≡ length (records payloads)) where
  -- the first write
  pub staged_is : (bytes : List ℕ) → bytes ≡ at_rest payloads → over (end + 1) (staged_bytes payload) bytes ≡ with_staged payloads payload
  staged_is bytes is =
      let size : length (at_rest payloads) ≡ end + 1 = omega (arith, length-at_rest payloads) in
      ap (λ (l : List ℕ). take (end + 1) l ++ (staged_bytes payload ++ drop (end + 1 + length (staged_bytes payload)) l)) is
      ∙ ap (λ (l : List ℕ). l ++ (staged_bytes payload ++ drop (end + 1 + length (staged_bytes payload)) (at_rest payloads)))
      (take_all (end + 1) (at_rest payloads) (omega arith))
      ∙ ap (λ (l : List ℕ). at_rest payloads ++ (staged_bytes payload ++ l))
      (drop_all (end + 1 + length (staged_bytes payload)) (at_rest payloads) (omega arith))
      ∙ ap (λ (l : List ℕ). at_rest payloads ++ l) (append-nil (staged_bytes payload))
      ∙ append_assoc (records payloads) (0 ∷ []) (staged_bytes payload)

  -- the second
  pub gate_is : (bytes : List ℕ) → bytes ≡ with_staged payloads payload → over end (1 ∷ []) bytes ≡ with_gate payloads payload
  gate_is bytes is =
      let split : with_staged payloads payload ≡ (records payloads ++ 0 ∷ []) ++ staged_bytes payload =
      sym (append_assoc (records payloads) (0 ∷ []) (staged_bytes payload)) in
      ap (λ (l : List ℕ). take end l ++ (1 ∷ drop (end + 1) l)) is
      ∙ ap (λ (l : List ℕ). l ++ (1 ∷ drop (end + 1) (with_staged payloads payload)))
      (take_at (records payloads) (0 ∷ staged_bytes payload) end (sym ends))
      ∙ ap (λ (l : List ℕ). records payloads ++ 1 ∷ drop (end + 1) l) split
      ∙ ap (λ (l : List ℕ). records payloads ++ 1 ∷ l)
      (drop_at (at_rest payloads) (staged_bytes payload) (end + 1) (omega (arith, length-at_rest payloads)))

  -- the journal with one more record
  pub gate_opened : with_gate payloads payload ≡ at_rest (payloads ++ payload ∷ [])
  gate_opened = ap (λ (l : List ℕ). records payloads ++ 1 ∷ l) (sym (append-nil (staged_bytes payload))) ∙ opened payloads payload []

  -- behind a closed gate the record doesn't count
  pub staged_leave : LeavesNow (IsBeforeOrAfter payloads payload) (settled_disk (with_staged payloads payload))
  staged_leave = settled_leave (with_staged payloads payload) (IsBeforeOrAfter payloads payload)
      (λ rest. inl (record {
        gate = 0;
        rest = staged_bytes payload ++ rest;
        shut = omega arith;
        whole = append_assoc (records payloads) (0 ∷ staged_bytes payload) rest;
      }))

  -- Once it is sure it counts or it doesn't, whatever stands in the gate.
  pub gate_leave : (s : DiskState) → s.settled ≡ with_staged payloads payload → s.written ≡ write_span end 1 ∷ []
      → LeavesNow (IsBeforeOrAfter payloads payload) s
  gate_leave s settled written c left =
      let agree = λ (p : ℕ) (lt : p < length (with_staged payloads payload)) (other : p ≢ length (records payloads)).
      let apart : touched s.written p ≡ false = ap (λ (ws : List Span). touched ws p) written ∙ outside p (λ e. other (omega arith)) in
      let inside : p < length s.settled = subst (λ (l : List ℕ). p < length l) (sym settled) lt in
      left p inside apart ∙ ap (λ (l : List ℕ). byte_at l p) settled in
      let found = agree_but_one (records payloads) 0 (staged_bytes payload) c (omega (arith, length-staged payload)) agree in
      subst (IsBeforeOrAfter payloads payload) (sym found.2) (counts found.0 found.1)
    where
      outside : (p : ℕ) → p ≢ end → touched (write_span end 1 ∷ []) p ≡ false
      outside p other = elim (cases_lt p end) [
        | inl lt ↦ or_from _ _ (below_span (write_span end 1) p lt) refl
        | inr le ↦ or_from _ _ (past_span (write_span end 1) p (past p other le)) refl
      ]
        where
          past : (p : ℕ) → p ≢ end → end ≤ p → end + 1 ≤ p
          past p other le = grind arith

      counts : (gate : ℕ) (rest : List ℕ) → IsBeforeOrAfter payloads payload (records payloads ++ gate ∷ (staged_bytes payload ++ rest))
      counts gate rest = elim (cases_eq gate 1) [
        | inl is_open ↦ inr (record {
          gate = 0;
          rest = rest;
          shut = omega arith;
          whole = ap (λ (g : ℕ). records payloads ++ g ∷ (staged_bytes payload ++ rest)) is_open ∙ opened payloads payload rest;
        })
        | inr shut ↦ inl (record { gate = gate; rest = staged_bytes payload ++ rest; shut = shut; whole = refl })
      ]
