-- The four calls that add a record, over a disk that may tell what it is.
use Rattle.std.proofs.Common.{◌≡◌, inl, inr, ℕ, ◌+◌, ◌^◌, ◌<◌, List, [], ◌∷◌, ◌++◌, length, Option, Some, None}
use Rattle.std.proofs.Common.{refl, sym, ap, ◌∙◌, subst, arith, length-append}
use Rattle.std.proofs.lemmas.Bool.{or_from}
use Rattle.std.proofs.lemmas.List.{append-nil}
use Rattle.journal_core.specs.Disks.{DiskState, DiskHistory, Span, with_state, touched, settled_disk}
use Rattle.journal_core.specs.Calls.{over, write_span, Same, Wrote, MayHaveWritten, WasSynced, Steps, MayStep, Reaches}
use Rattle.journal_core.specs.Crashes.{LeavesNow, Leaves}
use Rattle.journal_core.specs.Records.{records, record_bytes, at_rest, IsJournal, IsBeforeOrAfter, staged_bytes, payloads_of, Rests}
use Rattle.journal_core.specs.Records.{IsAtRest, HasAdded, AddsSafely}
use Rattle.journal_core.proofs.Payloads.{length-at_rest, length-record, records-push, journal_read}
use Rattle.journal_core.proofs.Moments.{leaves_first, leaves_more, leaves_same, Told, told_step, told_may_step, told_so}
use Rattle.journal_core.proofs.Adding.{below_span, at_rest_is, rests_leave, settled_leave, with_staged, with_gate, staged_is, gate_is}
use Rattle.journal_core.proofs.Adding.{gate_opened, staged_leave, gate_leave}

-- at rest there are as many bytes as records have, and a gate
rests_size : (s : DiskState) (end : ℕ) (payloads : List (List ℕ)) → Rests s end payloads → end ≡ length (records payloads)
rests_size s end payloads rests = omega (arith, rests.ends, ap length rests.bytes, length-at_rest payloads)

module _ (end : ℕ) (payload : List ℕ) where
  -- what a crash may leave at any moment
  abbrev Either : DiskHistory → List ℕ → Type 0
  Either h = IsBeforeOrAfter (payloads_of h.now.bytes) payload

  -- the disk is as it was
  record Begun (h k : DiskHistory) : Type 0 where
    pub rests : Rests h.now end (payloads_of h.now.bytes)
    pub same : k ≡ h

  -- the record was written, or some of it
  record Writing (h k : DiskHistory) : Type 0 where
    pub rests : Rests h.now end (payloads_of h.now.bytes)
    pub settled : k.now.settled ≡ h.now.settled
    pub written : k.now.written ≡ write_span (end + 1) (length (staged_bytes payload)) ∷ h.now.written
    pub safe : Leaves (Either h) h k

  -- all of it
  record Staged (h k : DiskHistory) : Type 0 where
    pub writing : Writing h k
    pub bytes : k.now.bytes ≡ with_staged (payloads_of h.now.bytes) payload

  -- and it is sure
  record Sure (h k : DiskHistory) : Type 0 where
    pub rests : Rests h.now end (payloads_of h.now.bytes)
    pub now : k.now ≡ settled_disk (with_staged (payloads_of h.now.bytes) payload)
    pub safe : Leaves (Either h) h k

  -- the gate was written
  record Opening (h k : DiskHistory) : Type 0 where
    pub rests : Rests h.now end (payloads_of h.now.bytes)
    pub settled : k.now.settled ≡ with_staged (payloads_of h.now.bytes) payload
    pub written : k.now.written ≡ write_span end 1 ∷ []
    pub safe : Leaves (Either h) h k

  record Opened (h k : DiskHistory) : Type 0 where
    pub is_opening : Opening h k
    pub bytes : k.now.bytes ≡ with_gate (payloads_of h.now.bytes) payload

  -- and it is sure
  record Done (h k : DiskHistory) : Type 0 where
    pub rests : Rests h.now end (payloads_of h.now.bytes)
    pub now : k.now ≡ settled_disk (with_gate (payloads_of h.now.bytes) payload)
    pub safe : Leaves (Either h) h k

  begun_leaves : (h : DiskHistory) → Rests h.now end (payloads_of h.now.bytes) → Leaves (Either h) h h
  begun_leaves h rests = leaves_first (Either h) h
      (λ c left. inl (rests_leave h.now h.now end (payloads_of h.now.bytes) rests refl rests.apart c left))

  begun_safe : (h k : DiskHistory) → Begun h k → Leaves (Either h) h k
  begun_safe h k begun = subst (λ (d : DiskHistory). Leaves (Either h) h d) (sym begun.same) (begun_leaves h begun.rests)

  -- the first write, done or not
  writing_next : (h k : DiskHistory) (s : DiskState) → Begun h k → s.settled ≡ k.now.settled
      → s.written ≡ write_span (end + 1) (length (staged_bytes payload)) ∷ k.now.written → Writing h (with_state k s)
  writing_next h k s begun settled written =
      let same : k.now ≡ h.now = ap (λ (d : DiskHistory). d.now) begun.same in
      let settled_is : s.settled ≡ h.now.settled = settled ∙ ap (λ (d : DiskState). d.settled) same in
      let written_is : s.written ≡ write_span (end + 1) (length (staged_bytes payload)) ∷ h.now.written =
      written ∙ ap (λ (d : DiskState). write_span (end + 1) (length (staged_bytes payload)) ∷ d.written) same in
      let apart = λ (p : ℕ) (lt : p < length h.now.bytes).
      ap (λ (ws : List Span). touched ws p) written_is
      ∙ or_from _ _ (below_span (write_span (end + 1) (length (staged_bytes payload))) p (omega (arith, begun.rests.ends)))
      (begun.rests.apart p lt) in
      record {
        rests = begun.rests;
        settled = settled_is;
        written = written_is;
        safe = leaves_more (Either h) h k s (begun_safe h k begun)
            (λ c left. inl (rests_leave h.now s end (payloads_of h.now.bytes) begun.rests settled_is apart c left));
      }

  wrote : (h k : DiskHistory) (s : DiskState) → Begun h k → Wrote (end + 1) (staged_bytes payload) k.now s → Staged h (with_state k s)
  wrote h k s begun step =
      let same : k.now ≡ h.now = ap (λ (d : DiskHistory). d.now) begun.same in
      let ps = payloads_of h.now.bytes in
      record {
        writing = writing_next h k s begun (ap (λ (d : DiskState). d.settled) step) (ap (λ (d : DiskState). d.written) step);
        bytes = ap (λ (d : DiskState). d.bytes) step ∙ ap (λ (d : DiskState). over (end + 1) (staged_bytes payload) d.bytes) same
            ∙ staged_is ps payload end (rests_size h.now end ps begun.rests) h.now.bytes begun.rests.bytes;
      }

  may_have_written : (h k : DiskHistory) (s : DiskState) → Begun h k → MayHaveWritten (end + 1) (staged_bytes payload) k.now s
      → Leaves (Either h) h (with_state k s)
  may_have_written h k s begun step = (writing_next h k s begun (ap (λ (d : DiskState). d.settled) step.2)
      (ap (λ (d : DiskState). d.written) step.2)).safe

  -- a sync that failed
  not_synced : (h k : DiskHistory) (s : DiskState) → Staged h k → Same k.now s → Leaves (Either h) h (with_state k s)
  not_synced h k s staged step = leaves_same (Either h) h k s staged.writing.safe step

  -- and one that didn't
  synced : (h k : DiskHistory) (s : DiskState) → Staged h k → WasSynced k.now s → Sure h (with_state k s)
  synced h k s staged step =
      let ps = payloads_of h.now.bytes in
      let rests = staged.writing.rests in
      let now : s ≡ settled_disk (with_staged ps payload) = step ∙ ap settled_disk staged.bytes in
      record {
        rests = rests;
        now = now;
        safe = leaves_more (Either h) h k s staged.writing.safe
            (subst (LeavesNow (Either h)) (sym now) (staged_leave ps payload end (rests_size h.now end ps rests)));
      }

  -- the second write, done or not
  opening_next : (h k : DiskHistory) (s : DiskState) → Sure h k → s.settled ≡ k.now.settled → s.written ≡ write_span end 1 ∷ k.now.written
      → Opening h (with_state k s)
  opening_next h k s sure settled written =
      let ps = payloads_of h.now.bytes in
      let settled_is : s.settled ≡ with_staged ps payload = settled ∙ ap (λ (d : DiskState). d.settled) sure.now in
      let written_is : s.written ≡ write_span end 1 ∷ [] = written ∙ ap (λ (d : DiskState). write_span end 1 ∷ d.written) sure.now in
      record {
        rests = sure.rests;
        settled = settled_is;
        written = written_is;
        safe = leaves_more (Either h) h k s sure.safe
            (gate_leave ps payload end (rests_size h.now end ps sure.rests) s settled_is written_is);
      }

  gate_wrote : (h k : DiskHistory) (s : DiskState) → Sure h k → Wrote end (1 ∷ []) k.now s → Opened h (with_state k s)
  gate_wrote h k s sure step =
      let ps = payloads_of h.now.bytes in
      record {
        is_opening = opening_next h k s sure (ap (λ (d : DiskState). d.settled) step) (ap (λ (d : DiskState). d.written) step);
        bytes = ap (λ (d : DiskState). d.bytes) step ∙ ap (λ (d : DiskState). over end (1 ∷ []) d.bytes) sure.now
            ∙ gate_is ps payload end (rests_size h.now end ps sure.rests) (with_staged ps payload) refl;
      }

  gate_may_have_been_written : (h k : DiskHistory) (s : DiskState) → Sure h k → MayHaveWritten end (1 ∷ []) k.now s
      → Leaves (Either h) h (with_state k s)
  gate_may_have_been_written h k s sure step = (opening_next h k s sure (ap (λ (d : DiskState). d.settled) step.2)
      (ap (λ (d : DiskState). d.written) step.2)).safe

  gate_not_synced : (h k : DiskHistory) (s : DiskState) → Opened h k → Same k.now s → Leaves (Either h) h (with_state k s)
  gate_not_synced h k s opened step = leaves_same (Either h) h k s opened.is_opening.safe step

  gate_synced : (h k : DiskHistory) (s : DiskState) → Opened h k → WasSynced k.now s → Done h (with_state k s)
  gate_synced h k s opened step =
      let ps = payloads_of h.now.bytes in
      let now : s ≡ settled_disk (with_gate ps payload) = step ∙ ap settled_disk opened.bytes in
      let ends = rests_size h.now end ps opened.is_opening.rests in
      record {
        rests = opened.is_opening.rests;
        now = now;
        safe = leaves_more (Either h) h k s opened.is_opening.safe
            (subst (LeavesNow (Either h)) (sym (now ∙ ap settled_disk (gate_opened ps payload end ends)))
            (settled_leave (at_rest (ps ++ payload ∷ [])) (Either h) (λ rest. inr (at_rest_is (ps ++ payload ∷ []) rest))));
      }

  -- then the disk is at rest with one more
  done_rests : (h k : DiskHistory) → Done h k → Rests k.now (end + length payload + 9) (payloads_of h.now.bytes ++ payload ∷ [])
  done_rests h k done =
      let ps = payloads_of h.now.bytes in
      let ends = rests_size h.now end ps done.rests in
      let now : k.now ≡ settled_disk (at_rest (ps ++ payload ∷ [])) = done.now ∙ ap settled_disk (gate_opened ps payload end ends) in
      let size : end + length payload + 9 + 1 ≡ length (at_rest (ps ++ payload ∷ [])) =
      omega (
        arith,
        ends,
        length-at_rest (ps ++ payload ∷ []),
        ap length (records-push ps payload),
        length-append (records ps) (record_bytes payload),
        length-record payload,
      ) in
      subst (λ (s : DiskState). Rests s (end + length payload + 9) (ps ++ payload ∷ [])) (sym now)
      (record { bytes = refl; ends = size; sure = λ p lt. refl; apart = λ p lt. refl })

  done_added : (h k : DiskHistory) → end + length payload + 10 < 2 ^ 64 → Done h k
      → Rests k.now (end + length payload + 9) (payloads_of h.now.bytes ++ payload ∷ [])
      × (payloads_of k.now.bytes ≡ payloads_of h.now.bytes ++ payload ∷ [])
  done_added h k room done =
      let ps = payloads_of h.now.bytes ++ payload ∷ [] in
      let rests = done_rests h k done in (
        rests,
        journal_read ps k.now.bytes (omega (arith, rests.ends, ap length rests.bytes, length-at_rest ps))
            (subst (IsJournal ps) (sym (rests.bytes ∙ sym (append-nil (at_rest ps)))) (at_rest_is ps [])),
      )

  -- ---- over a disk that may not tell

  begun : (old : Option DiskHistory) → IsAtRest old end → Told Begun old old
  begun None rests = refl
  begun (Some h) rests = (h, refl, record { rests = rests; same = refl })

  safely : (old new : Option DiskHistory) → Told (λ h k. Leaves (Either h) h k) old new → AddsSafely payload old new
  safely None new told = told
  safely (Some h) new told = told

  module _ (old one : Option DiskHistory) (rests : IsAtRest old end) where
    pub first_failed : MayStep (MayHaveWritten (end + 1) (staged_bytes payload)) old one → AddsSafely payload old one
    first_failed failed = safely old one (told_may_step Begun (λ h k. Leaves (Either h) h k)
        (MayHaveWritten (end + 1) (staged_bytes payload)) old old one (begun old rests) failed begun_safe may_have_written)

    module _ (first : Steps (Wrote (end + 1) (staged_bytes payload)) old one) (two : Option DiskHistory) where
      staged : Told Staged old one
      staged = told_step Begun Staged (Wrote (end + 1) (staged_bytes payload)) old old one (begun old rests) first wrote

      pub second_failed : MayStep Same one two → AddsSafely payload old two
      second_failed failed = safely old two (told_may_step Staged (λ h k. Leaves (Either h) h k) Same old one two staged failed
          (λ h k s. s.writing.safe) not_synced)

      module _ (second : Steps WasSynced one two) where
        sure : Told Sure old two
        sure = told_step Staged Sure WasSynced old one two staged second synced

        pub gate_there : Reaches two end
        gate_there = reach old two sure
          where
            reach : (old two : Option DiskHistory) → Told Sure old two → Reaches two end
            reach None two told = subst (λ (o : Option DiskHistory). Reaches o end) (sym told) tt
            reach (Some h) two told =
                let s = told.2 in
                let ends = rests_size h.now end (payloads_of h.now.bytes) s.rests in
                subst (λ (o : Option DiskHistory). Reaches o end) (sym told.1)
                (omega (
                  arith,
                  ap (λ (d : DiskState). length d.bytes) s.now,
                  length-append (records (payloads_of h.now.bytes)) (0 ∷ staged_bytes payload),
                ))

        module _ (three : Option DiskHistory) where
          pub third_failed : MayStep (MayHaveWritten end (1 ∷ [])) two three → AddsSafely payload old three
          third_failed failed = safely old three (told_may_step Sure (λ h k. Leaves (Either h) h k) (MayHaveWritten end (1 ∷ [])) old two
              three sure failed (λ h k s. s.safe) gate_may_have_been_written)

          module _ (third : Steps (Wrote end (1 ∷ [])) two three) (four : Option DiskHistory) where
            opened_told : Told Opened old three
            opened_told = told_step Sure Opened (Wrote end (1 ∷ [])) old two three sure third gate_wrote

            pub fourth_failed : MayStep Same three four → AddsSafely payload old four
            fourth_failed failed = safely old four
                (told_may_step Opened (λ h k. Leaves (Either h) h k) Same old three four opened_told failed (λ h k s. s.is_opening.safe)
                gate_not_synced)

            module _ (fourth : Steps WasSynced three four) where
              done : Told Done old four
              done = told_step Opened Done WasSynced old three four opened_told fourth gate_synced

              pub done_safely : AddsSafely payload old four
              done_safely = safely old four (told_so Done (λ h k. Leaves (Either h) h k) old four done (λ h k d. d.safe))

              pub has_added : end + length payload + 10 < 2 ^ 64 → (end2 : ℕ) → end2 ≡ end + length payload + 9
                  → HasAdded payload old four end2
              has_added room end2 is = subst (HasAdded payload old four) (sym is) (added old four done)
                where
                  added : (old four : Option DiskHistory) → Told Done old four → HasAdded payload old four (end + length payload + 9)
                  added None four told = tt
                  added (Some h) four told = (told.0, told.1, (done_added h told.0 room told.2).0, (done_added h told.0 room told.2).1)
