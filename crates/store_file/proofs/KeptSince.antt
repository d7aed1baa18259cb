-- What a store in a file keeps of the moments since it was opened, call by call.
use Rattle.std.proofs.Common.{◌≡◌, ℕ, ◌+◌, ◌^◌, ◌<◌, Bool, true, false, not, List, [], ◌∷◌, ◌++◌, length, map}
use Rattle.std.proofs.Common.{Option, Some, None, refl, sym, ap, ◌∙◌, subst, arith, length-append}
use Rattle.std.specs.Option.{is_some}
use Rattle.std.proofs.lemmas.Bool.{cond-true, cond-false}
use Rattle.std.proofs.lemmas.List.{append-nil}
use Rattle.store_core.specs.declared.calls.Call.{Call}
use Rattle.store_core.specs.declared.entries.Entry.{Entry}
use Rattle.store_core.specs.declared.outcomes.Outcome.{Outcome}
use Rattle.store_core.specs.declared.outcomes.Outcome.TheVariants.{Took, FailedLost}
use Rattle.store_core.specs.Stores.{Stored}
use Rattle.store_core.specs.Changes.{changes}
use Rattle.store_core.specs.Histories.{replay, entry_of}
use Rattle.store_core.specs.Contents.{stored_of}
use Rattle.journal_core.specs.declared.disks.Disk.{Ghosts}
use Rattle.journal_core.specs.Disks.{DiskHistory}
use Rattle.journal_core.specs.Records.{records, record_bytes, Rests, HasAdded, AddsSafely, payloads_of}
use Rattle.journal_core.proofs.Adding.{rests_leave}
use Rattle.journal_core.proofs.Payloads.{length-at_rest, length-number_bytes, records-push}
use Rattle.journal_core.specs.Records.{number_bytes}
use Rattle.store_file.specs.declared.file_stores.FileStore.{FileStore}
use Rattle.store_file.specs.FileStores.{opened_disk, disk_of}
use Rattle.store_file.specs.Payloads.{call_in, payload_of}
use Rattle.store_file.specs.Replays.{KeepsWhereTold}
use Rattle.store_file.specs.SinceOpening.{all_done, changed, AreSpelled, to_record, SafeSince, SafeWhereTold, RecordedWhereTold, MadeStart, ToldAsMuch}
use Rattle.store_file.proofs.SinceLaws.{changed_more, changed_same, done_more, done_failed, first_of, safe_at_first, safe_same, safe_more, recorded_more, spelled_more, spelled_same}

pub record KeptSince (opened now : Option DiskHistory) (start : Stored) (trail : List Entry) (shut : Bool) : Type 0 where
  pub done : all_done trail ≡ not shut
  pub told : ToldAsMuch opened now
  pub made : MadeStart opened start
  pub spelled : AreSpelled start trail
  pub recorded : shut ≡ false → RecordedWhereTold opened start trail now
  pub safe : SafeWhereTold opened start trail now

same_history : (h k : DiskHistory) → Some h ≡ Some k → h ≡ k
same_history h k e = cc

-- where a journal rests its records end at its end
pub records_end : (h : DiskHistory) (end : ℕ) (ps : List (List ℕ)) → Rests h.now end ps → length (records ps) ≡ end
records_end h end ps rests = omega (arith, rests.ends, ap length rests.bytes, length-at_rest ps)

-- a store that was just opened
pub kept_at_first : (contents start : Stored) (end : ℕ) (opened now : Option DiskHistory) (trail : List Entry) → opened ≡ now → start ≡ contents
    → trail ≡ [] → end < 2 ^ 64 → KeepsWhereTold contents end now → KeptSince opened now start trail false
kept_at_first contents start end opened now trail here is none small keeps =
    subst (λ (o : Option DiskHistory). KeptSince o now start trail false) (sym here)
    (subst (λ (s : Stored). KeptSince now now s trail false) (sym is)
    (subst (λ (t : List Entry). KeptSince now now contents t false) (sym none) (record {
      done = refl;
      told = refl;
      made = λ o at. (keeps o at).makes;
      spelled = refl;
      recorded = λ unshut o at h is. ap (λ (d : DiskHistory). payloads_of d.now.bytes) (same_history h o (sym is ∙ at))
          ∙ sym (append-nil (payloads_of o.now.bytes));
      safe = λ o at h is. subst (λ (d : DiskHistory). SafeSince o contents [] d) (same_history o h (sym at ∙ is))
          (safe_at_first o contents [] (λ c left. first_of (length (payloads_of o.now.bytes)) (to_record o contents []) (payloads_of o.now.bytes) [] c
          refl (omega arith) (omega (arith, small, records_end o end (payloads_of o.now.bytes) (keeps o at).rests))
          (rests_leave o.now o.now end (payloads_of o.now.bytes) (keeps o at).rests refl (keeps o at).rests.apart c left)));
    })))

module _ (opened now : Option DiskHistory) (start : Stored) (trail trail2 : List Entry) where
  kept_same : (shut : Bool) → all_done trail2 ≡ not shut → changed start trail2 ≡ changed start trail → KeptSince opened now start trail shut
      → KeptSince opened now start trail2 shut
  kept_same shut done same kept = record {
    done = done;
    told = kept.told;
    made = kept.made;
    spelled = spelled_same start trail trail2 same kept.spelled;
    recorded = λ unshut o at h is. kept.recorded unshut o at h is
        ∙ ap (λ (l : List Call). payloads_of o.now.bytes ++ map payload_of l) (sym same);
    safe = λ o at h is. safe_same o start trail trail2 h same (kept.safe o at h is);
  }

  -- a call of a shut store
  pub kept_refused : (e : Entry) → trail2 ≡ trail ++ e ∷ [] → e.outcome ≡ FailedLost → KeptSince opened now start trail true
      → KeptSince opened now start trail2 true
  kept_refused e is lost kept = kept_same true (done_failed trail trail2 e is lost)
      (ap (λ (t : List Entry). changed start t) is ∙ changed_same start trail e kept.done) kept

  pub kept_shut : (shut : Bool) → shut ≡ true → (e : Entry) → trail2 ≡ trail ++ e ∷ [] → e.outcome ≡ FailedLost
      → KeptSince opened now start trail shut → KeptSince opened now start trail2 shut
  kept_shut true is_shut e is lost kept = kept_refused e is lost kept
  kept_shut false is_shut e is lost kept = absurd cc

  -- a call that is no change
  kept_looked : (e : Entry) → trail2 ≡ trail ++ e ∷ [] → e.outcome ≡ Took → changes (replay start trail) e.call ≡ false
      → KeptSince opened now start trail false → KeptSince opened now start trail2 false
  kept_looked e is took look kept = kept_same false (done_more trail trail2 e is took kept.done)
      (ap (λ (t : List Entry). changed start t) is ∙ changed_more start trail e kept.done
      ∙ ap (λ (l : List Call). changed start trail ++ l) (cond-false (changes (replay start trail) e.call) (e.call ∷ []) [] look)
      ∙ append-nil (changed start trail))
      kept

  pub kept_look : (shut : Bool) → shut ≡ false → (e : Entry) → trail2 ≡ trail ++ e ∷ [] → e.outcome ≡ Took
      → changes (replay start trail) e.call ≡ false → KeptSince opened now start trail shut → KeptSince opened now start trail2 shut
  kept_look false unshut e is took look kept = kept_looked e is took look kept
  kept_look true unshut e is took look kept = absurd cc

  -- a change, of which the disk has the record
  module _ (past : Option DiskHistory) (e : Entry) (end : ℕ) (is : trail2 ≡ trail ++ e ∷ []) (change : changes (replay start trail) e.call ≡ true)
      (back : call_in (payload_of e.call) ≡ Some e.call) (rests : (h : DiskHistory) → now ≡ Some h → Rests h.now end (payloads_of h.now.bytes))
      (room : end + length (payload_of e.call) + 10 < 2 ^ 64) (adds : AddsSafely (payload_of e.call) now past)
      (kept : KeptSince opened now start trail false) where
    more : changed start trail2 ≡ changed start trail ++ e.call ∷ []
    more = ap (λ (t : List Entry). changed start t) is ∙ changed_more start trail e kept.done
        ∙ ap (λ (l : List Call). changed start trail ++ l) (cond-true (changes (replay start trail) e.call) (e.call ∷ []) [] change)

    told_past : (a : Option DiskHistory) → AddsSafely (payload_of e.call) a past → is_some a ≡ is_some past
    told_past None none = ap is_some (sym none)
    told_past (Some h) (k, at, leaves) = ap is_some (sym at)

    safe_past : (o : DiskHistory) → opened ≡ Some o → (a : Option DiskHistory) → now ≡ a → AddsSafely (payload_of e.call) a past → (k : DiskHistory)
        → past ≡ Some k → SafeSince o start trail2 k
    safe_past o at None is_now none k past_is = let bad : None ≡ Some k = sym none ∙ past_is in absurd cc
    safe_past o at (Some h) is_now (k2, at_k, leaves) k past_is =
        let qs = payloads_of h.now.bytes in
        let p = payload_of e.call in
        subst (λ (d : DiskHistory). SafeSince o start trail2 d) (same_history k2 k (sym at_k ∙ past_is))
        (safe_more o start trail trail2 e.call h k2 more (kept.recorded refl o at h is_now)
        (omega (arith, room, records_end h end qs (rests h is_now), ap length (records-push qs p), length-append (records qs) (record_bytes p), length-append (number_bytes (length p)) p, length-number_bytes (length p)))
        leaves (kept.safe o at h is_now))

    recorded_past : (o : DiskHistory) → opened ≡ Some o → (a : Option DiskHistory) (end2 : ℕ) → now ≡ a → AddsSafely (payload_of e.call) a past
        → HasAdded (payload_of e.call) a past end2 → (k : DiskHistory) → past ≡ Some k → payloads_of k.now.bytes ≡ to_record o start trail2
    recorded_past o at None end2 is_now none added k past_is = let bad : None ≡ Some k = sym none ∙ past_is in absurd cc
    recorded_past o at (Some h) end2 is_now adds (k2, at_k, rests2, has) k past_is =
        ap (λ (d : DiskHistory). payloads_of d.now.bytes) (same_history k k2 (sym past_is ∙ at_k))
        ∙ has ∙ ap (λ (l : List (List ℕ)). l ++ payload_of e.call ∷ []) (kept.recorded refl o at h is_now)
        ∙ sym (recorded_more o start trail trail2 e.call more)

    pub kept_changed : (end2 : ℕ) → e.outcome ≡ Took → HasAdded (payload_of e.call) now past end2 → KeptSince opened past start trail2 false
    kept_changed end2 took added = record {
      done = done_more trail trail2 e is took kept.done;
      told = kept.told ∙ told_past now adds;
      made = kept.made;
      spelled = spelled_more start trail trail2 e.call more back kept.spelled;
      recorded = λ unshut o at k past_is. recorded_past o at now end2 refl adds added k past_is;
      safe = λ o at k past_is. safe_past o at now refl adds k past_is;
    }

    pub kept_lost : e.outcome ≡ FailedLost → KeptSince opened past start trail2 true
    kept_lost lost = record {
      done = done_failed trail trail2 e is lost;
      told = kept.told ∙ told_past now adds;
      made = kept.made;
      spelled = spelled_more start trail trail2 e.call more back kept.spelled;
      recorded = λ shut. absurd cc;
      safe = λ o at k past_is. safe_past o at now refl adds k past_is;
    }

-- the same in terms of a call, its copy in the trail and its record
module _ (opened now : Option DiskHistory) (start : Stored) (trail trail2 : List Entry) (shut : Bool) (unshut : shut ≡ false)
    (past : Option DiskHistory) (client : ℕ) (call copy : Call) (end : ℕ) (payload : List ℕ) (same : copy ≡ call) where
  module _ (o : Outcome) (is : trail2 ≡ trail ++ entry_of client copy o ∷ []) (change : changes (replay start trail) call ≡ true)
      (spelled : payload ≡ payload_of call) (back : call_in payload ≡ Some call)
      (rests : (h : DiskHistory) → now ≡ Some h → Rests h.now end (payloads_of h.now.bytes)) (room : end + length payload + 10 < 2 ^ 64)
      (adds : AddsSafely payload now past) (kept : KeptSince opened now start trail shut) where
    of_copy : payload ≡ payload_of copy
    of_copy = spelled ∙ ap payload_of (sym same)

    by : {T : Type 0}
        → ((change : changes (replay start trail) copy ≡ true) → (back : call_in (payload_of copy) ≡ Some copy)
        → (room : end + length (payload_of copy) + 10 < 2 ^ 64) → (adds : AddsSafely (payload_of copy) now past)
        → (kept : KeptSince opened now start trail false) → T)
        → T
    by f = f (ap (λ (c : Call). changes (replay start trail) c) same ∙ change)
        (ap call_in (sym of_copy) ∙ back ∙ ap Some (sym same))
        (subst (λ (l : List ℕ). end + length l + 10 < 2 ^ 64) of_copy room)
        (subst (λ (l : List ℕ). AddsSafely l now past) of_copy adds)
        (subst (λ (b : Bool). KeptSince opened now start trail b) unshut kept)

  pub kept_by_change : (is : trail2 ≡ trail ++ entry_of client copy Took ∷ []) (change : changes (replay start trail) call ≡ true)
      (spelled : payload ≡ payload_of call) (back : call_in payload ≡ Some call)
      (rests : (h : DiskHistory) → now ≡ Some h → Rests h.now end (payloads_of h.now.bytes)) (room : end + length payload + 10 < 2 ^ 64)
      (adds : AddsSafely payload now past) (end2 : ℕ) (added : HasAdded payload now past end2) (kept : KeptSince opened now start trail shut)
      → KeptSince opened past start trail2 shut
  kept_by_change is change spelled back rests room adds end2 added kept =
      subst (λ (b : Bool). KeptSince opened past start trail2 b) (sym unshut)
      (by Took is change spelled back rests room adds kept (λ change back room adds kept.
      kept_changed opened now start trail trail2 past (entry_of client copy Took) end is change back rests room adds kept end2 refl
      (subst (λ (l : List ℕ). HasAdded l now past end2) (spelled ∙ ap payload_of (sym same)) added)))

  pub kept_by_lost : (is : trail2 ≡ trail ++ entry_of client copy FailedLost ∷ []) (change : changes (replay start trail) call ≡ true)
      (spelled : payload ≡ payload_of call) (back : call_in payload ≡ Some call)
      (rests : (h : DiskHistory) → now ≡ Some h → Rests h.now end (payloads_of h.now.bytes)) (room : end + length payload + 10 < 2 ^ 64)
      (adds : AddsSafely payload now past) (kept : KeptSince opened now start trail shut) → KeptSince opened past start trail2 true
  kept_by_lost is change spelled back rests room adds kept =
      by FailedLost is change spelled back rests room adds kept (λ change back room adds kept.
      kept_lost opened now start trail trail2 past (entry_of client copy FailedLost) end is change back rests room adds kept refl)

-- nothing has come since
pub kept_again : (opened now : Option DiskHistory) (start : Stored) (trail trail2 : List Entry) (shut : Bool) → trail2 ≡ trail
    → KeptSince opened now start trail shut → KeptSince opened now start trail2 shut
kept_again opened now start trail trail2 shut same kept =
    subst (λ (t : List Entry). KeptSince opened now start t shut) (sym same) kept

module _ {D : Type 0} {G : Ghosts D} where
  pub kept_in : (s : FileStore D G) → KeptSince (opened_disk s) (disk_of s) (stored_of s.start.value) s.trail.items s.shut
  kept_in s = record { done = s.done; told = s.told; made = s.made; spelled = s.spelled; recorded = s.recorded; safe = s.safe }
