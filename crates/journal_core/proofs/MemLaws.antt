-- One more call of a disk in memory.
use Rattle.std.proofs.Common.{◌≡◌, ℕ, Bool, true, false, cond, List, [], ◌∷◌, ◌++◌, Option, refl, ap, ◌∙◌}
use Rattle.journal_core.specs.declared.disk_calls.DiskCall.{DiskCall}
use Rattle.journal_core.specs.Disks.{DiskHistory, fresh_disk, with_state}
use Rattle.journal_core.specs.MemDisks.{after_disk_call, after_disk_calls, disk_after, bytes_or_none}

calls-push : (h : DiskHistory) (cs : List DiskCall) (c : DiskCall)
    → after_disk_calls h (cs ++ c ∷ []) ≡ with_state (after_disk_calls h cs) (after_disk_call (after_disk_calls h cs).now c)
calls-push h [] c = refl
calls-push h (d ∷ cs) c = calls-push (with_state h (after_disk_call h.now d)) cs c

pub disk_after-push : (start : Option (List ℕ)) (cs new : List DiskCall) (c : DiskCall) → new ≡ cs ++ c ∷ []
    → disk_after start new ≡ with_state (disk_after start cs) (after_disk_call (disk_after start cs).now c)
disk_after-push start cs new c is = ap (λ l. disk_after start l) is ∙ calls-push (fresh_disk (bytes_or_none start)) cs c

-- a call that leaves the bytes as they are, noted or not
pub seen_bytes : (start : Option (List ℕ)) (cs new : List DiskCall) (c : DiskCall) (noted : Bool) → new ≡ cond noted (cs ++ c ∷ []) cs
    → (after_disk_call (disk_after start cs).now c).bytes ≡ (disk_after start cs).now.bytes
    → (disk_after start new).now.bytes ≡ (disk_after start cs).now.bytes
seen_bytes start cs new c true is same = ap (λ (h : DiskHistory). h.now.bytes) (disk_after-push start cs new c is) ∙ same
seen_bytes start cs new c false is same = ap (λ (l : List DiskCall). (disk_after start l).now.bytes) is
