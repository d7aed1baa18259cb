-- A disk that was read and repaired keeps the store that was found.
use Rattle.std.proofs.Common.{◌≡◌, ℕ, ◌^◌, ◌<◌, List, ◌∷◌, ◌++◌, length, Option, Some, None, sym, ap, subst, ◌∙◌}
use Rattle.store_core.specs.Contents.{stored_of}
use Rattle.journal_core.specs.Disks.{DiskState, DiskHistory, settled_disk}
use Rattle.journal_core.specs.Records.{records}
use Rattle.journal_core.specs.Opening.{Turns, IsSettled, HasAll, IsRepaired}
use Rattle.store_file.specs.declared.found.Found.{Found}
use Rattle.store_file.specs.Replays.{Stands, Keeps}
use Rattle.store_file.specs.Opening.{Finds}
use Rattle.store_file.specs.Causes.{IsOpened}
use Rattle.store_file.proofs.Keeping.{keeps_of}

history_is : (h k : DiskHistory) → Some h ≡ Some k → h ≡ k
history_is h k e = cc

pub opened_is : (old mid new : Option DiskHistory) (bytes : List ℕ) (len : ℕ) (f : Found) → HasAll old bytes → Turns IsSettled old mid
    → Finds bytes f → len ≡ length bytes → f.end < 2 ^ 64
    → Turns (IsRepaired f.end f.gate len) mid new → IsOpened old new f
opened_is None None new bytes len f all settled finds size small repaired = record {
  stands = λ h is. absurd cc;
  keeps = λ h is. let e : None ≡ Some h = sym repaired ∙ is in absurd cc;
}
opened_is None (Some m) new bytes len f all settled finds size small repaired = absurd cc
opened_is (Some h) None new bytes len f all settled finds size small repaired = let e : None ≡ Some settled.0 = settled.1 in absurd cc
opened_is (Some h) (Some m) new bytes len f all settled finds size small repaired =
    let mid_is : m.now ≡ settled_disk (records finds.payloads ++ f.gate ∷ finds.rest) =
    ap (λ (d : DiskHistory). d.now) (history_is m settled.0 settled.1) ∙ settled.2 ∙ ap settled_disk (sym all ∙ finds.whole) in
    let rests = repaired.2 finds.payloads finds.rest mid_is finds.place (size ∙ ap length finds.whole
    ∙ ap (λ (d : DiskState). length d.bytes) (sym mid_is)) in
    record {
      stands = λ k is. subst (λ (d : DiskHistory). Stands (stored_of f.contents) d.now.bytes) (history_is h k is) (record {
        payloads = finds.payloads;
        journal = record { gate = f.gate; rest = finds.rest; shut = finds.shut; whole = sym all ∙ finds.whole };
        makes = finds.makes;
      });
      keeps = λ k is. subst (λ (d : DiskHistory). Keeps (stored_of f.contents) f.end d) (history_is repaired.0 k (sym repaired.1 ∙ is))
          (keeps_of (stored_of f.contents) f.end finds.payloads repaired.0 small rests finds.makes);
    }

-- where the disk is told, these are its bytes
pub all_is : (o : Option DiskHistory) (bytes : List ℕ) (h : DiskHistory) → HasAll o bytes → o ≡ Some h → bytes ≡ h.now.bytes
all_is None bytes h all is = absurd cc
all_is (Some k) bytes h all is = all ∙ ap (λ (d : DiskHistory). d.now.bytes) (history_is k h is)
