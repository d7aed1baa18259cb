use Rattle.std.proofs.Common.{◌≡◌, ◌^◌, ◌<◌, List, ℕ, ◌∷◌, sym, ap, subst, ◌∙◌, length, arith, rules, length-append}
use Rattle.store_core.specs.Contents.{stored_of}
use Rattle.journal_core.specs.Records.{records}
use Rattle.store_file.specs.Replays.{Stands}
use Rattle.store_file.specs.Opening.{Finds}
use Rattle.store_file.proofs.OpenLaws.{opened_is, all_is}
use Rattle.store_file.proofs.Splits.{from_outside, one_store}
use Rattle.store_file.proofs.opened.opened.Goals as goal

pub returns-clause-ok : goal.returns-clause-ok
returns-clause-ok g c =
    let f = c.in-Ok.found in
    let finds = subst (λ (l : List ℕ). Finds l f) c.deref.ensures.value c.in-Ok.ensures.found in
    let size : c.len-len.result ≡ length c.in_ok-bytes.bytes.items = search rules in
    let small : f.end < 2 ^ 64 = omega (
      arith,
      finds.place,
      size,
      ap length finds.whole,
      length-append (records finds.payloads) (f.gate ∷ finds.rest),
    ) in
    opened_is (g.D.Disk.history c.args.disk.now) (g.D.Disk.history c.load.new.disk) (g.D.Disk.history c.repair.new.disk)
    c.in_ok-bytes.bytes.items c.len-len.result f
    c.in_ok-bytes.ensures.bytes c.in_ok-bytes.ensures.settled finds size small c.in_ok-repair.ensures.ok

pub returns-clause-whole : goal.returns-clause-whole
returns-clause-whole g c s h is stands =
    let f = c.in-Ok.found in
    let bytes : c.deref.result.now ≡ h.now.bytes = c.deref.ensures.value
    ∙ all_is (g.D.Disk.history c.args.disk.now) c.in_ok-bytes.bytes.items h c.in_ok-bytes.ensures.bytes is in
    let finds = c.in-Ok.ensures.found in
    one_store c.deref.result.now (stored_of f.contents) s c.found_in.ensures.few
    (record {
      payloads = finds.payloads;
      journal = record { gate = f.gate; rest = finds.rest; shut = finds.shut; whole = finds.whole };
      makes = finds.makes;
    })
    (subst (λ (l : List ℕ). Stands s l) (sym bytes) stands)

pub returns-in-Err-clause-whole : goal.returns-in-Err-clause-whole
returns-in-Err-clause-whole g c s h is stands =
    let bytes : c.deref.result.now ≡ h.now.bytes = c.deref.ensures.value
    ∙ all_is (g.D.Disk.history c.args.disk.now) c.in_ok-bytes.bytes.items h c.in_ok-bytes.ensures.bytes is in
    from_outside c.deref.result.now c.in-Err.why s c.found_in.ensures.few c.in-Err.ensures.fault
    (subst (λ (l : List ℕ). Stands s l) (sym bytes) stands)
