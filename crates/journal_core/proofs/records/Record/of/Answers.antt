use Rattle.std.proofs.Common.{length, sym, ap}
use Rattle.journal_core.proofs.Payloads.{staged_payload-is}
use Rattle.journal_core.proofs.records.Record.of.Goals as goal

pub invariant_of-result : goal.invariant_of-result
invariant_of-result c =
    let is = staged_payload-is c.args.payload.now c.in_ok-bytes.bytes.items c.in_ok-bytes.ensures in
    (rw is c.in_ok-bytes.ensures, ap length (sym is))

pub returns : goal.returns
returns c = staged_payload-is c.args.payload.now c.in_ok-bytes.bytes.items c.in_ok-bytes.ensures
