use Rattle.std.proofs.Common.{◌≡◌, ◌-◌, min, length, arith}
use Rattle.store_core.proofs.LogLaws.{scan_begins}
use Rattle.store_core.proofs.shard_logs.scanned.Goals as goal

pub returns : goal.returns
returns c =
    let versions = c.args.versions.now.items in
    let place : c.place_of-start.result ≡ min (c.args.from - c.args.first) (length versions) = omega arith in
    rw (scan_begins c.args.from c.args.first versions c.place_of-start.result place) c.versions_from.ensures
