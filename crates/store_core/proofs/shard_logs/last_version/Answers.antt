use Rattle.std.proofs.Common.{◌≡◌, ◌+◌, ◌-◌, suc, length, get_or, Some, sym, ap, subst, ◌∙◌, arith}
use Rattle.store_core.proofs.LogLaws.{last_of-numbered}
use Rattle.store_core.proofs.shard_logs.last_version.Goals as goal

pub returns : goal.returns
returns c =
    let vs = c.args.versions.now.items in
    let m = c.len-i.result - 1 in
    let x = c.in_ok-bytes.bytes in
    let here : x ≡ get_or vs m x = subst (λ y. y ≡ get_or vs m y) (sym c.in_ok-bytes.ensures) c.index.ensures in
    let long : length vs ≡ suc m = omega arith in
    last_of-numbered c.args.first vs m x long ∙ ap (λ b. Some (record { number = c.args.first + m; bytes = b })) (sym here)
