use Rattle.std.proofs.Common.{◌≡◌, ◌++◌, ap}
use Rattle.state_core.specs.Steps.{taken_by}
use Rattle.maint_client.proofs.TakenKeys.{with_keys_append}
use Rattle.maint_client.proofs.sweeps.add_taken.Goals as goal

pub returns-in_ok-add_keys-2 : goal.returns-in_ok-add_keys-2
returns-in_ok-add_keys-2 c =
    let left = c.in-Merge.left.parts in
    let right = c.in-Merge.right.parts in
    let first = c.in_ok-add_keys.ensures in
    let second = c.in_ok-add_keys-2.ensures in
    let left_is = c.as_slice.ensures in
    let right_is = c.as_slice-in-Merge.ensures in
    let both = with_keys_append c.args.keys.now left right in
    let taken : taken_by c.args.step.now ≡ left ++ right = ap taken_by c.in-Merge.is in
    cc
