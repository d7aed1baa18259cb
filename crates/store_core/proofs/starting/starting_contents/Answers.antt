use Rattle.std.proofs.Common.{map, ◌∙◌}
use Rattle.std.specs.Prelude.{unwrap_or}
use Rattle.std.specs.Map.{update_all}
use Rattle.store_core.specs.Stores.{no_log}
use Rattle.store_core.specs.Starting.{log_entry, same_key, same_shard}
use Rattle.store_core.proofs.StartLaws.{blobs_set, logs_set}
use Rattle.store_core.proofs.starting.starting_contents.Goals as goal

pub returns : goal.returns
returns c =
    let blobs_from = c.from.ensures.0 ∙ c.into_items.ensures in
    let shards_from = c.from-2.ensures.0 ∙ c.into_items-2.ensures in
    let blobs = c.in_ok-fill_blobs.ensures
    ∙ (λ i. update_all same_key (c.new-contents.ensures.empty i).blobs (blobs_from i))
    ∙ blobs_set c.args.blobs c.requires.keys in
    let logs = c.in_ok-fill_logs.ensures
    ∙ (λ i. update_all same_shard (c.new-contents.ensures.logs i) (map log_entry (shards_from i)))
    ∙ logs_set c.args.shards c.requires.shards in
    λ i. record { blobs = blobs i; logs = λ s. unwrap_or (logs i s) no_log }
