use Rattle.std.proofs.Common.{Some, sym, ap, subst, map, ◌∙◌}
use Rattle.std.specs.List.{AllByRecursion}
use Rattle.std.specs.Map.{update_all}
use Rattle.std.specs.BTreeMap.{get}
use Rattle.store_core.specs.Stores.{shard_cmp, set_at}
use Rattle.store_core.specs.Starting.{CanStart, log_entry, same_shard}
use Rattle.store_core.proofs.starting.fill_logs.Goals as goal

pub loop-shard-preserved : goal.loop-shard-preserved
loop-shard-preserved c =
    let rest = map log_entry c.pop_front.new.self.items in
    let before = get shard_cmp c.loop-shard.into in
    record {
      start = (subst (λ xs. AllByRecursion CanStart xs) c.in-Some.ensures.items c.loop-shard.invariant.start).1;
      filled = ap (λ m. update_all same_shard m rest) c.in_ok-set_log.ensures
          ∙ ap (λ l. update_all same_shard (set_at shard_cmp before c.in-Some.shard (Some l)) rest) c.log_of.ensures
          ∙ ap (λ xs. update_all same_shard before (map log_entry xs)) (sym c.in-Some.ensures.items)
          ∙ c.loop-shard.invariant.filled;
    }
