use Rattle.std.proofs.Common.{ℕ, Option, sym, subst}
use Rattle.std.specs.Prelude.{OnOk}
use Rattle.store_core.specs.declared.shards.ShardId.{ShardId}
use Rattle.store_core.specs.Histories.{History}
use Rattle.write_client.specs.Machining as write
use Rattle.read_client.specs.Machining as read
use Rattle.merge_client.specs.Machining as merge
use Rattle.maint_client.specs.Expiring as expire
use Rattle.step_run.specs.declared.clients.Client.{Client}
use Rattle.step_run.specs.Clients.{ClientFits, Fits}
use Rattle.step_run.proofs.begins.begin.Goals as goal

pub returns-in-Writer-clause-fits : goal.returns-in-Writer-clause-fits
returns-in-Writer-clause-fits c =
    subst (λ (k : Client). OnOk c.begin_write.result ((shard : ShardId) (number polls : ℕ) (front : Option History) → ClientFits shard number polls front k →
    Fits write.machine shard number polls front c.begin_write.new.writer)) (sym c.in-Writer.is) c.begin_write.ensures.fits

pub returns-in-Reader-clause-fits : goal.returns-in-Reader-clause-fits
returns-in-Reader-clause-fits c =
    subst (λ (k : Client). OnOk c.begin_read.result ((shard : ShardId) (number polls : ℕ) (front : Option History) → ClientFits shard number polls front k →
    Fits read.machine shard number polls front c.begin_read.new.reader)) (sym c.in-Reader.is) c.begin_read.ensures.fits

pub returns-in-Compactor-clause-fits : goal.returns-in-Compactor-clause-fits
returns-in-Compactor-clause-fits c =
    subst (λ (k : Client). OnOk c.begin_merge.result ((shard : ShardId) (number polls : ℕ) (front : Option History) → ClientFits shard number polls front k →
    Fits merge.machine shard number polls front c.begin_merge.new.compactor)) (sym c.in-Compactor.is) c.begin_merge.ensures.fits

pub returns-in-Expirer-clause-fits : goal.returns-in-Expirer-clause-fits
returns-in-Expirer-clause-fits c =
    subst (λ (k : Client). OnOk c.begin_expire.result ((shard : ShardId) (number polls : ℕ) (front : Option History) → ClientFits shard number polls front k →
    Fits expire.machine shard number polls front c.begin_expire.new.expirer.tryer)) (sym c.in-Expirer.is) c.begin_expire.ensures.fits
