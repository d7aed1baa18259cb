use Rattle.step_run.proofs.ByKind.{collects_polled, expires_polled, merges_polled, reads_polled, writes_polled}
use Rattle.step_run.proofs.KindLaws.{collects, merges, reads, writes}
use Rattle.step_run.proofs.kinds.step_client.Goals as goal

pub step_open-requires-clause-laws : goal.step_open-requires-clause-laws
step_open-requires-clause-laws g c = writes

pub returns-in-Writer-clause-told : goal.returns-in-Writer-clause-told
returns-in-Writer-clause-told g c =
    let a = g.S.Store.history c.args.port.now.store in
    let d = g.S.Store.history c.step_open.new.port.store in
    writes_polled c.args.shard c.args.port.now.client c.args.polls a d c.args.client.now c.in-Writer.writer _ c.step_open.result c.in-Writer.is c.step_open.ensures.told

pub step_open-requires-in-Reader-clause-laws : goal.step_open-requires-in-Reader-clause-laws
step_open-requires-in-Reader-clause-laws g c = reads

pub returns-in-Reader-clause-told : goal.returns-in-Reader-clause-told
returns-in-Reader-clause-told g c =
    let a = g.S.Store.history c.args.port.now.store in
    let d = g.S.Store.history c.step_open-in-Reader.new.port.store in
    reads_polled c.args.shard c.args.port.now.client c.args.polls a d c.args.client.now c.in-Reader.reader _ c.step_open-in-Reader.result c.in-Reader.is c.step_open-in-Reader.ensures.told

pub step_open-requires-in-Compactor-clause-laws : goal.step_open-requires-in-Compactor-clause-laws
step_open-requires-in-Compactor-clause-laws g c = merges

pub returns-in-Compactor-clause-told : goal.returns-in-Compactor-clause-told
returns-in-Compactor-clause-told g c =
    let a = g.S.Store.history c.args.port.now.store in
    let d = g.S.Store.history c.step_open-in-Compactor.new.port.store in
    merges_polled c.args.shard c.args.port.now.client c.args.polls a d c.args.client.now c.in-Compactor.compactor _ c.step_open-in-Compactor.result c.in-Compactor.is c.step_open-in-Compactor.ensures.told

pub step_open-requires-in-Collector-clause-laws : goal.step_open-requires-in-Collector-clause-laws
step_open-requires-in-Collector-clause-laws g c = collects

pub returns-in-Collector-clause-told : goal.returns-in-Collector-clause-told
returns-in-Collector-clause-told g c =
    let a = g.S.Store.history c.args.port.now.store in
    let d = g.S.Store.history c.step_open-in-Collector.new.port.store in
    collects_polled c.args.shard c.args.port.now.client c.args.polls a d c.args.client.now c.in-Collector.collector _ c.step_open-in-Collector.result c.in-Collector.is c.step_open-in-Collector.ensures.told

pub returns-in-Expirer-clause-told : goal.returns-in-Expirer-clause-told
returns-in-Expirer-clause-told g c =
    let a = g.S.Store.history c.args.port.now.store in
    let d = g.S.Store.history c.step_expirer.new.port.store in
    expires_polled c.args.shard c.args.port.now.client c.args.polls a d c.args.client.now c.in-Expirer.expirer _ c.step_expirer.result c.in-Expirer.is c.step_expirer.ensures.told
