use Rattle.std.proofs.Common.{◌<◌, ℕ, Result, sym, subst, ap}
use Rattle.std.specs.Prelude.{OnOk}
use Rattle.store_core.specs.declared.shards.ShardId.{ShardId}
use Rattle.plain_run.specs.declared.session_faults.SessionFault.{SessionFault}
use Rattle.plain_run.specs.Answering.{Ready, Tends, number_of}
use Rattle.plain_run.specs.declared.sessions.Session.{Session}
use Rattle.driving.specs.Goings.{Goes, GrowsBy}
use Rattle.plain_run.proofs.ReplyLaws.{on_reply}
use Rattle.plain_run.proofs.TendLaws.{both_wait, ready_numbered}
use Rattle.plain_run.proofs.sessions.Session.collect.Goals as goal

pub returns-clause-told : goal.returns-clause-told
returns-clause-told g c =
    let s = c.args.self.now in
    let same = c.next_client-client.ensures.same in
    let told = c.collect_once.ensures.told (number_of s.reader) in
    subst (λ (shard : ShardId). Goes shard (g.S.Store.history c.args.port.now.store) (g.S.Store.history c.collect_once.new.port.store)
    (Tends shard (number_of s.reader) c.collect_once.result)) (ap (λ (t : Session). t.place.shard) same) told

pub returns-clause-ready : goal.returns-clause-ready
returns-clause-ready g c =
    let a = g.S.Store.history c.args.port.now.store in
    let d = g.S.Store.history c.collect_once.new.port.store in
    let s = c.args.self.now in
    let t = c.next_client-client.new.self in
    let numbered = ready_numbered a s t c.next_client-client.ensures.same c.next_client-client.ensures.rises c.requires.ready in
    let number = c.next_client-client.ensures.number in
    let above_writer = subst (λ (n : ℕ). s.place.writer < n) (sym number) c.requires.ready.above_writer in
    let above_reader = subst (λ (n : ℕ). s.place.reader < n) (sym number) c.requires.ready.above_reader in
    let same = c.next_client-client.ensures.same in
    on_reply c.collect_once.result (Ready d t) (λ done is.
    both_wait t a d c.next_client-client.result
    (subst (λ (u : Session). u.place.writer < c.next_client-client.result) (sym same) above_writer)
    (subst (λ (u : Session). u.place.reader < c.next_client-client.result) (sym same) above_reader)
    (subst (λ (r : Result Unit SessionFault). OnOk r (GrowsBy c.next_client-client.result a d)) is c.collect_once.ensures.by) numbered)
