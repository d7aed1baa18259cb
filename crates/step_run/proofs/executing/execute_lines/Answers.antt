use Rattle.std.proofs.Common.{rules, [], ◌≡◌, ◌+◌, ◌*◌, ◌≤◌, Ok, List, length, refl, ap, subst, sym, arith}
use Rattle.std.specs.List.{AllByRecursion}
use Rattle.std.proofs.lemmas.Result.{err_from_is_err_and}
use Rattle.driving.specs.Goings.{Goes}
use Rattle.feed_text.specs.declared.limits.TheConstants.{MAX_COMMANDS}
use Rattle.step_text.specs.declared.counts.TheConstants.{MAX_POLLS}
use Rattle.step_text.specs.declared.step_lines.StepLine.{StepLine}
use Rattle.step_run.specs.declared.clients.Client.{Client}
use Rattle.step_run.specs.declared.step_faults.StepFault.{StepFault}
use Rattle.step_run.specs.Clients.{AllFit}
use Rattle.step_run.specs.Executing.{ExecutesTo, made_among}
use Rattle.step_run.specs.Faults.{FailedBy}
use Rattle.step_run.specs.Lines.{Sitting, heard_text, polls_of, sitting}
use Rattle.step_run.proofs.Running.{run_ends, run_fails, run_goes_on, run_starts, run_stops, writing_fails}
use Rattle.step_run.proofs.executing.execute_lines.Goals as goal

pub loop-line-init : goal.loop-line-init
loop-line-init g c =
    let all_is : c.from-lines.result.items ≡ c.args.lines = cc in
    let a = g.S.Store.history c.args.port.now.store in
    let count : length c.from-lines.result.items ≤ MAX_COMMANDS = subst (λ (all : List StepLine). length all ≤ MAX_COMMANDS) (sym all_is) c.requires.short.few in
    let none = c.opening-scene.ensures.polls in
    let nobody_is = ap (λ (s : Sitting). s.clients) c.opening-scene.ensures.nobody in
    let empty : length c.opening-scene.result.clients.items ≡ 0 = ap (λ (cs : List Client). length cs) nobody_is in
    let named = subst (λ (all : List StepLine). made_among all ≤ length c.args.names.now) (sym all_is) c.requires.short.named in
    record {
      over = run_starts c.args.shard a c.args.names.now c.from-lines.result.items (g.Si.Sink.taken c.args.out.now) (sitting c.opening-scene.result)
          c.opening-scene.ensures.nobody;
      ready = subst (λ (cs : List Client). AllFit c.args.shard c.opening-scene.result.polls a 0 cs) (sym nobody_is) tt;
      few = omega (arith, count, none);
      named = omega (arith, empty, named);
      each = subst (AllByRecursion (λ line. polls_of line ≤ MAX_POLLS)) (sym all_is) c.requires.short.each;
      later = omega arith;
      calls = omega arith;
    }

pub returns-in_err-heard-clause-told : goal.returns-in_err-heard-clause-told
returns-in_err-heard-clause-told g c =
    let a = g.S.Store.history c.args.port.now.store in
    let b = g.S.Store.history c.loop-line.port.store in
    let d = g.S.Store.history c.execute_line.new.port.store in
    let taken = g.Si.Sink.taken in
    let p = err_from_is_err_and c.from_residual.result c.from_residual.ensures.1 in
    rw p.1 (subst (λ (e : StepFault). Goes c.args.shard a d (λ list start es now. FailedBy c.args.shard e start es now)) (sym p.2)
    (run_fails c.args.shard a b d c.args.names.now c.from-lines.result.items c.loop-line.lines.items (taken c.args.out.now) (taken c.loop-line.out)
    (sitting c.loop-line.scene) c.in_err-heard.field-0.0 c.loop-line.invariant.over c.in_err-heard.ensures.told))

pub returns-in_err-tell-clause-told : goal.returns-in_err-tell-clause-told
returns-in_err-tell-clause-told g c =
    let a = g.S.Store.history c.args.port.now.store in
    let b = g.S.Store.history c.loop-line.port.store in
    let d = g.S.Store.history c.execute_line.new.port.store in
    let taken = g.Si.Sink.taken in
    let p = err_from_is_err_and c.from_residual-in_err-tell.result c.from_residual-in_err-tell.ensures.1 in
    let fault = c.in_err-tell.field-0.0 in
    rw p.1 (subst (λ (e : StepFault). Goes c.args.shard a d (λ list start es now. FailedBy c.args.shard e start es now)) (sym p.2)
    (run_stops c.args.shard a b d c.args.names.now c.from-lines.result.items c.loop-line.lines.items (taken c.args.out.now) (taken c.loop-line.out)
    (sitting c.loop-line.scene) _ fault (writing_fails c.args.shard fault c.in_err-tell.ensures.fault) c.loop-line.invariant.over
    c.in_ok-heard.ensures.told))

pub returns-clause-told : goal.returns-clause-told
returns-clause-told g c =
    let a = g.S.Store.history c.args.port.now.store in
    let b = g.S.Store.history c.loop-line.port.store in
    let taken = g.Si.Sink.taken in
    let all_is : c.from-lines.result.items ≡ c.args.lines = cc in
    let none : c.loop-line.lines.items ≡ [] = search rules in
    subst (λ (all : List StepLine). Goes c.args.shard a b (ExecutesTo c.args.shard (record { names = c.args.names.now; lines = all }) (taken c.args.out.now)
    (taken c.loop-line.out) (Ok tt))) all_is
    (run_ends c.args.shard a b (record { names = c.args.names.now; lines = c.from-lines.result.items }) c.loop-line.lines.items (taken c.args.out.now)
    (taken c.loop-line.out) (sitting c.loop-line.scene) none c.loop-line.invariant.over)

pub execute_line-requires-clause-few : goal.execute_line-requires-clause-few
execute_line-requires-clause-few g c =
    let split = c.in-Some.ensures.items in
    let each = subst (AllByRecursion (λ line. polls_of line ≤ MAX_POLLS)) split c.loop-line.invariant.each in
    let one = each.0 in
    let few = subst (λ (ls : List StepLine). c.loop-line.scene.polls + MAX_POLLS * length ls ≤ MAX_POLLS * MAX_COMMANDS) split c.loop-line.invariant.few in
    omega (arith, one, few)

pub execute_line-requires-clause-heads : goal.execute_line-requires-clause-heads
execute_line-requires-clause-heads g c = let named = c.loop-line.invariant.named in omega (arith, named)

pub loop-line-preserved : goal.loop-line-preserved
loop-line-preserved g c =
    let a = g.S.Store.history c.args.port.now.store in
    let b = g.S.Store.history c.loop-line.port.store in
    let d = g.S.Store.history c.execute_line.new.port.store in
    let taken = g.Si.Sink.taken in
    let heard = c.in_ok-heard.heard in
    let split = c.in-Some.ensures.items in
    let each = subst (AllByRecursion (λ line. polls_of line ≤ MAX_POLLS)) split c.loop-line.invariant.each in
    let one = each.0 in
    let few = subst (λ (ls : List StepLine). c.loop-line.scene.polls + MAX_POLLS * length ls ≤ MAX_POLLS * MAX_COMMANDS) split c.loop-line.invariant.few in
    let named = subst (λ (ls : List StepLine). length c.loop-line.scene.clients.items + made_among ls ≤ length c.args.names.now) split
    c.loop-line.invariant.named in
    let polls = c.in_ok-heard.ensures.polls in
    let made = c.in_ok-heard.ensures.made in
    let before = c.loop-line.invariant.later in
    let after = c.tell.ensures.later in
    let called = c.loop-line.invariant.calls in
    let calls = c.execute_line.ensures.later in
    record {
      over = run_goes_on c.args.shard a b d c.args.names.now c.from-lines.result.items c.loop-line.lines.items c.pop_front.new.self.items
          (taken c.args.out.now) (taken c.loop-line.out) (taken c.tell.new.out) c.in-Some.line (sitting c.loop-line.scene)
          (sitting c.execute_line.new.scene) heard (heard_text c.args.names.now heard) split refl c.loop-line.invariant.over c.in_ok-heard.ensures.told
          c.in_ok-tell.ensures.gains;
      ready = c.in_ok-heard.ensures.ready;
      few = omega (arith, one, few, polls);
      named = omega (arith, named, made);
      each = each.1;
      later = omega (arith, before, after);
      calls = omega (arith, called, calls);
    }
