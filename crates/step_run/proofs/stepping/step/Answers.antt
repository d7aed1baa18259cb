use Rattle.std.proofs.Common.{◌≡◌, ◌<◌, ◌≤◌, ◌+◌, ℕ, Ok, refl, sym, ap, subst, ◌∙◌, arith}
use Rattle.std.proofs.lemmas.Result.{err_from_is_err_and}
use Rattle.update_core.specs.Limits.{most}
use Rattle.machine_core.specs.Machines.{shard_of}
use Rattle.machine_core.specs.Polling.{FollowsWhere, Unpolled}
use Rattle.driving.specs.Goings.{Goes}
use Rattle.driving.proofs.GoingLaws.{others_kept}
use Rattle.step_run.specs.declared.step_faults.StepFault.{StepFault}
use Rattle.step_run.specs.Faults.{FailedBy}
use Rattle.step_run.proofs.Turns.{SoFar, polls_damaged, polls_done, polls_end, polls_fault, polls_memory, polls_more, polls_spent, so_far_start, turned}
use Rattle.step_run.proofs.stepping.step.Goals as goal
use Rattle.step_run.proofs.stepping.step.Goals.{in-Busy, in-Fault, in-More}

pub loop-init : goal.loop-init
loop-init g c = record {
  so_far = so_far_start g.M.Machine.words c.args.port.now.client c.args.machine.now (g.S.Store.history c.args.port.now.store) c.requires.open c.requires.cost;
  sound = c.requires.sound;
  follows = c.requires.follows;
  failed = omega arith;
  client = refl;
  calls = omega arith;
}

pub poll-requires-clause-open : goal.poll-requires-clause-open
poll-requires-clause-open g c = c.loop.invariant.so_far.is_open

pub poll-requires-clause-follows : goal.poll-requires-clause-follows
poll-requires-clause-follows g c =
    let l = c.loop in
    subst (λ (n : ℕ). FollowsWhere g.M.Machine.words n (g.S.Store.history l.port.store) l.machine)
    (sym l.invariant.client) l.invariant.follows

pub returns-in_err-poll-clause-told : goal.returns-in_err-poll-clause-told
returns-in_err-poll-clause-told g c =
    let W = g.M.Machine.words in
    let first = c.args.machine.now in
    let client = c.args.port.now.client in
    let l = c.loop in
    let a = g.S.Store.history c.args.port.now.store in
    let b = g.S.Store.history l.port.store in
    let d = g.S.Store.history c.poll.new.port.store in
    let e = c.in_err-poll.ensures in
    let sole = others_kept b d c.poll.new.port.client l.port.client client e.kept e.client l.invariant.client in
    let memory = subst (λ (n : ℕ). Unpolled W n b d l.machine c.poll.new.machine) l.invariant.client e.memory in
    let went = polls_memory W client first l.machine c.poll.new.machine _ _ a b d l.invariant.so_far memory sole in
    let p = err_from_is_err_and c.from_residual.result c.from_residual.ensures.1 in
    rw p.1 (subst (λ (f : StepFault). Goes (shard_of W first) a d (λ list start es now. FailedBy (shard_of W first) f start es now)) (sym p.2) went)

pub returns-in-Damaged-clause-told : goal.returns-in-Damaged-clause-told
returns-in-Damaged-clause-told g c =
    let l = c.loop in
    let e = c.in_ok-poll.ensures in
    let t = turned g.M.Machine.words c.in-Damaged.is e.client l.invariant.client e.kept e.polled e.legal e.cost in
    polls_damaged g.M.Machine.words _ _ _ _ _ _ _ _ _ _ l.invariant.so_far t

pub returns-in-Spent-clause-told : goal.returns-in-Spent-clause-told
returns-in-Spent-clause-told g c =
    let W = g.M.Machine.words in
    let l = c.loop in
    let e = c.in_ok-poll.ensures in
    let counted = l.invariant.so_far.counted in
    let asked = c.requires.few in
    let few : W.calls_of l.machine + 1 < most = omega (arith, counted, asked, c.loop-test.true) in
    let t = turned W c.in-Spent.is e.client l.invariant.client e.kept e.polled e.legal e.cost in
    polls_spent W _ _ c.requires.ending _ _ _ _ _ _ _ few l.invariant.so_far t

pub returns-in-Done-clause-told : goal.returns-in-Done-clause-told
returns-in-Done-clause-told g c =
    let W = g.M.Machine.words in
    let l = c.loop in
    let e = c.in_ok-poll.ensures in
    let counted = l.invariant.so_far.counted in
    let asked = c.requires.few in
    let few : W.calls_of l.machine + 1 < most = omega (arith, counted, asked, c.loop-test.true) in
    let within : l.counter + 1 ≤ c.args.polls = omega (arith, c.loop-test.true) in
    let t = turned W c.in-Done.is e.client l.invariant.client e.kept e.polled e.legal e.cost in
    (polls_done W _ _ c.requires.answered _ _ _ _ _ _ _ _ _ within few l.invariant.so_far t).0

pub returns-in-Done-clause-by : goal.returns-in-Done-clause-by
returns-in-Done-clause-by g c =
    let W = g.M.Machine.words in
    let l = c.loop in
    let e = c.in_ok-poll.ensures in
    let counted = l.invariant.so_far.counted in
    let asked = c.requires.few in
    let few : W.calls_of l.machine + 1 < most = omega (arith, counted, asked, c.loop-test.true) in
    let within : l.counter + 1 ≤ c.args.polls = omega (arith, c.loop-test.true) in
    let t = turned W c.in-Done.is e.client l.invariant.client e.kept e.polled e.legal e.cost in
    (polls_done W _ _ c.requires.answered _ _ _ _ _ _ _ _ _ within few l.invariant.so_far t).1

pub returns-clause-told : goal.returns-clause-told
returns-clause-told g c =
    let l = c.loop in
    let all : l.counter ≡ c.args.polls = omega (arith, c.loop-test.false, l.auto.counter-end) in
    polls_end g.M.Machine.words _ _ _ _ _ _ _ _ all l.invariant.so_far

pub loop-preserved : goal.loop-preserved
loop-preserved g c =
    let W = g.M.Machine.words in
    let client = c.args.port.now.client in
    let first = c.args.machine.now in
    let l = c.loop in
    let e = c.in_ok-poll.ensures in
    let a = g.S.Store.history c.args.port.now.store in
    let d = g.S.Store.history c.poll.new.port.store in
    let counted = l.invariant.so_far.counted in
    let asked = c.requires.few in
    let few : W.calls_of l.machine < most = omega (arith, counted, asked, c.loop-test.true) in
    let failed = l.invariant.failed in
    let follows = subst (λ (n : ℕ). FollowsWhere W n d c.poll.new.machine) l.invariant.client e.follows in
    let before = l.invariant.calls in
    let later = e.faults in
    let calls : g.S.Store.faults c.args.port.now.store ≤ g.S.Store.faults c.poll.new.port.store = omega (arith, before, later) in
    elim c.match-branch-2.branch [
      | in-Busy w ↦
          let missed : 0 < 0 = e.busy (ap Ok w.in-Busy.is) in
          absurd (omega (arith, missed))
      | in-More w ↦
          let t = turned W w.in-More.is e.client l.invariant.client e.kept e.polled e.legal e.cost in
          let same = w.faults-is in
          record {
            so_far = subst (λ (f : ℕ). SoFar W client first c.poll.new.machine (l.counter + 1) f a d) (sym same)
                (polls_more W client first _ _ _ _ _ _ _ few l.invariant.so_far t);
            sound = e.sound;
            follows = follows;
            failed = omega (arith, same, failed);
            client = e.client ∙ l.invariant.client;
            calls = calls;
          }
      | in-Fault w ↦
          let t = turned W w.in-Fault.is e.client l.invariant.client e.kept e.polled e.legal e.cost in
          let same = w.faults-is in
          record {
            so_far = subst (λ (f : ℕ). SoFar W client first c.poll.new.machine (l.counter + 1) f a d) (sym same)
                (polls_fault W client first _ _ _ _ _ _ _ few l.invariant.so_far t);
            sound = e.sound;
            follows = follows;
            failed = omega (arith, same, failed);
            client = e.client ∙ l.invariant.client;
            calls = calls;
          }
    ]
