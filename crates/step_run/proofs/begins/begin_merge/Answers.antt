use Rattle.std.proofs.Common.{refl}
use Rattle.state_core.specs.declared.transitions.Transition.TheVariants as transitions
use Rattle.history_core.specs.declared.asked.Asked.TheVariants as asks
use Rattle.merge_client.specs.Beginning as merge
use Rattle.merge_client.specs.Machining as merges
use Rattle.step_run.proofs.Beginning.{change_costs, close_follows, compactor_starts, joined_fits, merge_costs, merge_follows, merges_start, passed_fits, renew_follows}
use Rattle.step_run.proofs.begins.begin_merge.Goals as goal
use Rattle.step_run.proofs.begins.begin_merge.Goals.{in-Merge, in-Renew, in-Close, in_default}

pub returns-clause-fits : goal.returns-clause-fits
returns-clause-fits c = elim c.match-what.branch [
  | in-Merge w ↦
      joined_fits merges.machine c.args.compactor.now w.begin_merge.new.self c.match-what.compactor w.begin_merge.result c.match-what.result w.compactor-is
      (merges_start c.args.compactor.now w.begin_merge.new.self (merge.merge_fault c.args.compactor.now) w.begin_merge.result w.begin_merge.ensures.begins) w.begin_merge.ensures.sound
      (merge_follows c.args.compactor.now w.begin_merge.new.self (merge.merge_fault c.args.compactor.now) w.begin_merge.result w.begin_merge.ensures.begins)
      (merge_costs c.args.compactor.now w.begin_merge.new.self (merge.merge_fault c.args.compactor.now) w.begin_merge.result w.begin_merge.ensures.begins)
  | in-Renew w ↦
      joined_fits merges.machine c.args.compactor.now w.begin_renew.new.self c.match-what.compactor w.begin_renew.result c.match-what.result w.compactor-is
      (compactor_starts c.args.compactor.now w.begin_renew.new.self (merge.member_fault c.args.compactor.now.asked c.args.compactor.now.member) (asks.RenewCompactor c.args.moment) (λ member. transitions.Renew member c.args.moment)
      w.begin_renew.result w.begin_renew.ensures.begins) w.begin_renew.ensures.sound
      (renew_follows c.args.compactor.now w.begin_renew.new.self c.args.moment w.begin_renew.result w.begin_renew.ensures.begins)
      (change_costs c.args.compactor.now w.begin_renew.new.self (asks.RenewCompactor c.args.moment) (λ member. transitions.Renew member c.args.moment) (λ k. refl) c.requires
      w.begin_renew.result w.begin_renew.ensures.begins)
  | in-Close w ↦
      joined_fits merges.machine c.args.compactor.now w.begin_close.new.self c.match-what.compactor w.begin_close.result c.match-what.result w.compactor-is
      (compactor_starts c.args.compactor.now w.begin_close.new.self (merge.member_fault c.args.compactor.now.asked c.args.compactor.now.member) asks.CloseCompactor (λ member. transitions.Leave member)
      w.begin_close.result w.begin_close.ensures.begins) w.begin_close.ensures.sound
      (close_follows c.args.compactor.now w.begin_close.new.self w.begin_close.result w.begin_close.ensures.begins)
      (change_costs c.args.compactor.now w.begin_close.new.self asks.CloseCompactor (λ member. transitions.Leave member) (λ k. refl) c.requires
      w.begin_close.result w.begin_close.ensures.begins)
  | in_default w ↦ passed_fits merges.machine c.args.compactor.now c.match-what.compactor c.match-what.result w.compactor-is
]
