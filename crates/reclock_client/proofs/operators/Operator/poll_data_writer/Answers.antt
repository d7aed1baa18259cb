use Rattle.reclock_client.proofs.Keeping.{data_knew, data_knows}
use Rattle.reclock_client.specs.Commands.{Next}
use Rattle.std.proofs.Common.{◌≡◌, ℕ, ap, ◌∙◌}
use Rattle.reclock_client.specs.Polling.{counted}
use Rattle.reclock_client.proofs.Polled.{data_came, data_left, of_busy, of_fault, on_err}
use Rattle.std.specs.Prelude.{Ok}
use Rattle.history_core.specs.declared.write_answers.WriteAnswer.{WriteAnswer}
use Rattle.load_core.specs.declared.polls.Poll.TheVariants as polls
use Rattle.reclock_client.specs.Commands.{after_data_writer}
use Rattle.reclock_client.proofs.operators.Operator.poll_data_writer.Goals as goal

pub returns-in_err-poll-clause-memory : goal.returns-in_err-poll-clause-memory
returns-in_err-poll-clause-memory g c = on_err _ c.from_residual.result _ (data_left (g.P.Port.client c.args.port.now) (g.P.Port.front c.args.port.now) (g.P.Port.front c.poll.new.port) c.args.self.now
    c.requires.sound c.requires.busy c.requires.taken c.requires.follows c.requires.turn c.poll.new.self c.requires.part c.requires.open c.in_err-poll.ensures.memory
    c.in_err-poll.ensures.follows c.in_err-poll.ensures.sound).memory

pub returns-in_err-poll-clause-sound : goal.returns-in_err-poll-clause-sound
returns-in_err-poll-clause-sound g c = (data_left (g.P.Port.client c.args.port.now) (g.P.Port.front c.args.port.now) (g.P.Port.front c.poll.new.port) c.args.self.now
    c.requires.sound c.requires.busy c.requires.taken c.requires.follows c.requires.turn c.poll.new.self c.requires.part c.requires.open c.in_err-poll.ensures.memory
    c.in_err-poll.ensures.follows c.in_err-poll.ensures.sound).sound

pub returns-in_err-poll-clause-follows : goal.returns-in_err-poll-clause-follows
returns-in_err-poll-clause-follows g c = (data_left (g.P.Port.client c.args.port.now) (g.P.Port.front c.args.port.now) (g.P.Port.front c.poll.new.port) c.args.self.now
    c.requires.sound c.requires.busy c.requires.taken c.requires.follows c.requires.turn c.poll.new.self c.requires.part c.requires.open c.in_err-poll.ensures.memory
    c.in_err-poll.ensures.follows c.in_err-poll.ensures.sound).follows

pub returns-clause-polled : goal.returns-clause-polled
returns-clause-polled g c = (data_came (g.P.Port.client c.args.port.now) (g.P.Port.front c.args.port.now) (g.P.Port.front c.poll.new.port) c.args.self.now
    c.requires.sound c.requires.busy c.requires.taken c.requires.follows c.requires.turn c.poll.new.self c.in_ok-poll.poll c.after_data_poll.new.self c.counted-self.result
    c.after_data_poll.result c.requires.part c.requires.open
    (record { polled = c.in_ok-poll.ensures.polled; legal = c.in_ok-poll.ensures.legal; cost = c.in_ok-poll.ensures.cost })
    c.in_ok-poll.ensures.follows c.in_ok-poll.ensures.sound (c.counted-self.ensures ∙ ap (λ (k : ℕ). counted c.in_ok-poll.poll c.args.self.now.calls k) c.calls.ensures)
    c.after_data_poll.ensures.next c.after_data_poll.ensures.course).polled

pub returns-clause-sound : goal.returns-clause-sound
returns-clause-sound g c = (data_came (g.P.Port.client c.args.port.now) (g.P.Port.front c.args.port.now) (g.P.Port.front c.poll.new.port) c.args.self.now
    c.requires.sound c.requires.busy c.requires.taken c.requires.follows c.requires.turn c.poll.new.self c.in_ok-poll.poll c.after_data_poll.new.self c.counted-self.result
    c.after_data_poll.result c.requires.part c.requires.open
    (record { polled = c.in_ok-poll.ensures.polled; legal = c.in_ok-poll.ensures.legal; cost = c.in_ok-poll.ensures.cost })
    c.in_ok-poll.ensures.follows c.in_ok-poll.ensures.sound (c.counted-self.ensures ∙ ap (λ (k : ℕ). counted c.in_ok-poll.poll c.args.self.now.calls k) c.calls.ensures)
    c.after_data_poll.ensures.next c.after_data_poll.ensures.course).sound

pub returns-clause-follows : goal.returns-clause-follows
returns-clause-follows g c = (data_came (g.P.Port.client c.args.port.now) (g.P.Port.front c.args.port.now) (g.P.Port.front c.poll.new.port) c.args.self.now
    c.requires.sound c.requires.busy c.requires.taken c.requires.follows c.requires.turn c.poll.new.self c.in_ok-poll.poll c.after_data_poll.new.self c.counted-self.result
    c.after_data_poll.result c.requires.part c.requires.open
    (record { polled = c.in_ok-poll.ensures.polled; legal = c.in_ok-poll.ensures.legal; cost = c.in_ok-poll.ensures.cost })
    c.in_ok-poll.ensures.follows c.in_ok-poll.ensures.sound (c.counted-self.ensures ∙ ap (λ (k : ℕ). counted c.in_ok-poll.poll c.args.self.now.calls k) c.calls.ensures)
    c.after_data_poll.ensures.next c.after_data_poll.ensures.course).follows

pub returns-clause-busy : goal.returns-clause-busy
returns-clause-busy g c = λ h. c.in_ok-poll.ensures.busy (ap Ok (of_busy WriteAnswer (after_data_writer c.args.self.now.course c.args.self.now.course.step) c.args.self.now.course
    c.after_data_poll.new.self c.in_ok-poll.poll c.after_data_poll.result c.after_data_poll.ensures.next
    c.after_data_poll.ensures.forth (let same : c.after_data_poll.result ≡ polls.Busy = cc in same)))

pub returns-clause-fault : goal.returns-clause-fault
returns-clause-fault g c = λ h. c.in_ok-poll.ensures.fault (ap Ok (of_fault WriteAnswer (after_data_writer c.args.self.now.course c.args.self.now.course.step) c.args.self.now.course
    c.after_data_poll.new.self c.in_ok-poll.poll c.after_data_poll.result c.after_data_poll.ensures.next
    c.after_data_poll.ensures.forth (let same : c.after_data_poll.result ≡ polls.Fault = cc in same)))

pub returns-in_err-poll-clause-turn : goal.returns-in_err-poll-clause-turn
returns-in_err-poll-clause-turn g c = (data_left (g.P.Port.client c.args.port.now) (g.P.Port.front c.args.port.now) (g.P.Port.front c.poll.new.port) c.args.self.now
    c.requires.sound c.requires.busy c.requires.taken c.requires.follows c.requires.turn c.poll.new.self c.requires.part c.requires.open c.in_err-poll.ensures.memory
    c.in_err-poll.ensures.follows c.in_err-poll.ensures.sound).turn

pub returns-clause-turn : goal.returns-clause-turn
returns-clause-turn g c = (data_came (g.P.Port.client c.args.port.now) (g.P.Port.front c.args.port.now) (g.P.Port.front c.poll.new.port) c.args.self.now
    c.requires.sound c.requires.busy c.requires.taken c.requires.follows c.requires.turn c.poll.new.self c.in_ok-poll.poll c.after_data_poll.new.self c.counted-self.result
    c.after_data_poll.result c.requires.part c.requires.open
    (record { polled = c.in_ok-poll.ensures.polled; legal = c.in_ok-poll.ensures.legal; cost = c.in_ok-poll.ensures.cost })
    c.in_ok-poll.ensures.follows c.in_ok-poll.ensures.sound (c.counted-self.ensures ∙ ap (λ (k : ℕ). counted c.in_ok-poll.poll c.args.self.now.calls k) c.calls.ensures)
    c.after_data_poll.ensures.next c.after_data_poll.ensures.course).turn

pub returns-in_err-poll-clause-knows : goal.returns-in_err-poll-clause-knows
returns-in_err-poll-clause-knows g c = λ k counts. data_knew (g.P.Port.client c.args.port.now) (g.P.Port.front c.args.port.now) (g.P.Port.front c.poll.new.port) c.args.self.now
    c.requires.busy c.requires.taken c.poll.new.self c.in_err-poll.ensures.memory k

pub returns-clause-knows : goal.returns-clause-knows
returns-clause-knows g c = λ k counts. data_knows (g.P.Port.client c.args.port.now) (g.P.Port.front c.args.port.now) (g.P.Port.front c.poll.new.port) c.args.self.now
    c.requires.busy c.requires.taken c.poll.new.self c.in_ok-poll.poll c.after_data_poll.new.self c.counted-self.result
    c.in_ok-poll.ensures.polled (ap (λ (x : Next). x.0) c.after_data_poll.ensures.next) k
