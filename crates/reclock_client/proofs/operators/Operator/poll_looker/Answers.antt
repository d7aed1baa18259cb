use Rattle.reclock_client.proofs.Keeping.{look_knew, look_knows}
use Rattle.reclock_client.specs.Commands.{Next}
use Rattle.std.proofs.Common.{◌≡◌, ℕ, Option, ap}
use Rattle.reclock_client.proofs.LookRule.{keeps}
use Rattle.reclock_client.proofs.Polled.{look_came, look_left, of_busy, of_fault, on_err}
use Rattle.std.specs.Prelude.{Ok}
use Rattle.load_core.specs.declared.polls.Poll.TheVariants as polls
use Rattle.reclock_client.specs.Commands.{published_from}
use Rattle.reclock_client.proofs.operators.Operator.poll_looker.Goals as goal

pub returns-in_err-poll-clause-memory : goal.returns-in_err-poll-clause-memory
returns-in_err-poll-clause-memory g c = on_err _ c.from_residual.result _ (look_left (g.P.Port.client c.args.port.now) (g.P.Port.front c.args.port.now) (g.P.Port.front c.poll.new.port) c.args.self.now
    c.requires.sound c.requires.busy c.requires.taken c.requires.follows c.requires.turn c.poll.new.machine c.requires.part c.requires.open c.in_err-poll.ensures.memory
    c.in_err-poll.ensures.follows c.in_err-poll.ensures.sound).memory

pub returns-in_err-poll-clause-sound : goal.returns-in_err-poll-clause-sound
returns-in_err-poll-clause-sound g c = (look_left (g.P.Port.client c.args.port.now) (g.P.Port.front c.args.port.now) (g.P.Port.front c.poll.new.port) c.args.self.now
    c.requires.sound c.requires.busy c.requires.taken c.requires.follows c.requires.turn c.poll.new.machine c.requires.part c.requires.open c.in_err-poll.ensures.memory
    c.in_err-poll.ensures.follows c.in_err-poll.ensures.sound).sound

pub returns-in_err-poll-clause-follows : goal.returns-in_err-poll-clause-follows
returns-in_err-poll-clause-follows g c = (look_left (g.P.Port.client c.args.port.now) (g.P.Port.front c.args.port.now) (g.P.Port.front c.poll.new.port) c.args.self.now
    c.requires.sound c.requires.busy c.requires.taken c.requires.follows c.requires.turn c.poll.new.machine c.requires.part c.requires.open c.in_err-poll.ensures.memory
    c.in_err-poll.ensures.follows c.in_err-poll.ensures.sound).follows

pub returns-clause-polled : goal.returns-clause-polled
returns-clause-polled g c = (look_came (g.P.Port.client c.args.port.now) (g.P.Port.front c.args.port.now) (g.P.Port.front c.poll.new.port) c.args.self.now
    c.requires.sound c.requires.busy c.requires.taken c.requires.follows c.requires.turn c.poll.new.machine c.in_ok-poll.poll c.after_look_poll.new.self c.counted-self.result
    c.after_look_poll.result c.requires.part c.requires.open
    (record { polled = c.in_ok-poll.ensures.polled; legal = c.in_ok-poll.ensures.legal; cost = c.in_ok-poll.ensures.cost })
    c.in_ok-poll.ensures.follows c.in_ok-poll.ensures.sound c.counted-self.ensures
    c.after_look_poll.ensures.next c.after_look_poll.ensures.course).polled

pub returns-clause-sound : goal.returns-clause-sound
returns-clause-sound g c = (look_came (g.P.Port.client c.args.port.now) (g.P.Port.front c.args.port.now) (g.P.Port.front c.poll.new.port) c.args.self.now
    c.requires.sound c.requires.busy c.requires.taken c.requires.follows c.requires.turn c.poll.new.machine c.in_ok-poll.poll c.after_look_poll.new.self c.counted-self.result
    c.after_look_poll.result c.requires.part c.requires.open
    (record { polled = c.in_ok-poll.ensures.polled; legal = c.in_ok-poll.ensures.legal; cost = c.in_ok-poll.ensures.cost })
    c.in_ok-poll.ensures.follows c.in_ok-poll.ensures.sound c.counted-self.ensures
    c.after_look_poll.ensures.next c.after_look_poll.ensures.course).sound

pub returns-clause-follows : goal.returns-clause-follows
returns-clause-follows g c = (look_came (g.P.Port.client c.args.port.now) (g.P.Port.front c.args.port.now) (g.P.Port.front c.poll.new.port) c.args.self.now
    c.requires.sound c.requires.busy c.requires.taken c.requires.follows c.requires.turn c.poll.new.machine c.in_ok-poll.poll c.after_look_poll.new.self c.counted-self.result
    c.after_look_poll.result c.requires.part c.requires.open
    (record { polled = c.in_ok-poll.ensures.polled; legal = c.in_ok-poll.ensures.legal; cost = c.in_ok-poll.ensures.cost })
    c.in_ok-poll.ensures.follows c.in_ok-poll.ensures.sound c.counted-self.ensures
    c.after_look_poll.ensures.next c.after_look_poll.ensures.course).follows

pub returns-clause-busy : goal.returns-clause-busy
returns-clause-busy g c = λ h. c.in_ok-poll.ensures.busy (ap Ok (of_busy (Option ℕ) (published_from c.args.self.now.course) c.args.self.now.course
    c.after_look_poll.new.self c.in_ok-poll.poll c.after_look_poll.result c.after_look_poll.ensures.next
    c.after_look_poll.ensures.forth (let same : c.after_look_poll.result ≡ polls.Busy = cc in same)))

pub returns-clause-fault : goal.returns-clause-fault
returns-clause-fault g c = λ h. c.in_ok-poll.ensures.fault (ap Ok (of_fault (Option ℕ) (published_from c.args.self.now.course) c.args.self.now.course
    c.after_look_poll.new.self c.in_ok-poll.poll c.after_look_poll.result c.after_look_poll.ensures.next
    c.after_look_poll.ensures.forth (let same : c.after_look_poll.result ≡ polls.Fault = cc in same)))

pub poll-requires-clause-keeps : goal.poll-requires-clause-keeps
poll-requires-clause-keeps g c = keeps

pub returns-in_err-poll-clause-turn : goal.returns-in_err-poll-clause-turn
returns-in_err-poll-clause-turn g c = (look_left (g.P.Port.client c.args.port.now) (g.P.Port.front c.args.port.now) (g.P.Port.front c.poll.new.port) c.args.self.now
    c.requires.sound c.requires.busy c.requires.taken c.requires.follows c.requires.turn c.poll.new.machine c.requires.part c.requires.open c.in_err-poll.ensures.memory
    c.in_err-poll.ensures.follows c.in_err-poll.ensures.sound).turn

pub returns-clause-turn : goal.returns-clause-turn
returns-clause-turn g c = (look_came (g.P.Port.client c.args.port.now) (g.P.Port.front c.args.port.now) (g.P.Port.front c.poll.new.port) c.args.self.now
    c.requires.sound c.requires.busy c.requires.taken c.requires.follows c.requires.turn c.poll.new.machine c.in_ok-poll.poll c.after_look_poll.new.self c.counted-self.result
    c.after_look_poll.result c.requires.part c.requires.open
    (record { polled = c.in_ok-poll.ensures.polled; legal = c.in_ok-poll.ensures.legal; cost = c.in_ok-poll.ensures.cost })
    c.in_ok-poll.ensures.follows c.in_ok-poll.ensures.sound c.counted-self.ensures
    c.after_look_poll.ensures.next c.after_look_poll.ensures.course).turn

pub returns-in_err-poll-clause-knows : goal.returns-in_err-poll-clause-knows
returns-in_err-poll-clause-knows g c = λ k counts. look_knew (g.P.Port.client c.args.port.now) (g.P.Port.front c.args.port.now) (g.P.Port.front c.poll.new.port) c.args.self.now
    c.requires.busy c.requires.taken c.poll.new.machine c.in_err-poll.ensures.memory k

pub returns-clause-knows : goal.returns-clause-knows
returns-clause-knows g c = λ k counts. look_knows (g.P.Port.client c.args.port.now) (g.P.Port.front c.args.port.now) (g.P.Port.front c.poll.new.port) c.args.self.now
    c.requires.busy c.requires.taken c.poll.new.machine c.in_ok-poll.poll c.after_look_poll.new.self c.counted-self.result
    c.in_ok-poll.ensures.polled (ap (λ (x : Next). x.0) c.after_look_poll.ensures.next) k
