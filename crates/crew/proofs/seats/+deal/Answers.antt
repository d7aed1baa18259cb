use Rattle.turnstile.specs.Passes.{view}
use Rattle.crew.proofs.Rooms.{some_room}
use Rattle.crew.proofs.seats.+deal.Goals as goal

pub deal_one-pass-requires-clause-some : goal.deal_one-pass-requires-clause-some
deal_one-pass-requires-clause-some g t c = some_room c.args.seats.now c.in-Some.rest.now c.in-Some.first.now
    (view c.args.pass).stock c.in-Some.ensures.cases.0 c.requires.room
