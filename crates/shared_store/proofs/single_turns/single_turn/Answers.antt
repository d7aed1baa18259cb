use Rattle.std.proofs.Common.{◌≡◌, sym, ap, subst, ◌∙◌}
use Rattle.turnstile.specs.Passes.{view}
use Rattle.turnstile.specs.History.{with_more}
use Rattle.turnstile.specs.Plays.{EachBy}
use Rattle.shared_store.specs.Trails.{entry_client, extended, gained, since}
use Rattle.shared_store.specs.Passes.{told_of}
use Rattle.shared_store.proofs.Sightings.{turn_gains, turn_seen}
use Rattle.shared_store.proofs.Keeping.{turn_keeps}
use Rattle.shared_store.proofs.single_turns.single_turn.Goals as goal

pub give-requires-clause-gains : goal.give-requires-clause-gains
give-requires-clause-gains g c =
    let h = c.in-Ok.held in
    let t = c.in-Ok.ensures.held in
    let was = c.value.result.now in
    let now = c.call-answer.new.self in
    let history = g.S.Store.history in
    let tells : told_of was ≡ with_more (view h.pass).start (view h.pass).gain =
    ap told_of c.value.ensures.value ∙ (t.tells ∙ ap (λ o. with_more o (view h.pass).gain) (sym (ap (λ v. v.start) t.view_is))) in
    let found = turn_gains was.opened.value (history was.opened.value) (history was.store) (history now.store) c.number-number.result c.args.call.now c.call-answer.result
    (view h.pass).start (view h.pass).gain was.grown tells c.call-answer.ensures.entry c.call-answer.ensures.memory in
    let told_now = ap (λ o. since o.value (history o.value) (history now.store)) c.call-answer.ensures.opened in
    (found.0, (told_now ∙ found.1, subst (λ n. EachBy entry_client n found.0) c.number-number.ensures found.2))

pub returns-clause-seen : goal.returns-clause-seen
returns-clause-seen g c =
    let h = c.in-Ok.held in
    let t = c.in-Ok.ensures.held in
    let was = c.value.result.now in
    let now = c.call-answer.new.self in
    let history = g.S.Store.history in
    let gave = c.give.ensures.gains in
    let told_now = ap (λ o. since o.value (history o.value) (history now.store)) c.call-answer.ensures.opened in
    let grown = subst (λ o. history now.store ≡ extended (history o.value) (gained (history o.value) (history now.store))) c.call-answer.ensures.opened now.grown in
    turn_seen history (view c.args.pass) (view h.pass) (view c.give.result) gave.0 was.opened.value (history was.store) (history now.store) c.number-number.result c.args.call.now c.call-answer.result
    t.view_is t.begins c.requires.own c.requires.credited t.held.credited was.grown grown (ap told_of c.value.ensures.value ∙ t.tells) gave.2 (sym told_now ∙ gave.1.0)
    (c.number-number.ensures ∙ ap (λ v. v.number) t.view_is) c.call-answer.ensures.entry c.call-answer.ensures.memory

pub returns-clause-kept : goal.returns-clause-kept
returns-clause-kept g c =
    let h = c.in-Ok.held in
    let gave = c.give.ensures.gains in
    turn_keeps (view c.args.pass) (view h.pass) (view c.give.result) gave.0 c.in-Ok.ensures.held.view_is gave.2
