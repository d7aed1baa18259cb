use Rattle.std.proofs.Common.{rules, ◌<◌, ◌≡◌, ◌∷◌, [], ap, sym, subst, arith, ◌∙◌, refl, Option, Some, None}
use mathlib.Core.Option.{none}
use Rattle.atomic_table.specs.Table.{Me, step, rest, Allows}
use Rattle.turnstile.specs.declared.views.View.{View}
use Rattle.turnstile.specs.Rule.{Turning, times}
use Rattle.turnstile.specs.Plays.{credit, Credited, gained_by, gave, grown, gave_back}
use Rattle.turnstile.specs.Passes.{view, first_value}
use Rattle.turnstile.proofs.Steps.{gives_turn}
use Rattle.turnstile.proofs.Kins.{times_credit}
use Rattle.turnstile.proofs.Passing.{as_pass, counts_told, regains}
use Rattle.turnstile.proofs.turns.Held.give.Goals as goal

pub count_up-requires : goal.count_up-requires
count_up-requires g c =
    let r = c.requires.held in record {
      table = r.table;
      share = (let q = r.room in omega arith);
      turn = r.turn;
      start = r.start;
      gains = regains g.V.Growing.told g.V.Growing.client (view c.args.self.pass) c.args.self.value c.requires.gains.0 c.requires.gains.1;
      now_is = c.entries-now.ensures;
      count_is = r.carried.count;
    }

pub store-requires : goal.store-requires
store-requires g c =
    let told = g.V.Growing.told in
    let client = g.V.Growing.client in
    let p = c.args.self.pass in
    let y = c.args.self.value in
    let r = c.requires.held in
    let t = c.args.self.turnstile.now in
    let start = told (first_value t) in
    let slots = t.board.shared.table_id.slots in
    let id = c.exchange-empty.new.seat.id in
    let gs = gained_by told client (view p) y in
    let gains = regains told client (view p) y c.requires.gains.0 c.requires.gains.1 in
    let up : c.count_up.new.place.me ≡ (grown (view p) gs, (0, None) ∷ []) = c.count_up.ensures.me ∙ ap (λ cs. (grown (view p) gs, cs)) r.empty in
    let is : c.exchange-empty.new.seat.me ≡ (grown (view p) gs, (0, Some y) ∷ []) = c.exchange-empty.ensures.3 ∙ ap (λ (m : Me (Option g.row.V.Denot) (View g.row.V-Begin.Denot g.row.V-Item.Denot)). (m.0, (0, Some y) ∷ rest m.1)) up in (
      search rules,
      search rules,
      subst (λ (me : Me (Option g.row.V.Denot) (View g.row.V-Begin.Denot g.row.V-Item.Denot)). Allows (Turning told client start) slots id me 0 (λ _. 0) (λ _. gave told client (step slots 0 0 0 none) me 0)) (sym is)
          (gives_turn told client start slots id (grown (view p) gs, (0, Some y) ∷ []) y t.slots (let q = r.room in omega arith) r.turn refl gains.0),
    )

pub returns-clause-pass : goal.returns-clause-pass
returns-clause-pass g c =
    let told = g.V.Growing.told in
    let client = g.V.Growing.client in
    let p = c.args.self.pass in
    let y = c.args.self.value in
    let r = c.requires.held in
    let gs = gained_by told client (view p) y in
    let gains = regains told client (view p) y c.requires.gains.0 c.requires.gains.1 in
    let up = c.count_up.ensures.me in
    let is : c.exchange-empty.new.seat.me.0 ≡ grown (view p) gs = ap (λ m. m.0) c.exchange-empty.ensures.3 ∙ ap (λ m. m.0) up in
    let now : c.store.new.seat.me ≡ (gave_back (view p) gs, []) = c.store.ensures.2 ∙ ap (λ (v : View g.row.V-Begin.Denot g.row.V-Item.Denot). (let z : View g.row.V-Begin.Denot g.row.V-Item.Denot = record v { turn = 0 } in z, [])) is in
    let credited : Credited client (grown (view p) gs) = subst (λ (m : Me (Option g.row.V.Denot) (View g.row.V-Begin.Denot g.row.V-Item.Denot)). Credited client m.0) up c.count_up.ensures.credited in
    let own : 0 < times (view p).number (credit (view p).number gs (view p).kin) = (let a = times_credit (view p).number (view p).number gs (view p).kin in let b = r.own in omega arith) in
    as_pass told client c.args.self.turnstile.now _ (gave_back (view p) gs) (search rules) now refl r.start r.room own credited
    record { number = r.carried.number; stock = r.carried.stock; low = r.carried.low; top = r.carried.top; count = counts_told (view p).start (told y) _ c.entries-now.result gains.0 c.entries-now.ensures }

pub returns-clause-gains : goal.returns-clause-gains
returns-clause-gains g c =
    let told = g.V.Growing.told in
    let client = g.V.Growing.client in
    let p = c.args.self.pass in
    let y = c.args.self.value in
    let gs = gained_by told client (view p) y in
    let gains = regains told client (view p) y c.requires.gains.0 c.requires.gains.1 in
    (gs, gains, ap (λ m. m.0) c.store.ensures.2 ∙ ap (λ (v : View g.row.V-Begin.Denot g.row.V-Item.Denot). let z : View g.row.V-Begin.Denot g.row.V-Item.Denot = record v { turn = 0 } in z) (ap (λ m. m.0) c.exchange-empty.ensures.3 ∙ ap (λ m. m.0) c.count_up.ensures.me))
