use Rattle.std.proofs.Common.{eqb, eq-eqb, rules, refl, ℕ, ◌≡◌, ◌<◌, ◌-◌, ◌/◌, [], arith, ap, ◌∙◌, subst, Option}
use Rattle.atomic_table.specs.Table.{Me}
use Rattle.turnstile.specs.declared.views.View.{View}
use Rattle.turnstile.specs.Rule.{once}
use Rattle.turnstile.specs.Plays.{Credited, left_of, right_of, upper_half}
use Rattle.turnstile.specs.Passes.{view, first_value}
use Rattle.turnstile.proofs.Steps.{splits, settles}
use Rattle.turnstile.proofs.Passing.{as_pass}
use Rattle.turnstile.proofs.turnstiles.Turnstile.split.Goals as goal

pub split_seat-place-requires : goal.split_seat-place-requires
split_seat-place-requires g c =
    let r = c.requires in
    let a = r.room in
    let b = r.carried.stock in (
      search rules,
      search rules,
      splits g.V.Growing.told g.V.Growing.client (g.V.Growing.told (first_value c.args.self.now)) _ (view c.args.pass.now) (omega arith) (omega (arith, c.if-pass-eq0.false)),
    )

pub load-requires : goal.load-requires
load-requires g c =
    let a = ap (λ m. m.0.share) c.split_seat-place.ensures.4 in (
      search rules,
      search rules,
      settles g.V.Growing.told g.V.Growing.client (g.V.Growing.told (first_value c.args.self.now)) _ _ _ (omega arith),
    )

pub returns-clause-pass : goal.returns-clause-pass
returns-clause-pass g c =
    let p = c.args.pass.now in
    let v = view p in
    let r = c.requires in
    let k = r.carried in
    let some_stock : 0 < v.stock = (let b = k.stock in omega (arith, c.if-pass-eq0.false)) in
    let is : c.split_seat-place.new.seat.me ≡ (left_of v, []) = c.split_seat-place.ensures.2 ∙ ap (λ cs. (left_of v, cs)) r.empty in
    let half = upper_half v in
    let half_is : upper_half v ≡ (v.stock - 1) / 2 = refl in
    as_pass g.V.Growing.told g.V.Growing.client c.args.self.now _ (left_of v) (c.split_seat-place.ensures.0 ∙ r.table) is r.free r.start (let a = r.room in omega arith) r.own r.credited
    record {
      number = k.number;
      stock = ap (λ (n : ℕ). n - 1 - (n - 1) / 2) k.stock;
      low = λ h. (let a = k.low some_stock in let t = k.top in omega arith);
      top = (let t = k.top in omega arith);
      count = k.count;
    }

pub returns-clause-made : goal.returns-clause-made
returns-clause-made g c =
    let p = c.args.pass.now in
    let v = view p in
    let r = c.requires in
    let k = r.carried in
    let some_stock : 0 < v.stock = (let b = k.stock in omega (arith, c.if-pass-eq0.false)) in
    let half_is : upper_half v ≡ (v.stock - 1) / 2 = refl in
    let is : c.load.new.seat.me ≡ (right_of v, []) = c.load.ensures.2.0 ∙ c.split_seat-place.ensures.4 in
    let credited : Credited g.V.Growing.client (right_of v) = subst (λ (m : Me (Option g.row.V.Denot) (View g.row.V-Begin.Denot g.row.V-Item.Denot)). Credited g.V.Growing.client m.0) c.split_seat-place.ensures.4 c.load.ensures.2.2 in
    as_pass g.V.Growing.told g.V.Growing.client c.args.self.now _ (right_of v) (c.load.ensures.0 ∙ (c.split_seat-place.ensures.3 ∙ r.table)) is refl r.start (omega arith) (let e : once (eqb v.low v.low) ≡ 1 = ap once (eq-eqb v.low v.low refl) in omega arith) credited
    record {
      number = k.low some_stock;
      stock = ap (λ (n : ℕ). (n - 1) / 2) k.stock;
      low = λ h. (let a = k.low some_stock in let b = k.stock in let t = k.top in omega arith);
      top = (let t = k.top in omega arith);
      count = k.count;
    }

pub returns-clause-ok : goal.returns-clause-ok
returns-clause-ok g c =
    let v = view c.args.pass.now in
    let is : c.load.new.seat.me ≡ (right_of v, []) = c.load.ensures.2.0 ∙ c.split_seat-place.ensures.4 in (
      (let b = c.requires.carried.stock in omega (arith, c.if-pass-eq0.false)),
      ap (λ m. m.0) c.split_seat-place.ensures.2,
      ap (λ m. m.0) is,
    )
