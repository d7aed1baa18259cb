use Rattle.std.proofs.Common.{rules, ◌≡◌, [], arith, ap, sym, subst, ◌∙◌, Option}
use Rattle.atomic_table.specs.Table.{Me}
use Rattle.turnstile.specs.declared.views.View.{View}
use Rattle.turnstile.specs.Rule.{entries_by}
use Rattle.turnstile.specs.Plays.{Credited, both_of}
use Rattle.turnstile.specs.Passes.{view, first_value}
use Rattle.turnstile.proofs.Steps.{joins, settles}
use Rattle.turnstile.proofs.Kins.{times_append, each_left, each_right, entries_same}
use Rattle.turnstile.proofs.Passing.{as_pass, count_both}
use Rattle.turnstile.proofs.turnstiles.Turnstile.join.Goals as goal

pub join_seat-requires : goal.join_seat-requires
join_seat-requires g c =
    let r = c.requires.pass in
    let q = c.requires.other in (
      search rules,
      search rules,
      search rules,
      search rules,
      joins g.V.Growing.told g.V.Growing.client (g.V.Growing.told (first_value c.args.self.now)) _ _ (view c.args.pass.now) (view c.args.other) (let a = r.room in omega arith) (let a = q.room in omega arith) r.free q.free,
    )

pub load-pass-requires : goal.load-pass-requires
load-pass-requires g c =
    let r = c.requires.pass in
    let share = ap (λ m. m.0.share) c.join_seat.ensures.2 in (
      search rules,
      search rules,
      settles g.V.Growing.told g.V.Growing.client (g.V.Growing.told (first_value c.args.self.now)) _ _ _ (let a = r.room in omega arith),
    )

pub returns-clause-pass : goal.returns-clause-pass
returns-clause-pass g c =
    let p = c.args.pass.now in
    let v = view p in
    let w = view c.args.other in
    let r = c.requires.pass in
    let q = c.requires.other in
    let k = r.carried in
    let is : c.load-pass.new.seat.me ≡ (both_of v w, []) = c.load-pass.ensures.2.0 ∙ (c.join_seat.ensures.2 ∙ ap (λ cs. (both_of v w, cs)) r.empty) in
    let credited : Credited g.V.Growing.client (both_of v w) = subst (λ (m : Me (Option g.row.V.Denot) (View g.row.V-Begin.Denot g.row.V-Item.Denot)). Credited g.V.Growing.client m.0) c.join_seat.ensures.2 c.load-pass.ensures.2.2 in
    as_pass g.V.Growing.told g.V.Growing.client c.args.self.now _ (both_of v w) (c.load-pass.ensures.0 ∙ (c.join_seat.ensures.0 ∙ r.table)) is r.free r.start (let a = r.room in omega arith)
    (let a = times_append v.number v.kin w.kin in let b = r.own in omega arith) credited
    record {
      number = k.number;
      stock = k.stock;
      low = k.low;
      top = k.top;
      count = λ t. c.max-pass.ensures ∙ count_both v.start w.start v.gain w.gain p.count c.args.other.count (q.start ∙ sym r.start) k.count q.carried.count t;
    }

pub returns-clause-own : goal.returns-clause-own
returns-clause-own g c n h =
    let v = view c.args.pass.now in
    let w = view c.args.other in
    let credited : Credited g.V.Growing.client (both_of v w) = subst (λ (m : Me (Option g.row.V.Denot) (View g.row.V-Begin.Denot g.row.V-Item.Denot)). Credited g.V.Growing.client m.0) c.join_seat.ensures.2 c.load-pass.ensures.2.2 in
    ap (λ m. entries_by g.V.Growing.client n m.0.gain) (c.load-pass.ensures.2.0 ∙ c.join_seat.ensures.2)
    ∙ entries_same g.V.Growing.client n (both_of v w).gain v.gain v.kin h (each_left (λ k es. entries_by g.V.Growing.client k (both_of v w).gain ≡ es) (λ k es. ⊥) v.kin w.kin credited) c.requires.pass.credited

pub returns-clause-others : goal.returns-clause-others
returns-clause-others g c n h =
    let v = view c.args.pass.now in
    let w = view c.args.other in
    let credited : Credited g.V.Growing.client (both_of v w) = subst (λ (m : Me (Option g.row.V.Denot) (View g.row.V-Begin.Denot g.row.V-Item.Denot)). Credited g.V.Growing.client m.0) c.join_seat.ensures.2 c.load-pass.ensures.2.2 in
    ap (λ m. entries_by g.V.Growing.client n m.0.gain) (c.load-pass.ensures.2.0 ∙ c.join_seat.ensures.2)
    ∙ entries_same g.V.Growing.client n (both_of v w).gain w.gain w.kin h (each_right (λ k es. entries_by g.V.Growing.client k (both_of v w).gain ≡ es) (λ k es. ⊥) v.kin w.kin credited) c.requires.other.credited
