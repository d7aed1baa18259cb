use Rattle.std.proofs.Common.{rules, ◌≡◌, ◌+◌, ◌++◌, List, length, min, sym, subst, Option, ◌^◌, ◌-◌}
use Rattle.turnstile.specs.History.{entries_of, IsTold}
use Rattle.turnstile.specs.Passes.{first_value}
use Rattle.turnstile.proofs.Steps.{counts_up}
use Rattle.turnstile.proofs.Passing.{counts_gained}
use Rattle.turnstile.proofs.counts.count_up.Goals as goal

pub fetch_add-requires : goal.fetch_add-requires
fetch_add-requires g c =
    let told = g.V.Growing.told in
    let r = c.requires in
    let v = c.args.place.now.me.0 in
    let gs = g.G.Gained.gained in
    let k = c.saturating_sub.result in (
      search rules,
      search rules,
      counts_up told g.V.Growing.client (told (first_value c.args.turnstile.now)) _ _ k c.args.place.now.me c.args.value.now gs r.share r.turn r.gains
          (λ t e. subst (λ (o : Option (g.row.V-Begin.Denot × List g.row.V-Item.Denot)). k + min (length (entries_of o ++ v.gain)) (2 ^ 64 - 1) ≡ min (length (entries_of o ++ (v.gain ++ gs))) (2 ^ 64 - 1)) e
          (counts_gained v.start (told c.args.value.now) v.gain gs c.args.now c.args.count k r.gains.0 r.now_is r.count_is c.saturating_sub.ensures (subst IsTold (sym e) t))),
    )
