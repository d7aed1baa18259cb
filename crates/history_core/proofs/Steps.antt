-- The steps of one listen are one slice.
use Rattle.std.proofs.Common.{◌≡◌, ℕ, true, false, ◌++◌, refl, arith, subst, sym, ap, ◌∙◌, Some, None, Option}
use Rattle.std.specs.Prelude.{reverse}
use Rattle.std.proofs.lemmas.Bool.Decides.{nat_tests}
use Rattle.std.specs.Ordering.{is_gt}
use Rattle.update_core.specs.Frontiers.{covers, frontier_cmp}
use Rattle.update_core.specs.Updates.{slice_of}
use Rattle.update_core.proofs.SliceLaws.{slices_join}
use Rattle.store_core.specs.Stores.{Stored}
use Rattle.store_core.specs.Ports.{with_entries}
use Rattle.store_core.proofs.NewestLaws.{replay-newest}
use Rattle.history_core.specs.Stands.{accepted, accepted_of}
use Rattle.history_core.specs.Laws.{LastIs}
use Rattle.history_core.specs.Legal.{collection_in}
use Rattle.history_core.specs.AnswerLaws.{AcceptedGrows, StepsJoin}
use Rattle.history_core.proofs.Prefixes.{lawful_back, prefix_lawful}
use Rattle.history_core.proofs.LawfulLaws.{turned, lawful_both}
use Rattle.history_core.proofs.Bases.{base_of}
use Rattle.history_core.proofs.Lasts.{last_ever}
use Rattle.history_core.proofs.Later.{accepted_past}
use Rattle.history_core.proofs.GotRows.{listen_step}

pub grows_law : AcceptedGrows
grows_law shard list h later st l n s is =
    let es = reverse h.trail in
    let fs = reverse later in
    let (last, state) = last_ever h.start shard list st es (lawful_back h (prefix_lawful h later l)) n s (subst (λ (q : Stored). LastIs q shard n s) (replay-newest h.start h.trail) is) in
    let (more, same, out) = accepted_past h.start shard list (base_of h.start shard list st) fs es (lawful_both h later l) n s last state in
    (more, ap (λ trail. accepted shard list h.start trail) (turned h later) ∙ same, out)

not_past : (upper : Option ℕ) (time : ℕ) → covers upper time ≡ true → is_gt (frontier_cmp (Some time) upper) ≡ false
not_past None time h = refl
not_past (Some u) time h = grind (arith, nat_tests)

pub joined_law : StepsJoin
joined_law shard list h later st l n s is m last is2 f to rows le answer =
    let (more, same, out) = grows_law shard list h later st l n s is in
    let found = listen_step (collection_in (accepted_of shard list (with_entries h later)) last) s.upper to rows answer in
    let ahead = subst (λ (g : Option ℕ). is_gt (frontier_cmp g last.upper) ≡ false) (sym found.at) (not_past last.upper found.time found.before_upper) in
    let joined = slices_join (accepted_of shard list h) more f s.upper last.upper le ahead out in
    let was = slice_of (accepted_of shard list h) f s.upper in
    ap (λ us. was ++ us) (sym found.slice) ∙ ap (λ us. was ++ slice_of us s.upper last.upper) same ∙ joined
    ∙ ap (λ us. slice_of us f last.upper) (sym same) ∙ ap (λ g. slice_of (accepted_of shard list (with_entries h later)) f g) (sym found.end)
