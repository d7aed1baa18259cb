-- What becomes of the token of a member.
use Rattle.std.specs.Prelude.{◌≡◌, ◌<◌, ◌⊎◌}
use Rattle.state_core.specs.Lists.{Among}
use Rattle.state_core.specs.declared.members.Member.{Member}
use Rattle.state_core.specs.declared.transitions.Transition.{Transition}
use Rattle.state_core.specs.States.{ShardState}
use Rattle.state_core.specs.Steps.{Spends}

-- A member of the next state is new and has token 0; or it stood before, and its token stayed, or the transition spent the
-- token that it has, which is above the one it had.
abbrev pub TokenAfter : ShardState → Transition → Member → Type 0
TokenAfter s x v =
    ((v.number ≡ s.next_member) × (v.token ≡ 0)) ⊎
    ((w : Member) × Among (λ u. u ≡ w) s.members × (w.number ≡ v.number) × ((w.token ≡ v.token) ⊎ ((w.token < v.token) × Spends x v.number v.token)))
