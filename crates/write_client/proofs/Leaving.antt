-- Which tokens and leaves what was asked of a writer has, and that a member which may leave stands.
use Rattle.std.proofs.Common.{◌≡◌, ℕ, ◌<◌, true, false, Option, Some, None, inl, inr, refl, sym, ap}
use Rattle.std.proofs.Common.{subst, arith}
use Rattle.state_core.specs.declared.kinds.Kind.TheVariants.{Writer as AsWriter}
use Rattle.state_core.specs.declared.members.Member.{Member}
use Rattle.state_core.specs.declared.transitions.Transition.{Transition}
use Rattle.state_core.specs.declared.transitions.Transition.TheVariants.{Join, Leave}
use Rattle.state_core.specs.Refusals.{any_kind, member_of, of_member}
use Rattle.state_core.specs.States.{ShardState, is_writer}
use Rattle.state_core.specs.Steps.{AreKeys, Spends, Stands}
use Rattle.state_core.proofs.ListLemmas.{bool_cases, each_among}
use Rattle.history_core.specs.declared.asked.Asked.{Asked}
use Rattle.history_core.specs.Members.{LeavesIn}
use Rattle.history_core.proofs.MemberStands.{HasKind}
use Rattle.load_core.specs.Attempts.{standing_refusal}
use Rattle.load_core.specs.Setting as setting
use Rattle.token_machine.proofs.Members.{found_stands}
use Rattle.write_client.specs.declared.writers.Writer.{Writer}
use Rattle.write_client.specs.Following.{IsClose}
use Rattle.write_client.specs.Writing.{shard_of}
use Rattle.write_client.proofs.Asking.{Asks, appends, closes, none_left}
use Rattle.write_client.proofs.Asking.{opens}

-- what is asked spends no token above the last one drawn
pub spends_low : (w : Writer) (asked : Asked) → Asks w asked → (member token : ℕ) → w.token < token →
    ¬ Spends w.storing.trying.step member token
spends_low w asked (opens shard e of step none) member token lt h = let bad : Spends (Join AsWriter 0 0) member token = subst
    (λ (x : Transition). Spends x member token) step h in bad
spends_low w asked (appends rows expected new e a) member token lt h =
    let both : (a.member ≡ member) × (w.token ≡ token) = subst (λ (x : Transition). Spends x member token) a.draft.step_is h in
    let same : w.token ≡ token = both.1 in
    omega arith
spends_low w asked (closes m e named step none) member token lt h = let bad : Spends (Leave m) member token = subst
    (λ (x : Transition). Spends x member token) step h in bad

-- nor leaves a member, but for a close
pub leaves_none : (w : Writer) (asked : Asked) → Asks w asked → ¬ IsClose (Some asked) → (member : ℕ) (s : ShardState) →
    ¬ LeavesIn
    (Some (s, w.storing.trying.step)) member
leaves_none w asked (opens shard e of step none) open_one member s h = let bad : LeavesIn
    (Some (s, Join AsWriter 0 0)) member = subst (λ (x : Transition). LeavesIn (Some (s, x)) member) step h in bad
leaves_none w asked (appends rows expected new e a) open_one member s h = let bad : ⊥ = subst
    (λ (x : Transition). LeavesIn (Some (s, x)) member) a.draft.step_is h in bad
leaves_none w asked (closes m e named step none) open_one member s h = open_one
    (subst (λ (a : Asked). IsClose (Some a)) (sym e) tt)

-- and its parts lie under the last one
pub keys_of : (w : Writer) (asked : Asked) → Asks w asked → setting.IsOpen w.storing.setting → (m : ℕ) × AreKeys
    (shard_of w) m w.token 0 w.storing.setting.keys
keys_of w asked (opens shard e of step none) left = absurd (none_left w none left)
keys_of w asked (appends rows expected new e a) left = (a.member, a.draft.keys)
keys_of w asked (closes m e named step none) left = absurd (none_left w none left)

-- a member that a Leave doesn't meet refused stands with its kind
pub leave_stands : (s : ShardState) (member : ℕ) → standing_refusal s (Leave member) ≡ None → HasKind AsWriter member s →
    Stands member (λ m. is_writer m.kind ≡ true) s.members
leave_stands s member h kinds = go (member_of member s.members) refl h
  where
    go : (o : Option Member) → member_of member s.members ≡ o → of_member o any_kind (λ m. None) ≡ None → Stands member
        (λ m. is_writer m.kind ≡ true) s.members
    go None e g = absurd (cc)
    go (Some q) e g = elim (bool_cases (is_writer q.kind)) [
      | inl yes_one ↦ found_stands (λ m. is_writer m.kind ≡ true) member s.members q e yes_one
      | inr other ↦
          let (m, is, no_writer) = each_among (λ m. m.number ≡ member → m.kind ≡ AsWriter)
          (λ m. (m.number ≡ member) × (is_writer m.kind ≡ false)) s.members kinds
          (found_stands (λ m. is_writer m.kind ≡ false) member s.members q e other) in
          let writer : is_writer m.kind ≡ true = ap is_writer (is no_writer.0) in
          absurd (cc)
    ]
