-- A reader's open, close, renewal and advance are changes of its member. Entries go newest first.
use Rattle.std.proofs.Common.{◌≡◌, ℕ, true, false, Option, Some, None, List, ◌∷◌, ◌++◌, refl, sym, ap, subst, ◌∙◌}
use Rattle.std.specs.Prelude.{IfSome, IsSome, unwrap_or}
use Rattle.update_core.specs.declared.updates.Update.{Update}
use Rattle.update_core.specs.Frontiers.{after}
use Rattle.store_core.specs.declared.entries.Entry.{Entry}
use Rattle.store_core.specs.declared.shards.ShardId.{ShardId}
use Rattle.store_core.specs.Stores.{Stored}
use Rattle.store_core.specs.Ports.{OfOthers}
use Rattle.store_core.specs.Newest.{mine_back}
use Rattle.state_core.specs.declared.kinds.Kind.TheVariants.{Reader as AsReader}
use Rattle.state_core.specs.declared.transitions.Transition.{Transition}
use Rattle.state_core.specs.declared.transitions.Transition.TheVariants.{Join, Leave, Renew, Advance}
use Rattle.history_core.specs.declared.asked.Asked.{Asked}
use Rattle.history_core.specs.declared.asked.Asked.TheVariants as asks
use Rattle.history_core.specs.Discipline.{LawfulBack}
use Rattle.history_core.specs.Members.{JoinedAs}
use Rattle.history_core.specs.Stands.{StandsFor}
use Rattle.load_core.specs.Trying as trying
use Rattle.change_core.specs.Changes.{IsChange, IsOfMember}
use Rattle.change_core.specs.Legality.{ChangesAt}
use Rattle.read_machine.proofs.Parts.{some_is}
use Rattle.read_client.specs.declared.questions.Question.TheVariants as questions
use Rattle.read_client.specs.declared.readers.Reader.{Reader}
use Rattle.read_client.specs.Asking.{question_of, step_question}
use Rattle.read_client.specs.Following.{Follows}
use Rattle.read_client.specs.Reading.{AsksAs, IsSound, own_member, shard_of}

pub is_there : {A : Type 0} (o : Option A) → IsSome o → (x : A) × (o ≡ Some x)
is_there None h = absurd (let bad : false ≡ true = h in cc)
is_there (Some x) h = (x, refl)

-- what a command that asks no question changes
pub data Changed (r : Reader) (asked : Asked) : Type 0 where
  opens : (shard : ShardId) (now lease : ℕ) → asked ≡ asks.OpenReader shard now lease → shard ≡ shard_of r →
      r.trying.step ≡ Join AsReader now lease → Changed r asked
  advances : (to member : ℕ) → asked ≡ asks.Advance to → r.member ≡ Some member → r.trying.step ≡ Advance member to →
      Changed r asked
  renews : (now member : ℕ) → asked ≡ asks.RenewReader now → r.member ≡ Some member → r.trying.step ≡ Renew member now →
      Changed r asked
  closes : (member : ℕ) → asked ≡ asks.CloseReader → r.member ≡ Some member → r.trying.step ≡ Leave member → Changed r asked

pub changed : (r : Reader) (asked : Asked) → question_of (Some asked) r.listen ≡ None →
    AsksAs (shard_of r) r.member r.trying.step r.listen asked → Changed r asked
changed r (asks.OpenReader shard now lease) none h = opens shard now lease refl h.0 h.2
changed r (asks.Advance to) none h = let (member, is, step) =
    some_is (λ member. r.trying.step ≡ Advance member to) r.member h in advances to member refl is step
changed r (asks.RenewReader now) none h = let (member, is, step) =
    some_is (λ member. r.trying.step ≡ Renew member now) r.member h in renews now member refl is step
changed r asks.CloseReader none h = let (member, is, step) =
    some_is (λ member. r.trying.step ≡ Leave member) r.member h in closes member refl is step
changed r (asks.Snapshot t) none h = absurd (let bad : Some (questions.Content t) ≡ None = none in cc)
changed r (asks.Listen as_of) none h = absurd (
    let bad : Some (questions.Step (after as_of)) ≡ None = sym (ap step_question h.1) ∙ none in cc)
changed r asks.Next none h = absurd (
    let (g, is) = is_there r.listen h.1 in
    let bad : Some (questions.Step g) ≡ None = sym (ap step_question is) ∙ none in cc)
changed r other none h = absurd h

join_change : (member now lease : ℕ) → IsChange AsReader member (Join AsReader now lease)
join_change member now lease = record { changes = refl; shaped = λ s. refl }

advance_change : (member to : ℕ) → IsChange AsReader member (Advance member to)
advance_change member to = record { changes = (refl, refl); shaped = λ s. refl }

renew_change : (member now : ℕ) → IsChange AsReader member (Renew member now)
renew_change member now = record { changes = (refl, refl); shaped = λ s. refl }

leave_change : (member : ℕ) → IsChange AsReader member (Leave member)
leave_change member = record { changes = refl; shaped = λ s. refl }

module _ (client : ℕ) (r : Reader) (list : List Update) (start : Stored) (e : Entry) (others es : List Entry) (sound : IsSound r)
    (f : Follows client r start es) (own : e.client ≡ client) (call : e.call ≡ trying.call_of r.trying)
    (of : OfOthers client others)
    (st : StandsFor start (shard_of r) list) (lawful : LawfulBack start (e ∷ (others ++ es))) where
  abbrev Changes : ℕ → Type 0
  Changes member = ChangesAt AsReader member r.trying client list start e others es

  changes : (member : ℕ) → IsChange AsReader member r.trying.step →
      (IsOfMember r.trying.step → JoinedAs AsReader (mine_back start es client) (shard_of r) member) → Changes member
  changes member change joined = record {
    at = record {
      sound = sound.trying;
      own = own;
      call_is = call;
      of_others = of;
      stands = st;
      lawful = lawful;
      follows = f.trying;
    };
    change = change;
    joined = joined;
  }

  -- one of its own member
  of_member : (member : ℕ) (step : Transition) → r.member ≡ Some member → r.trying.step ≡ step → IsChange AsReader member step →
      Changes (own_member r)
  of_member member step is step_is change =
      let same : own_member r ≡ member = ap (λ (o : Option ℕ). unwrap_or o 0) is in
      subst Changes (sym same) (changes member (subst (IsChange AsReader member) (sym step_is) change)
      (λ of. subst (λ (o : Option ℕ). IfSome o (JoinedAs AsReader (mine_back start es client) (shard_of r))) is f.member))

  pub changed_at : (asked : Asked) → Changed r asked → Changes (own_member r)
  changed_at asked (opens shard now lease is same step) =
      changes (own_member r) (subst (IsChange AsReader (own_member r)) (sym step) (join_change (own_member r) now lease))
      (λ of. absurd (let join : IsOfMember (Join AsReader now lease) = subst IsOfMember step of in join))
  changed_at asked (advances to member is own_is step) = of_member member (Advance member to) own_is step
      (advance_change member to)
  changed_at asked (renews now member is own_is step) = of_member member (Renew member now) own_is step (renew_change member now)
  changed_at asked (closes member is own_is step) = of_member member (Leave member) own_is step (leave_change member)
