-- An append is a command that stores parts under a token of its writer's member. Entries go newest first.
use Rattle.std.proofs.Common.{◌≡◌, ℕ, Option, Some, List, ◌∷◌, ◌++◌, refl, sym, subst}
use Rattle.update_core.specs.declared.updates.Update.{Update}
use Rattle.store_core.specs.declared.entries.Entry.{Entry}
use Rattle.store_core.specs.Ports.{OfOthers}
use Rattle.store_core.specs.Stores.{Stored}
use Rattle.state_core.specs.declared.kinds.Kind.TheVariants.{Writer as AsWriter}
use Rattle.state_core.specs.declared.transitions.Transition.{Transition}
use Rattle.state_core.specs.Steps.{Spends}
use Rattle.history_core.specs.declared.asked.Asked.TheVariants as asks
use Rattle.history_core.specs.Discipline.{LawfulBack}
use Rattle.history_core.specs.Stands.{StandsFor}
use Rattle.token_machine.specs.Legality.{StoresAt}
use Rattle.write_client.specs.declared.writers.Writer.{Writer}
use Rattle.write_client.specs.Following.{Follows}
use Rattle.write_client.specs.Writing.{IsAppend, IsSound, call_of, shard_of}
use Rattle.write_client.proofs.Asking.{append_facts, member_seen}
use Rattle.write_client.proofs.Following.{member_is}

pub stores_at : (client : ℕ) (w : Writer) (list : List Update) (start : Stored) (e : Entry) (others es : List Entry) → IsSound w →
    Follows client w start es → e.client ≡ client → OfOthers client others → StandsFor start (shard_of w) list →
    LawfulBack start (e ∷ (others ++ es)) → call_of w ≡ Some e.call → (rows : List Update) (expected : ℕ) (new : Option ℕ) →
    w.asked ≡ Some (asks.Append rows expected new) → (a : IsAppend w rows expected new) →
    StoresAt AsWriter a.member w.token w.storing client list start e others es
stores_at client w list start e others es sound follows own of st lawful call_is rows expected new asked_is a = record {
  sound = sound.storing;
  own = own;
  call_is = call_is;
  of_others = of;
  stands = st;
  lawful = lawful;
  follows = follows.trying;
  draws = (member_is client w start es a.member a.member_is follows).draws;
  storing = append_facts client w start es rows expected new a.member asked_is a.member_is follows;
  some_token = a.drawn;
  spends = subst (λ (x : Transition). Spends x a.member w.token) (sym a.draft.step_is) (refl, refl);
  keys = a.draft.keys;
  seen = member_seen w a.member sound a.member_is;
}
