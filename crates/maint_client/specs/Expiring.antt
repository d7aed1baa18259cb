-- What an expiry asks and is answered. Entries go newest first.
use Rattle.std.specs.Prelude.{⊤, ◌≡◌, ℕ, Option, Some, None, IsSome, Result, Ok, Err, List, []}
use Rattle.std.specs.Option.{option_map}
use Rattle.state_core.specs.declared.transitions.Transition.TheVariants.{Expire}
use Rattle.state_core.specs.States.{ShardState}
use Rattle.history_core.specs.declared.asked.Asked.{Asked}
use Rattle.history_core.specs.declared.asked.Asked.TheVariants as asks
use Rattle.history_core.specs.declared.expire_answers.ExpireAnswer.{ExpireAnswer}
use Rattle.history_core.specs.declared.expire_answers.ExpireAnswer.TheVariants as answers
use Rattle.history_core.specs.Upkeep.{LegalExpiry, out_numbers}
use Rattle.load_core.specs.declared.begin_faults.BeginFault.{BeginFault}
use Rattle.load_core.specs.declared.begin_faults.BeginFault.TheVariants as faults
use Rattle.load_core.specs.declared.polls.Poll.TheVariants as polls
use Rattle.load_core.specs.Trying.{begun}
use Rattle.machine_core.specs.Machines.{Words}
use Rattle.try_machine.specs.declared.tryers.Tryer.{Tryer}
use Rattle.try_machine.specs.Rules.{Rules}
use Rattle.try_machine.specs.Tryers.{words}
use Rattle.maint_client.specs.declared.expiries.Expiry.{Expiry}

-- the moment of an expiry; 0 for what is none
abbrev pub moment_of : Asked → ℕ
moment_of (asks.Expire now) = now
moment_of _ = 0

-- the numbers of the members of the newest state whose lease has run out, where one is known
abbrev pub out_of : ℕ → Option ShardState → List ℕ
out_of now None = []
out_of now (Some s) = out_numbers now s.members

-- the number of the newest state, or 0
abbrev pub number_of : Option ShardState → ℕ
number_of None = 0
number_of (Some s) = s.number

-- An expiry, as a rule: the moment stays, the newest state's members are looked at before each call, a shard without versions is
-- answered as none due in version 0, and so is each refusal, with the newest version.
abbrev pub expiring : Rules Expiry ExpireAnswer
expiring = record {
  Fixed = ℕ;
  fixed = λ r. moment_of r.asked;
  step = λ now. Expire now;
  looked = λ r newest. record { asked = asks.Expire (moment_of r.asked); out = out_of (moment_of r.asked) newest };
  empty = λ r. Some (answers.NoneDue 0);
  committed = λ r newest version. answers.Removed r.out;
  refused = λ r newest refusal. polls.Done (answers.NoneDue (number_of newest));
  Knows = λ now shard own. ⊤;
  Legal = LegalExpiry;
}

-- an expirer, as a machine
abbrev pub machine : Words (Tryer Expiry) ExpireAnswer
machine = words expiring

-- an expiry is begun exactly where none is open; else that is told, and all is as it was
abbrev pub Begins : Tryer Expiry → ℕ → Tryer Expiry → Result Unit BeginFault → Type 0
Begins old now new (Ok done) = (old.asked ≡ None) × (new ≡ record {
  trying = begun old.trying.loader (Expire now);
  asked = Some (record { asked = asks.Expire now; out = [] });
})
Begins old now new (Err fault) = (fault ≡ faults.Open) × IsSome old.asked × (new ≡ old)

-- what is asked, where an expiry is open
abbrev pub asked_of : Tryer Expiry → Option Asked
asked_of t = option_map (λ r. r.asked) t.asked
