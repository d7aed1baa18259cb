-- What a client's beginning of a command comes to.
use Rattle.std.specs.Prelude.{⊤, ◌≡◌, ℕ, Option, Some, None, Result, Ok, Err}
use Rattle.load_core.specs.declared.begin_faults.BeginFault.{BeginFault}
use Rattle.load_core.specs.declared.begin_faults.BeginFault.TheVariants as begins
use Rattle.state_core.specs.declared.transitions.Transition.TheVariants as transitions
use Rattle.history_core.specs.declared.asked.Asked.TheVariants as asks
use Rattle.update_core.specs.Frontiers.{after}
use Rattle.write_client.specs.declared.writers.Writer.{Writer}
use Rattle.write_client.specs.Beginning as write
use Rattle.read_client.specs.declared.readers.Reader.{Reader}
use Rattle.read_client.specs.Beginning as read
use Rattle.merge_client.specs.declared.compactors.Compactor.{Compactor}
use Rattle.merge_client.specs.Beginning as merge
use Rattle.maint_client.specs.declared.collectors.Collector.{Collector}
use Rattle.maint_client.specs.Collecting as collect
use Rattle.maint_client.specs.declared.expirers.Expirer.{Expirer}
use Rattle.maint_client.specs.Expiring as expire
use Rattle.step_text.specs.declared.commands.Command.{Command}
use Rattle.step_text.specs.declared.commands.Command.TheVariants as commands
use Rattle.step_run.specs.declared.clients.Client.{Client}
use Rattle.step_run.specs.declared.clients.Client.TheVariants as clients
use Rattle.step_run.specs.declared.sayings.Saying.{Saying}
use Rattle.step_run.specs.declared.step_faults.StepFault.{StepFault}
use Rattle.step_run.specs.declared.step_faults.StepFault.TheVariants as faults
use Rattle.step_run.specs.Sayings.{refusal_says}

-- what is said where a command is begun or isn't; want of memory ends the schedule
abbrev pub says_begun : Result Unit BeginFault → Result (Option Saying) StepFault
says_begun (Ok done) = Ok None
says_begun (Err begins.Memory) = Err faults.Memory
says_begun (Err fault) = Ok (refusal_says fault)

-- a beginning comes to this, and that is said
abbrev pub Said : (Result Unit BeginFault → Type 0) → Option Saying → Type 0
Said begins said = (begun : Result Unit BeginFault) × begins begun × (says_begun begun ≡ Ok said)

-- a command that is none of the client's kind isn't begun, and nothing is said
abbrev pub Passes : {M : Type 0} → M → M → Option Saying → Type 0
Passes old new said = (new ≡ old) × (said ≡ None)

abbrev pub BeginsWrite : Writer → Command → Writer → Option Saying → Type 0
BeginsWrite old (commands.Append a) new said =
    Said (write.Begins (write.append_fault old a.rows a.lower a.upper) old new (write.Appending old a.rows a.lower a.upper)) said
BeginsWrite old commands.Close new said = Said (write.Begins (write.close_fault old) old new (write.Closing old)) said
BeginsWrite old _ new said = Passes old new said

-- what a reader's beginning begins, where nothing but its member or an open command may stand against it
abbrev pub Asks : Reader → Reader → (Reader → Type 0) → Option Saying → Type 0
Asks old new begun said = Said (read.Begins (read.member_fault old.asked old.member) old new begun) said

abbrev pub BeginsRead : ℕ → Reader → Command → Reader → Option Saying → Type 0
BeginsRead moment old (commands.Snapshot t) new said = Asks old new (read.BeginsRead old (asks.Snapshot t) old.listen) said
BeginsRead moment old (commands.Listen t) new said = Asks old new (read.BeginsRead old (asks.Listen t) (Some (after t))) said
BeginsRead moment old commands.Next new said = Said (read.Begins (read.next_fault old) old new (read.BeginsRead old asks.Next old.listen)) said
BeginsRead moment old (commands.Advance to) new said = Asks old new (read.Changing old (asks.Advance to) (λ member. transitions.Advance member to)) said
BeginsRead moment old commands.Renew new said = Asks old new (read.Changing old (asks.RenewReader moment) (λ member. transitions.Renew member moment)) said
BeginsRead moment old commands.Close new said = Asks old new (read.Changing old asks.CloseReader (λ member. transitions.Leave member)) said
BeginsRead moment old _ new said = Passes old new said

abbrev pub BeginsMerge : ℕ → Compactor → Command → Compactor → Option Saying → Type 0
BeginsMerge moment old commands.Merge new said = Said (merge.Begins (merge.merge_fault old) old new (merge.Merging old)) said
BeginsMerge moment old commands.Renew new said =
    Said (merge.Begins (merge.member_fault old.asked old.member) old new (merge.Changing old (asks.RenewCompactor moment) (λ member. transitions.Renew member moment))) said
BeginsMerge moment old commands.Close new said =
    Said (merge.Begins (merge.member_fault old.asked old.member) old new (merge.Changing old asks.CloseCompactor (λ member. transitions.Leave member))) said
BeginsMerge moment old _ new said = Passes old new said

abbrev pub BeginsCollect : Collector → Command → Collector → Option Saying → Type 0
BeginsCollect old commands.Collect new said = Said (collect.Begins old new) said
BeginsCollect old _ new said = Passes old new said

abbrev pub BeginsExpire : ℕ → Expirer → Command → Expirer → Option Saying → Type 0
BeginsExpire moment old commands.Expire new said = Said (expire.Begins old.tryer moment new.tryer) said
BeginsExpire moment old _ new said = Passes old new said

-- a client begins a command of its kind at this moment, unless something stands against it, which it then says
abbrev pub ClientBegins : ℕ → Client → Command → Client → Option Saying → Type 0
ClientBegins moment (clients.Writer w) what (clients.Writer v) said = BeginsWrite w what v said
ClientBegins moment (clients.Reader r) what (clients.Reader q) said = BeginsRead moment r what q said
ClientBegins moment (clients.Compactor c) what (clients.Compactor d) said = BeginsMerge moment c what d said
ClientBegins moment (clients.Collector c) what (clients.Collector d) said = BeginsCollect c what d said
ClientBegins moment (clients.Expirer x) what (clients.Expirer y) said = BeginsExpire moment x what y said
ClientBegins moment _ what _ said = ⊥

-- only memory is wanted
abbrev pub FailsForMemory : {A : Type 0} → Result A StepFault → Type 0
FailsForMemory (Ok a) = ⊤
FailsForMemory (Err fault) = fault ≡ faults.Memory
