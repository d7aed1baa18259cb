-- Words of `ingest` are no other command's.
use Rattle.std.proofs.Common.{◌≡◌, ℕ, ◌+◌, ◌≤◌, List, inl, inr, arith}
use Rattle.stops_core.specs.declared.stops.Stop.{Stop}
use Rattle.command_words.specs.declared.commands.CommandWords.{CommandWords}
use Rattle.command_words.specs.declared.commands.CommandWords.TheVariants as commands
use Rattle.command_words.specs.Commands.{IsCommand}
use Rattle.command_words.proofs.OneMeaning.{one_meaning}
use Rattle.persist_app.specs.declared.crew_words.CrewWords.{CrewWords}
use Rattle.persist_app.specs.Endings.{NoCommand}
use Rattle.persist_app.specs.TopEnds.{NamesCrew, NoCrew}

-- the command that they are
abbrev pub command_with : CrewWords → CommandWords
command_with c = commands.Ingest c.shard.0 c.size.writers c.size.compactors c.size.collectors c.size.stops

pub crews_are_none : (words : List (List ℕ)) (s w m g : ℕ) (ks : List Stop) → IsCommand words (commands.Ingest s w m g ks) → NoCommand words
crews_are_none words s w m g ks x shard (inl y) =
    let e : commands.Ingest s w m g ks ≡ commands.Run shard.0 =
    one_meaning words (commands.Ingest s w m g ks) (commands.Run shard.0) x y in absurd cc
crews_are_none words s w m g ks x shard (inr y) =
    let e : commands.Ingest s w m g ks ≡ commands.Steps shard.0 =
    one_meaning words (commands.Ingest s w m g ks) (commands.Steps shard.0) x y in absurd cc

pub runs_are_no_crew : (words : List (List ℕ)) (s : ℕ) → IsCommand words (commands.Run s) → NoCrew words
runs_are_no_crew words s x crew y =
    let e : commands.Run s ≡ command_with crew = one_meaning words (commands.Run s) (command_with crew) x y in absurd cc

pub steps_are_no_crew : (words : List (List ℕ)) (s : ℕ) → IsCommand words (commands.Steps s) → NoCrew words
steps_are_no_crew words s x crew y =
    let e : commands.Steps s ≡ command_with crew = one_meaning words (commands.Steps s) (command_with crew) x y in absurd cc

pub reclocks_are_no_crew : (words : List (List ℕ)) (r d n : ℕ) → IsCommand words (commands.Reclock r d n) → NoCrew words
reclocks_are_no_crew words r d n x crew y =
    let e : commands.Reclock r d n ≡ command_with crew = one_meaning words (commands.Reclock r d n) (command_with crew) x y in absurd cc

pub without_crew : (words : List (List ℕ)) → ((c : CommandWords) → IsCommand words c → ⊥) → NoCrew words
without_crew words none crew y = none (command_with crew) y

-- words name one crew
pub one_crew : (words : List (List ℕ)) (a b : CrewWords) → NamesCrew words a → NamesCrew words b → a ≡ b
one_crew words a b x y =
    let e : command_with a ≡ command_with b = one_meaning words (command_with a) (command_with b) x y in
    let shard : a.shard.0 ≡ b.shard.0 = cc in
    let writers : a.size.writers ≡ b.size.writers = cc in
    let compactors : a.size.compactors ≡ b.size.compactors = cc in
    let collectors : a.size.collectors ≡ b.size.collectors = cc in
    let stops : a.size.stops ≡ b.size.stops = cc in
    λ i. record {
      shard = record { 0 = shard i };
      size = record { writers = writers i; compactors = compactors i; collectors = collectors i; stops = stops i };
    }

-- a crew has 32 workers at most
pub few_workers : (words : List (List ℕ)) (crew : CrewWords) → NamesCrew words crew →
    crew.size.writers + crew.size.compactors + crew.size.collectors ≤ 64
few_workers words crew is =
    let means = is.1.2 in
    omega (arith, means.2.2, means.3.2, means.4.2)
