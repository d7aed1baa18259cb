-- Words mean one command at most.
use Rattle.std.proofs.Common.{◌≡◌, ◌∙◌, ◌<◌, ◌^◌, ◌+◌, ℕ, codes, false, refl, sym, ap, subst, arith, List, [], ◌∷◌, map, Option, Some, None, true≢false}
use Rattle.std.specs.Prelude.{unwrap_or}
use Rattle.std.specs.Str.{bytes_eq}
use Rattle.std.proofs.lemmas.Slice.Eq.{bytes_eq-Decides}
use Rattle.clap.specs.Walk.{Row, Text, first_of}
use Rattle.clap.specs.Simple.{subcommand_of}
use Rattle.command_words.specs.declared.commands.CommandWords.{CommandWords}
use Rattle.command_words.specs.declared.commands.CommandWords.TheVariants as command
use Rattle.command_words.specs.Uses.{commands}
use Rattle.command_words.specs.Commands.{AreStops, IsCommand, IsCount, Means, OneCommand, shard_in}
use Rattle.command_words.specs.Program.{program, row}
use Rattle.command_words.proofs.Finding.{takes}
use Rattle.command_words.proofs.Meaning.{first_is, means_dull}
use Rattle.command_words.proofs.Readers.{same_count}
use Rattle.stops_core.specs.declared.stops.Stop.{Stop}
use Rattle.stops_text.proofs.StopWords.{tells_one}

-- a command that a word and rows of values mean
abbrev MeantBy : CommandWords → Text × List Row → Type 0
MeantBy c p = Means p.0 (λ n. first_of n p.1) c

-- what clap finds in the words means the command
meant : (words : List Text) (c : CommandWords) → IsCommand words c
    → (p : Text × List Row) × (subcommand_of (program commands) words ≡ Some p) × MeantBy c p
meant words c is =
    let name = is.0 in
    let uses = is.1.0 in (
      (name, map row uses),
      (takes words name uses is.1.1 (means_dull words name uses c is.1.1 is.1.2)).1,
      subst (λ f. Means name f c) (sym (λ i n. first_is n uses i)) is.1.2,
    )

apart : (name a b : Text) → name ≡ a → name ≡ b → bytes_eq a b ≡ false → ⊥
apart name a b is_a is_b differ = true≢false (sym ((bytes_eq-Decides a b).1 (sym is_a ∙ is_b)) ∙ differ)

same_value : (o : Option ℕ) (a b : ℕ) → Some a ≡ o → Some b ≡ o → a ≡ b
same_value o a b is_a is_b = ap (λ x. unwrap_or x 0) (is_a ∙ sym is_b)

-- a text of stops is that of one list
same_stops : (workers : ℕ) → workers < 2 ^ 32 → (value : Option Text) (a b : List Stop) → AreStops workers value a → AreStops workers value b
    → a ≡ b
same_stops workers few None a b is_a is_b = is_a ∙ sym is_b
same_stops workers few (Some text) a b is_a is_b = tells_one workers few (44 ∷ text) [] a b is_a is_b

same_operators : (value : Option Text) (a b : ℕ) → IsCount 1 16 value a → IsCount 1 16 value b → a ≡ b
same_operators value a b is_a is_b = same_count 1 16 value a b (omega arith) is_a is_b

one_of : (name : Text) (value : Text → Option Text) (c d : CommandWords) → Means name value c → Means name value d → c ≡ d
one_of name value (command.Run s) (command.Run t) p q =
    ap (λ x. command.Run x) (same_value (shard_in 1 (value (codes "shard"))) s t p.1 q.1)
one_of name value (command.Run s) (command.Steps t) p q = absurd (apart name (codes "run") (codes "steps") p.0 q.0 refl)
one_of name value (command.Run s) (command.Ingest t w m g ks) p q = absurd (apart name (codes "run") (codes "ingest") p.0 q.0 refl)
one_of name value (command.Run s) (command.Reclock a b n) p q = absurd (apart name (codes "run") (codes "reclock") p.0 q.0 refl)
one_of name value (command.Steps s) (command.Run t) p q = absurd (apart name (codes "steps") (codes "run") p.0 q.0 refl)
one_of name value (command.Steps s) (command.Steps t) p q =
    ap (λ x. command.Steps x) (same_value (shard_in 1 (value (codes "shard"))) s t p.1 q.1)
one_of name value (command.Steps s) (command.Ingest t w m g ks) p q = absurd (apart name (codes "steps") (codes "ingest") p.0 q.0 refl)
one_of name value (command.Steps s) (command.Reclock a b n) p q =
    absurd (apart name (codes "steps") (codes "reclock") p.0 q.0 refl)
one_of name value (command.Ingest s w m g ks) (command.Run t) p q = absurd (apart name (codes "ingest") (codes "run") p.0 q.0 refl)
one_of name value (command.Ingest s w m g ks) (command.Steps t) p q =
    absurd (apart name (codes "ingest") (codes "steps") p.0 q.0 refl)
one_of name value (command.Ingest s w m g ks) (command.Ingest t x n h ls) p q =
    let shard = same_value (shard_in 1 (value (codes "shard"))) s t p.1 q.1 in
    let writers = same_count 1 16 (value (codes "writers")) w x (omega arith) p.2 q.2 in
    let compactors = same_count 0 8 (value (codes "compactors")) m n (omega arith) p.3 q.3 in
    let collectors = same_count 0 8 (value (codes "collectors")) g h (omega arith) p.4 q.4 in
    let few : x + n + h < 2 ^ 32 = omega (arith, q.2.2, q.3.2, q.4.2) in
    let stops = same_stops (x + n + h) few (value (codes "stop")) ks ls
    (subst (λ k. AreStops k (value (codes "stop")) ks) (λ i. writers i + compactors i + collectors i) p.5) q.5 in
    λ i. command.Ingest (shard i) (writers i) (compactors i) (collectors i) (stops i)
one_of name value (command.Ingest s w m g ks) (command.Reclock a b n) p q =
    absurd (apart name (codes "ingest") (codes "reclock") p.0 q.0 refl)
one_of name value (command.Reclock a b n) (command.Run t) p q = absurd (apart name (codes "reclock") (codes "run") p.0 q.0 refl)
one_of name value (command.Reclock a b n) (command.Steps t) p q =
    absurd (apart name (codes "reclock") (codes "steps") p.0 q.0 refl)
one_of name value (command.Reclock a b n) (command.Ingest s w m g ks) p q =
    absurd (apart name (codes "reclock") (codes "ingest") p.0 q.0 refl)
one_of name value (command.Reclock a b n) (command.Reclock x y m) p q =
    let remap = same_value (shard_in 2 (value (codes "remap"))) a x p.1 q.1 in
    let shard = same_value (shard_in 3 (value (codes "data"))) b y p.2 q.2 in
    let count = same_operators (value (codes "operators")) n m p.4 q.4 in
    ap (λ z. command.Reclock z b n) remap ∙ (ap (λ z. command.Reclock x z n) shard ∙ ap (λ z. command.Reclock x y z) count)

pub one_meaning : OneCommand
one_meaning words c d is_c is_d =
    let p = meant words c is_c in
    let q = meant words d is_d in
    let same : q.0 ≡ p.0 = ap (λ o. unwrap_or o ([], [])) (sym q.1 ∙ p.1) in
    one_of p.0.0 (λ n. first_of n p.0.1) c d p.2 (subst (MeantBy d) same q.2)
