-- Words mean one command at most, and clap finds it.
use Rattle.std.proofs.Common.{◌≡◌, ◌∙◌, ◌<◌, ◌^◌, ◌+◌, ◌&&◌, ◌==◌, ℕ, Bool, cond, codes, true, false, not}
use Rattle.std.proofs.Common.{refl, sym, ap, ap₂, subst, arith, List, [], ◌∷◌, ◌++◌, map, length, find, Option}
use Rattle.std.proofs.Common.{Some, None, option_map, is_some, true≢false}
use Rattle.std.specs.Prelude.{decimal, option_and_then, slice_get, unwrap_or, IfNone, IfOk, Result, Ok, Err}
use Rattle.std.specs.List.{AllByRecursion, list_any}
use Rattle.std.specs.Str.{bytes_eq}
use Rattle.std.specs.Str.Parse.{IsNumeral}
use Rattle.std.specs.Char.{digit_value}
use Rattle.std.proofs.lemmas.Bool.{or_parts}
use Rattle.std.proofs.lemmas.List.{append_assoc}
use Rattle.std.proofs.lemmas.Fmt.{decimal_is_IsNumeral}
use Rattle.std.proofs.lemmas.Slice.Eq.{bytes_eq-Decides}
use borrow.Author.Tests.{eqb-true}
use Rattle.uuid.specs.Text.{digits_of, has_hyphens, parsed, parsed_simple, parsed_hyphenated}
use Rattle.uuid.specs.Text.{parsed_braced, parsed_urn}
use Rattle.uuid.proofs.OnLiterals.{uuid_on_literals}
use Rattle.std.specs.Int.{from_be_bytes, w128}
use Rattle.std.specs.Box.{box_value}
use Rattle.clap.specs.Matches.{found_of, subcommand_name_of}
use Rattle.clap.specs.Simple.{subcommand_rows, subcommand_rows_of}
use Rattle.clap.specs.declared.parser.matches.ArgMatches.{ArgMatches}
use Rattle.clap.specs.declared.parser.matches.ArgMatches.TheViews.{out-ArgMatches, out-SubCommand}
use Rattle.command_words.specs.Found.{HoldsAll, IsFound, IsNone, Reads, value_in}
use Rattle.clap.specs.Walk.{Row, Text, first_of, rows_of}
use Rattle.command_words.specs.Uses.{AreDull, Once, Options, Spells, Use, command_named, commands, has_name, is_dull}
use Rattle.command_words.specs.Uses.{ingest_options, option_named, reclock_options, shard_options, value_of}
use Rattle.command_words.specs.Commands.{AreStops, IsCommand, IsCount, Means, shard_in, uuid_number}
use Rattle.command_words.specs.Program.{row}
use Rattle.command_words.specs.declared.commands.CommandWords.{CommandWords}
use Rattle.command_words.specs.declared.commands.CommandWords.TheVariants as command
use Rattle.stops_core.specs.declared.stops.Stop.{Stop}
use Rattle.stops_text.proofs.StopWords.{first_byte}
use Rattle.command_words.proofs.Finding.{found_holds}
use Rattle.command_words.proofs.Walks.{named_is}

-- ---- the value of each option

pub first_is : (n : Text) (uses : List Use) → first_of n (map row uses) ≡ value_of n uses
first_is n [] = refl
first_is n (u ∷ us) =
    elim (bytes_eq u.name n) as
    (λ b. option_and_then (λ r. slice_get r.values 0) (cond b (Some (row u)) (find (λ r. bytes_eq r.id n) (map row us)))
    ≡ option_map (λ u. u.value) (cond b (Some u) (find (has_name n) us))) [
      | true ↦ refl
      | false ↦ first_is n us
    ]

find_after : (n : Text) (before : List Use) (u : Use) (us : List Use) → list_any (has_name n) before ≡ false → bytes_eq u.name n ≡ true
    → value_of n (before ++ u ∷ us) ≡ Some u.value
find_after n [] u us none is = rw (is) refl
find_after n (v ∷ before) u us none is =
    let parts = or_parts (bytes_eq v.name n) (list_any (has_name n) before) none in
    rw (parts.0) (find_after n before u us parts.1 is)

abbrev HasOwn : List Use → Use → Type 0
HasOwn all u = value_of u.name all ≡ Some u.value

own_values : (before uses all : List Use) → all ≡ before ++ uses → Once before uses → AllByRecursion (HasOwn all) uses
own_values before [] all is once = tt
own_values before (u ∷ us) all is once = (
  ap (value_of u.name) is ∙ find_after u.name before u us once.0 ((bytes_eq-Decides u.name u.name).1 refl),
  own_values (before ++ u ∷ []) us all (is ∙ sym (append_assoc before (u ∷ []) us)) once.1,
)

-- the values that the options of a command are given
abbrev Dull : List Use → Text × Bool → Type 0
Dull all o = (v : Text) → value_of o.0 all ≡ Some v → is_dull v ≡ true

some_of : {X : Type 0} (o : Option X) → is_some o ≡ true → (x : X) × (o ≡ Some x)
some_of None h = absurd (true≢false (sym h))
some_of (Some x) h = (x, refl)

dull_uses : (options : Options) (all uses : List Use) → AllByRecursion (Dull all) options
    → AllByRecursion (λ u. is_some (option_named u.name options) ≡ true) uses → AllByRecursion (HasOwn all) uses → AreDull uses
dull_uses options all [] dull known own = tt
dull_uses options all (u ∷ us) dull known own =
    let some = some_of (option_named u.name options) known.0 in
    let here : Dull all some.0 = found_holds (λ o. bytes_eq o.0 u.name) (Dull all) options some.0 some.1 dull in
    (here u.value (ap (λ n. value_of n all) (named_is u.name options some.0 some.1) ∙ own.0), dull_uses options all us dull known.1 own.1)

-- ---- what the values may be

not_dash : (x : ℕ) → ((x == 45) ≡ true → ⊥) → not (x == 45) ≡ true
not_dash x h = go (x == 45) refl
  where
    go : (b : Bool) → (x == 45) ≡ b → not b ≡ true
    go true is = absurd (h is)
    go false is = refl

pub number_dull : (n : ℕ) → n < 2 ^ 64 → is_dull (decimal n) ≡ true
number_dull n small = go (decimal n) (decimal_is_IsNumeral n small).0
  where
    go : (t : Text) → IsNumeral 10 t → is_dull t ≡ true
    go [] h = refl
    go (x ∷ xs) h = not_dash x (λ is. let digit : digit_value 45 < 10 = subst (λ y. digit_value y < 10) (eqb-true x 45 is) h.1.0 in
        let bad : 36 < 10 = digit in omega (arith, bad))

and_none : (b : Bool) → (b && false) ≡ false
and_none true = refl
and_none false = refl

both_none : {X : Type 0} (b : Bool) (x y : Option X) → x ≡ None → y ≡ None → cond b x y ≡ None
both_none true x y p q = p
both_none false x y p q = q

dash_simple : (xs : Text) → parsed_simple (45 ∷ xs) ≡ None
dash_simple xs = rw (and_none (length (45 ∷ xs) == 32)) refl

dash_hyphenated : (xs : Text) → parsed_hyphenated (45 ∷ xs) ≡ None
unfolding uuid_on_literals
dash_hyphenated xs = both_none ((length (45 ∷ xs) == 36) && has_hyphens (45 ∷ xs)) (parsed_simple (digits_of (45 ∷ xs))) None refl refl

dash_braced : (xs : Text) → parsed_braced (45 ∷ xs) ≡ None
dash_braced xs = rw (and_none (length (45 ∷ xs) == 38)) refl

dash_urn : (xs : Text) → parsed_urn (45 ∷ xs) ≡ None
dash_urn xs = rw (and_none (length (45 ∷ xs) == 45)) refl

dash_parsed : (xs : Text) → parsed (45 ∷ xs) ≡ None
dash_parsed xs = both_none (length (45 ∷ xs) == 32) _ _ (dash_simple xs) (both_none (length (45 ∷ xs) == 36) _ _ (dash_hyphenated xs)
    (both_none (length (45 ∷ xs) == 38) _ _ (dash_braced xs) (both_none (length (45 ∷ xs) == 45) _ _ (dash_urn xs) refl)))

pub uuid_dull : (t : Text) (id : ℕ) → Some id ≡ uuid_number t → is_dull t ≡ true
uuid_dull [] id e = refl
uuid_dull (x ∷ xs) id e = not_dash x (λ is.
    let none : uuid_number (x ∷ xs) ≡ None = ap (λ y. uuid_number (y ∷ xs)) (eqb-true x 45 is) ∙ ap (option_map (from_be_bytes w128))
    (dash_parsed xs) in
    let bad : Some id ≡ None = e ∙ none in cc)

shard_dull : (d : ℕ) (value : Option Text) (id : ℕ) → Some id ≡ shard_in d value → (v : Text) → value ≡ Some v → is_dull v ≡ true
shard_dull d None id e v is = cc
shard_dull d (Some t) id e v is = let same : t ≡ v = cc in subst (λ x. is_dull x ≡ true) same (uuid_dull t id e)

count_dull : (low high : ℕ) (value : Option Text) (n : ℕ) → high < 2 ^ 64 → IsCount low high value n → (v : Text) → value ≡ Some v
    → is_dull v ≡ true
count_dull low high value n fits count v is =
    let both : Some (decimal n) ≡ Some v = sym count.0 ∙ is in
    let same : decimal n ≡ v = cc in
    subst (λ x. is_dull x ≡ true) same (number_dull n (omega (arith, fits, count.2)))

stops_dull : (workers : ℕ) → workers < 2 ^ 32 → (value : Option Text) (stops : List Stop) → AreStops workers value stops → (v : Text)
    → value ≡ Some v → is_dull v ≡ true
stops_dull workers few None stops are v is = cc
stops_dull workers few (Some []) stops are v is = let same : [] ≡ v = cc in subst (λ x. is_dull x ≡ true) same refl
stops_dull workers few (Some (x ∷ xs)) stops are v is =
    let same : x ∷ xs ≡ v = cc in
    subst (λ t. is_dull t ≡ true) same (not_dash x (λ dash. first_byte workers few x xs [] stops are (eqb-true x 45 dash)))

options_of : (name n : Text) (options known : Options) → name ≡ n → command_named n commands ≡ Some (n, known) → command_named name commands
    ≡ Some (name, options) → options ≡ known
options_of name n options known is here there =
    let both : ◌≡◌ {A = Option (Text × Options)} (Some (name, options)) (Some (n, known)) =
    sym there ∙ (ap (λ x. command_named x commands) is ∙ here) in
    ap (λ (o : Option (Text × Options)). (unwrap_or o ([], [])).1) both

pub means_dull : (words : List Text) (name : Text) (uses : List Use) (c : CommandWords) → Spells commands words name uses
    → Means name (λ n. value_of n uses) c → AreDull uses
means_dull words name uses (command.Run shard) spells means =
    let is = options_of name (codes "run") spells.1.0 shard_options means.0 refl spells.1.1 in
    dull_uses spells.1.0 uses uses (subst (AllByRecursion (Dull uses)) (sym is) (
      shard_dull 1 (value_of (codes "shard") uses) shard means.1,
      tt,
    )) spells.1.2.known (own_values [] uses uses refl spells.1.2.once)
means_dull words name uses (command.Steps shard) spells means =
    let is = options_of name (codes "steps") spells.1.0 shard_options means.0 refl spells.1.1 in
    dull_uses spells.1.0 uses uses (subst (AllByRecursion (Dull uses)) (sym is) (
      shard_dull 1 (value_of (codes "shard") uses) shard means.1,
      tt,
    )) spells.1.2.known (own_values [] uses uses refl spells.1.2.once)
means_dull words name uses (command.Ingest shard writers compactors collectors stops) spells means =
    let is = options_of name (codes "ingest") spells.1.0 ingest_options means.0 refl spells.1.1 in
    let few : writers + compactors + collectors < 2 ^ 32 = omega (arith, means.2.2, means.3.2, means.4.2) in
    dull_uses spells.1.0 uses uses (subst (AllByRecursion (Dull uses)) (sym is) (
      shard_dull 1 (value_of (codes "shard") uses) shard means.1,
      (
        count_dull 1 16 (value_of (codes "writers") uses) writers (omega arith) means.2,
        (
          count_dull 0 8 (value_of (codes "compactors") uses) compactors (omega arith) means.3,
          (
            count_dull 0 8 (value_of (codes "collectors") uses) collectors (omega arith) means.4,
            (stops_dull (writers + compactors + collectors) few (value_of (codes "stop") uses) stops means.5, tt),
          ),
        ),
      ),
    )) spells.1.2.known (own_values [] uses uses refl spells.1.2.once)
means_dull words name uses (command.Reclock remap shard operators) spells means =
    let is = options_of name (codes "reclock") spells.1.0 reclock_options means.0 refl spells.1.1 in
    dull_uses spells.1.0 uses uses (subst (AllByRecursion (Dull uses)) (sym is) (
      shard_dull 2 (value_of (codes "remap") uses) remap means.1,
      (
        shard_dull 3 (value_of (codes "data") uses) shard means.2,
        (count_dull 1 16 (value_of (codes "operators") uses) operators (omega arith) means.4, tt),
      ),
    ))
    spells.1.2.known (own_values [] uses uses refl spells.1.2.once)

-- ---- what the matches hold

pair_of : {X : Type 0} (f : X → Text) (g : X → List Row) (o : Option X) (n : Text) (r : List Row) → Some n ≡ option_map f o
    → Some r ≡ option_map (λ (p : Text × List Row). p.1) (option_map (λ b. (f b, g b)) o)
    → ◌≡◌ {A = Option (Text × List Row)} (option_map (λ b. (f b, g b)) o) (Some (n, r))
pair_of f g None n r first second = absurd (true≢false (ap is_some first))
pair_of f g (Some b) n r first second =
    ap₂ (λ (x : Text) (y : List Row). Some (x, y)) (ap (λ (o : Option Text). unwrap_or o []) (sym first))
    (ap (λ (o : Option (List Row)). unwrap_or o []) (sym second))

reads_as : (m given : ArgMatches) (name : Text) → Some name ≡ subcommand_name_of m → Some (rows_of (found_of given)) ≡ option_map (λ p. p.1)
    (subcommand_rows (out-ArgMatches m).subcommand)
    → subcommand_rows_of m ≡ Some (name, rows_of (found_of given))
reads_as m given name first second = pair_of (λ b. (out-SubCommand (box_value b)).name.now)
    (λ b. rows_of (found_of (out-SubCommand (box_value b)).matches)) (out-ArgMatches m).subcommand name
    (rows_of (found_of given)) first second

abbrev taken_from : Option (Text × List Row) → Text × List Row
taken_from o = unwrap_or o ([], [])

reads_none : (m given : ArgMatches) (name : Text) (r : Option CommandWords) → Some name ≡ subcommand_name_of m
    → Some (rows_of (found_of given)) ≡ option_map (λ p. p.1) (subcommand_rows (out-ArgMatches m).subcommand)
    → IfNone r ((c : CommandWords) → Means name (value_in given) c → ⊥) → IfNone r ((c : CommandWords) → Reads m c → ⊥)
reads_none m given name (Some c) first second h = h
reads_none m given name None first second h = λ c reads.
    let same : reads.0 ≡ (name, rows_of (found_of given)) = ap taken_from (sym reads.1 ∙ reads_as m given name first second) in
    h c (subst (λ p. Means p.0 (λ k. first_of k p.1) c) same reads.2)

pub is_command : (words : List Text) (m : ArgMatches) (c : CommandWords) → IsFound words m → Reads m c → IsCommand words c
is_command words m c found reads =
    let name = found.0 in
    let uses = found.1.0 in
    let same : reads.0 ≡ (name, map row uses) = ap taken_from (sym reads.1 ∙ found.1.2) in
    let means : Means name (λ k. first_of k (map row uses)) c = subst (λ p. Means p.0 (λ k. first_of k p.1) c) same reads.2 in
    (name, (uses, found.1.1, subst (λ f. Means name f c) (λ i n. first_is n uses i) means))

pub no_command : (words : List Text) (m : ArgMatches) → HoldsAll words m → ((c : CommandWords) → Reads m c → ⊥) → (c : CommandWords)
    → IsCommand words c → ⊥
no_command words m holds none c is =
    let name = is.0 in
    let uses = is.1.0 in
    let dull = means_dull words name uses c is.1.1 is.1.2 in
    none c ((name, map row uses), holds name uses is.1.1 dull, subst (λ f. Means name f c) (sym (λ i n. first_is n uses i)) is.1.2)

pub never_found : (words : List Text) → IsNone words → (c : CommandWords) → IsCommand words c → ⊥
never_found words none c is = none is.0 is.1.0 is.1.1 (means_dull words is.0 is.1.0 c is.1.1 is.1.2)

-- no shard for want of a UUID
pub no_uuid : (t : Text) (r : Bool) → (r ≡ true → ⊥) → is_some (parsed t) ≡ r → None ≡ uuid_number t
no_uuid t r not_ok is = go (parsed t) is
  where
    go : (o : Option (List ℕ)) → is_some o ≡ r → None ≡ option_map (from_be_bytes w128) o
    go None e = refl
    go (Some u) e = absurd (not_ok (sym e))

pub reads_none_ok : {E : Type 0} → (m given : ArgMatches) (name : Text) (r : Result (Option CommandWords) E) → Some name ≡ subcommand_name_of m
    → Some (rows_of (found_of given)) ≡ option_map (λ p. p.1) (subcommand_rows (out-ArgMatches m).subcommand)
    → IfOk r (λ found. IfNone found ((c : CommandWords) → Means name (value_in given) c → ⊥))
    → IfOk r (λ found. IfNone found ((c : CommandWords) → Reads m c → ⊥))
reads_none_ok m given name (Ok r) first second h = reads_none m given name r first second h
reads_none_ok m given name (Err e) first second h = tt
