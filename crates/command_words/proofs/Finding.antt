-- clap's answers, as answers on the words.
use Rattle.std.proofs.Common.{◌≡◌, ◌∙◌, ◌+◌, ◌<◌, ℕ, Bool, cond, codes, true, false, zero, suc, ⊎_elim}
use Rattle.std.proofs.Common.{refl, sym, ap, subst, arith, List, [], ◌∷◌, ◌++◌, map, length, find, take, get_or, Option, Some, None}
use Rattle.std.proofs.Common.{is_some, true≢false, Result, Ok, Err}
use Rattle.std.specs.List.{AllByRecursion}
use Rattle.std.specs.Str.{bytes_eq}
use Rattle.std.proofs.lemmas.Slice.Eq.{bytes_eq-Decides}
use Rattle.clap.specs.Values.{kind_of}
use Rattle.clap.specs.Walk.{Text, nothing_held}
use Rattle.clap.specs.Simple.{App, HasMatchesOf, subcommand_of}
use Rattle.clap.specs.Kinds.{HasKind, IsAmong}
use Rattle.clap.specs.Faults.{built_fault, fault_of, is_simple_and_free}
use Rattle.clap.specs.declared.error.Error.{Error}
use Rattle.clap.specs.declared.parser.matches.ArgMatches.{ArgMatches}
use Rattle.command_words.specs.declared.faults.WordsFault.{WordsFault}
use Rattle.command_words.specs.declared.faults.WordsFault.TheVariants.{Memory, NoCommand}
use Rattle.command_words.specs.Uses.{AreDull, NoDashes, Options, Spells, Use, all_written, command_named, commands}
use Rattle.command_words.specs.Uses.{dashes, option_named}
use Rattle.command_words.specs.Program.{program, refusal_as, refusal_of, row}
use Rattle.command_words.specs.Found.{HoldsAll, IsFound, IsNone}
use Rattle.command_words.proofs.Walks.{named_is}
use Rattle.command_words.proofs.Completeness.{IsTaken, is_name, joined_dull, name_dull, value_dull}
use Rattle.command_words.proofs.Levels.{base_of}
use Rattle.command_words.proofs.Tops.{program_reads, program_takes, rows_as, takes_as, whole}

-- what holds of all holds of the one that is found
pub found_holds : {X : Type 0} (p : X → Bool) (P : X → Type 0) (xs : List X) (x : X) → find p xs ≡ Some x → AllByRecursion P xs → P x
found_holds p P [] x e all = cc
found_holds p P (y ∷ xs) x e all = go (p y) e (λ f. found_holds p P xs x f all.1)
  where
    go : (b : Bool) → cond b (Some y) (find p xs) ≡ Some x → (find p xs ≡ Some x → P x) → P x
    go true f rest = let same : y ≡ x = cc in subst P same all.0
    go false f rest = rest f

abbrev HasNames : Text × Options → Type 0
HasNames e = AllByRecursion (λ o. is_name o.0 ≡ true) e.1

all_names : AllByRecursion HasNames commands
all_names = ((refl, tt), ((refl, tt), ((refl, (refl, (refl, (refl, (refl, tt))))), ((refl, (refl, (refl, tt))), tt))))

some_of : {X : Type 0} (o : Option X) → is_some o ≡ true → (x : X) × (o ≡ Some x)
some_of None h = absurd (true≢false (sym h))
some_of (Some x) h = (x, refl)

abbrev KnownIn : Options → Use → Type 0
KnownIn options u = is_some (option_named u.name options) ≡ true

all_taken : (e : Text × Options) (uses : List Use) → HasNames e → AllByRecursion (KnownIn e.1) uses → AreDull uses
    → AllByRecursion (IsTaken (base_of e) e.1) uses
all_taken e [] names known dull = tt
all_taken e (u ∷ us) names known dull =
    let some = some_of (option_named u.name e.1) known.0 in
    let name : is_name some.0.0 ≡ true = found_holds (λ o. bytes_eq o.0 u.name) (λ o. is_name o.0 ≡ true) e.1 some.0 some.1 names in (
      record { known = known.0; name = ap is_name (sym (named_is u.name e.1 some.0 some.1)) ∙ name; value = dull.0 },
      all_taken e us names known.1 dull.1,
    )

no_dash : (e : Text × Options) (uses : List Use) → AllByRecursion (IsTaken (base_of e) e.1) uses → NoDashes (all_written uses)
no_dash e [] taken = tt
no_dash e (u ∷ us) taken =
    elim u.joined as (λ b. NoDashes (cond b ((codes "--" ++ (u.name ++ (codes "=" ++ u.value))) ∷ [])
    ((codes "--" ++ u.name) ∷ u.value ∷ []) ++ all_written us)) [
      | true ↦ (joined_dull u.name u.value taken.0.name, no_dash e us taken.1)
      | false ↦ (name_dull u.name taken.0.name, ((value_dull u.value taken.0.value).0, no_dash e us taken.1))
    ]

no_command_dash : (name : Text) (e : Text × Options) → command_named name commands ≡ Some e → bytes_eq name dashes ≡ false
no_command_dash name e named = go (bytes_eq name dashes) refl
  where
    go : (b : Bool) → bytes_eq name dashes ≡ b → bytes_eq name dashes ≡ false
    go true is = let bad : None ≡ Some e = subst (λ n. command_named n commands ≡ Some e) ((bytes_eq-Decides name dashes).0 is) named in cc
    go false is = is

names_of_found : (name : Text) (options : Options) → command_named name commands ≡ Some (name, options) → HasNames (name, options)
names_of_found name options named = found_holds (λ e. bytes_eq e.0 name) HasNames commands (name, options) named all_names

pub spelled_plain : (words : List Text) (name : Text) (uses : List Use) → Spells commands words name uses → AreDull uses → NoDashes words
spelled_plain words name uses spells dull =
    let options = spells.1.0 in
    let named = spells.1.1 in
    let taken = all_taken (name, options) uses (names_of_found name options named) spells.1.2.known dull in
    subst NoDashes (sym spells.0) (no_command_dash name (name, options) named, no_dash (name, options) uses taken)

pub takes : (words : List Text) (name : Text) (uses : List Use) → Spells commands words name uses → AreDull uses
    → (fault_of (program commands) words ≡ []) × (subcommand_of (program commands) words ≡ Some (name, map row uses))
takes words name uses spells dull =
    let options = spells.1.0 in
    let named = spells.1.1 in
    let taken = all_taken (name, options) uses (names_of_found name options named) spells.1.2.known dull in
    let both = program_takes commands (name, options) uses named spells.1.2 taken in (
      takes_as words ∙ subst (λ w. built_fault (whole commands) nothing_held w ≡ []) (sym spells.0) both.0,
      ap (subcommand_of (program commands)) spells.0 ∙ (rows_as (name ∷ all_written uses) ∙ both.1),
    )

pub read_all : (a : App) (words : List Text) (m : ArgMatches) → a ≡ program commands → HasMatchesOf a words m → HoldsAll words m
read_all a words m is h name uses spells dull =
    let now = subst (λ x. HasMatchesOf x words m) is h refl in
    now.1 ∙ (takes words name uses spells dull).1

pub read_ok : (a : App) (words : List Text) (m : ArgMatches) → a ≡ program commands → NoDashes words
    → (is_simple_and_free a ≡ true → fault_of a words ≡ []) → HasMatchesOf a words m → IsFound words m
read_ok a words m is plain passes h =
    let now = subst (λ x. HasMatchesOf x words m) is h refl in
    let none = subst (λ x. is_simple_and_free x ≡ true → fault_of x words ≡ []) is passes refl in
    let read = program_reads commands words plain (sym (takes_as words) ∙ none) in
    let name = read.command.0 in (
      name,
      (
        read.has.uses,
        (read.words ∙ ap (λ r. name ∷ r) read.has.words, (read.command.1, read.named, read.has.given)),
        now.1
            ∙ (rows_as words ∙ read.rows),
      ),
    )

pub dashes_none : (words : List Text) → (NoDashes words → ⊥) → IsNone words
dashes_none words some name uses spells dull = some (spelled_plain words name uses spells dull)

pub read_none : (a : App) (words : List Text) (e : Error) → a ≡ program commands
    → (is_simple_and_free a ≡ true → HasKind (fault_of a words) e) → refusal_of e ≡ NoCommand → IsNone words
read_none a words e is fails refused name uses spells dull =
    let now = subst (λ x. is_simple_and_free x ≡ true → HasKind (fault_of x words) e) is fails refl in
    ⊎_elim
    (λ memory. let bad : Memory ≡ NoCommand = ap refusal_as (sym memory) ∙ refused in cc)
    (λ among. subst (IsAmong (kind_of e)) (takes words name uses spells dull).0 among)
    now

pub dash_at : {X : Type 0} (f : X → Text) (xs : List X) (i : ℕ) (x : X) → NoDashes (map f xs) → i < length xs → x ≡ get_or xs i x
    → bytes_eq (f x) dashes ≡ false
dash_at f [] i x all within is = absurd (omega arith)
dash_at f (y ∷ xs) zero x all within is = ap (λ z. bytes_eq (f z) dashes) is ∙ all.0
dash_at f (y ∷ xs) (suc i) x all within is = dash_at f xs i x all.1 (omega arith) is

pub dash_more : {X : Type 0} (f : X → Text) (xs : List X) (i j : ℕ) (x : X) → j ≡ i + 1 → NoDashes (take i (map f xs)) → i < length xs
    → x ≡ get_or xs i x → bytes_eq (f x) dashes ≡ false
    → NoDashes (take j (map f xs))
dash_more f [] i j x more all within is plain = absurd (omega arith)
dash_more f (y ∷ xs) i zero x more all within is plain = absurd (omega arith)
dash_more f (y ∷ xs) zero (suc j) x more all within is plain =
    let none : j ≡ 0 = omega arith in
    (ap (λ z. bytes_eq (f z) dashes) (sym is) ∙ plain, subst (λ k. NoDashes (take k (map f xs))) (sym none) tt)
dash_more f (y ∷ xs) (suc i) (suc j) x more all within is plain = (all.0, dash_more f xs i j x (omega arith) all.1 (omega arith) is plain)

-- the fault of a refusal
pub fault_in : {X : Type 0} → Result X WordsFault → WordsFault
fault_in (Ok x) = Memory
fault_in (Err f) = f

pub same_fault : {X : Type 0} (f g : WordsFault) → ◌≡◌ {A = Result X WordsFault} (Err f) (Err g) → f ≡ g
unfolding fault_in
same_fault f g e = ap fault_in e
