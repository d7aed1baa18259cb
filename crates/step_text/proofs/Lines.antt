-- What no line says where it stands.
use Rattle.std.proofs.Common.{◌≡◌, ◌≢◌, ℕ, ◌+◌, ◌^◌, ◌<◌, ◌⊎◌, inl, inr, ⊎_elim, true, Option, Some, None, Result, Ok, Err, List, [], ◌∷◌, ◌++◌, length, drop, get_or, refl, sym, ap, subst, ◌∙◌, arith}
use Rattle.std.specs.Prelude.{IfOk, MatchOption}
use Rattle.std.specs.Str.{bytes_eq}
use Rattle.std.specs.Int.{IsInRange}
use Rattle.std.specs.List.{AllByRecursion}
use Rattle.std.specs.Fmt.{decimal}
use Rattle.std.proofs.lemmas.List.{drop_more}
use Rattle.std.proofs.lemmas.Fmt.{decimal_injective}
use Rattle.feed_text.proofs.Cuts.{Lacks, no_cut}
use Rattle.feed_text.proofs.Words.{cut_once}
use borrow.Author.Tests.{eqb-false}
use Rattle.feed_text.specs.Grammar.{append_line}
use Rattle.step_text.specs.declared.commands.Command.{Command}
use Rattle.step_text.specs.declared.commands.Command.TheVariants as commands
use Rattle.step_text.specs.Commands.{IsShort, command_text}
use Rattle.step_text.specs.declared.makes.Made.{Made}
use Rattle.step_text.specs.declared.seats.Seat.{Seat}
use Rattle.step_text.specs.declared.seats.Named.{Named}
use Rattle.step_text.specs.declared.schedules.SoFar.{SoFar}
use Rattle.step_text.specs.declared.verbs.Verb.{Verb}
use Rattle.step_text.specs.declared.verbs.Verb.TheVariants as verbs
use Rattle.step_text.specs.Words.{IsLetter, IsName, IsPolls}
use Rattle.step_text.specs.Schedules.{Leased, MadeAs, Opened, Short, Stands, TakesRest, seat_named}
use Rattle.step_text.proofs.Texts.{IsUnnumbered}

-- ---- names

-- a client that is found where the search has come to
pub seat_here : (name : List ℕ) (cs : List Named) (i : ℕ) (c : Named) → i < length cs → c ≡ get_or cs i c → bytes_eq c.name name ≡ true →
    seat_named name (drop i cs) ≡ Some c.seat
seat_here name cs i c lt is eq =
    ap (seat_named name) (drop_more cs i c lt ∙ ap (λ (x : Named). x ∷ drop (i + 1) cs) (sym is)) ∙ here
  where
    here : seat_named name (c ∷ drop (i + 1) cs) ≡ Some c.seat
    here = rw eq refl

letter : (b : ℕ) → IsLetter b → b ≢ 32
letter b h = λ is. ⊎_elim (λ (r : IsInRange 65 90 b). absurd (omega (arith, r.0, is))) (λ (r : IsInRange 97 122 b). absurd (omega (arith, r.0, is))) h

letters_spaceless : (bs : List ℕ) → AllByRecursion IsLetter bs → Lacks 32 bs
letters_spaceless [] h = tt
letters_spaceless (b ∷ bs) h = (letter b h.0, letters_spaceless bs h.1)

pub name_spaceless : (name : List ℕ) → IsName name → Lacks 32 name
name_spaceless name is = letters_spaceless name is.letters

-- ---- clients with a lease

module _ (kind : ℕ → Made) (s : SoFar) (rest : List ℕ) where
  pub no_lease : IsUnnumbered rest → (t : SoFar) → Leased kind s rest t → ⊥
  no_lease none t (name, lease, fits, text, made) = none name lease (name_spaceless name made.name_is) fits text

  leased_one : (word : List ℕ) (n : ℕ) → n < 2 ^ 64 → rest ≡ word ++ 32 ∷ decimal n → Lacks 32 word →
      ((t : SoFar) → MadeAs s word (kind n) t → ⊥) → (t : SoFar) → Leased kind s rest t → ⊥
  leased_one word n small is lacks none t (name, lease, fits, text, made) =
      let cut = cut_once name word (decimal lease) (decimal n) (name_spaceless name made.name_is) lacks (sym text ∙ is) in
      let same : lease ≡ n = decimal_injective lease n fits small cut.1 in
      none t (subst (λ (w : List ℕ). MadeAs s w (kind n) t) cut.0 (subst (λ (l : ℕ). MadeAs s name (kind l) t) same made))

  pub leased : {E : Type 0} (word : List ℕ) (n : ℕ) → n < 2 ^ 64 → rest ≡ word ++ 32 ∷ decimal n → Lacks 32 word →
      (r : Result (Option SoFar) E) →
      IfOk r (λ found. MatchOption found ((t : SoFar) → MadeAs s word (kind n) t → ⊥) (λ t. MadeAs s word (kind n) t)) →
      IfOk r (λ found. MatchOption found ((t : SoFar) → Leased kind s rest t → ⊥) (λ t. Leased kind s rest t))
  leased word n small is lacks (Err e) h = tt
  leased word n small is lacks (Ok None) h = leased_one word n small is lacks h
  leased word n small is lacks (Ok (Some t)) h = (word, n, small, is, h)

-- ---- steps

pub no_step : (s : SoFar) (rest : List ℕ) →
    ((name : List ℕ) (n : ℕ) → Lacks 32 name → IsPolls n → rest ≡ name ++ 32 ∷ decimal n → ⊥) → (t : SoFar) →
    TakesRest verbs.Step s rest t → ⊥
no_step s rest none t (name, polls, within, text, seat, stands, after) =
    none name polls (name_spaceless name stands.name_is) within text

pub step_of_none : (s : SoFar) (rest word : List ℕ) (n : ℕ) → rest ≡ word ++ 32 ∷ decimal n → Lacks 32 word →
    ((seat : Seat) → Stands s word seat → ⊥) → (t : SoFar) → TakesRest verbs.Step s rest t → ⊥
step_of_none s rest word n is lacks none t (name, polls, within, text, seat, stands, after) =
    let cut = cut_once name word (decimal polls) (decimal n) (name_spaceless name stands.name_is) lacks (sym text ∙ is) in
    none seat (subst (λ (w : List ℕ). Stands s w seat) cut.0 stands)

-- ---- commands

pub no_begin : (s : SoFar) (rest : List ℕ) → Lacks 32 rest → (t : SoFar) → TakesRest verbs.Begin s rest t → ⊥
no_begin s rest lacks t (name, what, text, seat, stands, begins) = no_cut 32 rest name what lacks text

module _ (s : SoFar) (rest word what : List ℕ) (is : rest ≡ word ++ 32 ∷ what) (lacks : Lacks 32 word) where
  pub begin_of_none : ((seat : Seat) → Stands s word seat → ⊥) → (t : SoFar) → TakesRest verbs.Begin s rest t → ⊥
  begin_of_none none t (name, other, text, seat, stands, begins) =
      let cut = cut_once name word other what (name_spaceless name stands.name_is) lacks (sym text ∙ is) in
      none seat (subst (λ (w : List ℕ). Stands s w seat) cut.0 stands)

  begins_not : (seat : Seat) → Stands s word seat → ((t : SoFar) → Short s seat what t ⊎ Opened s seat what t → ⊥) → (t : SoFar) →
      TakesRest verbs.Begin s rest t → ⊥
  begins_not seat own none t (name, other, text, seat2, stands, begins) =
      let cut = cut_once name word other what (name_spaceless name stands.name_is) lacks (sym text ∙ is) in
      let stands2 = subst (λ (w : List ℕ). Stands s w seat2) cut.0 stands in
      let same : seat2 ≡ seat = one_seat (sym stands2.made ∙ own.made) in
      none t (subst (λ (w : List ℕ). Short s seat w t ⊎ Opened s seat w t) cut.1
      (subst (λ (x : Seat). Short s x other t ⊎ Opened s x other t) same begins))
    where
      one_seat : {x y : Seat} → Some x ≡ Some y → x ≡ y
      one_seat e = cc

  pub begin_found : {E : Type 0} (seat : Seat) → Stands s word seat → (r : Result (Option SoFar) E) →
      IfOk r (λ found. MatchOption found ((t : SoFar) → Short s seat what t ⊎ Opened s seat what t → ⊥)
      (λ t. Short s seat what t ⊎ Opened s seat what t)) →
      IfOk r (λ found. MatchOption found ((t : SoFar) → TakesRest verbs.Begin s rest t → ⊥) (λ t. TakesRest verbs.Begin s rest t))
  begin_found seat own (Err e) h = tt
  begin_found seat own (Ok None) h = begins_not seat own h
  begin_found seat own (Ok (Some t)) h = (word, what, is, seat, own, h)

-- what is said of a verb, of the verb that was found
pub as_verb : {E : Type 0} (v w : Verb) (s : SoFar) (rest : List ℕ) (r : Result (Option SoFar) E) → v ≡ w →
    IfOk r (λ found. MatchOption found ((t : SoFar) → TakesRest w s rest t → ⊥) (λ t. TakesRest w s rest t)) →
    IfOk r (λ found. MatchOption found ((t : SoFar) → TakesRest v s rest t → ⊥) (λ t. TakesRest v s rest t))
as_verb v w s rest r is h = subst (λ (x : Verb). IfOk r (λ found. MatchOption found ((t : SoFar) → TakesRest x s rest t → ⊥)
    (λ t. TakesRest x s rest t))) (sym is) h

-- ---- appends

heads : {x y : ℕ} {xs ys : List ℕ} → x ∷ xs ≡ y ∷ ys → x ≡ y
heads e = cc

tails : {x y : ℕ} {xs ys : List ℕ} → x ∷ xs ≡ y ∷ ys → xs ≡ ys
tails e = cc

-- the text of an append is that of no command of one line
pub append_no_short : (c : Command) → IsShort c → (l : ℕ) (u : Option ℕ) → command_text c ≡ append_line l u → ⊥
append_no_short (commands.Append a) (inl h) l u e = h
append_no_short (commands.Append a) (inr h) l u e = h
append_no_short (commands.Snapshot t) h l u e = eqb-false 115 97 refl (heads e)
append_no_short (commands.Listen t) h l u e = eqb-false 108 97 refl (heads e)
append_no_short commands.Next h l u e = eqb-false 110 97 refl (heads e)
append_no_short (commands.Advance t) h l u e = eqb-false 100 112 refl (heads (tails e))
append_no_short commands.Renew h l u e = eqb-false 114 97 refl (heads e)
append_no_short commands.Close h l u e = eqb-false 99 97 refl (heads e)
append_no_short commands.Merge h l u e = eqb-false 109 97 refl (heads e)
append_no_short commands.Collect h l u e = eqb-false 99 97 refl (heads e)
append_no_short commands.Expire h l u e = eqb-false 101 97 refl (heads e)

pub begin_short : {E : Type 0} (s : SoFar) (seat : Seat) (what : List ℕ) (c : Command) → IsShort c → what ≡ command_text c →
    (r : Result (Option SoFar) E) →
    IfOk r (λ found. MatchOption found ((t : SoFar) → Short s seat (command_text c) t → ⊥) (λ t. Short s seat (command_text c) t)) →
    IfOk r (λ found. MatchOption found ((t : SoFar) → Short s seat what t ⊎ Opened s seat what t → ⊥)
    (λ t. Short s seat what t ⊎ Opened s seat what t))
begin_short s seat what c short is (Err e) h = tt
begin_short s seat what c short is (Ok None) h = go
  where
    go : (t : SoFar) → Short s seat what t ⊎ Opened s seat what t → ⊥
    go t (inl x) = h t (subst (λ (w : List ℕ). Short s seat w t) is x)
    go t (inr x) = append_no_short c short x.lower x.upper (sym is ∙ x.text)
begin_short s seat what c short is (Ok (Some t)) h = inl (subst (λ (w : List ℕ). Short s seat w t) (sym is) h)

pub begin_open : (s : SoFar) (seat : Seat) (what : List ℕ) → ((c : Command) → IsShort c → what ≡ command_text c → ⊥) → (o : Option SoFar) →
    MatchOption o ((t : SoFar) → Opened s seat what t → ⊥) (λ t. Opened s seat what t) →
    MatchOption o ((t : SoFar) → Short s seat what t ⊎ Opened s seat what t → ⊥) (λ t. Short s seat what t ⊎ Opened s seat what t)
begin_open s seat what none None h = go
  where
    go : (t : SoFar) → Short s seat what t ⊎ Opened s seat what t → ⊥
    go t (inl x) = none x.command x.short x.text
    go t (inr x) = h t x
begin_open s seat what none (Some t) h = inr h
