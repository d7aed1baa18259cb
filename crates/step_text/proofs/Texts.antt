-- Which texts are no command, and which words no count.
use Rattle.std.proofs.Common.{◌≡◌, ◌≢◌, ℕ, ◌^◌, ◌<◌, ◌≤◌, ◌⊎◌, inl, inr, ⊎_elim, Bool, true, false, cond, eqb, List, [], ◌∷◌, ◌++◌, refl, sym, subst, ◌∙◌, arith}
use Rattle.std.specs.Prelude.{codes}
use Rattle.std.specs.Fmt.{decimal}
use Rattle.std.proofs.lemmas.Fmt.{decimal_injective}
use borrow.Author.Tests.{eqb-false}
use Rattle.feed_text.proofs.Cuts.{Lacks, no_cut}
use Rattle.feed_text.proofs.Spelled.{NoNumber}
use Rattle.feed_text.proofs.Words.{cut_once}
use Rattle.step_text.specs.declared.commands.Command.{Command}
use Rattle.step_text.specs.declared.commands.Command.TheVariants as commands
use Rattle.step_text.specs.Commands.{IsTimed, command_text}
use Rattle.step_text.specs.Words.{IsPolls}
use Rattle.step_text.specs.declared.schedules.SoFar.{SoFar}
use Rattle.step_text.specs.declared.verbs.Verb.TheVariants as verbs
use Rattle.step_text.specs.declared.verbs.Verb.{Verb}
use Rattle.step_text.specs.Schedules.{Free, TakesRest, verb_word}

-- ---- counts

-- a number outside the range is no count, in whatever spelling
pub no_polls : (word : List ℕ) (count : ℕ) → count < 2 ^ 64 → word ≡ decimal count → (IsPolls count → ⊥) → (n : ℕ) → IsPolls n →
    word ≡ decimal n → ⊥
no_polls word count small is out n within other =
    let fits : n < 2 ^ 64 = omega (arith, within.1) in
    let same : n ≡ count = decimal_injective n count fits small (sym other ∙ is) in
    out (subst IsPolls same within)

-- ---- words without a space

without : ℕ → List ℕ → Bool
without byte [] = true
without byte (b ∷ bs) = cond (eqb b byte) false (without byte bs)

lacks_next : (byte b : ℕ) (bs : List ℕ) (t : Bool) → eqb b byte ≡ t → cond t false (without byte bs) ≡ true → (b ≢ byte) × (without byte bs ≡ true)
lacks_next byte b bs true is h = cc
lacks_next byte b bs false is h = (eqb-false b byte is, h)

lacks_test : (byte : ℕ) (text : List ℕ) → without byte text ≡ true → Lacks byte text
unfolding without
lacks_test byte [] h = tt
lacks_test byte (b ∷ bs) h =
    let next = lacks_next byte b bs (eqb b byte) refl h in
    (next.0, lacks_test byte bs next.1)

snapshot_lacks : Lacks 32 (codes "snapshot")
unfolding without
snapshot_lacks = lacks_test 32 (codes "snapshot") refl

listen_lacks : Lacks 32 (codes "listen")
unfolding without
listen_lacks = lacks_test 32 (codes "listen") refl

advance_lacks : Lacks 32 (codes "advance")
unfolding without
advance_lacks = lacks_test 32 (codes "advance") refl

-- ---- commands with a time

-- a text that is a word and a time
abbrev pub IsNamed : List ℕ → Type 0
IsNamed text = (name : List ℕ) × (t : ℕ) × (t < 2 ^ 64) × (text ≡ name ++ 32 ∷ decimal t) × Lacks 32 name
    × ((name ≡ codes "snapshot") ⊎ ((name ≡ codes "listen") ⊎ (name ≡ codes "advance")))

named : (command : Command) (text : List ℕ) → IsTimed command → text ≡ command_text command → IsNamed text
named (commands.Snapshot t) text small is = (codes "snapshot", t, small, is, snapshot_lacks, inl refl)
named (commands.Listen t) text small is = (codes "listen", t, small, is, listen_lacks, inr (inl refl))
named (commands.Advance t) text small is = (codes "advance", t, small, is, advance_lacks, inr (inr refl))
named (commands.Append a) text small is = absurd small
named commands.Next text small is = absurd small
named commands.Renew text small is = absurd small
named commands.Close text small is = absurd small
named commands.Merge text small is = absurd small
named commands.Collect text small is = absurd small
named commands.Expire text small is = absurd small

-- a text that no command with a time has
abbrev pub IsUntimed : List ℕ → Type 0
IsUntimed text = (command : Command) → IsTimed command → text ≡ command_text command → ⊥

pub text_uncut : (text : List ℕ) → Lacks 32 text → IsUntimed text
text_uncut text lacks = λ command timed is.
    let n = named command text timed is in
    no_cut 32 text n.0 (decimal n.1) lacks n.3

pub bad_time : (text word rest : List ℕ) → text ≡ word ++ 32 ∷ rest → Lacks 32 word → NoNumber rest → IsUntimed text
bad_time text word rest cut lacks bad = λ command timed is.
    let n = named command text timed is in
    bad n.1 n.2 ((cut_once word n.0 rest (decimal n.1) lacks n.4 (sym cut ∙ n.3)).1)

pub other_name : (text word rest : List ℕ) → text ≡ word ++ 32 ∷ rest → Lacks 32 word → word ≢ codes "snapshot" → word ≢ codes "listen" →
    word ≢ codes "advance" → IsUntimed text
other_name text word rest cut lacks no_snapshot no_listen no_advance = λ command timed is.
    let n = named command text timed is in
    let same = (cut_once word n.0 rest (decimal n.1) lacks n.4 (sym cut ∙ n.3)).0 in
    ⊎_elim (λ (x : n.0 ≡ codes "snapshot"). no_snapshot (same ∙ x))
    (λ (y : (n.0 ≡ codes "listen") ⊎ (n.0 ≡ codes "advance")).
    ⊎_elim (λ (x : n.0 ≡ codes "listen"). no_listen (same ∙ x)) (λ (x : n.0 ≡ codes "advance"). no_advance (same ∙ x)) y) n.5

-- ---- a name and a number

-- a text that is no word, space and number
abbrev pub IsUnnumbered : List ℕ → Type 0
IsUnnumbered text = (name : List ℕ) (n : ℕ) → Lacks 32 name → n < 2 ^ 64 → text ≡ name ++ 32 ∷ decimal n → ⊥

pub number_uncut : (text : List ℕ) → Lacks 32 text → IsUnnumbered text
number_uncut text lacks = λ name n spaceless small is. no_cut 32 text name (decimal n) lacks is

pub bad_number : (text word rest : List ℕ) → text ≡ word ++ 32 ∷ rest → Lacks 32 word → NoNumber rest → IsUnnumbered text
bad_number text word rest cut lacks bad = λ name n spaceless small is.
    bad n small ((cut_once word name rest (decimal n) lacks spaceless (sym cut ∙ is)).1)

-- a moment that falls
pub no_moment : (s : SoFar) (rest : List ℕ) (to : ℕ) → to < 2 ^ 64 → rest ≡ decimal to → to < s.moment → (t : SoFar) →
    TakesRest verbs.Moment s rest t → ⊥
no_moment s rest to small is falls t (other, fits, text, forward, after) =
    let same : other ≡ to = decimal_injective other to fits small (sym text ∙ is) in
    omega (arith, same, falls, forward)

-- a text that is no word, space and count
abbrev pub IsUnpolled : List ℕ → Type 0
IsUnpolled text = (name : List ℕ) (n : ℕ) → Lacks 32 name → IsPolls n → text ≡ name ++ 32 ∷ decimal n → ⊥

pub polls_uncut : (text : List ℕ) → Lacks 32 text → IsUnpolled text
polls_uncut text lacks = λ name n spaceless within is. no_cut 32 text name (decimal n) lacks is

pub bad_polls : (text word rest : List ℕ) → text ≡ word ++ 32 ∷ rest → Lacks 32 word →
    ((n : ℕ) → IsPolls n → rest ≡ decimal n → ⊥) → IsUnpolled text
bad_polls text word rest cut lacks bad = λ name n spaceless within is.
    bad n within ((cut_once word name rest (decimal n) lacks spaceless (sym cut ∙ is)).1)

-- ---- the first words of lines

pub verb_lacks : (v : Verb) → Lacks 32 (verb_word v)
unfolding without
verb_lacks verbs.Writer = lacks_test 32 (codes "writer") refl
verb_lacks verbs.Reader = lacks_test 32 (codes "reader") refl
verb_lacks verbs.Compactor = lacks_test 32 (codes "compactor") refl
verb_lacks verbs.Collector = lacks_test 32 (codes "collector") refl
verb_lacks verbs.Expirer = lacks_test 32 (codes "expirer") refl
verb_lacks verbs.Moment = lacks_test 32 (codes "moment") refl
verb_lacks verbs.Begin = lacks_test 32 (codes "begin") refl
verb_lacks verbs.Step = lacks_test 32 (codes "step") refl
verb_lacks verbs.Stop = lacks_test 32 (codes "stop") refl

head_lacks : Lacks 32 (codes "head")
unfolding without
head_lacks = lacks_test 32 (codes "head") refl

-- a line whose first word is no verb
pub no_verb : (s : SoFar) (line word rest : List ℕ) → line ≡ word ++ 32 ∷ rest → Lacks 32 word → ((v : Verb) → word ≡ verb_word v → ⊥) →
    (t : SoFar) → Free s line t → ⊥
no_verb s line word rest cut lacks none t (inl head) = no_cut 32 (codes "head") word rest head_lacks (sym head.0 ∙ cut)
no_verb s line word rest cut lacks none t (inr v) =
    none v.verb ((cut_once word (verb_word v.verb) rest v.rest lacks (verb_lacks v.verb) (sym cut ∙ v.text)).0)
