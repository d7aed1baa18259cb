-- Pairs in a line: they are read one after another in one way.
use Rattle.std.proofs.Common.{◌≡◌, ℕ, ◌+◌, ◌^◌, ◌<◌, List, [], ◌∷◌, ◌++◌, append-nil, refl, sym, ap, subst, ◌∙◌, arith}
use Rattle.std.specs.Prelude.{slice_set}
use Rattle.std.specs.Fmt.{decimal}
use Rattle.std.specs.List.{flat_map}
use Rattle.std.proofs.lemmas.Fmt.{decimal_injective}
use borrow.Author.Tests.{eqb-false}
use Rattle.remap_core.specs.Offsets.{unset}
use Rattle.feed_text.proofs.Cuts.{Lacks, no_cut}
use Rattle.feed_text.proofs.Words.{decimal_spaceless}
use Rattle.feed_text.proofs.Spelled.{NoNumber}
use Rattle.reclock_text.specs.declared.pairs.Told.{Told}
use Rattle.reclock_text.specs.Saws.{IsPair, RisesFrom, Tells, pair_text, pair_word, with_pairs}
use Rattle.reclock_text.proofs.Words.{IsSpaced, cut_byte, cut_spaced, decimal_colonless, lacks_both, tails}

-- ---- one pair

-- a word that is no pair of numbers
abbrev pub NoNumbers : List ℕ → Type 0
NoNumbers word = (p o : ℕ) → p < 2 ^ 64 → o < 2 ^ 64 → word ≡ pair_word (p, o) → ⊥

pub pair_uncut : (word : List ℕ) → Lacks 58 word → NoNumbers word
pair_uncut word lacks p o hp ho is = no_cut 58 word (decimal p) (decimal o) lacks is

module _ (word first second : List ℕ) (cut : word ≡ first ++ 58 ∷ second) (lacks : Lacks 58 first) where
  pub bad_first : NoNumber first → NoNumbers word
  bad_first bad p o hp ho is =
      bad p hp (cut_byte 58 first (decimal p) second (decimal o) lacks (decimal_colonless p hp) (sym cut ∙ is)).0

  pub bad_second : NoNumber second → NoNumbers word
  bad_second bad p o hp ho is =
      bad o ho (cut_byte 58 first (decimal p) second (decimal o) lacks (decimal_colonless p hp) (sym cut ∙ is)).1

pub pair_here : (word first second : List ℕ) (p o : ℕ) → word ≡ first ++ 58 ∷ second → first ≡ decimal p → second ≡ decimal o →
    word ≡ pair_word (p, o)
pair_here word first second p o cut first_is second_is = cut ∙ (λ i. first_is i ++ 58 ∷ second_is i)

pub pair_spaceless : (a : ℕ × ℕ) → a.0 < 2 ^ 64 → a.1 < 2 ^ 64 → Lacks 32 (pair_word a)
pair_spaceless a p q =
    lacks_both 32 (decimal a.0) (58 ∷ decimal a.1) (decimal_spaceless a.0 p) (eqb-false 58 32 refl, decimal_spaceless a.1 q)

pub pair_once : (a b : ℕ × ℕ) → a.0 < 2 ^ 64 → a.1 < 2 ^ 64 → b.0 < 2 ^ 64 → b.1 < 2 ^ 64 → pair_word a ≡ pair_word b → a ≡ b
pair_once a b p q r s e =
    let cut = cut_byte 58 (decimal a.0) (decimal b.0) (decimal a.1) (decimal b.1) (decimal_colonless a.0 p) (decimal_colonless b.0 r) e in
    let first = decimal_injective a.0 b.0 p r cut.0 in
    let second = decimal_injective a.1 b.1 q s cut.1 in
    λ i. (first i, second i)

small_first : (n : ℕ) (a : ℕ × ℕ) → IsPair n a → a.0 < 2 ^ 64
small_first n a h = let lt = h.1 in omega (arith, lt)

small_second : (n : ℕ) (a : ℕ × ℕ) → IsPair n a → a.1 < 2 ^ 64
small_second n a h = let le = h.2 in omega (arith, le)

-- a word that is no pair from n on
abbrev pub NoPair : ℕ → List ℕ → Type 0
NoPair n word = (a : ℕ × ℕ) → IsPair n a → word ≡ pair_word a → ⊥

pub no_pair : (n : ℕ) (word : List ℕ) → NoNumbers word → NoPair n word
no_pair n word none a within is = none a.0 a.1 (small_first n a within) (small_second n a within) is

pub other_pair : (n : ℕ) (word : List ℕ) (p o : ℕ) → p < 2 ^ 64 → o < 2 ^ 64 → word ≡ pair_word (p, o) → (IsPair n (p, o) → ⊥) →
    NoPair n word
other_pair n word p o hp ho told never a within is =
    let same : a ≡ (p, o) = pair_once a (p, o) (small_first n a within) (small_second n a within) hp ho (sym is ∙ told) in
    never (subst (λ (b : ℕ × ℕ). IsPair n b) same within)

-- ---- pairs one after another

pairs_spaced : (as_ : List (ℕ × ℕ)) → IsSpaced (flat_map pair_text as_)
pairs_spaced [] = tt
pairs_spaced (a ∷ as_) = refl

-- the first pair of a text, and what the others tell
record First (word tail : List ℕ) (n : ℕ) (f g : List ℕ) : Type 0 where
  pair : ℕ × ℕ
  within : IsPair n pair
  is : word ≡ pair_word pair
  more : Tells tail (pair.0 + 1) (slice_set f pair.0 pair.1) g

first_of : (word tail : List ℕ) (n : ℕ) (f g : List ℕ) → Lacks 32 word → IsSpaced tail → Tells (32 ∷ (word ++ tail)) n f g →
    First word tail n f g
first_of word tail n f g lacks spaced t = go t.pairs t.text_is t.rises t.gives
  where
    go : (pairs : List (ℕ × ℕ)) → 32 ∷ (word ++ tail) ≡ flat_map pair_text pairs → RisesFrom n pairs → g ≡ with_pairs f pairs →
        First word tail n f g
    go [] is rises gives = absurd cc
    go (a ∷ as_) is rises gives =
        let cut = cut_spaced word (pair_word a) tail (flat_map pair_text as_) lacks
        (pair_spaceless a (small_first n a rises.0) (small_second n a rises.0)) spaced (pairs_spaced as_) (tails is) in
        record {
          pair = a;
          within = rises.0;
          is = cut.0;
          more = record { pairs = as_; text_is = cut.1; rises = rises.1; gives = gives };
        }

with_first : (word tail : List ℕ) (n : ℕ) (f g : List ℕ) (a : ℕ × ℕ) → IsPair n a → word ≡ pair_word a →
    Tells tail (a.0 + 1) (slice_set f a.0 a.1) g → Tells (32 ∷ (word ++ tail)) n f g
with_first word tail n f g a within is t = record {
  pairs = a ∷ t.pairs;
  text_is = λ i. 32 ∷ (is i ++ t.text_is i);
  rises = (within, t.rises);
  gives = t.gives;
}

-- a text has one list of pairs
pairs_one : (n : ℕ) (as_ bs : List (ℕ × ℕ)) → RisesFrom n as_ → RisesFrom n bs → flat_map pair_text as_ ≡ flat_map pair_text bs → as_ ≡ bs
pairs_one n [] [] ha hb e = refl
pairs_one n [] (b ∷ bs) ha hb e = absurd cc
pairs_one n (a ∷ as_) [] ha hb e = absurd cc
pairs_one n (a ∷ as_) (b ∷ bs) ha hb e =
    let cut = cut_spaced (pair_word a) (pair_word b) (flat_map pair_text as_) (flat_map pair_text bs)
    (pair_spaceless a (small_first n a ha.0) (small_second n a ha.0)) (pair_spaceless b (small_first n b hb.0) (small_second n b hb.0))
    (pairs_spaced as_) (pairs_spaced bs) (tails e) in
    let same : b ≡ a = pair_once b a (small_first n b hb.0) (small_second n b hb.0) (small_first n a ha.0) (small_second n a ha.0) (sym cut.0) in
    let more = pairs_one (a.0 + 1) as_ bs ha.1 (subst (λ (x : ℕ × ℕ). RisesFrom (x.0 + 1) bs) same hb.1) cut.1 in
    λ i. sym same i ∷ more i

pub tells_one : (n : ℕ) (f g h : List ℕ) (text : List ℕ) → Tells text n f g → Tells text n f h → g ≡ h
tells_one n f g h text x y =
    x.gives ∙ ap (with_pairs f) (pairs_one n x.pairs y.pairs x.rises y.rises (sym x.text_is ∙ y.text_is)) ∙ sym y.gives

-- ---- the loop

-- whatever the whole text tells, what is left tells it from here on, and the other way round
pub record Same (whole left : List ℕ) (told : Told) : Type 0 where
  pub there : (g : List ℕ) → Tells whole 0 unset g → Tells left told.next told.frontier g
  pub back : (g : List ℕ) → Tells left told.next told.frontier g → Tells whole 0 unset g

pub same_start : (whole : List ℕ) (told : Told) → told ≡ record { frontier = unset; next = 0 } → Same whole whole told
same_start whole told is = record {
  there = λ g t. subst (λ (s : Told). Tells whole s.next s.frontier g) (sym is) t;
  back = λ g t. subst (λ (s : Told). Tells whole s.next s.frontier g) is t;
}

-- what is told with one more pair
abbrev pub WithPair : Told → List ℕ → Told → Type 0
WithPair told word t = (a : ℕ × ℕ) × IsPair told.next a × (word ≡ pair_word a)
    × (t ≡ record { frontier = slice_set told.frontier a.0 a.1; next = a.0 + 1 })

module _ (word tail : List ℕ) (lacks : Lacks 32 word) (spaced : IsSpaced tail) (told : Told) where
  abbrev Whole : List ℕ
  Whole = 32 ∷ (word ++ tail)

  goes_on : (t : Told) → WithPair told word t → (g : List ℕ) → Tells Whole told.next told.frontier g → Tells tail t.next t.frontier g
  goes_on t (a, within, is, after) g tells =
      let f = first_of word tail told.next told.frontier g lacks spaced tells in
      let same : f.pair ≡ a = pair_once f.pair a (small_first told.next f.pair f.within) (small_second told.next f.pair f.within)
      (small_first told.next a within) (small_second told.next a within) (sym f.is ∙ is) in
      subst (λ (s : Told). Tells tail s.next s.frontier g) (sym after)
      (subst (λ (b : ℕ × ℕ). Tells tail (b.0 + 1) (slice_set told.frontier b.0 b.1) g) same f.more)

  comes_back : (t : Told) → WithPair told word t → (g : List ℕ) → Tells tail t.next t.frontier g → Tells Whole told.next told.frontier g
  comes_back t (a, within, is, after) g tells =
      with_first word tail told.next told.frontier g a within is (subst (λ (s : Told). Tells tail s.next s.frontier g) after tells)

  never : NoPair told.next word → (g : List ℕ) → Tells Whole told.next told.frontier g → ⊥
  never none g tells =
      let f = first_of word tail told.next told.frontier g lacks spaced tells in
      none f.pair f.within f.is

module _ (whole left : List ℕ) (told : Told) (same : Same whole (32 ∷ left) told) where
  pub same_on : (word after : List ℕ) (t : Told) → left ≡ word ++ 32 ∷ after → Lacks 32 word → WithPair told word t →
      Same whole (32 ∷ after) t
  same_on word after t cut lacks pair = record {
    there = λ g w. goes_on word (32 ∷ after) lacks refl told t pair g
        (subst (λ (l : List ℕ). Tells (32 ∷ l) told.next told.frontier g) cut (same.there g w));
    back = λ g l. same.back g (subst (λ (l : List ℕ). Tells (32 ∷ l) told.next told.frontier g) (sym cut)
        (comes_back word (32 ∷ after) lacks refl told t pair g l));
  }

  pub never_on : (word after : List ℕ) → left ≡ word ++ 32 ∷ after → Lacks 32 word → NoPair told.next word → (g : List ℕ) →
      Tells whole 0 unset g → ⊥
  never_on word after cut lacks none g w =
      never word (32 ∷ after) lacks refl told none g
      (subst (λ (l : List ℕ). Tells (32 ∷ l) told.next told.frontier g) cut (same.there g w))

  pub never_last : Lacks 32 left → NoPair told.next left → (g : List ℕ) → Tells whole 0 unset g → ⊥
  never_last lacks none g w =
      never left [] lacks tt told none g
      (subst (λ (l : List ℕ). Tells (32 ∷ l) told.next told.frontier g) (sym (append-nil left)) (same.there g w))

  pub told_all : (t : Told) → Lacks 32 left → WithPair told left t → Tells whole 0 unset t.frontier
  told_all t lacks pair =
      same.back t.frontier (subst (λ (l : List ℕ). Tells (32 ∷ l) told.next told.frontier t.frontier) (append-nil left)
      (comes_back left [] lacks tt told t pair t.frontier (record { pairs = []; text_is = refl; rises = tt; gives = refl })))
