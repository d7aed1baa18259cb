-- Stops in a text: they are read one after another in one way.
use Rattle.std.proofs.Common.{Option, Some, None, is_some, true, true≢false, ◌≡◌, ◌≢◌, ℕ, ◌^◌, ◌<◌, List, [], ◌∷◌, ◌++◌, append-nil, refl, sym, ap, subst, ◌∙◌, arith}
use Rattle.std.proofs.lemmas.List.{append_assoc}
use Rattle.std.specs.Fmt.{decimal}
use Rattle.std.specs.List.{flat_map}
use Rattle.std.proofs.lemmas.Fmt.{decimal_injective}
use borrow.Author.Tests.{eqb-false}
use Rattle.feed_text.proofs.Cuts.{Lacks, no_cut}
use Rattle.feed_text.proofs.Spelled.{NoNumber}
use Rattle.feed_text.proofs.Words.{first_digit}
use Rattle.stops_core.specs.declared.stops.Stop.{Stop}
use Rattle.stops_text.specs.Stops.{AreOnce, IsNext, Tells, stop_text, stop_word}
use Rattle.stops_text.proofs.Cuts.{IsParted, cut_byte, cut_item, decimal_colonless, decimal_commaless, lacks_both, tails}

-- ---- one item

-- a word that is no two numbers with a colon between them
abbrev pub NoNumbers : List ℕ → Type 0
NoNumbers word = (w k : ℕ) → w < 2 ^ 64 → k < 2 ^ 64 → word ≡ stop_word (record { worker = w; calls = k }) → ⊥

pub uncut : (word : List ℕ) → Lacks 58 word → NoNumbers word
uncut word lacks w k hw hk is = no_cut 58 word (decimal w) (decimal k) lacks is

module _ (word first second : List ℕ) (cut : word ≡ first ++ 58 ∷ second) (lacks : Lacks 58 first) where
  pub bad_first : NoNumber first → NoNumbers word
  bad_first bad w k hw hk is =
      bad w hw (cut_byte 58 first (decimal w) second (decimal k) lacks (decimal_colonless w hw) (sym cut ∙ is)).0

  pub bad_second : NoNumber second → NoNumbers word
  bad_second bad w k hw hk is =
      bad k hk (cut_byte 58 first (decimal w) second (decimal k) lacks (decimal_colonless w hw) (sym cut ∙ is)).1

stop_commaless : (s : Stop) → s.worker < 2 ^ 64 → s.calls < 2 ^ 64 → Lacks 44 (stop_word s)
stop_commaless s p q =
    lacks_both 44 (decimal s.worker) (58 ∷ decimal s.calls) (decimal_commaless s.worker p) (eqb-false 58 44 refl, decimal_commaless s.calls q)

stop_once : (s t : Stop) → s.worker < 2 ^ 64 → s.calls < 2 ^ 64 → t.worker < 2 ^ 64 → t.calls < 2 ^ 64 → stop_word s ≡ stop_word t → s ≡ t
stop_once s t p q r u e =
    let cut = cut_byte 58 (decimal s.worker) (decimal t.worker) (decimal s.calls) (decimal t.calls) (decimal_colonless s.worker p)
    (decimal_colonless t.worker r) e in
    let worker = decimal_injective s.worker t.worker p r cut.0 in
    let calls = decimal_injective s.calls t.calls q u cut.1 in
    λ i. record { worker = worker i; calls = calls i }

-- a word that is no stop after these
abbrev pub NoNext : ℕ → List Stop → List ℕ → Type 0
NoNext workers before word = (s : Stop) → IsNext workers before s → word ≡ stop_word s → ⊥

-- whatever the whole text tells, what is left tells it from here on, and the other way round
pub record Same (workers : ℕ) (whole left : List ℕ) (had : List Stop) : Type 0 where
  pub there : (all : List Stop) → Tells workers whole [] all → Tells workers left had all
  pub back : (all : List Stop) → Tells workers left had all → Tells workers whole [] all

module _ (workers : ℕ) (few : workers < 2 ^ 32) where
  small : (before : List Stop) (s : Stop) → IsNext workers before s → s.worker < 2 ^ 64
  small before s h = let lt = h.worker in omega (arith, lt)

  pub no_next : (before : List Stop) (word : List ℕ) → NoNumbers word → NoNext workers before word
  no_next before word none s next is = none s.worker s.calls (small before s next) next.calls is

  pub other_next : (before : List Stop) (word : List ℕ) (w k : ℕ) → w < 2 ^ 64 → k < 2 ^ 64 →
      word ≡ stop_word (record { worker = w; calls = k }) → (IsNext workers before (record { worker = w; calls = k }) → ⊥) →
      NoNext workers before word
  other_next before word w k hw hk told never s next is =
      let same : s ≡ record { worker = w; calls = k } =
      stop_once s (record { worker = w; calls = k }) (small before s next) next.calls hw hk (sym is ∙ told) in
      never (subst (IsNext workers before) same next)

  -- ---- items one after another

  stops_parted : (ss : List Stop) → IsParted (flat_map stop_text ss)
  stops_parted [] = tt
  stops_parted (s ∷ ss) = refl

  -- the first item of a text, and what the others tell
  record First (word tail : List ℕ) (before all : List Stop) : Type 0 where
    stop : Stop
    next : IsNext workers before stop
    is : word ≡ stop_word stop
    more : Tells workers tail (before ++ stop ∷ []) all

  first_of : (word tail : List ℕ) (before all : List Stop) → Lacks 44 word → IsParted tail → Tells workers (44 ∷ (word ++ tail)) before all →
      First word tail before all
  first_of word tail before all lacks parted t = go t.stops t.text_is t.once t.gives
    where
      go : (stops : List Stop) → 44 ∷ (word ++ tail) ≡ flat_map stop_text stops → AreOnce workers before stops → all ≡ before ++ stops →
          First word tail before all
      go [] is once gives = absurd cc
      go (s ∷ ss) is once gives =
          let cut = cut_item word (stop_word s) tail (flat_map stop_text ss) lacks
          (stop_commaless s (small before s once.0) once.0.calls) parted (stops_parted ss) (tails is) in
          record {
            stop = s;
            next = once.0;
            is = cut.0;
            more = record { stops = ss; text_is = cut.1; once = once.1; gives = gives ∙ sym (append_assoc before (s ∷ []) ss) };
          }

  with_first : (word tail : List ℕ) (before all : List Stop) (s : Stop) → IsNext workers before s → word ≡ stop_word s →
      Tells workers tail (before ++ s ∷ []) all → Tells workers (44 ∷ (word ++ tail)) before all
  with_first word tail before all s next is t = record {
    stops = s ∷ t.stops;
    text_is = λ i. 44 ∷ (is i ++ t.text_is i);
    once = (next, t.once);
    gives = t.gives ∙ append_assoc before (s ∷ []) t.stops;
  }

  -- a text has one list of stops
  stops_one : (before ss ts : List Stop) → AreOnce workers before ss → AreOnce workers before ts →
      flat_map stop_text ss ≡ flat_map stop_text ts → ss ≡ ts
  stops_one before [] [] hs ht e = refl
  stops_one before [] (t ∷ ts) hs ht e = absurd cc
  stops_one before (s ∷ ss) [] hs ht e = absurd cc
  stops_one before (s ∷ ss) (t ∷ ts) hs ht e =
      let cut = cut_item (stop_word s) (stop_word t) (flat_map stop_text ss) (flat_map stop_text ts)
      (stop_commaless s (small before s hs.0) hs.0.calls) (stop_commaless t (small before t ht.0) ht.0.calls)
      (stops_parted ss) (stops_parted ts) (tails e) in
      let same : t ≡ s = stop_once t s (small before t ht.0) ht.0.calls (small before s hs.0) hs.0.calls (sym cut.0) in
      let more = stops_one (before ++ s ∷ []) ss ts hs.1 (subst (λ (x : Stop). AreOnce workers (before ++ x ∷ []) ts) same ht.1) cut.1 in
      λ i. sym same i ∷ more i

  pub tells_one : (text : List ℕ) (before a b : List Stop) → Tells workers text before a → Tells workers text before b → a ≡ b
  tells_one text before a b x y =
      x.gives ∙ ap (λ ss. before ++ ss) (stops_one before x.stops y.stops x.once y.once (sym x.text_is ∙ y.text_is)) ∙ sym y.gives

  -- a text of stops begins with a digit
  pub first_byte : (b : ℕ) (bs : List ℕ) (before all : List Stop) → Tells workers (44 ∷ b ∷ bs) before all → b ≢ 45
  first_byte b bs before all t = go t.stops t.text_is t.once
    where
      go : (stops : List Stop) → 44 ∷ b ∷ bs ≡ flat_map stop_text stops → AreOnce workers before stops → b ≢ 45
      go [] is once hyphen = absurd cc
      go (s ∷ ss) is once hyphen =
          let begins : decimal s.worker ++ ((58 ∷ decimal s.calls) ++ flat_map stop_text ss) ≡ b ∷ bs =
          sym (append_assoc (decimal s.worker) (58 ∷ decimal s.calls) (flat_map stop_text ss)) ∙ sym (tails is) in
          let digit = first_digit s.worker ((58 ∷ decimal s.calls) ++ flat_map stop_text ss) b bs (small before s once.0) begins in
          omega (arith, digit.0, hyphen)

  -- ---- the loop

  pub same_start : (whole : List ℕ) (had : List Stop) → had ≡ [] → Same workers whole whole had
  same_start whole had is = record {
    there = λ all t. subst (λ (h : List Stop). Tells workers whole h all) (sym is) t;
    back = λ all t. subst (λ (h : List Stop). Tells workers whole h all) is t;
  }

  module _ (word tail : List ℕ) (lacks : Lacks 44 word) (parted : IsParted tail) (had : List Stop) where
    abbrev Whole : List ℕ
    Whole = 44 ∷ (word ++ tail)

    goes_on : (s : Stop) → IsNext workers had s → word ≡ stop_word s → (all : List Stop) → Tells workers Whole had all →
        Tells workers tail (had ++ s ∷ []) all
    goes_on s next is all tells =
        let f = first_of word tail had all lacks parted tells in
        let same : f.stop ≡ s = stop_once f.stop s (small had f.stop f.next) f.next.calls (small had s next) next.calls (sym f.is ∙ is) in
        subst (λ (x : Stop). Tells workers tail (had ++ x ∷ []) all) same f.more

    never : NoNext workers had word → (all : List Stop) → Tells workers Whole had all → ⊥
    never none all tells =
        let f = first_of word tail had all lacks parted tells in
        none f.stop f.next f.is

  module _ (whole left : List ℕ) (had : List Stop) (same : Same workers whole (44 ∷ left) had) where
    pub same_on : (word after : List ℕ) (s : Stop) (now : List Stop) → left ≡ word ++ 44 ∷ after → Lacks 44 word → IsNext workers had s →
        word ≡ stop_word s → now ≡ had ++ s ∷ [] → Same workers whole (44 ∷ after) now
    same_on word after s now cut lacks next is now_is = record {
      there = λ all w. subst (λ (h : List Stop). Tells workers (44 ∷ after) h all) (sym now_is)
          (goes_on word (44 ∷ after) lacks refl had s next is all
          (subst (λ (l : List ℕ). Tells workers (44 ∷ l) had all) cut (same.there all w)));
      back = λ all l. same.back all (subst (λ (x : List ℕ). Tells workers (44 ∷ x) had all) (sym cut)
          (with_first word (44 ∷ after) had all s next is (subst (λ (h : List Stop). Tells workers (44 ∷ after) h all) now_is l)));
    }

    pub never_on : (word after : List ℕ) → left ≡ word ++ 44 ∷ after → Lacks 44 word → NoNext workers had word → (all : List Stop) →
        Tells workers whole [] all → ⊥
    never_on word after cut lacks none all w =
        never word (44 ∷ after) lacks refl had none all (subst (λ (l : List ℕ). Tells workers (44 ∷ l) had all) cut (same.there all w))

    pub never_last : Lacks 44 left → NoNext workers had left → (all : List Stop) → Tells workers whole [] all → ⊥
    never_last lacks none all w =
        never left [] lacks tt had none all
        (subst (λ (l : List ℕ). Tells workers (44 ∷ l) had all) (sym (append-nil left)) (same.there all w))

    pub told_all : (s : Stop) (now : List Stop) → IsNext workers had s → left ≡ stop_word s → now ≡ had ++ s ∷ [] →
        Tells workers whole [] now
    told_all s now next is now_is =
        same.back now (subst (λ (l : List ℕ). Tells workers (44 ∷ l) had now) (append-nil left)
        (with_first left [] had now s next is
        (record { stops = []; text_is = refl; once = tt; gives = now_is ∙ sym (append-nil (had ++ s ∷ [])) })))

-- one of those before names it
pub named : (o found : Option ℕ) → found ≡ o → o ≡ None → true ≡ is_some found → ⊥
named o None is none some = absurd (true≢false some)
named o (Some k) is none some = absurd (true≢false (ap is_some (is ∙ none)))
