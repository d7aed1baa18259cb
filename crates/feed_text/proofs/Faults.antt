-- The first line at fault: there is one at most, and none in a feed.
use Rattle.std.proofs.Common.{◌≡◌, inl, inr, ⊎_elim, ℕ, ◌+◌, ◌-◌, ◌<◌, ◌≤◌, List, [], ◌∷◌, ◌++◌, length, take, drop, length-append, append_assoc, take-append-drop, take-take, take_all, take_at, sym, ap, subst, ◌∙◌, arith}
use Rattle.feed_text.specs.declared.feed_lines.FeedLine.{FeedLine}
use Rattle.feed_text.specs.declared.limits.TheConstants.{MAX_BYTES}
use Rattle.feed_text.specs.Lines.{lines_of}
use Rattle.feed_text.specs.Grammar.{feed_lines, Begins, Spells, lines_read, IsFirstFault}
use Rattle.feed_text.proofs.Commands.{feeds_one}
use Rattle.feed_text.proofs.TextLines.{lines_read_whole}

-- a front of what some feed begins with
pub begins_front : (xs ys : List (List ℕ)) → Begins (xs ++ ys) → Begins xs
begins_front xs ys b = (b.0, ys ++ b.1, b.2, b.3 ∙ append_assoc xs ys b.1)

begins_take : (m n : ℕ) (xs : List (List ℕ)) → m ≤ n → Begins (take n xs) → Begins (take m xs)
begins_take m n xs less b = begins_front (take m xs) (drop m (take n xs))
    (subst Begins (sym (ap (λ ls. ls ++ drop m (take n xs)) (sym (take-take m n xs less)) ∙ take-append-drop m (take n xs))) b)

-- a text spells one feed
pub one_feed : (f g : List FeedLine) (text : List ℕ) → Spells f text → Spells g text → f ≡ g
one_feed f g text sf sg = feeds_one f g sf.feed.each sg.feed.each (sym sf.lines ∙ sg.lines)

-- a fault among the bytes that are looked at is one of the whole text
pub fault_in_front : (text : List ℕ) (n : ℕ) → IsFirstFault (take (MAX_BYTES + 1) text) n → IsFirstFault text n
fault_in_front text n h =
    let same : lines_read (take (MAX_BYTES + 1) text) ≡ lines_read text = ap lines_of (take-take (MAX_BYTES + 1) (MAX_BYTES + 1) text (omega arith)) in
    record {
      counted = (h.counted.0, subst (λ ls. n ≤ length ls) same h.counted.1);
      before = subst (λ ls. Begins (take (n - 1) ls)) same h.before;
      here = ⊎_elim
          (λ none. inl (subst (λ ls. Begins (take n ls) → ⊥) same none))
          (λ last. inr (subst (λ ls. n ≡ length ls) same last.0, λ commands spells. last.1 commands (whole commands spells)))
          h.here;
    }
  where
    whole : (commands : List FeedLine) → Spells commands text → Spells commands (take (MAX_BYTES + 1) text)
    whole commands spells = subst (λ t. Spells commands t) (sym (take_all (MAX_BYTES + 1) text (omega (arith, spells.few)))) spells

no_earlier : (text : List ℕ) (m n : ℕ) → IsFirstFault text m → IsFirstFault text n → m < n → ⊥
no_earlier text m n fm fn less =
    ⊎_elim (λ none. none (begins_take m (n - 1) (lines_read text) (omega arith) fn.before))
    (λ last. omega (arith, last.0, fn.counted.1)) fm.here

-- one line is the first at fault
pub one_fault : (text : List ℕ) (m n : ℕ) → IsFirstFault text m → IsFirstFault text n → m ≡ n
one_fault text m n fm fn = omega (arith, no_earlier text m n fm fn, no_earlier text n m fn fm)

-- a feed has no line at fault
pub no_fault_in_a_feed : (feed : List FeedLine) (text : List ℕ) (n : ℕ) → Spells feed text → IsFirstFault text n → ⊥
no_fault_in_a_feed feed text n spells fault =
    ⊎_elim (λ none. none (feed, drop n (lines_read text), spells.feed, sym lines ∙ sym (take-append-drop n (lines_read text)))) (λ last. last.1 feed spells) fault.here
  where
    lines : lines_read text ≡ feed_lines feed
    lines = lines_read_whole text spells.few ∙ spells.lines

-- what a reader finds: a line that no feed has after those before it
pub fault_refused : (text : List ℕ) (taken : List (List ℕ)) (line : List ℕ) (rest : List (List ℕ)) (n : ℕ) → lines_read text ≡ taken ++ line ∷ rest → n ≡ length taken + 1
    → Begins taken → (Begins (taken ++ line ∷ []) → ⊥) → IsFirstFault text n
fault_refused text taken line rest n is at before none = record {
  counted = (omega arith, omega (arith, ap length is, length-append taken (line ∷ rest)));
  before = subst Begins (sym (ap (take (n - 1)) is ∙ take_at taken (line ∷ rest) (n - 1) (omega arith))) before;
  here = inl (λ b. none (subst Begins (ap (take n) (is ∙ sym (append_assoc taken (line ∷ []) rest))
      ∙ take_at (taken ++ line ∷ []) rest n (length-append taken (line ∷ []) ∙ omega arith)) b));
}

-- or a text that ends too early, or is too long
pub fault_at_end : (text : List ℕ) (n : ℕ) → n ≡ length (lines_read text) → 1 ≤ n → Begins (lines_read text) → ((commands : List FeedLine) → Spells commands text → ⊥) → IsFirstFault text n
fault_at_end text n at some begins none = record {
  counted = (some, omega arith);
  before = begins_take (n - 1) n (lines_read text) (omega arith) (subst Begins (sym (take_all n (lines_read text) (omega arith))) begins);
  here = inr (at, none);
}
