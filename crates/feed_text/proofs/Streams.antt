-- What a sink has taken of a piece, and what a source has given of a text, so far.
use Rattle.std.proofs.Common.{◌≡◌, ℕ, ◌+◌, ◌-◌, ◌<◌, ◌≤◌, min, Option, Some, None, List, [], ◌++◌, length, take, drop, length-append, refl, sym, ap, subst, ◌∙◌, append_assoc, arith}
use Rattle.std.proofs.lemmas.List.{append-nil, take-append-drop, take_rest, drop-drop, nil_from_length}
use Rattle.feed_text.specs.Streams.{Gains, GainsFront, Takes, Grows, ReadsUpTo}

-- the sink has taken the bytes before the rest
pub record GainsBefore (taken now : Option (List ℕ)) (bytes rest : List ℕ) : Type 0 where
  pub front : List ℕ
  pub split : bytes ≡ front ++ rest
  pub gained : Gains taken now front

pub Gains-none : (taken : Option (List ℕ)) → Gains taken taken []
Gains-none None = refl
Gains-none (Some text) = ap Some (sym (append-nil text))

pub Gains-append : (a b c : Option (List ℕ)) (xs ys : List ℕ) → Gains a b xs → Gains b c ys → Gains a c (xs ++ ys)
Gains-append None b c xs ys p q = subst (λ t. Gains t c ys) p q
Gains-append (Some text) b c xs ys p q =
    subst (λ t. Gains t c ys) p q ∙ ap Some (append_assoc text xs ys)

pub gains_before_none : (taken : Option (List ℕ)) (bytes : List ℕ) → GainsBefore taken taken bytes bytes
gains_before_none taken bytes = record { front = []; split = refl; gained = Gains-none taken }

pub gains_before_more : (a b c : Option (List ℕ)) (bytes rest : List ℕ) (n : ℕ) → GainsBefore a b bytes rest → Gains b c (take n rest) → GainsBefore a c bytes (drop n rest)
gains_before_more a b c bytes rest n before more = record {
  front = before.front ++ take n rest;
  split = before.split ∙ ap (λ r. before.front ++ r) (sym (take-append-drop n rest)) ∙ sym (append_assoc before.front (take n rest) (drop n rest));
  gained = Gains-append a b c before.front (take n rest) before.gained more;
}

pub gains_before_all : (a b : Option (List ℕ)) (bytes rest : List ℕ) → GainsBefore a b bytes rest → length rest ≡ 0 → Gains a b bytes
gains_before_all a b bytes rest before none =
    subst (λ t. Gains a b t) (sym (before.split ∙ ap (λ r. before.front ++ r) (nil_from_length rest none) ∙ append-nil before.front)) before.gained

pub gains_front : (a b c : Option (List ℕ)) (bytes rest : List ℕ) → GainsBefore a b bytes rest → c ≡ b → GainsFront a c bytes
gains_front a b c bytes rest before same = (before.front, rest, before.split, subst (λ t. Gains a t before.front) (sym same) before.gained)

-- the source has given these bytes, at least one for each read
pub record TakesSoFar (bound : ℕ) (left now : Option (List ℕ)) (reads reads_now : ℕ) (bytes : List ℕ) : Type 0 where
  pub few : length bytes ≤ bound
  pub taken : Takes left now bytes
  pub turns : reads_now ≤ reads + length bytes

pub Takes-none : (left : Option (List ℕ)) → Takes left left []
Takes-none None = refl
Takes-none (Some text) = (text, refl, refl)

pub Takes-append : (a b c : Option (List ℕ)) (xs ys : List ℕ) → Takes a b xs → Takes b c ys → Takes a c (xs ++ ys)
Takes-append None b c xs ys p q = subst (λ t. Takes t c ys) p q
Takes-append (Some text) b c xs ys p q =
    let more : Takes (Some p.0) c ys = subst (λ t. Takes t c ys) p.2 q in
    (more.0, p.1 ∙ ap (λ r. xs ++ r) more.1 ∙ sym (append_assoc xs ys more.0), more.2)

pub so_far_none : (bound : ℕ) (left : Option (List ℕ)) (reads : ℕ) → TakesSoFar bound left left reads reads []
so_far_none bound left reads = record { few = omega arith; taken = Takes-none left; turns = omega arith }

pub so_far_more : (bound room : ℕ) (a b c : Option (List ℕ)) (i j k : ℕ) (text more : List ℕ) (n : ℕ)
    → TakesSoFar bound a b i j text → Grows b c text more n → n ≤ room → room + length text ≤ bound → k ≤ j + 1 → (n ≡ 0 → ⊥) → TakesSoFar bound a c i k more
so_far_more bound room a b c i j k text more n so_far grows few fits once some =
    let len : length more ≡ length text + n = ap length grows.3 ∙ length-append text grows.0 ∙ ap (λ m. length text + m) grows.1 in
    record {
      few = omega arith;
      taken = subst (λ t. Takes a c t) (sym grows.3) (Takes-append a b c text grows.0 so_far.taken grows.2);
      turns = omega (arith, so_far.turns);
    }

-- a read more, of which nothing is kept
pub so_far_and : (bound room : ℕ) (a b c : Option (List ℕ)) (i j k : ℕ) (text : List ℕ) → TakesSoFar bound a b i j text → ReadsUpTo room b c j k → room + length text ≤ bound → ReadsUpTo bound a c i k
so_far_and bound room a b c i j k text so_far more fits =
    let len : length (text ++ more.bytes) ≡ length text + length more.bytes = length-append text more.bytes in
    record {
      bytes = text ++ more.bytes;
      few = omega (arith, more.few);
      taken = Takes-append a b c text more.bytes so_far.taken more.taken;
      turns = omega (arith, so_far.turns, more.turns);
    }

pub so_far_only : (bound : ℕ) (a b : Option (List ℕ)) (i j : ℕ) (text : List ℕ) → TakesSoFar bound a b i j text → ReadsUpTo bound a b i j
so_far_only bound a b i j text so_far = record { bytes = text; few = so_far.few; taken = so_far.taken; turns = omega (arith, so_far.turns) }

-- what a source in memory gives is the front of what it had
pub piece_taken : (bytes into : List ℕ) (place count : ℕ) → take count into ≡ take count (take (length bytes - place) (drop place bytes)) → drop place bytes ≡ take count into ++ drop (place + count) bytes
piece_taken bytes into place count same =
    sym (take-append-drop count (drop place bytes)) ∙ ap (λ t. t ++ drop count (drop place bytes)) (sym (same ∙ ap (take count) (take_rest bytes place))) ∙ ap (λ t. take count into ++ t) (drop-drop count place bytes)

pub none_left : (bytes into : List ℕ) (place : ℕ) → min (length (take (length bytes - place) (drop place bytes))) (length into) ≡ 0 → 0 < length into → drop place bytes ≡ []
none_left bytes into place none some =
    let len : length (take (length bytes - place) (drop place bytes)) ≡ length (drop place bytes) = ap length (take_rest bytes place) in
    nil_from_length (drop place bytes) (omega arith)
