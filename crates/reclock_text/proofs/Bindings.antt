-- The texts of bindings, one after another.
use Rattle.std.proofs.Common.{◌≡◌, ℕ, suc, ◌+◌, ◌<◌, ◌≤◌, List, [], ◌∷◌, ◌++◌, length, take, get_or, append_assoc, append-nil, length-take, sym, ap, ◌∙◌, arith}
use Rattle.std.proofs.Common.{Result, Ok, Err}
use Rattle.std.specs.Prelude.{OnErr}
use Rattle.std.proofs.lemmas.List.{take_all, take_more}
use Rattle.feed_text.specs.Replies.{Extends}
use Rattle.reclock_text.specs.Replies.{seen, seen_from}

seen_on : (n : ℕ) (os : List ℕ) (o : ℕ) → seen_from n (os ++ o ∷ []) ≡ seen_from n os ++ seen (n + length os, o)
seen_on n [] o = append-nil (seen (n, o)) ∙ ap (λ (m : ℕ). seen (m, o)) (same n)
  where
    same : (n : ℕ) → n ≡ n + 0
    same n = omega arith
seen_on n (x ∷ os) o =
    ap (λ l. seen (n, x) ++ l) (seen_on (n + 1) os o ∙ ap (λ (m : ℕ). seen_from (n + 1) os ++ seen (m, o)) (next n (length os)))
    ∙ sym (append_assoc (seen (n, x)) (seen_from (n + 1) os) (seen (n + suc (length os), o)))
  where
    next : (n m : ℕ) → (n + 1) + m ≡ n + suc m
    next n m = omega arith

-- one more partition
pub seen_next : (os : List ℕ) (i : ℕ) → i < length os → seen_from 0 (take (i + 1) os) ≡ seen_from 0 (take i os) ++ seen (i, get_or os i 0)
seen_next os i lt =
    ap (seen_from 0) (take_more os i 0 lt) ∙ seen_on 0 (take i os) (get_or os i 0)
    ∙ ap (λ (m : ℕ). seen_from 0 (take i os) ++ seen (m, get_or os i 0)) (omega (arith, length-take i os))

-- a partition's pair comes to the end of what has been put
pub seen_put : (had now before : List ℕ) (os : List ℕ) (i o : ℕ) → i < length os → o ≡ get_or os i 0 →
    before ≡ had ++ seen_from 0 (take i os) → now ≡ before ++ seen (i, o) → now ≡ had ++ seen_from 0 (take (i + 1) os)
seen_put had now before os i o lt is was put =
    put ∙ (λ k. was k ++ seen (i, is k)) ∙ append_assoc had (seen_from 0 (take i os)) (seen (i, get_or os i 0))
    ∙ ap (λ l. had ++ l) (sym (seen_next os i lt))

pub seen_whole : (os : List ℕ) (i : ℕ) → length os ≡ 256 → 255 ≤ i → seen_from 0 (take (i + 1) os) ≡ seen_from 0 os
seen_whole os i n last = ap (seen_from 0) (take_all (i + 1) os (omega (arith, n, last)))

-- ---- where memory is refused

pub on_err : {A E P : Type 0} (r : Result A E) → P → OnErr r P
on_err (Ok a) p = tt
on_err (Err e) p = p

-- what stays behind has what was there before the loop
pub extends_more : (had before now more : List ℕ) → before ≡ had ++ more → Extends before now → Extends had now
extends_more had before now more was e = record {
  more = more ++ e.more;
  is = e.is ∙ ap (λ l. l ++ e.more) was ∙ append_assoc had more e.more;
}
