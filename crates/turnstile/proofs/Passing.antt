-- A pass after a step.
use Rattle.std.proofs.Common.{drop, append_assoc, ◌∙◌, ◌≡◌, ℕ, ◌+◌, ◌-◌, ◌<◌, ◌≤◌, List, [], ◌∷◌, ◌++◌, length, min, max, cond, sym, ap, subst, arith, length-append, Option, Some, None, ◌^◌}
use mathlib.Core.List.{IsPrefix}
use native.Mathlib.Decide.{dec_le}
use Rattle.std.proofs.lemmas.Bool.{le-leb, lt-leb}
use Rattle.atomic_table.specs.Table.{Me}
use Rattle.turnstile.specs.declared.views.View.{View}
use Rattle.turnstile.specs.declared.passes.Pass.{Pass}
use Rattle.turnstile.specs.declared.turnstiles.Turnstile.{Turnstile}
use Rattle.turnstile.specs.History.{CountsTo, entries_of, with_more, IsTold}
use Rattle.turnstile.specs.Rule.{times}
use Rattle.std.proofs.Math.Seq.{drop-append_seam, drop-nil}
use Rattle.turnstile.specs.Plays.{EachBy, Gains, gained_by, Credited, longer, shorter}
use Rattle.turnstile.proofs.Prefixes.{prefix_self}
use Rattle.turnstile.specs.Passes.{first_value, IsCarried, IsPassOf}
use Rattle.turnstile.specs.Turns.{IsHolder}

module _ {V B I : Type 0} (told : V → Option (B × List I)) (client : I → ℕ) where
  -- the pass with this in its seat
  abbrev pub posed : Pass V B I → Me (Option V) (View B I) → Pass V B I
  posed p me = record p { place = record p.place { me = me } }

  pub as_pass : (t : Turnstile V B I) (q : Pass V B I) (w : View B I) → q.place.table_id ≡ t.board.shared.table_id → q.place.me ≡ (w, []) → w.turn ≡ 0 → w.start ≡ told (first_value t)
      → w.stock < w.share → 0 < times w.number w.kin → Credited client w → IsCarried (posed q (w, [])) → IsPassOf told client t q
  as_pass t q w table is free start room own credited carried = subst (λ (me : Me (Option V) (View B I)). IsPassOf told client t (posed q me)) (sym is) record {
    table = table;
    empty = Rattle.std.proofs.Common.refl;
    free = free;
    start = start;
    room = room;
    own = own;
    credited = credited;
    carried = carried;
  }

  pub as_holder : (t : Turnstile V B I) (q : Pass V B I) (w : View B I) → q.place.table_id ≡ t.board.shared.table_id → q.place.me ≡ (w, (0, None) ∷ []) → w.turn ≡ 1 → w.start ≡ told (first_value t)
      → w.stock < w.share → 0 < times w.number w.kin → Credited client w → IsCarried (posed q (w, (0, None) ∷ [])) → IsHolder told client t q
  as_holder t q w table is turn start room own credited carried = subst (λ (me : Me (Option V) (View B I)). IsHolder told client t (posed q me)) (sym is) record {
    table = table;
    empty = Rattle.std.proofs.Common.refl;
    turn = turn;
    start = start;
    room = room;
    own = own;
    credited = credited;
    carried = carried;
  }

module _ {B I : Type 0} where
  -- the count of a value that tells these entries past its opening history
  pub counts_told : (start o : Option (B × List I)) (xs : List I) (n : ℕ) → o ≡ with_more start xs → CountsTo o n → IsTold start → n ≡ min (length (entries_of start ++ xs)) (2 ^ 64 - 1)
  counts_told None o xs n is counts t = absurd t
  counts_told (Some p) o xs n is counts t = subst (λ (z : Option (B × List I)). CountsTo z n) is counts

  pub counts_gained : (start o : Option (B × List I)) (gain gs : List I) (now count k : ℕ) → o ≡ with_more start (gain ++ gs) → CountsTo o now
      → (IsTold start → count ≡ min (length (entries_of start ++ gain)) (2 ^ 64 - 1)) → k ≡ now - count → IsTold start
      → k + min (length (entries_of start ++ gain)) (2 ^ 64 - 1) ≡ min (length (entries_of start ++ (gain ++ gs))) (2 ^ 64 - 1)
  counts_gained start o gain gs now count k is counts before gained t =
      let a = counts_told start o (gain ++ gs) now is counts t in
      let b = before t in
      let d = length-append (entries_of start) gain in
      let e = length-append (entries_of start) (gain ++ gs) in
      let f = length-append gain gs in omega arith

module _ {I : Type 0} where
  chosen : (P : List I → List I → Type 0) (xs ys : List I) → (length ys ≤ length xs → P xs ys) → (length xs ≤ length ys → P ys xs) → P (longer xs ys) (shorter xs ys)
  chosen P xs ys f g = go (dec_le (length ys) (length xs))
    where
      go : Dec (length ys ≤ length xs) → P (longer xs ys) (shorter xs ys)
      go (yes le) = subst (λ b. P (cond b xs ys) (cond b ys xs)) (sym (le-leb _ _ le)) (f le)
      go (no lt) = subst (λ b. P (cond b xs ys) (cond b ys xs)) (sym (lt-leb _ _ (omega (arith, lt)))) (g (omega (arith, lt)))

  pub length_longer : (xs ys : List I) → length (longer xs ys) ≡ max (length xs) (length ys)
  length_longer xs ys = chosen (λ l r. length l ≡ max (length xs) (length ys)) xs ys (λ le. omega arith) (λ le. omega arith)

  pub shorter_below : (xs ys : List I) → length (shorter xs ys) ≤ length (longer xs ys)
  shorter_below xs ys = chosen (λ l r. length r ≤ length l) xs ys (λ le. le) (λ le. le)

  -- each of two lists begins the longer, where the shorter does
  pub both_begin : (xs ys : List I) → IsPrefix (shorter xs ys) (longer xs ys) → IsPrefix xs (longer xs ys) × IsPrefix ys (longer xs ys)
  both_begin xs ys = chosen (λ l r. IsPrefix r l → IsPrefix xs l × IsPrefix ys l) xs ys (λ le p. (prefix_self xs, p)) (λ le p. (p, prefix_self ys))

-- the count of what two passes have seen
pub count_both : {B I : Type 0} (start start' : Option (B × List I)) (xs ys : List I) (m n : ℕ) → start' ≡ start → (IsTold start → m ≡ min (length (entries_of start ++ xs)) (2 ^ 64 - 1))
    → (IsTold start' → n ≡ min (length (entries_of start' ++ ys)) (2 ^ 64 - 1)) → IsTold start → max m n ≡ min (length (entries_of start ++ longer xs ys)) (2 ^ 64 - 1)
count_both start start' xs ys m n same f g t =
    let a = f t in
    let b = g (subst IsTold (sym same) t) in
    let e : length (entries_of start') ≡ length (entries_of start) = ap (λ o. length (entries_of o)) same in
    let d1 = length-append (entries_of start) xs in
    let d2 = length-append (entries_of start') ys in
    let d3 = length-append (entries_of start) (longer xs ys) in
    let l = length_longer xs ys in omega arith

module _ {V B I : Type 0} (told : V → Option (B × List I)) (client : I → ℕ) where
  gained_at : (o o' : Option (B × List I)) (gain es : List I) → o' ≡ with_more o (gain ++ es) → IsTold o → drop (length (entries_of o ++ gain)) (entries_of o') ≡ es
  gained_at None o' gain es e t = absurd t
  gained_at (Some p) o' gain es e t = ap (λ z. drop (length (p.1 ++ gain)) (entries_of z)) e ∙ (ap (drop (length (p.1 ++ gain))) (sym (append_assoc p.1 gain es)) ∙ drop-append_seam (p.1 ++ gain) es)

  untold_at : (o o' : Option (B × List I)) (gain es : List I) → o' ≡ with_more o (gain ++ es) → (IsTold o → ⊥) → drop (length (entries_of o ++ gain)) (entries_of o') ≡ []
  untold_at None o' gain es e t = ap (λ z. drop (length gain) (entries_of z)) e ∙ drop-nil {A = I} (length gain)
  untold_at (Some p) o' gain es e t = absurd (t tt)

  told_again : (o o' : Option (B × List I)) (gain es : List I) → o' ≡ with_more o (gain ++ es) → (IsTold o → ⊥) → (fs : List I) → o' ≡ with_more o fs
  told_again None o' gain es e t fs = e
  told_again (Some p) o' gain es e t fs = absurd (t tt)

  dec_told : (o : Option (B × List I)) → Dec (IsTold o)
  dec_told None = no (λ x. x)
  dec_told (Some p) = yes tt

  -- what the value tells past what the view has seen is what it gained
  pub regains : (v : View B I) (y : V) (es : List I) → Gains told client v y es → Gains told client v y (gained_by told client v y)
  regains v y es gains = go (dec_told v.start)
    where
      go : Dec (IsTold v.start) → Gains told client v y (gained_by told client v y)
      go (yes t) = subst (λ (fs : List I). Gains told client v y fs) (sym (gained_at v.start (told y) v.gain es gains.0 t)) gains
      go (no t) = (told_again v.start (told y) v.gain es gains.0 t (v.gain ++ gained_by told client v y), subst (λ (fs : List I). EachBy client v.number fs) (sym (untold_at v.start (told y) v.gain es gains.0 t)) tt)
