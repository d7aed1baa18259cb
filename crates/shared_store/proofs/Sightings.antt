-- What a pass of a shared store sees in a turn.
use Rattle.std.proofs.Common.{◌≡◌, ℕ, ◌<◌, eqb, cond, Bool, true, false, Option, Some, None, Result, Ok, Err, IfOk, OnErr, MatchResult, List, [], ◌∷◌, ◌++◌, length, drop, append_assoc, append-nil, refl, sym, ap, subst, ◌∙◌}
use mathlib.Core.List.{IsPrefix}
use Rattle.std.specs.declared.alloc.AllocError.{AllocError}
use Rattle.std.proofs.lemmas.List.{append_cancel_left}
use Rattle.std.proofs.lemmas.Bool.{eq-eqb}
use Rattle.std.proofs.Math.Seq.{drop-append_seam}
use Rattle.turnstile.specs.declared.views.View.{View}
use Rattle.turnstile.specs.History.{with_more}
use Rattle.turnstile.specs.Rule.{times, Each, entries_by}
use Rattle.turnstile.specs.Plays.{EachBy, Credited, turned, gave_back}
use Rattle.turnstile.proofs.Kins.{entries_append, entries_same}
use Rattle.store_core.specs.declared.calls.Call.{Call}
use Rattle.store_core.specs.declared.entries.Entry.{Entry}
use Rattle.store_core.specs.declared.replies.Reply.{Reply}
use Rattle.store_core.specs.Histories.{History, Adds, entry_of, with_entry}
use Rattle.store_core.specs.Ports.{OfOthers, with_entries, GrowsByOthers, GainsWhereTold}
use Rattle.shared_store.specs.Trails.{entry_client, extended, gained, since}
use Rattle.shared_store.specs.Fronts.{told_history, front_of}

-- ---- histories with entries at their end
extended-extended : (o : Option History) (xs ys : List Entry) → extended (extended o xs) ys ≡ extended o (xs ++ ys)
extended-extended None xs ys = refl
extended-extended (Some h) xs ys = ap (λ (es : List Entry). let k : History = record { start = h.start; trail = es } in Some k) (append_assoc h.trail xs ys)

module _ {B : Type 0} where
  with_more-with_more : (o : Option (B × List Entry)) (xs ys : List Entry) → with_more (with_more o xs) ys ≡ with_more o (xs ++ ys)
  with_more-with_more None xs ys = refl
  with_more-with_more (Some p) xs ys = ap (λ (es : List Entry). let q : B × List Entry = (p.0, es) in Some q) (append_assoc p.1 xs ys)

module _ {S : Type 0} (history : S → Option History) where
  told_history-more : (o : Option (S × List Entry)) (es : List Entry) → told_history history (with_more o es) ≡ extended (told_history history o) es
  told_history-more None es = refl
  told_history-more (Some p) es = sym (extended-extended (history p.0) p.1 es)

  -- the history that a counted store tells is that of its store
  pub told_history-since : (s : S) (new : Option History) → new ≡ extended (history s) (gained (history s) new) → told_history history (since s (history s) new) ≡ new
  told_history-since s new =
      elim (history s) as (λ (o : Option History). history s ≡ o → new ≡ extended o (gained o new) → told_history history (since s o new) ≡ new) [
        | None ↦ λ e grown. sym grown
        | Some h ↦ λ e grown. ap (λ (o : Option History). extended o (gained (Some h) new)) e ∙ sym grown
      ] refl

-- ---- what a call adds
added_since : {S : Type 0} (s : S) (o was now : Option History) (n : ℕ) (call : Call) (r : Reply) → was ≡ extended o (gained o was) → Adds was now n call r
    → (es : List Entry) × (since s o now ≡ with_more (since s o was) es) × EachBy entry_client n es
added_since s None was now n call r grown adds = ([], refl, tt)
added_since s (Some h) was now n call r grown adds =
    let a = subst (λ (k : Option History). Adds k now n call r) grown adds in
    let e : Entry = entry_of n call a.0 in
    let xs : List Entry = gained (Some h) was in (
      e ∷ [],
      (λ i. Some (s, (ap (gained (Some h)) a.1 ∙ ap (drop (length h.trail)) (append_assoc h.trail xs (e ∷ [])) ∙ drop-append_seam h.trail (xs ++ e ∷ [])) i)),
      (refl, tt),
    )

pub turn_gains : {S : Type 0} (s : S) (o was now : Option History) (n : ℕ) (call : Call) (answer : Result Reply AllocError) (start : Option (S × List Entry)) (gain : List Entry)
    → was ≡ extended o (gained o was) → since s o was ≡ with_more start gain → IfOk answer (λ r. Adds was now n call r) → OnErr answer (now ≡ was)
    → (es : List Entry) × (since s o now ≡ with_more start (gain ++ es)) × EachBy entry_client n es
turn_gains s o was now n call (Ok r) start gain grown tells adds same =
    let a = added_since s o was now n call r grown adds in
    (a.0, a.1 ∙ ap (λ x. with_more x a.0) tells ∙ with_more-with_more start gain a.0, a.2)
turn_gains s o was now n call (Err x) start gain grown tells adds same =
    ([], ap (since s o) same ∙ tells ∙ ap (with_more start) (sym (append-nil gain)), tt)

-- ---- what a pass sees of it
none_by : (n : ℕ) (es : List Entry) → entries_by entry_client n es ≡ [] → OfOthers n es
none_by n [] h = tt
none_by n (e ∷ es) h =
    elim (eqb e.client n) as (λ (b : Bool). eqb e.client n ≡ b → cond b (e ∷ entries_by entry_client n es) (entries_by entry_client n es) ≡ [] → OfOthers n (e ∷ es)) [
      | true ↦ λ is z. absurd (cc z)
      | false ↦ λ is z. ((λ same. true_no_false (eqb e.client n) (eq-eqb e.client n same) is), none_by n es z)
    ] refl h
  where
    true_no_false : (b : Bool) → b ≡ true → b ≡ false → ⊥
    true_no_false b p q = cc

gains_after : (f was now : Option History) (others : List Entry) (n : ℕ) (call : Call) (r : Reply) → was ≡ extended f others → OfOthers n others → Adds was now n call r → GainsWhereTold n f now call r
gains_after None was now others n call r is of_others adds = subst (λ (k : Option History). Adds k now n call r) is adds
gains_after (Some h) was now others n call r is of_others adds =
    let a = subst (λ (k : Option History). Adds k now n call r) is adds in (
      with_entry (with_entries h others) (entry_of n call a.0),
      a.1,
      record { others = others; of_others = of_others; outcome = a.0; new_is = refl; reply_is = a.2 },
    )

grows_after : (f was now : Option History) (others : List Entry) (n : ℕ) → was ≡ extended f others → OfOthers n others → now ≡ was → GrowsByOthers n f now
grows_after None was now others n is of_others same = same ∙ is
grows_after (Some h) was now others n is of_others same = (others, of_others, same ∙ is)

module _ {S : Type 0} (history : S → Option History) where
  -- v is what the pass knew before the turn, u in it and w after it, s the store as it was taken in, and was and now its history in the turn and after it
  pub turn_seen : (v u w : View S Entry) (own : List Entry) (s : S) (was now : Option History) (n : ℕ) (call : Call) (answer : Result Reply AllocError)
      → u ≡ turned v u.gain → IsPrefix v.gain u.gain → 0 < times v.number v.kin → Credited entry_client v → Credited entry_client u
      → was ≡ extended (history s) (gained (history s) was) → now ≡ extended (history s) (gained (history s) now)
      → since s (history s) was ≡ with_more v.start u.gain → w ≡ gave_back u own → since s (history s) now ≡ with_more u.start (u.gain ++ own)
      → n ≡ v.number → IfOk answer (λ r. Adds was now n call r) → OnErr answer (now ≡ was)
      → MatchResult answer (λ r. GainsWhereTold v.number (front_of history v) (front_of history w) call r) (λ _. GrowsByOthers v.number (front_of history v) (front_of history w))
  turn_seen v u w own s was now n call answer took begins own_kin before after grown grown' tells gave tells' number adds same = finish answer adds same
    where
      others : List Entry
      others = begins.0

      gain_is : v.gain ++ others ≡ u.gain
      gain_is = begins.1

      mine_is : entries_by entry_client v.number u.gain ≡ entries_by entry_client v.number v.gain
      mine_is = entries_same entry_client v.number u.gain v.gain v.kin own_kin
          (subst (λ (ks : List (ℕ × List Entry)). Each (λ n es. entries_by entry_client n u.gain ≡ es) ks) (ap (λ (x : View S Entry). x.kin) took) after) before

      of_others : OfOthers v.number others
      of_others = none_by v.number others (append_cancel_left (entries_by entry_client v.number v.gain) (entries_by entry_client v.number others) []
          (sym (entries_append entry_client v.number v.gain others) ∙ ap (entries_by entry_client v.number) gain_is ∙ mine_is ∙ sym (append-nil (entries_by entry_client v.number v.gain))))

      was_is : was ≡ extended (front_of history v) others
      was_is = sym (told_history-since history s was grown) ∙ ap (told_history history) (tells ∙ ap (with_more v.start) (sym gain_is) ∙ sym (with_more-with_more v.start v.gain others))
          ∙ told_history-more history (with_more v.start v.gain) others

      now_is : now ≡ front_of history w
      now_is = sym (told_history-since history s now grown') ∙ ap (told_history history) (tells' ∙ (λ i. with_more (sym gave i).start (sym gave i).gain))

      finish : (answer : Result Reply AllocError) → IfOk answer (λ r. Adds was now n call r) → OnErr answer (now ≡ was)
          → MatchResult answer (λ r. GainsWhereTold v.number (front_of history v) (front_of history w) call r) (λ _. GrowsByOthers v.number (front_of history v) (front_of history w))
      finish (Ok r) adds same = gains_after (front_of history v) was (front_of history w) others v.number call r was_is of_others
          (subst (λ (k : Option History). Adds was k v.number call r) now_is (subst (λ (m : ℕ). Adds was now m call r) number adds))
      finish (Err x) adds same = grows_after (front_of history v) was (front_of history w) others v.number was_is of_others (sym now_is ∙ same)
