-- How a store's count of faults rises with the entries that fail.
use Rattle.std.proofs.Common.{◌≡◌, ℕ, zero, suc, ◌+◌, ◌-◌, ◌^◌, ◌≤◌, min, Option, Some, None, IfSome}
use Rattle.std.proofs.Common.{List, [], ◌∷◌, ◌++◌, length, drop, append_assoc, append-nil, length-append}
use Rattle.std.proofs.Common.{refl, sym, ap, subst, ◌∙◌, arith}
use Rattle.std.proofs.Math.Seq.{drop-append_seam}
use Rattle.causes.specs.Causes.{Rose}
use Rattle.turnstile.specs.History.{with_more}
use Rattle.store_core.specs.declared.calls.Call.{Call}
use Rattle.store_core.specs.declared.entries.Entry.{Entry}
use Rattle.store_core.specs.declared.outcomes.Outcome.{Outcome}
use Rattle.store_core.specs.declared.outcomes.Outcome.TheVariants.{Took, FailedTook, FailedLost}
use Rattle.store_core.specs.declared.replies.Reply.{Reply}
use Rattle.store_core.specs.declared.replies.Reply.TheVariants as replies
use Rattle.store_core.specs.Histories.{History, Adds, entry_of, faults_of, reply, store_after}
use Rattle.store_core.specs.Ports.{with_entries}
use Rattle.shared_store.specs.Trails.{RoseBy, begun, count_since, extended, failed_in, gained, since}

failed_append : (xs ys : List Entry) → failed_in (xs ++ ys) ≡ failed_in xs + failed_in ys
failed_append [] ys = omega arith
failed_append (x ∷ xs) ys =
    let rest = failed_append xs ys in
    omega arith

one_more : (b f k n m : ℕ) → RoseBy f b n → n ≤ m → k ≤ 1 → (k ≡ 1 → Rose n m) → RoseBy (f + k) b m
one_more b f zero n m so_far later most rose = record { later = omega arith; rose = omega arith }
one_more b f (suc zero) n m so_far later most rose =
    let up = rose refl in
    record { later = omega arith; rose = omega arith }
one_more b f (suc (suc k)) n m so_far later most rose = absurd (omega arith)

-- an entry that failed was answered so
failed_once : (o : Outcome) (h : History) (n : ℕ) (call : Call) (r : Reply) (before now : ℕ) →
    r ≡ reply (store_after h) (entry_of n call o) → (r ≡ replies.Failed → Rose before now) →
    (faults_of o ≤ 1) × (faults_of o ≡ 1 → Rose before now)
failed_once Took h n call r before now is rose = (omega arith, λ e. absurd (omega arith))
failed_once FailedTook h n call r before now is rose = (omega arith, λ e. rose is)
failed_once FailedLost h n call r before now is rose = (omega arith, λ e. rose is)

-- the entry of one more call
gains_one : (h : History) (was now : Option History) (n : ℕ) (call : Call) (r : Reply) →
    was ≡ extended (Some h) (gained (Some h) was) → Adds was now n call r →
    (o : Outcome) × (gained (Some h) now ≡ gained (Some h) was ++ entry_of n call o ∷ []) ×
    (r ≡ reply (store_after (with_entries h (gained (Some h) was))) (entry_of n call o))
gains_one h was now n call r grown adds =
    let a = subst (λ (k : Option History). Adds k now n call r) grown adds in
    let e : Entry = entry_of n call a.0 in
    let xs : List Entry = gained (Some h) was in
    let more = ap (gained (Some h)) a.1
    ∙ ap (drop (length h.trail)) (append_assoc h.trail xs (e ∷ []))
    ∙ drop-append_seam h.trail (xs ++ e ∷ []) in
    (a.0, more, a.2)

-- one more call, by the count of faults
pub call_fails : (o was now : Option History) (n : ℕ) (call : Call) (r : Reply) (b before after : ℕ) →
    was ≡ extended o (gained o was) → Adds was now n call r → RoseBy (failed_in (gained o was)) b before → before ≤ after →
    (r ≡ replies.Failed → Rose before after) → RoseBy (failed_in (gained o now)) b after
call_fails None was now n call r b before after grown adds so_far later rose = record { later = omega arith; rose = omega arith }
call_fails (Some h) was now n call r b before after grown adds so_far later rose =
    let (o, more, is) = gains_one h was now n call r grown adds in
    let xs : List Entry = gained (Some h) was in
    let once = failed_once o (with_entries h xs) n call r before after is rose in
    let last : failed_in (entry_of n call o ∷ []) ≡ faults_of o = omega arith in
    let sum : failed_in (gained (Some h) now) ≡ failed_in xs + faults_of o =
    ap failed_in more ∙ failed_append xs (entry_of n call o ∷ []) ∙ ap (λ k. failed_in xs + k) last in
    subst (λ k. RoseBy k b after) (sym sum)
    (one_more b (failed_in xs) (faults_of o) before after so_far later once.0 once.1)

-- one more call, by the count of entries
pub call_counts : (o was now : Option History) (n : ℕ) (call : Call) (r : Reply) (count next : ℕ) →
    was ≡ extended o (gained o was) → Adds was now n call r → count ≡ count_since o was count →
    next ≡ min (count + 1) (2 ^ 64 - 1) → next ≡ count_since o now next
call_counts None was now n call r count next grown adds so_far is = refl
call_counts (Some h) was now n call r count next grown adds so_far is =
    let (o, more, answered) = gains_one h was now n call r grown adds in
    let longer : length (gained (Some h) now) ≡ length (gained (Some h) was) + 1 =
    ap length more ∙ length-append (gained (Some h) was) (entry_of n call o ∷ []) in
    omega arith

-- what a store tells as it is taken in
pub begun_since : {S : Type 0} (s : S) (o : Option History) → since s o o ≡ begun s o
begun_since s None = refl
begun_since s (Some h) = λ i. Some (s, none_left h.trail i)
  where
    none_left : (xs : List Entry) → drop (length xs) xs ≡ []
    none_left xs = ap (drop (length xs)) (sym (append-nil xs)) ∙ drop-append_seam xs []

fewer : (f k b n : ℕ) → RoseBy (f + k) b n → RoseBy k b n
fewer f k b n rose = record { later = rose.later; rose = omega arith }

one_value : {S : Type 0} (x y : S × List Entry) → Some x ≡ Some y → x ≡ y
one_value x y e = cc e

-- at the end, by what the pass has seen
pub closed_fails : {S : Type 0} (faults : S → ℕ) (s : S) (o now : Option History) (start : Option (S × List Entry)) (gain : List Entry)
    (count : ℕ) → RoseBy (failed_in (gained o now)) (faults s) count → since s o now ≡ with_more start gain →
    IfSome start (λ p. RoseBy (failed_in gain) (faults p.0) count)
closed_fails faults s None now None gain count rose tells = tt
closed_fails faults s None now (Some p) gain count rose tells = absurd (cc tells)
closed_fails faults s (Some h) now None gain count rose tells = absurd (cc tells)
closed_fails faults s (Some h) now (Some p) gain count rose tells =
    let same = one_value (s, gained (Some h) now) (p.0, p.1 ++ gain) tells in
    let all : failed_in (gained (Some h) now) ≡ failed_in p.1 + failed_in gain = ap (λ x. failed_in x.1) same ∙ failed_append p.1 gain in
    subst (λ t. RoseBy (failed_in gain) (faults t) count) (ap (λ x. x.0) same)
    (fewer (failed_in p.1) (failed_in gain) (faults s) count (subst (λ k. RoseBy k (faults s) count) all rose))
