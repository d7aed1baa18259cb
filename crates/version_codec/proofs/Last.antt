-- Whether a number may follow that of the last member.
use Rattle.std.proofs.Common.{◌≡◌, ℕ, suc, ◌-◌, ◌≤◌, ◌<◌, ltb, Some, List, [], ◌∷◌, length, get_or, refl, sym, ap, ◌∙◌, arith}
use Rattle.std.proofs.lemmas.Bool.{le-leb, le-ltb}
use Rattle.store_core.specs.Stores.{last_of}
use Rattle.state_core.specs.declared.members.Member.{Member}
use Rattle.version_codec.specs.Reading.{may_join}

last_at : {A : Type 0} (xs : List A) (d : A) → 1 ≤ length xs → last_of xs ≡ Some (get_or xs (length xs - 1) d)
last_at [] d h = absurd (omega arith)
last_at (y ∷ []) d h = refl
last_at (y ∷ z ∷ xs) d h =
    let k : suc (suc (length xs)) - 1 ≡ suc (length xs) = omega arith in
    let j : suc (length xs) - 1 ≡ length xs = omega arith in
    last_at (z ∷ xs) d (omega arith) ∙ ap (λ i. Some (get_or (z ∷ xs) i d)) j ∙ sym (ap (λ i. Some (get_or (y ∷ z ∷ xs) i d)) k)

pub joins_then : (ms : List Member) (d : Member) (next n : ℕ) → 1 ≤ length ms → (get_or ms (length ms - 1) d).number < n → ltb n next ≡ may_join (last_of ms) next n
joins_then ms d next n some above = let passes = le-leb (suc (get_or ms (length ms - 1) d).number) n above in rw (last_at ms d some, passes) refl

pub joins_else : (ms : List Member) (d : Member) (next n : ℕ) → 1 ≤ length ms → n ≤ (get_or ms (length ms - 1) d).number → ltb (get_or ms (length ms - 1) d).number n ≡ may_join (last_of ms) next n
joins_else ms d next n some below = let fails = le-ltb (get_or ms (length ms - 1) d).number n below in rw (last_at ms d some, fails) refl
