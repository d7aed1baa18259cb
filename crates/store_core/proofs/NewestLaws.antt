-- A history read with its newest entry first is the same history.
use Rattle.std.proofs.Common.{◌≡◌, ℕ, Bool, true, false, cond, List, [], ◌∷◌, ◌++◌, refl, sym, ap, ◌∙◌}
use Rattle.std.specs.Prelude.{◌==◌, reverse}
use Rattle.std.proofs.lemmas.List.{reverse-append, append-nil}
use Rattle.store_core.specs.declared.entries.Entry.{Entry}
use Rattle.store_core.specs.Stores.{Stored}
use Rattle.store_core.specs.Histories.{History, replay, next, reply}
use Rattle.store_core.specs.Ports.{Answered, answered, mine, mine_from}
use Rattle.store_core.specs.Newest.{replay_back, mine_back}

-- the last entry comes first
pub newest-first : {A : Type 0} (xs : List A) (x : A) → reverse (xs ++ x ∷ []) ≡ x ∷ reverse xs
newest-first xs x = reverse-append xs (x ∷ [])

-- the first entry comes last
pub oldest-last : {A : Type 0} (x : A) (xs : List A) → reverse (x ∷ xs) ≡ reverse xs ++ x ∷ []
oldest-last x xs = reverse-append (x ∷ []) xs

-- the oldest entry takes effect first
pub replay_back-oldest : (s : Stored) (es : List Entry) (e : Entry) → replay_back s (es ++ e ∷ []) ≡ replay_back (next s e) es
replay_back-oldest s [] e = refl
replay_back-oldest s (x ∷ es) e = ap (λ t. next t x) (replay_back-oldest s es e)

-- the store after a history
pub replay-newest : (s : Stored) (es : List Entry) → replay s es ≡ replay_back s (reverse es)
replay-newest s [] = refl
replay-newest s (e ∷ es) = replay-newest (next s e) es ∙ sym (ap (λ l. replay_back s l) (oldest-last e es) ∙ replay_back-oldest s (reverse es) e)

one_older : (b : Bool) (a : Answered) (xs ys : List Answered) → cond b (a ∷ (xs ++ ys)) (xs ++ ys) ≡ cond b (a ∷ xs) xs ++ ys
one_older true a xs ys = refl
one_older false a xs ys = refl

mine_back-oldest : (s : Stored) (es : List Entry) (e : Entry) (c : ℕ) → mine_back s (es ++ e ∷ []) c ≡ mine_back (next s e) es c ++ mine_back s (e ∷ []) c
mine_back-oldest s [] e c = refl
mine_back-oldest s (x ∷ es) e c =
    ap (λ t. cond (x.client == c) (answered x (reply t x) ∷ mine_back s (es ++ e ∷ []) c) (mine_back s (es ++ e ∷ []) c)) (replay_back-oldest s es e)
    ∙ ap (λ l. cond (x.client == c) (answered x (reply (replay_back (next s e) es) x) ∷ l) l) (mine_back-oldest s es e c)
    ∙ one_older (x.client == c) (answered x (reply (replay_back (next s e) es) x)) (mine_back (next s e) es c) (mine_back s (e ∷ []) c)

one_turned : (b : Bool) (a : Answered) (xs : List Answered) → reverse (cond b (a ∷ xs) xs) ≡ reverse xs ++ cond b (a ∷ []) []
one_turned true a xs = oldest-last a xs
one_turned false a xs = sym (append-nil (reverse xs))

mine_from-newest : (s : Stored) (es : List Entry) (c : ℕ) → reverse (mine_from s es c) ≡ mine_back s (reverse es) c
mine_from-newest s [] c = refl
mine_from-newest s (e ∷ es) c =
    one_turned (e.client == c) (answered e (reply s e)) (mine_from (next s e) es c)
    ∙ ap (λ l. l ++ mine_back s (e ∷ []) c) (mine_from-newest (next s e) es c)
    ∙ sym (ap (λ l. mine_back s l c) (oldest-last e es) ∙ mine_back-oldest s (reverse es) e c)

-- the entries of a client in a history
pub mine-newest : (h : History) (c : ℕ) → reverse (mine h c) ≡ mine_back h.start (reverse h.trail) c
mine-newest h c = mine_from-newest h.start h.trail c
