-- What ports tell, in laws.
use Rattle.std.proofs.Common.{◌≡◌, ◌≢◌, ℕ, Bool, true, false, cond, Option, Some, None, List, [], ◌∷◌, ◌++◌, refl, sym, ap, ◌∙◌, arith}
use Rattle.std.specs.Prelude.{◌==◌}
use Rattle.std.proofs.lemmas.Bool.Decides.{nat_tests}
use Rattle.std.proofs.lemmas.List.{append-nil}
use Rattle.store_core.specs.declared.calls.Call.{Call}
use Rattle.store_core.specs.declared.replies.Reply.{Reply}
use Rattle.store_core.specs.declared.entries.Entry.{Entry}
use Rattle.store_core.specs.Stores.{Stored}
use Rattle.store_core.specs.Histories.{History, Adds, replay, next, reply, store_after, with_entry, entry_of}
use Rattle.store_core.specs.Ports.{Answered, answered, mine, mine_from, with_entries, OfOthers, GrowsByOthers, Gains, GainsWhereTold}

nothing_more : (h : History) → h ≡ with_entries h []
nothing_more h = ap (λ es. record { start = h.start; trail = es }) (sym (append-nil h.trail))

-- what a store adds is what a port with no others sees
pub gains_where_added : (client : ℕ) (old new : Option History) (call : Call) (r : Reply) → Adds old new client call r → GainsWhereTold client old new call r
gains_where_added client None new call r a = a
gains_where_added client (Some h) new call r a =
    let e = entry_of client call a.0 in (
      with_entry h e,
      a.1,
      record {
        others = [];
        of_others = tt;
        outcome = a.0;
        new_is = ap (λ k. with_entry k e) (nothing_more h);
        reply_is = a.2 ∙ ap (λ k. reply (store_after k) e) (nothing_more h);
      },
    )

pub replay-append : (s : Stored) (xs ys : List Entry) → replay s (xs ++ ys) ≡ replay (replay s xs) ys
replay-append s [] ys = refl
replay-append s (x ∷ xs) ys = replay-append (next s x) xs ys

one_more : (b : Bool) (a : Answered) (xs ys : List Answered) → cond b (a ∷ (xs ++ ys)) (xs ++ ys) ≡ cond b (a ∷ xs) xs ++ ys
one_more true a xs ys = refl
one_more false a xs ys = refl

pub mine_from-append : (s : Stored) (xs ys : List Entry) (c : ℕ) → mine_from s (xs ++ ys) c ≡ mine_from s xs c ++ mine_from (replay s xs) ys c
mine_from-append s [] ys c = refl
mine_from-append s (x ∷ xs) ys c =
    ap (λ l. cond (x.client == c) (answered x (reply s x) ∷ l) l) (mine_from-append (next s x) xs ys c)
    ∙ one_more (x.client == c) (answered x (reply s x)) (mine_from (next s x) xs c) (mine_from (replay (next s x) xs) ys c)

other : (a c : ℕ) → a ≢ c → (a == c) ≡ false
other a c h = grind (arith, nat_tests)

own : (c : ℕ) → (c == c) ≡ true
own c = grind (arith, nat_tests)

pub mine_from-others : (s : Stored) (es : List Entry) (c : ℕ) → OfOthers c es → mine_from s es c ≡ []
mine_from-others s [] c h = refl
mine_from-others s (e ∷ es) c h =
    ap (λ b. cond b (answered e (reply s e) ∷ mine_from (next s e) es c) (mine_from (next s e) es c)) (other e.client c h.0) ∙ mine_from-others (next s e) es c h.1

-- the client's own list gains just the entry with its reply
pub mine-gains : (c : ℕ) (h k : History) (call : Call) (r : Reply) (g : Gains c h k call r) → mine k c ≡ mine h c ++ answered (entry_of c call g.outcome) r ∷ []
mine-gains c h k call r g =
    let e = entry_of c call g.outcome in
    let s = replay h.start h.trail in
    let t = replay h.start (h.trail ++ g.others) in
    ap (λ l. mine l c) g.new_is
    ∙ mine_from-append h.start (h.trail ++ g.others) (e ∷ []) c
    ∙ (λ i. mine_from-append h.start h.trail g.others c i ++ cond (own c i) (answered e (reply t e) ∷ []) [])
    ∙ ap (λ l. (mine h c ++ l) ++ answered e (reply t e) ∷ []) (mine_from-others s g.others c g.of_others)
    ∙ ap (λ l. l ++ answered e (reply t e) ∷ []) (append-nil (mine h c))
    ∙ ap (λ x. mine h c ++ answered e x ∷ []) (sym g.reply_is)

-- nothing is growth too
pub grows_by_none : (client : ℕ) (old new : Option History) → new ≡ old → GrowsByOthers client old new
grows_by_none client None new e = e
grows_by_none client (Some h) new e = ([], tt, e ∙ ap (λ k. Some k) (nothing_more h))

-- entries of others leave the client's own list
pub mine-grows : (c : ℕ) (h : History) (others : List Entry) → OfOthers c others → mine (with_entries h others) c ≡ mine h c
mine-grows c h others o =
    mine_from-append h.start h.trail others c ∙ ap (λ l. mine h c ++ l) (mine_from-others (replay h.start h.trail) others c o) ∙ append-nil (mine h c)
