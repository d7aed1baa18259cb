-- A text spells one feed at most, has one line at fault at most, and not both.
use Rattle.std.proofs.Common.{◌≡◌, ◌⊎◌, inl, inr, ℕ, suc, ◌+◌, ◌^◌, ◌<◌, ◌≤◌, List, [], ◌∷◌, ◌++◌, length, refl, sym, ap, subst, ◌∙◌, arith}
use Rattle.std.proofs.lemmas.List.{take_all}
use Rattle.feed_text.specs.declared.limits.TheConstants.{MAX_BYTES}
use Rattle.feed_text.specs.Grammar.{lines_read}
use Rattle.feed_text.specs.Lines.{lines_of}
use Rattle.remap_core.specs.declared.source_rows.SourceRow.{SourceRow}
use Rattle.reclock_text.specs.declared.feeds.ReclockFeed.{ReclockFeed}
use Rattle.reclock_text.specs.declared.saws.Saw.{Saw}
use Rattle.reclock_text.specs.Feeds.{IsFirstFault, Leads, Spells, StopsAt, Takes, nothing}
use Rattle.reclock_text.proofs.Lines.{not_both}
use Rattle.reclock_text.proofs.SawWords.{saw_one}
use Rattle.reclock_text.proofs.SourceWords.{source_one}

module _ (operators : ℕ) (bound : operators < 2 ^ 64) where
  -- a line takes what was said to one thing
  takes_one : (s : ReclockFeed) (line : List ℕ) (t u : ReclockFeed) → Takes operators s line t → Takes operators s line u → t ≡ u
  takes_one s line t u (inl x) (inl y) =
      x.after ∙ ap (λ (w : Saw). record s { saws = s.saws ++ w ∷ [] }) (saw_one operators line bound x.saw y.saw x.text y.text) ∙ sym y.after
  takes_one s line t u (inl x) (inr y) = absurd (not_both operators line x.saw y.row x.text y.text)
  takes_one s line t u (inr x) (inl y) = absurd (not_both operators line y.saw x.row y.text x.text)
  takes_one s line t u (inr x) (inr y) =
      x.after ∙ ap (λ (r : SourceRow). record s { rows = s.rows ++ r ∷ [] }) (source_one line x.row y.row x.within y.within x.text y.text)
      ∙ sym y.after

  -- lines lead to one thing
  leads_one : (s : ReclockFeed) (lines : List (List ℕ)) (t u : ReclockFeed) → Leads operators s lines t → Leads operators s lines u → t ≡ u
  leads_one s [] t u x y = x ∙ sym y
  leads_one s (line ∷ more) t u (n, first, rest) (m, second, others) =
      leads_one m more t u (subst (λ (x : ReclockFeed). Leads operators x more t) (takes_one s line n m first second) rest) others

  -- lines that lead somewhere do so by way of what their front leads to
  leads_by : (s : ReclockFeed) (front : List (List ℕ)) (line : List ℕ) (rest : List (List ℕ)) (t mid : ReclockFeed) → Leads operators s (front ++ line ∷ rest) t →
      Leads operators s front mid → (next : ReclockFeed) × Takes operators mid line next
  leads_by s [] line rest t mid (next, first, more) is = (next, subst (λ (x : ReclockFeed). Takes operators x line next) (sym is) first)
  leads_by s (l ∷ ls) line rest t mid (n, first, more) (m, second, others) =
      leads_by m ls line rest t mid (subst (λ (x : ReclockFeed). Leads operators x (ls ++ line ∷ rest) t) (takes_one s l n m first second) more) others

  -- lines that lead somewhere don't stop
  no_stop : (all : List (List ℕ)) (n : ℕ) (t : ReclockFeed) → StopsAt operators all n → Leads operators nothing all t → ⊥
  no_stop all n t stop leads =
      let by = leads_by nothing stop.taken stop.line stop.rest t stop.before
      (subst (λ (ls : List (List ℕ)). Leads operators nothing ls t) stop.parts leads) stop.leads in
      stop.stuck by.0 by.1

  heads : {x y : List ℕ} {xs ys : List (List ℕ)} → x ∷ xs ≡ y ∷ ys → x ≡ y
  heads e = cc

  tails : {x y : List ℕ} {xs ys : List (List ℕ)} → x ∷ xs ≡ y ∷ ys → xs ≡ ys
  tails e = cc

  -- nothing takes this line after these
  record Stuck (s : ReclockFeed) (front : List (List ℕ)) (line : List ℕ) : Type 0 where
    mid : ReclockFeed
    leads : Leads operators s front mid
    stuck : (t : ReclockFeed) → Takes operators mid line t → ⊥

  goes : (s : ReclockFeed) (l : List ℕ) (ls : List (List ℕ)) (line : List ℕ) → Stuck s (l ∷ ls) line → (next : ReclockFeed) × Takes operators s l next × Stuck next ls line
  goes s l ls line k = (k.leads.0, k.leads.1, record { mid = k.mid; leads = k.leads.2; stuck = k.stuck })

  stays : (s : ReclockFeed) (line : List ℕ) (next : ReclockFeed) → Stuck s [] line → Takes operators s line next → ⊥
  stays s line next k takes = k.stuck next (subst (λ (x : ReclockFeed). Takes operators x line next) (sym k.leads) takes)

  stop_one : (s : ReclockFeed) (xs : List (List ℕ)) (x : List ℕ) (more : List (List ℕ)) (ys : List (List ℕ)) (y : List ℕ) (others : List (List ℕ)) →
      xs ++ x ∷ more ≡ ys ++ y ∷ others → Stuck s xs x → Stuck s ys y → length xs ≡ length ys
  stop_one s [] x more [] y others e h k = refl
  stop_one s [] x more (l ∷ ls) y others e h k =
      let g = goes s l ls y k in
      absurd (stays s x g.0 h (subst (λ (a : List ℕ). Takes operators s a g.0) (sym (heads e)) g.1))
  stop_one s (l ∷ ls) x more [] y others e h k =
      let g = goes s l ls x h in
      absurd (stays s y g.0 k (subst (λ (a : List ℕ). Takes operators s a g.0) (heads e) g.1))
  stop_one s (l ∷ ls) x more (m ∷ ms) y others e h k =
      let g = goes s l ls x h in
      let f = goes s m ms y k in
      let same : g.0 ≡ f.0 = takes_one s m g.0 f.0 (subst (λ (a : List ℕ). Takes operators s a g.0) (heads e) g.1) f.1 in
      let rest : length ls ≡ length ms = stop_one f.0 ls x more ms y others (tails e)
      (subst (λ (a : ReclockFeed). Stuck a ls x) same g.2) f.2 in
      ap (λ (n : ℕ). suc n) rest

  stops_one : (all : List (List ℕ)) (m n : ℕ) → StopsAt operators all m → StopsAt operators all n → m ≡ n
  stops_one all m n x y =
      let same = stop_one nothing x.taken x.line x.rest y.taken y.line y.rest (sym x.parts ∙ y.parts)
      (record { mid = x.before; leads = x.leads; stuck = x.stuck }) (record { mid = y.before; leads = y.leads; stuck = y.stuck }) in
      x.counted ∙ ap (λ (k : ℕ). k + 1) same ∙ sym y.counted

  pub one_fault : (text : List ℕ) (m n : ℕ) → IsFirstFault operators text m → IsFirstFault operators text n → m ≡ n
  one_fault text m n (inl x) (inl y) = stops_one (lines_read text) m n x y
  one_fault text m n (inl x) (inr y) = absurd (no_stop (lines_read text) m y.end x y.leads)
  one_fault text m n (inr x) (inl y) = absurd (no_stop (lines_read text) n x.end y x.leads)
  one_fault text m n (inr x) (inr y) = x.last ∙ sym y.last

  pub one_feed : (f g : ReclockFeed) (text : List ℕ) → Spells operators f text → Spells operators g text → f ≡ g
  one_feed f g text x y = leads_one nothing (lines_of text) f g x.leads y.leads

  pub no_fault : (f : ReclockFeed) (text : List ℕ) (n : ℕ) → Spells operators f text → IsFirstFault operators text n → ⊥
  no_fault f text n x (inl stop) = no_stop (lines_read text) n f stop
      (let few = x.few in
      subst (λ (t : List ℕ). Leads operators nothing (lines_of t) f) (sym (take_all (MAX_BYTES + 1) text (omega (arith, few)))) x.leads)
  no_fault f text n x (inr end) = let few = x.few in let long = end.long in omega (arith, few, long)
