-- A text spells one feed at most, has one line at fault at most, and not both.
use Rattle.std.proofs.Common.{◌≡◌, ◌⊎◌, inl, inr, ℕ, suc, ◌+◌, ◌<◌, ◌≤◌, Option, Some, None, List, [], ◌∷◌, ◌++◌, length, refl, sym, ap, subst, ◌∙◌, arith}
use Rattle.std.proofs.lemmas.List.{take_all}
use Rattle.update_core.specs.declared.appends.FeedAppend.{FeedAppend}
use Rattle.update_core.specs.declared.updates.Update.{Update}
use Rattle.feed_text.specs.declared.feed_lines.FeedLine.{FeedLine}
use Rattle.feed_text.specs.declared.limits.TheConstants.{MAX_BYTES}
use Rattle.feed_text.specs.Grammar.{lines_read}
use Rattle.feed_text.specs.Lines.{lines_of}
use Rattle.feed_text.proofs.Rows.{append_no_since, append_one, row_no_dot, row_one, since_one}
use Rattle.ingest_text.specs.declared.feeds.IngestFeed.{IngestFeed}
use Rattle.ingest_text.specs.declared.feeds.Said.{Said}
use Rattle.ingest_text.specs.Feeds.{DotLine, EndsOpen, Free, IsFirstFault, Leads, RowLine, Spells, StopsAt, Takes, TakesIn, nothing, with_block, with_query, with_row, with_since}
use Rattle.ingest_text.proofs.Lines.{query_no_append, query_no_since, query_one}

-- a line takes what was said to one thing
free_one : (s : Said) (line : List ℕ) (t u : Said) → Free s line t → Free s line u → t ≡ u
free_one s line t u (inl x) (inl y) =
    x.after ∙ ap (with_since s) (since_one x.to y.to x.small y.small (sym x.text ∙ y.text)) ∙ sym y.after
free_one s line t u (inl x) (inr (inl y)) = absurd (append_no_since y.lower y.upper x.to (sym y.text ∙ x.text))
free_one s line t u (inl x) (inr (inr y)) = absurd (query_no_since y.query line x.to y.within y.text x.text)
free_one s line t u (inr (inl x)) (inl y) = absurd (append_no_since x.lower x.upper y.to (sym x.text ∙ y.text))
free_one s line t u (inr (inl x)) (inr (inl y)) =
    let same = append_one x.lower y.lower x.upper y.upper x.small y.small x.bound y.bound (sym x.text ∙ y.text) in
    x.after ∙ (λ i. with_block s (record { lower = same.0 i; upper = same.1 i; rows = [] })) ∙ sym y.after
free_one s line t u (inr (inl x)) (inr (inr y)) = absurd (query_no_append y.query line x.lower x.upper y.within y.text x.text)
free_one s line t u (inr (inr x)) (inl y) = absurd (query_no_since x.query line y.to x.within x.text y.text)
free_one s line t u (inr (inr x)) (inr (inl y)) = absurd (query_no_append x.query line y.lower y.upper x.within x.text y.text)
free_one s line t u (inr (inr x)) (inr (inr y)) =
    x.after ∙ ap (with_query s) (query_one x.query y.query line x.within y.within x.text y.text) ∙ sym y.after

in_one : (block : Option FeedAppend) (s : Said) (line : List ℕ) (t u : Said) → TakesIn block s line t → TakesIn block s line u → t ≡ u
in_one None s line t u x y = free_one s line t u x y
in_one (Some a) s line t u (inl x) (inl y) = x.1 ∙ sym y.1
in_one (Some a) s line t u (inl x) (inr y) = absurd (row_no_dot y.row y.row_is (sym y.text ∙ x.0))
in_one (Some a) s line t u (inr x) (inl y) = absurd (row_no_dot x.row x.row_is (sym x.text ∙ y.0))
in_one (Some a) s line t u (inr x) (inr y) =
    x.after ∙ ap (with_row s a) (row_one x.row y.row x.row_is y.row_is (sym x.text ∙ y.text)) ∙ sym y.after

takes_one : (s : Said) (line : List ℕ) (t u : Said) → Takes s line t → Takes s line u → t ≡ u
takes_one s line t u x y = in_one s.block s line t u x y

-- lines lead to one thing
leads_one : (s : Said) (lines : List (List ℕ)) (t u : Said) → Leads s lines t → Leads s lines u → t ≡ u
leads_one s [] t u x y = x ∙ sym y
leads_one s (line ∷ more) t u (n, first, rest) (m, second, others) =
    leads_one m more t u (subst (λ (x : Said). Leads x more t) (takes_one s line n m first second) rest) others

-- lines that lead somewhere do so by way of what their front leads to
leads_by : (s : Said) (front : List (List ℕ)) (line : List ℕ) (rest : List (List ℕ)) (t mid : Said) → Leads s (front ++ line ∷ rest) t →
    Leads s front mid → (next : Said) × Takes mid line next
leads_by s [] line rest t mid (next, first, more) is = (next, subst (λ (x : Said). Takes x line next) (sym is) first)
leads_by s (l ∷ ls) line rest t mid (n, first, more) (m, second, others) =
    leads_by m ls line rest t mid (subst (λ (x : Said). Leads x (ls ++ line ∷ rest) t) (takes_one s l n m first second) more) others

-- lines that lead somewhere don't stop
no_stop : (all : List (List ℕ)) (n : ℕ) (t : Said) → StopsAt all n → Leads nothing all t → ⊥
no_stop all n t stop leads =
    let by = leads_by nothing stop.taken stop.line stop.rest t stop.before
    (subst (λ (ls : List (List ℕ)). Leads nothing ls t) stop.parts leads) stop.leads in
    stop.stuck by.0 by.1

heads : {x y : List ℕ} {xs ys : List (List ℕ)} → x ∷ xs ≡ y ∷ ys → x ≡ y
heads e = cc

tails : {x y : List ℕ} {xs ys : List (List ℕ)} → x ∷ xs ≡ y ∷ ys → xs ≡ ys
tails e = cc

-- nothing takes this line after these
record Stuck (s : Said) (front : List (List ℕ)) (line : List ℕ) : Type 0 where
  mid : Said
  leads : Leads s front mid
  stuck : (t : Said) → Takes mid line t → ⊥

goes : (s : Said) (l : List ℕ) (ls : List (List ℕ)) (line : List ℕ) → Stuck s (l ∷ ls) line → (next : Said) × Takes s l next × Stuck next ls line
goes s l ls line k = (k.leads.0, k.leads.1, record { mid = k.mid; leads = k.leads.2; stuck = k.stuck })

stays : (s : Said) (line : List ℕ) (next : Said) → Stuck s [] line → Takes s line next → ⊥
stays s line next k takes = k.stuck next (subst (λ (x : Said). Takes x line next) (sym k.leads) takes)

stop_one : (s : Said) (xs : List (List ℕ)) (x : List ℕ) (more : List (List ℕ)) (ys : List (List ℕ)) (y : List ℕ) (others : List (List ℕ)) →
    xs ++ x ∷ more ≡ ys ++ y ∷ others → Stuck s xs x → Stuck s ys y → length xs ≡ length ys
stop_one s [] x more [] y others e h k = refl
stop_one s [] x more (l ∷ ls) y others e h k =
    let g = goes s l ls y k in
    absurd (stays s x g.0 h (subst (λ (a : List ℕ). Takes s a g.0) (sym (heads e)) g.1))
stop_one s (l ∷ ls) x more [] y others e h k =
    let g = goes s l ls x h in
    absurd (stays s y g.0 k (subst (λ (a : List ℕ). Takes s a g.0) (heads e) g.1))
stop_one s (l ∷ ls) x more (m ∷ ms) y others e h k =
    let g = goes s l ls x h in
    let f = goes s m ms y k in
    let same : g.0 ≡ f.0 = takes_one s m g.0 f.0 (subst (λ (a : List ℕ). Takes s a g.0) (heads e) g.1) f.1 in
    let rest : length ls ≡ length ms = stop_one f.0 ls x more ms y others (tails e)
    (subst (λ (a : Said). Stuck a ls x) same g.2) f.2 in
    ap (λ (n : ℕ). suc n) rest

stops_one : (all : List (List ℕ)) (m n : ℕ) → StopsAt all m → StopsAt all n → m ≡ n
stops_one all m n x y =
    let same = stop_one nothing x.taken x.line x.rest y.taken y.line y.rest (sym x.parts ∙ y.parts)
    (record { mid = x.before; leads = x.leads; stuck = x.stuck }) (record { mid = y.before; leads = y.leads; stuck = y.stuck }) in
    x.counted ∙ ap (λ (k : ℕ). k + 1) same ∙ sym y.counted

pub one_fault : (text : List ℕ) (m n : ℕ) → IsFirstFault text m → IsFirstFault text n → m ≡ n
one_fault text m n (inl x) (inl y) = stops_one (lines_read text) m n x y
one_fault text m n (inl x) (inr y) = absurd (no_stop (lines_read text) m y.end x y.leads)
one_fault text m n (inr x) (inl y) = absurd (no_stop (lines_read text) n x.end y x.leads)
one_fault text m n (inr x) (inr y) = x.last ∙ sym y.last

pub one_feed : (f g : IngestFeed) (text : List ℕ) → Spells f text → Spells g text → f ≡ g
one_feed f g text x y = x.is ∙ ap (λ (s : Said). s.feed) (leads_one nothing (lines_of text) x.end y.end x.leads y.leads) ∙ sym y.is

pub no_fault : (f : IngestFeed) (text : List ℕ) (n : ℕ) → Spells f text → IsFirstFault text n → ⊥
no_fault f text n x fault = go fault
  where
    read : Leads nothing (lines_read text) x.end
    read = let few = x.few in
        subst (λ (t : List ℕ). Leads nothing (lines_of t) x.end) (sym (take_all (MAX_BYTES + 1) text (omega (arith, few)))) x.leads

    go : IsFirstFault text n → ⊥
    go (inl stop) = no_stop (lines_read text) n x.end stop read
    go (inr open_end) = which open_end.open_or_long
      where
        which : (open_end.end.block ≡ None → ⊥) ⊎ (MAX_BYTES < length text) → ⊥
        which (inl still) =
            still (ap (λ (s : Said). s.block) (leads_one nothing (lines_read text) open_end.end x.end open_end.leads read) ∙ x.closed)
        which (inr long) = let few = x.few in omega (arith, few, long)
