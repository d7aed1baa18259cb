-- How far the lines of a text have been taken.
use Rattle.std.proofs.Common.{◌≡◌, inl, inr, ℕ, ◌+◌, ◌<◌, ◌≤◌, List, [], ◌∷◌, ◌++◌, length, append_assoc, append-nil, length-append, refl, sym, ap, subst, ◌∙◌, arith}
use Rattle.std.specs.List.{AllByRecursion}
use Rattle.std.proofs.lemmas.List.{take_all}
use Rattle.feed_text.specs.declared.limits.TheConstants.{MAX_BYTES}
use Rattle.feed_text.specs.Grammar.{lines_read}
use Rattle.feed_text.specs.Lines.{lines_of}
use Rattle.reclock_text.specs.declared.feeds.ReclockFeed.{ReclockFeed}
use Rattle.reclock_text.specs.declared.saws.Saw.{Saw}
use Rattle.reclock_text.specs.Feeds.{IsWithin, Leads, Spells, StopsAt, Takes, nothing}

module _ (operators : ℕ) where
  leads_on : (s : ReclockFeed) (taken : List (List ℕ)) (mid : ReclockFeed) (line : List ℕ) (t : ReclockFeed) → Leads operators s taken mid →
      Takes operators mid line t → Leads operators s (taken ++ line ∷ []) t
  leads_on s [] mid line t is takes = (t, subst (λ (x : ReclockFeed). Takes operators x line t) is takes, refl)
  leads_on s (l ∷ ls) mid line t (next, first, more) takes = (next, first, leads_on next ls mid line t more takes)

  -- of all lines those that are left are to come, and the others have led here
  pub record Reads (all left : List (List ℕ)) (s : ReclockFeed) (n : ℕ) : Type 0 where
    pub taken : List (List ℕ)
    pub parts : all ≡ taken ++ left
    pub leads : Leads operators nothing taken s
    pub counted : n ≡ length taken

  pub reads_start : (all : List (List ℕ)) (s : ReclockFeed) (n : ℕ) → s ≡ nothing → n ≡ 0 → Reads all all s n
  reads_start all s n is zero_is = record { taken = []; parts = refl; leads = is; counted = zero_is }

  pub reads_on : (all left : List (List ℕ)) (line : List ℕ) (s t : ReclockFeed) (n : ℕ) → Reads all (line ∷ left) s n →
      Takes operators s line t → Reads all left t (n + 1)
  reads_on all left line s t n r takes = record {
    taken = r.taken ++ line ∷ [];
    parts = r.parts ∙ sym (append_assoc r.taken (line ∷ []) left);
    leads = leads_on nothing r.taken s line t r.leads takes;
    counted = ap (λ (m : ℕ). m + 1) r.counted ∙ sym (length-append r.taken (line ∷ []));
  }

  pub reads_stop : (all left : List (List ℕ)) (line : List ℕ) (s : ReclockFeed) (n : ℕ) → Reads all (line ∷ left) s n →
      ((t : ReclockFeed) → Takes operators s line t → ⊥) → StopsAt operators all (n + 1)
  reads_stop all left line s n r stuck = record {
    taken = r.taken;
    line = line;
    rest = left;
    parts = r.parts;
    counted = ap (λ (m : ℕ). m + 1) r.counted;
    before = s;
    leads = r.leads;
    stuck = stuck;
  }

  pub reads_end : (all : List (List ℕ)) (s : ReclockFeed) (n : ℕ) → Reads all [] s n → Leads operators nothing all s
  reads_end all s n r = subst (λ (ls : List (List ℕ)). Leads operators nothing ls s) (sym (r.parts ∙ append-nil r.taken)) r.leads

  -- lines that end well spell the feed
  pub spelled : (s : ReclockFeed) (text : List ℕ) → Leads operators nothing (lines_read text) s → length text ≤ MAX_BYTES →
      Spells operators s text
  spelled s text leads few = record {
    leads = subst (λ (t : List ℕ). Leads operators nothing (lines_of t) s) (take_all (MAX_BYTES + 1) text (omega (arith, few))) leads;
    few = few;
  }

  -- ---- limits

  abbrev Each : List Saw → Type 0
  Each = AllByRecursion (λ (s : Saw). s.operator < operators)

  one_more : (saws : List Saw) (saw : Saw) → Each saws → saw.operator < operators → Each (saws ++ saw ∷ [])
  one_more [] saw h lt = (lt, tt)
  one_more (s ∷ ss) saw h lt = (h.0, one_more ss saw h.1 lt)

  kept : (s : ReclockFeed) (line : List ℕ) (t : ReclockFeed) → IsWithin operators s → Takes operators s line t → IsWithin operators t
  kept s line t h (inl x) = subst (λ (f : ReclockFeed). IsWithin operators f) (sym x.after) (record {
    saws = let few = x.few in omega (arith, few, length-append s.saws (x.saw ∷ []));
    each = one_more s.saws x.saw h.each x.text.operator;
    rows = h.rows;
    light = h.light;
  })
  kept s line t h (inr x) = subst (λ (f : ReclockFeed). IsWithin operators f) (sym x.after) (record {
    saws = h.saws;
    each = h.each;
    rows = let few = x.few in omega (arith, few, length-append s.rows (x.row ∷ []));
    light = x.light;
  })

  leads_within : (s : ReclockFeed) (lines : List (List ℕ)) (t : ReclockFeed) → IsWithin operators s → Leads operators s lines t →
      IsWithin operators t
  leads_within s [] t h is = subst (λ (f : ReclockFeed). IsWithin operators f) (sym is) h
  leads_within s (line ∷ more) t h (next, first, rest) = leads_within next more t (kept s line next h first) rest

  pub within : (lines : List (List ℕ)) (t : ReclockFeed) → Leads operators nothing lines t → IsWithin operators t
  within lines t leads =
      leads_within nothing lines t (record { saws = omega arith; each = tt; rows = omega arith; light = omega arith }) leads
