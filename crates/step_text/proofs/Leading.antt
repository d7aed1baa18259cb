-- How far the lines of a text have been taken.
use Rattle.std.proofs.Common.{◌≡◌, ℕ, ◌+◌, ◌≤◌, false, Option, Some, None, List, [], ◌∷◌, ◌++◌, length, append_assoc, append-nil, length-append, refl, sym, ap, subst, ◌∙◌, arith}
use Rattle.step_text.specs.declared.schedules.SoFar.{SoFar}
use Rattle.std.specs.Prelude.{is_some}
use Rattle.std.proofs.lemmas.List.{take_all}
use Rattle.feed_text.specs.declared.limits.TheConstants.{MAX_BYTES}
use Rattle.feed_text.specs.Grammar.{lines_read}
use Rattle.feed_text.specs.Lines.{lines_of}
use Rattle.step_text.specs.declared.schedules.Block.{Block}
use Rattle.step_text.specs.Schedules.{Leads, Spells, StopsAt, Takes, start}

leads_on : (s : SoFar) (taken : List (List ℕ)) (mid : SoFar) (line : List ℕ) (t : SoFar) → Leads s taken mid → Takes mid line t →
    Leads s (taken ++ line ∷ []) t
leads_on s [] mid line t is takes = (t, subst (λ (x : SoFar). Takes x line t) is takes, refl)
leads_on s (l ∷ ls) mid line t (next, first, more) takes = (next, first, leads_on next ls mid line t more takes)

-- of all lines those that are left are to come, and the others have led here
pub record Reads (all left : List (List ℕ)) (s : SoFar) (n : ℕ) : Type 0 where
  pub taken : List (List ℕ)
  pub parts : all ≡ taken ++ left
  pub leads : Leads start taken s
  pub counted : n ≡ length taken

pub reads_start : (all : List (List ℕ)) (s : SoFar) (n : ℕ) → s ≡ start → n ≡ 0 → Reads all all s n
reads_start all s n is zero_is = record { taken = []; parts = refl; leads = is; counted = zero_is }

pub reads_on : (all left : List (List ℕ)) (line : List ℕ) (s t : SoFar) (n : ℕ) → Reads all (line ∷ left) s n → Takes s line t →
    Reads all left t (n + 1)
reads_on all left line s t n r takes = record {
  taken = r.taken ++ line ∷ [];
  parts = r.parts ∙ sym (append_assoc r.taken (line ∷ []) left);
  leads = leads_on start r.taken s line t r.leads takes;
  counted = ap (λ (m : ℕ). m + 1) r.counted ∙ sym (length-append r.taken (line ∷ []));
}

pub reads_stop : (all left : List (List ℕ)) (line : List ℕ) (s : SoFar) (n : ℕ) → Reads all (line ∷ left) s n →
    ((t : SoFar) → Takes s line t → ⊥) → StopsAt all (n + 1)
reads_stop all left line s n r stuck = record {
  taken = r.taken;
  line = line;
  rest = left;
  parts = r.parts;
  counted = ap (λ (m : ℕ). m + 1) r.counted;
  before = s;
  leads = r.leads;
  stuck = stuck;
}

pub reads_end : (all : List (List ℕ)) (s : SoFar) (n : ℕ) → Reads all [] s n → Leads start all s
reads_end all s n r = subst (λ (ls : List (List ℕ)). Leads start ls s) (sym (r.parts ∙ append-nil r.taken)) r.leads

pub none_of : (o : Option Block) → is_some o ≡ false → o ≡ None
none_of None h = refl
none_of (Some b) h = cc

-- lines that end well spell the schedule
pub spelled : (s : SoFar) (text : List ℕ) → Leads start (lines_read text) s → length text ≤ MAX_BYTES → s.block ≡ None →
    Spells (record { names = s.names; lines = s.lines }) text
spelled s text leads few closed = record {
  end = s;
  leads = subst (λ (t : List ℕ). Leads start (lines_of t) s) (take_all (MAX_BYTES + 1) text (omega (arith, few))) leads;
  names = refl;
  lines = refl;
  closed = closed;
  few = few;
}
