-- What was read of a source's text tells what the whole text is.
use Rattle.std.proofs.Common.{◌≡◌, inl, inr, ℕ, ◌+◌, ◌<◌, ◌≤◌, Option, Some, None, List, [], ◌++◌, length, take, refl, sym, ap, subst, ◌∙◌, arith, ⊎_elim, take-take}
use Rattle.std.proofs.lemmas.Bool.{cases_lt}
use Rattle.std.proofs.lemmas.List.{append-nil, length-take, take_at}
use Rattle.feed_text.specs.declared.limits.TheConstants.{MAX_BYTES}
use Rattle.feed_text.specs.Grammar.{lines_read}
use Rattle.feed_text.specs.Lines.{lines_of}
use Rattle.feed_text.specs.Streams.{Left, AtEnd, TakesAll}
use Rattle.ingest_text.specs.declared.feeds.IngestFeed.{IngestFeed}
use Rattle.ingest_text.specs.Feeds.{EndsOpen, IsFirstFault, Leads, Spells, StopsAt, nothing}
use Rattle.ingest_command.specs.Endings.{ReadsIngest}

-- what was read to its end is the whole text
pub all_had : (bound : ℕ) (left now : Option (List ℕ)) (text : List ℕ) → TakesAll bound left now text → length text < bound → Left left text
all_had bound None now text took short = tt
all_had bound (Some whole) now text took short =
    let rest = took.taken.0 in
    let none : rest ≡ [] = subst AtEnd took.taken.2 (took.end short) in
    took.taken.1 ∙ ap (λ r. text ++ r) none ∙ append-nil text

-- a fault among the bytes that are looked at is one of the whole text
fault_in_front : (text : List ℕ) (n : ℕ) → IsFirstFault (take (MAX_BYTES + 1) text) n → IsFirstFault text n
fault_in_front text n h = ⊎_elim (λ stops. inl (subst (λ ls. StopsAt ls n) same stops)) (λ ends. inr (whole ends)) h
  where
    same : lines_read (take (MAX_BYTES + 1) text) ≡ lines_read text
    same = ap lines_of (take-take (MAX_BYTES + 1) (MAX_BYTES + 1) text (omega arith))

    long : MAX_BYTES < length (take (MAX_BYTES + 1) text) → MAX_BYTES < length text
    long h = let e = length-take (MAX_BYTES + 1) text in omega (arith, e, h)

    whole : EndsOpen (take (MAX_BYTES + 1) text) n → EndsOpen text n
    whole e = record {
      end = e.end;
      leads = subst (λ ls. Leads nothing ls e.end) same e.leads;
      last = e.last ∙ ap length same;
      open_or_long = ⊎_elim (λ o. inl o) (λ l. inr (long l)) e.open_or_long;
    }

-- a fault in what was read is a fault in the whole text
pub fault_had : (left now : Option (List ℕ)) (text : List ℕ) (number : ℕ) → TakesAll (MAX_BYTES + 1) left now text → IsFirstFault text number →
    (whole : List ℕ) × Left left whole × IsFirstFault whole number
fault_had None now text number took fault = (text, tt, fault)
fault_had (Some whole) now text number took fault =
    ⊎_elim (λ (short : length text < MAX_BYTES + 1). (text, all_had (MAX_BYTES + 1) (Some whole) now text took short, fault)) (λ
    (long : MAX_BYTES + 1 ≤ length text).
    let few = took.few in
    let full : length text ≡ MAX_BYTES + 1 = omega (arith, few, long) in
    let front : take (MAX_BYTES + 1) whole ≡ text = ap (take (MAX_BYTES + 1)) took.taken.1 ∙ take_at text took.taken.0
    (MAX_BYTES + 1) full in
    (whole, refl, fault_in_front whole number (subst (λ t. IsFirstFault t number) (sym front) fault))) (cases_lt (length text)
    (MAX_BYTES + 1))

-- a text that spells a feed is short, so it was read to its end
abbrev pub feed_read : (left now : Option (List ℕ)) (text : List ℕ) (feed : IngestFeed) → TakesAll (MAX_BYTES + 1) left now text →
    Spells feed text → ReadsIngest left now
feed_read left now text feed took spells =
    let few = spells.few in
    let short : length text < MAX_BYTES + 1 = omega (arith, few) in record {
      text = text;
      had = all_had (MAX_BYTES + 1) left now text took short;
      end = took.end short;
      feed = feed;
      spells = spells;
    }
