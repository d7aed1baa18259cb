-- The words of a row, and of the lines that begin a command: a line is cut into them in one way.
use Rattle.std.proofs.Common.{◌≡◌, ◌≢◌, ℕ, ℤ, ◌^◌, ◌<◌, ◌≤◌, ◌⊎◌, inl, inr, ⊎_elim, Bool, true, false, cond, eqb, Option, IfSome, List, [], ◌∷◌, ◌++◌, length, map, refl, sym, ap, subst, ◌∙◌, arith}
use Rattle.std.specs.Int.{w64}
use Rattle.std.specs.Prelude.{FitsSigned, codes}
use Rattle.std.specs.Fmt.{decimal, signed_decimal}
use Rattle.update_core.specs.declared.updates.Update.{Update}
use Rattle.feed_text.specs.declared.feed_lines.FeedLine.{FeedLine}
use Rattle.feed_text.specs.declared.feed_lines.FeedLine.TheVariants.{Append, Snapshot, Listen, Since, Compact}
use Rattle.feed_text.specs.Grammar.{append_line, command_lines, compact_line, dot_line, frontier_text, row_line, IsCommand, IsNoCommand, IsRow}
use Rattle.feed_text.proofs.Cuts.{Lacks, no_cut, lacks_end}
use Rattle.feed_text.proofs.Spelled.{NoNumber}
use Rattle.feed_text.proofs.Words.{cut_once, decimal_spaceless, signed_spaceless}
use Rattle.std.proofs.Common.{not}
use Rattle.std.proofs.lemmas.Bool.Decides.{Decides-eqb, not_from_Decides}
use Rattle.std.proofs.lemmas.Slice.Eq.{slice_eq-Decides}
use Rattle.update_core.specs.declared.data.DatumFault.{DatumFault}
use Rattle.update_core.specs.declared.data.DatumFault.TheVariants.{Memory, DatumSize}
use lib.Pointwise.{pointwise}
use borrow.Author.Tests.{eqb-false}

-- a line that isn't a row, whatever its datum is
abbrev pub NoWords : List ℕ → Type 0
NoWords line = (time : ℕ) (diff : ℤ) (datum : List ℕ) → time < 2 ^ 64 → FitsSigned w64 diff → line ≡ decimal time ++ 32 ∷ (signed_decimal diff ++ 32 ∷ datum) → ⊥

pub uncut : (line : List ℕ) → Lacks 32 line → NoWords line
uncut line lacks = λ time diff datum small fits is. no_cut 32 line (decimal time) (signed_decimal diff ++ 32 ∷ datum) lacks is

pub bad_time : (line word rest : List ℕ) → line ≡ word ++ 32 ∷ rest → Lacks 32 word → NoNumber word → NoWords line
bad_time line word rest cut lacks bad = λ time diff datum small fits is.
    bad time small ((cut_once word (decimal time) rest (signed_decimal diff ++ 32 ∷ datum) lacks (decimal_spaceless time small) (sym cut ∙ is)).0)

pub rest_uncut : (line word rest : List ℕ) → line ≡ word ++ 32 ∷ rest → Lacks 32 word → Lacks 32 rest → NoWords line
rest_uncut line word rest cut lacks bare = λ time diff datum small fits is.
    no_cut 32 rest (signed_decimal diff) datum bare ((cut_once word (decimal time) rest (signed_decimal diff ++ 32 ∷ datum) lacks (decimal_spaceless time small) (sym cut ∙ is)).1)

pub bad_difference : (line word rest second datum : List ℕ) → line ≡ word ++ 32 ∷ rest → Lacks 32 word → rest ≡ second ++ 32 ∷ datum → Lacks 32 second
    → ((z : ℤ) → FitsSigned w64 z → second ≡ signed_decimal z → ⊥) → NoWords line
bad_difference line word rest second datum cut lacks cut_again lacks_again bad = λ time diff other small fits is.
    let tail = (cut_once word (decimal time) rest (signed_decimal diff ++ 32 ∷ other) lacks (decimal_spaceless time small) (sym cut ∙ is)).1 in
    bad diff fits ((cut_once second (signed_decimal diff) datum other lacks_again (signed_spaceless diff fits) (sym cut_again ∙ tail)).0)

-- the words of a row are those of its line
same_datum : (time other : ℕ) (diff change : ℤ) (datum bytes : List ℕ) → time < 2 ^ 64 → other < 2 ^ 64 → FitsSigned w64 diff → FitsSigned w64 change
    → decimal time ++ 32 ∷ (signed_decimal diff ++ 32 ∷ datum) ≡ decimal other ++ 32 ∷ (signed_decimal change ++ 32 ∷ bytes) → datum ≡ bytes
same_datum time other diff change datum bytes p q f g is =
    let tail = (cut_once (decimal time) (decimal other) (signed_decimal diff ++ 32 ∷ datum) (signed_decimal change ++ 32 ∷ bytes) (decimal_spaceless time p) (decimal_spaceless other q) is).1 in
    (cut_once (signed_decimal diff) (signed_decimal change) datum bytes (signed_spaceless diff f) (signed_spaceless change g) tail).1

pub bad_size : (line datum : List ℕ) (time : ℕ) (diff : ℤ) → time < 2 ^ 64 → FitsSigned w64 diff → line ≡ decimal time ++ 32 ∷ (signed_decimal diff ++ 32 ∷ datum)
    → ((length datum ≡ 0) ⊎ (255 < length datum)) → (u : Update) → IsRow u → line ≡ row_line u → ⊥
bad_size line datum time diff small fits words size u row is =
    let same = same_datum time u.time diff u.diff datum u.datum small row.time fits row.diff (sym words ∙ is) in
    let sizes = ap length same in
    let some = row.some in
    let few = row.few in
    ⊎_elim (λ (e : length datum ≡ 0). omega (arith, e, sizes, some)) (λ (l : 255 < length datum). omega (arith, l, sizes, few)) size

pub no_words : (line : List ℕ) → NoWords line → (u : Update) → IsRow u → line ≡ row_line u → ⊥
no_words line none u row is = none u.time u.diff u.datum row.time row.diff is

pub datum_one_line : (line datum : List ℕ) (time : ℕ) (diff : ℤ) → line ≡ decimal time ++ 32 ∷ (signed_decimal diff ++ 32 ∷ datum) → Lacks 10 line → Lacks 10 datum
datum_one_line line datum time diff is lacks =
    (lacks_end 10 (signed_decimal diff) (32 ∷ datum) (lacks_end 10 (decimal time) (32 ∷ (signed_decimal diff ++ 32 ∷ datum)) (subst (λ (l : List ℕ). Lacks 10 l) is lacks)).1).1

-- the first words of commands
without : ℕ → List ℕ → Bool
without byte [] = true
without byte (b ∷ bs) = cond (eqb b byte) false (without byte bs)

lacks_next : (byte b : ℕ) (bs : List ℕ) (t : Bool) → eqb b byte ≡ t → cond t false (without byte bs) ≡ true → (b ≢ byte) × (without byte bs ≡ true)
lacks_next byte b bs true is h = cc
lacks_next byte b bs false is h = (eqb-false b byte is, h)

lacks_test : (byte : ℕ) (text : List ℕ) → without byte text ≡ true → Lacks byte text
unfolding without
lacks_test byte [] h = tt
lacks_test byte (b ∷ bs) h =
    let next = lacks_next byte b bs (eqb b byte) refl h in
    (next.0, lacks_test byte bs next.1)

append_lacks : Lacks 32 (codes "append")
unfolding without
append_lacks = lacks_test 32 (codes "append") refl

snapshot_lacks : Lacks 32 (codes "snapshot")
unfolding without
snapshot_lacks = lacks_test 32 (codes "snapshot") refl

listen_lacks : Lacks 32 (codes "listen")
unfolding without
listen_lacks = lacks_test 32 (codes "listen") refl

since_lacks : Lacks 32 (codes "since")
unfolding without
since_lacks = lacks_test 32 (codes "since") refl

-- a line that begins no append
abbrev pub NoHead : List ℕ → Type 0
NoHead line = (l : ℕ) (u : Option ℕ) → l < 2 ^ 64 → IfSome u (λ t. t < 2 ^ 64) → line ≡ append_line l u → ⊥

head_rest : (line word rest : List ℕ) (l : ℕ) (u : Option ℕ) → line ≡ word ++ 32 ∷ rest → Lacks 32 word → line ≡ append_line l u → rest ≡ decimal l ++ 32 ∷ frontier_text u
head_rest line word rest l u cut lacks is = (cut_once word (codes "append") rest (decimal l ++ 32 ∷ frontier_text u) lacks append_lacks (sym cut ∙ is)).1

pub head_uncut : (line : List ℕ) → Lacks 32 line → NoHead line
head_uncut line lacks = λ l u low small is. no_cut 32 line (codes "append") (decimal l ++ 32 ∷ frontier_text u) lacks is

pub other_head : (line word rest : List ℕ) → line ≡ word ++ 32 ∷ rest → Lacks 32 word → word ≢ codes "append" → NoHead line
other_head line word rest cut lacks apart = λ l u low small is.
    apart ((cut_once word (codes "append") rest (decimal l ++ 32 ∷ frontier_text u) lacks append_lacks (sym cut ∙ is)).0)

pub head_rest_uncut : (line word rest : List ℕ) → line ≡ word ++ 32 ∷ rest → Lacks 32 word → Lacks 32 rest → NoHead line
head_rest_uncut line word rest cut lacks bare = λ l u low small is.
    no_cut 32 rest (decimal l) (frontier_text u) bare (head_rest line word rest l u cut lacks is)

pub bad_lower : (line word rest lower upper : List ℕ) → line ≡ word ++ 32 ∷ rest → Lacks 32 word → rest ≡ lower ++ 32 ∷ upper → Lacks 32 lower → NoNumber lower → NoHead line
bad_lower line word rest lower upper cut lacks cut_again lacks_again bad = λ l u low small is.
    bad l low ((cut_once lower (decimal l) upper (frontier_text u) lacks_again (decimal_spaceless l low) (sym cut_again ∙ head_rest line word rest l u cut lacks is)).0)

pub bad_upper : (line word rest lower upper : List ℕ) → line ≡ word ++ 32 ∷ rest → Lacks 32 word → rest ≡ lower ++ 32 ∷ upper → Lacks 32 lower
    → ((f : Option ℕ) → IfSome f (λ t. t < 2 ^ 64) → upper ≡ frontier_text f → ⊥) → NoHead line
bad_upper line word rest lower upper cut lacks cut_again lacks_again bad = λ l u low small is.
    bad u small ((cut_once lower (decimal l) upper (frontier_text u) lacks_again (decimal_spaceless l low) (sym cut_again ∙ head_rest line word rest l u cut lacks is)).1)

-- a word and a time, as the one line of a command has them
abbrev pub IsNamed : List ℕ → Type 0
IsNamed line = (name : List ℕ) × (t : ℕ) × (t < 2 ^ 64) × (line ≡ name ++ 32 ∷ decimal t) × Lacks 32 name × ((name ≡ codes "snapshot") ⊎ ((name ≡ codes "listen") ⊎ (name ≡ codes "since")))

named : (command : FeedLine) (line : List ℕ) → IsCommand command → command_lines command ≡ line ∷ [] → line ≢ compact_line → IsNamed line
named (Append a) line is e apart = absurd (longer a.rows (tails e))
  where
    tails : {x y : List ℕ} {xs ys : List (List ℕ)} → x ∷ xs ≡ y ∷ ys → xs ≡ ys
    tails e = cc

    longer : (us : List Update) → map row_line us ++ dot_line ∷ [] ≡ [] → ⊥
    longer [] e = cc
    longer (u ∷ us) e = cc
named (Snapshot t) line is e apart = (codes "snapshot", t, is, only e, snapshot_lacks, inl refl)
  where
    only : {x y : List ℕ} → x ∷ [] ≡ y ∷ [] → y ≡ x
    only e = cc
named (Listen t) line is e apart = (codes "listen", t, is, only e, listen_lacks, inr (inl refl))
  where
    only : {x y : List ℕ} → x ∷ [] ≡ y ∷ [] → y ≡ x
    only e = cc
named (Since t) line is e apart = (codes "since", t, is, only e, since_lacks, inr (inr refl))
  where
    only : {x y : List ℕ} → x ∷ [] ≡ y ∷ [] → y ≡ x
    only e = cc
named Compact line is e apart = absurd (apart (only e))
  where
    only : {x y : List ℕ} → x ∷ [] ≡ y ∷ [] → y ≡ x
    only e = cc

pub command_uncut : (line : List ℕ) → line ≢ compact_line → Lacks 32 line → IsNoCommand line
command_uncut line apart lacks = λ command is e.
    let n = named command line is e apart in
    no_cut 32 line n.0 (decimal n.1) lacks n.3

pub bad_command_time : (line word rest : List ℕ) → line ≢ compact_line → line ≡ word ++ 32 ∷ rest → Lacks 32 word → NoNumber rest → IsNoCommand line
bad_command_time line word rest apart cut lacks bad = λ command is e.
    let n = named command line is e apart in
    bad n.1 n.2 ((cut_once word n.0 rest (decimal n.1) lacks n.4 (sym cut ∙ n.3)).1)

pub other_name : (line word rest : List ℕ) → line ≢ compact_line → line ≡ word ++ 32 ∷ rest → Lacks 32 word → word ≢ codes "snapshot" → word ≢ codes "listen" → word ≢ codes "since" → IsNoCommand line
other_name line word rest apart cut lacks no_snapshot no_listen no_since = λ command is e.
    let n = named command line is e apart in
    let same = (cut_once word n.0 rest (decimal n.1) lacks n.4 (sym cut ∙ n.3)).0 in
    ⊎_elim (λ (x : n.0 ≡ codes "snapshot"). no_snapshot (same ∙ x)) (λ (y : (n.0 ≡ codes "listen") ⊎ (n.0 ≡ codes "since")). ⊎_elim (λ (x : n.0 ≡ codes "listen"). no_listen (same ∙ x)) (λ (x : n.0 ≡ codes "since"). no_since (same ∙ x)) y) n.5

not_true : (b : Bool) → not b ≡ true → b ≡ false
not_true true h = cc
not_true false h = refl

pub other_word : (word told name : List ℕ) (r : Bool) → r ≡ not (pointwise eqb word told) → r ≡ true → told ≡ name → word ≢ name
other_word word told name r says is same = λ e.
    let equal = pointwise eqb word told in
    not_from_Decides equal (slice_eq-Decides Decides-eqb word told equal refl) (not_true equal (sym says ∙ is)) (e ∙ sym same)

-- a row with the words of its line
pub row_here : (line datum bytes : List ℕ) (time : ℕ) (diff stored : ℤ) → time < 2 ^ 64 → FitsSigned w64 diff → line ≡ decimal time ++ 32 ∷ (signed_decimal diff ++ 32 ∷ bytes)
    → datum ≡ bytes → 1 ≤ length bytes → length bytes ≤ 255 → Lacks 10 line → stored ≡ diff
    → let u : Update = record { datum = datum; time = time; diff = stored } in IsRow u × (line ≡ row_line u)
row_here line datum bytes time diff stored small fits is same some few lacks back = (
  record {
    time = small;
    diff = subst (λ (z : ℤ). FitsSigned w64 z) (sym back) fits;
    some = omega (arith, ap length same);
    few = omega (arith, ap length same);
    one_line = subst (λ (l : List ℕ). Lacks 10 l) (sym same) (datum_one_line line bytes time diff is lacks);
  },
  is ∙ ap (λ z. decimal time ++ 32 ∷ (signed_decimal z ++ 32 ∷ bytes)) (sym back) ∙ ap (λ l. decimal time ++ 32 ∷ (signed_decimal stored ++ 32 ∷ l)) (sym same),
)

-- where a datum is refused
pub refused_size : (fault : DatumFault) (n m : ℕ) → fault ≡ DatumSize n
    → (((fault ≡ Memory) × (1 ≤ m) × (m ≤ 255)) ⊎ ((fault ≡ DatumSize m) × ((m ≡ 0) ⊎ (255 < m)))) → (m ≡ 0) ⊎ (255 < m)
refused_size fault n m is h =
    ⊎_elim (λ (e : (fault ≡ Memory) × (1 ≤ m) × (m ≤ 255)). let bad : fault ≡ Memory = e.0 in cc) (λ (p : (fault ≡ DatumSize m) × ((m ≡ 0) ⊎ (255 < m))). p.1) h

pub same_word : (word told name : List ℕ) (r : Bool) → r ≡ pointwise eqb word told → r ≡ true → told ≡ name → word ≡ name
same_word word told name r says is same = (slice_eq-Decides Decides-eqb word told r says).0 is ∙ same

pub different_word : (word told name : List ℕ) (r : Bool) → r ≡ pointwise eqb word told → r ≡ false → told ≡ name → word ≢ name
different_word word told name r says is same = λ e. not_from_Decides r (slice_eq-Decides Decides-eqb word told r says) is (e ∙ sym same)
