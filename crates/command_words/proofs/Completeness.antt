-- clap takes every spelling of a command's options.
use Rattle.std.proofs.Common.{◌≡◌, ◌∙◌, ◌&&◌, ◌==◌, Bool, cond, codes, true, false, not}
use Rattle.std.proofs.Common.{refl, sym, ap, subst, List, [], ◌∷◌, ◌++◌, map, get_or, Option, Some}
use Rattle.std.proofs.Common.{None, is_some, true≢false}
use Rattle.std.specs.Prelude.{fold}
use Rattle.std.specs.List.{AllByRecursion}
use Rattle.std.specs.Str.{bytes_eq}
use Rattle.std.proofs.lemmas.Bool.{and_parts, eq-eqb}
use Rattle.std.proofs.lemmas.List.{append_assoc}
use Rattle.std.proofs.lemmas.List.Folds.{list_any_at}
use Rattle.clap.specs.Lexer.{has_byte, long_of, short_of}
use Rattle.clap.specs.Walk.{Held, Row, Text, Walk, has_row, is_empty, settled, settled_rows, walked}
use Rattle.clap.specs.Simple.{Shape}
use Rattle.clap.specs.Kinds.{or_else}
use Rattle.clap.specs.Faults.{settle_fault, turn_fault, use_fault, walk_fault}
use Rattle.clap.proofs.CutLemmas.{Lacks, before_first-at, before_first-Lacks, after_first-at, list_any-at}
use Rattle.command_words.specs.Uses.{Options, Use, all_written, option_named}
use Rattle.command_words.specs.Program.{row}
use Rattle.command_words.proofs.Walks.{Pending, dashes, holds, idle_at, joined_turn, joined_walk, name_turn, name_walk, named_is, option_at}
use Rattle.command_words.proofs.Walks.{pass_both, ready, rule, rules, settled_one, use_passes, used_new, value_turn, value_walk}
use Rattle.command_words.proofs.Soundness.{FreshFor, found}

-- a name that stands before `=`
abbrev pub is_name : Text → Bool
is_name n = not (is_empty n) && not (has_byte 61 n)

-- a value that no reader takes for an option
abbrev pub is_dull : Text → Bool
is_dull [] = true
is_dull (x ∷ xs) = not (x == 45)

not_true : (b : Bool) → not b ≡ true → b ≡ false
not_true true e = absurd (true≢false (sym e))
not_true false e = refl

lacks : (n : Text) → has_byte 61 n ≡ false → Lacks 61 n
lacks n h i l e = true≢false (sym (list_any_at (λ x. x == 61) n i 0 l (eq-eqb (get_or n i 0) 61 e)) ∙ h)

pub joined_long : (n v : Text) → is_name n ≡ true → long_of (codes "--" ++ (n ++ (codes "=" ++ v))) ≡ found n (Some v)
joined_long [] v h = absurd (true≢false (sym h))
joined_long (x ∷ xs) v h =
    let free = lacks (x ∷ xs) (not_true (has_byte 61 (x ∷ xs)) (and_parts (not (is_empty (x ∷ xs))) (not (has_byte 61 (x ∷ xs))) h).1) in
    rw (before_first-at 61 (x ∷ xs) v free, after_first-at 61 (x ∷ xs) v free, list_any-at 61 (x ∷ xs) v) refl

pub name_long : (n : Text) → is_name n ≡ true → long_of (codes "--" ++ n) ≡ found n None
name_long [] h = absurd (true≢false (sym h))
name_long (x ∷ xs) h =
    let none = not_true (has_byte 61 (x ∷ xs)) (and_parts (not (is_empty (x ∷ xs))) (not (has_byte 61 (x ∷ xs))) h).1 in
    rw (before_first-Lacks 61 (x ∷ xs) (lacks (x ∷ xs) none), none) refl

pub joined_dull : (n v : Text) → is_name n ≡ true → bytes_eq (codes "--" ++ (n ++ (codes "=" ++ v))) dashes ≡ false
joined_dull [] v h = absurd (true≢false (sym h))
joined_dull (x ∷ xs) v h = refl

pub name_dull : (n : Text) → is_name n ≡ true → bytes_eq (codes "--" ++ n) dashes ≡ false
name_dull [] h = absurd (true≢false (sym h))
name_dull (x ∷ xs) h = refl

pub value_dull : (v : Text) → is_dull v ≡ true → (bytes_eq v dashes ≡ false) × (long_of v ≡ None) × (short_of v ≡ None)
value_dull [] h = (refl, refl, refl)
value_dull (x ∷ xs) h = let e = not_true (x == 45) h in (rw (e) refl, rw (e) refl, rw (e) refl)

some_of : {X : Type 0} (o : Option X) → is_some o ≡ true → (x : X) × (o ≡ Some x)
some_of None h = absurd (true≢false (sym h))
some_of (Some x) h = (x, refl)

no_more : (rows : List Row) → rows ≡ rows ++ []
no_more [] = refl
no_more (r ∷ rows) = ap (λ l. r ∷ l) (no_more rows)

module _ (base : Shape) (options : Options) where
  abbrev s : Shape
  s = ready base options

  abbrev ended : Walk → List Text → Held
  ended w ws = (fold (walked (rules options) []) w ws).held

  abbrev left : Walk → List Text → List Row
  left w ws = (settled (rules options) (ended w ws)).rows

  -- the walk passes from here to the end, and finds these rows
  abbrev Ends : Walk → List Text → List Row → Type 0
  Ends w ws rows = (walk_fault s [] w ws ≡ []) × (settle_fault (rules options) false (ended w ws) ≡ []) × (left w ws ≡ rows)

  one_more : (w next : Walk) (word : Text) (ws : List Text) (rows : List Row) → turn_fault s [] w word ≡ []
      → walked (rules options) [] w word ≡ next → Ends next ws rows → Ends w (word ∷ ws) rows
  unfolding walk_fault
  one_more w next word ws rows turn goes h =
      let here : Ends (walked (rules options) [] w word) ws rows = subst (λ x. Ends x ws rows) (sym goes) h in
      (pass_both (turn_fault s [] w word) (walk_fault s [] (walked (rules options) [] w word) ws) turn here.0, here.1, here.2)

  pub record IsTaken (u : Use) : Type 0 where
    pub known : is_some (option_named u.name options) ≡ true
    pub name : is_name u.name ≡ true
    pub value : is_dull u.value ≡ true

  joined_more : (u : Use) (ws : List Text) (rows after : List Row) (pending : Pending) → IsTaken u
      → has_row u.name (settled_rows (rules options) pending rows) ≡ false
      → settle_fault (rules options) false (holds rows pending) ≡ []
      → Ends (idle_at (settled_rows (rules options) pending rows ++ row u ∷ []) None) ws after
      → Ends (idle_at rows pending) ((codes "--" ++ (u.name ++ (codes "=" ++ u.value))) ∷ ws) after
  joined_more u ws rows after pending taken fresh settles h =
      let now = settled_rows (rules options) pending rows in
      let some = some_of (option_named u.name options) taken.known in
      let o = some.0 in
      let same : o.0 ≡ u.name = named_is u.name options o some.1 in
      let first : has_row o.0 now ≡ false = ap (λ x. has_row x now) same ∙ fresh in
      let w = codes "--" ++ (u.name ++ (codes "=" ++ u.value)) in
      let dull = joined_dull u.name u.value taken.name in
      let long = joined_long u.name u.value taken.name in
      let turn = joined_turn base options w u.name u.value o rows pending dull long some.1
      ∙ pass_both (or_else (settle_fault (rules options) false (holds rows pending)) (use_fault false (rule o) (u.value ∷ []) now)) []
      (pass_both (settle_fault (rules options) false (holds rows pending)) (use_fault false (rule o) (u.value ∷ []) now) settles
      (use_passes o u.value now first)) refl in
      let goes : walked (rules options) [] (idle_at rows pending) w ≡ idle_at (now ++ row u ∷ []) None =
      joined_walk base options w u.name u.value o rows pending dull long some.1 ∙ (ap (λ r. idle_at r None) (used_new o u.value now first)
      ∙ ap (λ x. idle_at (now ++ row (record { name = x; value = u.value; joined = true }) ∷ []) None) same) in
      one_more (idle_at rows pending) (idle_at (now ++ row u ∷ []) None) w ws after turn goes h

  split_more : (u : Use) (ws : List Text) (rows after : List Row) (pending : Pending) → IsTaken u
      → has_row u.name (settled_rows (rules options) pending rows) ≡ false
      → settle_fault (rules options) false (holds rows pending) ≡ []
      → (settle_fault (rules options) false (holds (settled_rows (rules options) pending rows) (Some (u.name, u.value ∷ []))) ≡ []
      → settled_rows (rules options) (Some (u.name, u.value ∷ [])) (settled_rows (rules options) pending rows)
      ≡ settled_rows (rules options) pending rows ++ row u ∷ []
      → Ends (idle_at (settled_rows (rules options) pending rows) (Some (u.name, u.value ∷ []))) ws after)
      → Ends (idle_at rows pending) ((codes "--" ++ u.name) ∷ u.value ∷ ws) after
  split_more u ws rows after pending taken fresh settles h =
      let now = settled_rows (rules options) pending rows in
      let some = some_of (option_named u.name options) taken.known in
      let o = some.0 in
      let same : o.0 ≡ u.name = named_is u.name options o some.1 in
      let first : has_row o.0 now ≡ false = ap (λ x. has_row x now) same ∙ fresh in
      let w = codes "--" ++ u.name in
      let dull = name_dull u.name taken.name in
      let long = name_long u.name taken.name in
      let turn = name_turn base options w u.name o rows pending dull long some.1
      ∙ pass_both (settle_fault (rules options) false (holds rows pending)) [] settles refl in
      let goes : walked (rules options) [] (idle_at rows pending) w ≡ option_at u.name now =
      name_walk base options w u.name o rows pending dull long some.1 ∙ ap (λ x. option_at x now) same in
      let value = value_dull u.value taken.value in
      let value_passes = value_turn base options u.value u.name o now value.0 value.1 value.2 some.1 in
      let value_goes = value_walk base options u.value u.name o now value.0 value.1 value.2 some.1 in
      let one = settled_one base options u.name u.value o now some.1 in
      let settled_now = one.1
      ∙ (used_new o u.value now first ∙ ap (λ x. now ++ row (record { name = x; value = u.value; joined = true }) ∷ []) same) in
      one_more (idle_at rows pending) (option_at u.name now) w (u.value ∷ ws) after turn goes
      (one_more (option_at u.name now) (idle_at now (Some (u.name, u.value ∷ []))) u.value ws after value_passes value_goes
      (h (one.0 ∙ use_passes o u.value now first) settled_now))

  pub walk_takes : (uses : List Use) (rows now : List Row) (pending : Pending) → AllByRecursion IsTaken uses
      → now ≡ settled_rows (rules options) pending rows → FreshFor now uses
      → settle_fault (rules options) false (holds rows pending) ≡ [] → Ends (idle_at rows pending) (all_written uses) (now ++ map row uses)
  unfolding FreshFor walk_fault
  walk_takes [] rows now pending taken is fresh settles = (refl, settles, sym is ∙ no_more now)
  walk_takes (u ∷ us) rows now pending taken is fresh settles =
      let at = settled_rows (rules options) pending rows in
      let new : has_row u.name at ≡ false = ap (λ x. has_row u.name x) (sym is) ∙ fresh.0 in
      let whole : (now ++ row u ∷ []) ++ map row us ≡ now ++ map row (u ∷ us) = append_assoc now (row u ∷ []) (map row us) in
      let next : at ++ row u ∷ [] ≡ now ++ row u ∷ [] = ap (λ x. x ++ row u ∷ []) (sym is) in
      let joined = joined_more u (all_written us) rows (now ++ map row (u ∷ us)) pending taken.0 new settles
      (subst (Ends (idle_at (at ++ row u ∷ []) None) (all_written us)) whole
      (walk_takes us (at ++ row u ∷ []) (now ++ row u ∷ []) None taken.1 (sym next) fresh.1 refl)) in
      let split = split_more u (all_written us) rows (now ++ map row (u ∷ us)) pending taken.0 new settles
      (λ passes rows_are. subst (Ends (idle_at at (Some (u.name, u.value ∷ []))) (all_written us)) whole
      (walk_takes us at (now ++ row u ∷ []) (Some (u.name, u.value ∷ [])) taken.1 (sym (rows_are ∙ next)) fresh.1 passes)) in
      elim u.joined as (λ b. Ends (idle_at rows pending) (cond b ((codes "--" ++ (u.name ++ (codes "=" ++ u.value))) ∷ [])
      ((codes "--" ++ u.name) ∷ u.value ∷ []) ++ all_written us) (now ++ map row (u ∷ us))) [
        | true ↦ joined
        | false ↦ split
      ]
