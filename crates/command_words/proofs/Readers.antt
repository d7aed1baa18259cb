-- The readers of values.
use Rattle.std.proofs.Common.{◌≡◌, ◌∙◌, ◌<◌, ◌≤◌, ◌^◌, ◌+◌, ℕ, Bool, codes, true, false, not, refl, sym, ap, subst, arith, List}
use Rattle.std.proofs.Common.{[], Option, Some, None, Result, Ok, Err, option_map, true≢false, IfOk}
use Rattle.std.specs.Prelude.{decimal, unwrap_or, IfNone, IfSome}
use Rattle.std.specs.Int.{from_be_bytes, w128}
use Rattle.std.specs.Str.{bytes_eq}
use Rattle.std.specs.Str.Parse.{ParsesUnsigned, digits_value}
use Rattle.std.proofs.lemmas.Fmt.{decimal_is_IsNumeral, parse-decimal}
use Rattle.std.proofs.lemmas.Slice.Eq.{bytes_eq-Decides}
use Rattle.uuid.specs.Text.{parsed}
use Rattle.clap.specs.Walk.{Text}
use Rattle.clap.specs.declared.parser.matches.ArgMatches.{ArgMatches}
use Rattle.command_words.specs.declared.commands.CommandWords.{CommandWords}
use Rattle.command_words.specs.declared.commands.CommandWords.TheVariants as command
use Rattle.command_words.specs.declared.faults.WordsFault.{WordsFault}
use Rattle.command_words.specs.declared.faults.WordsFault.TheVariants.{NoCommand}
use Rattle.stops_core.specs.declared.stops.Stop.{Stop}
use Rattle.stops_text.specs.Stops.{Spells}
use Rattle.command_words.specs.Commands.{AreStops, IsCommand, IsCount, Means, shard_in, uuid_number}
use Rattle.command_words.specs.declared.crews.Size.{Size}
use Rattle.command_words.specs.Found.{HasShards, HasSize, HoldsAll, IsFound, Reads, answer_of}
use Rattle.command_words.proofs.Meaning.{is_command, no_command}

is_right : {X E : Type 0} → Result X E → Bool
is_right (Ok x) = true
is_right (Err e) = false

abbrev the_ok : {E : Type 0} → ℕ → Result ℕ E
the_ok n = Ok n

value_or : {E : Type 0} → Result ℕ E → ℕ
value_or (Ok n) = n
value_or (Err e) = 0

pub no_number : {E : Type 0} (t : Text) (e : E) → ParsesUnsigned 64 10 t (Err e) → (n : ℕ) → n < 2 ^ 64 → t ≡ decimal n → ⊥
unfolding is_right
no_number {E} t e h n small is =
    let bad : ◌≡◌ {A = Result ℕ E} (Err e) (Ok n) = parse-decimal 64 n t (Err e) small small is h in
    true≢false (sym (ap is_right bad))

reprinted : (f t : Text) (v : ℕ) → f ≡ decimal v → true ≡ not (bytes_eq f t) → t ≡ decimal v → ⊥
reprinted f t v f_is h t_is = true≢false (h ∙ ap not ((bytes_eq-Decides f t).1 (f_is ∙ sym t_is)))

pub other_number : (f t : Text) (v : ℕ) → ParsesUnsigned 64 10 t (the_ok {E = ℕ} v) → f ≡ decimal v → true ≡ not (bytes_eq f t) → (n : ℕ)
    → n < 2 ^ 64 → t ≡ decimal n → ⊥
unfolding value_or
other_number f t v h f_is differs n small is =
    let same : ◌≡◌ {A = Result ℕ ℕ} (Ok v) (Ok n) = parse-decimal 64 n t (Ok v) small small is h in
    reprinted f t v f_is differs (is ∙ ap decimal (sym (ap value_or same)))

pub no_uuid : (t : Text) → (((u : List ℕ) × (parsed t ≡ Some u)) → ⊥) → None ≡ uuid_number t
no_uuid t h = go (parsed t) refl
  where
    go : (o : Option (List ℕ)) → parsed t ≡ o → None ≡ option_map (from_be_bytes w128) o
    go None e = refl
    go (Some u) e = absurd (h (u, e))

pub decimal_same : (a b : ℕ) → a < 2 ^ 64 → b < 2 ^ 64 → decimal a ≡ decimal b → a ≡ b
decimal_same a b p q e = sym (decimal_is_IsNumeral a p).1 ∙ (ap (digits_value 10) e ∙ (decimal_is_IsNumeral b q).1)

pub too_low : (t : Text) (count low high : ℕ) → high < 2 ^ 64 → (count < 2 ^ 64) × (t ≡ decimal count) → count < low → (n : ℕ)
    → t ≡ decimal n → low ≤ n → n ≤ high → ⊥
too_low t count low high fits is less n n_is above below =
    let same : count ≡ n = decimal_same count n is.0 (omega (arith, fits, below)) (sym is.1 ∙ n_is) in omega (arith, same, less, above)

pub too_high : (t : Text) (count low high : ℕ) → high < 2 ^ 64 → (count < 2 ^ 64) × (t ≡ decimal count) → high < count → (n : ℕ)
    → t ≡ decimal n → low ≤ n → n ≤ high → ⊥
too_high t count low high fits is more n n_is above below =
    let same : count ≡ n = decimal_same count n is.0 (omega (arith, fits, below)) (sym is.1 ∙ n_is) in omega (arith, same, more, below)

pub no_count : (low high : ℕ) (v : Option Text) → None ≡ v → (n : ℕ) → IsCount low high v n → ⊥
no_count low high v none n h = let bad : None ≡ Some (decimal n) = none ∙ h.0 in cc

pub some_count : (low high : ℕ) (t : Text) (v : Option Text) (r : Option ℕ) → Some t ≡ v
    → IfSome r (λ n. (t ≡ decimal n) × (low ≤ n) × (n ≤ high)) → IfSome r (IsCount low high v)
some_count low high t v None is h = h
some_count low high t v (Some n) is h = (sym is ∙ ap (λ x. Some x) h.0, h.1, h.2)

pub other_count : (low high : ℕ) (t : Text) (v : Option Text) (r : Option ℕ) → Some t ≡ v
    → IfNone r ((n : ℕ) → t ≡ decimal n → low ≤ n → n ≤ high → ⊥) → IfNone r ((n : ℕ) → IsCount low high v n → ⊥)
other_count low high t v (Some n) is h = h
other_count low high t v None is h = λ n count. h n (ap (λ o. unwrap_or o []) (is ∙ count.0)) count.1 count.2

-- ---- stops

pub left_out : (workers : ℕ) (value : Option Text) → None ≡ value → (stops : List Stop) → stops ≡ [] → AreStops workers value stops
left_out workers None is stops empty = empty
left_out workers (Some t) is stops empty = cc

pub stops_told : {E : Type 0} → (workers : ℕ) (text bytes : Text) (value : Option Text) (r : Result (Option (List Stop)) E) → Some text ≡ value
    → bytes ≡ text → IfOk r (λ found. IfSome found (Spells workers bytes)) → IfOk r (λ found. IfSome found (AreStops workers value))
stops_told workers text bytes None r is same h = cc
stops_told workers text bytes (Some t) (Err e) is same h = tt
stops_told workers text bytes (Some t) (Ok None) is same h = tt
stops_told workers text bytes (Some t) (Ok (Some stops)) is same h =
    let text_is : text ≡ t = cc in subst (λ b. Spells workers b stops) (same ∙ text_is) h

pub stops_untold : {E : Type 0} → (workers : ℕ) (text bytes : Text) (value : Option Text) (r : Result (Option (List Stop)) E) → Some text ≡ value
    → bytes ≡ text → IfOk r (λ found. IfNone found ((stops : List Stop) → Spells workers bytes stops → ⊥))
    → IfOk r (λ found. IfNone found ((stops : List Stop) → AreStops workers value stops → ⊥))
stops_untold workers text bytes None r is same h = cc
stops_untold workers text bytes (Some t) (Err e) is same h = tt
stops_untold workers text bytes (Some t) (Ok (Some stops)) is same h = tt
stops_untold workers text bytes (Some t) (Ok None) is same h =
    let text_is : text ≡ t = cc in subst (λ b. (stops : List Stop) → Spells workers b stops → ⊥) (same ∙ text_is) h

pub as_none : {X : Type 0} → (P : Type 0) (r : Option X) → r ≡ None → IfNone r P → P
as_none P None is h = h
as_none P (Some x) is h = cc

-- ---- commands

apart : (a b : Text) → a ≡ b → bytes_eq a b ≡ false → ⊥
apart a b e differ = true≢false (sym ((bytes_eq-Decides a b).1 e) ∙ differ)

pub run_none : (value : Text → Option Text) → None ≡ shard_in 1 (value (codes "shard")) → (c : CommandWords) → Means (codes "run") value c
    → ⊥
run_none value none (command.Run s) h = let bad : None ≡ Some s = none ∙ sym h.1 in cc
run_none value none (command.Steps s) h = apart (codes "run") (codes "steps") h.0 refl
run_none value none (command.Ingest s w m g ks) h = apart (codes "run") (codes "ingest") h.0 refl
run_none value none (command.Reclock a b n) h = apart (codes "run") (codes "reclock") h.0 refl

pub steps_none : (value : Text → Option Text) → None ≡ shard_in 1 (value (codes "shard")) → (c : CommandWords)
    → Means (codes "steps") value c → ⊥
steps_none value none (command.Run s) h = apart (codes "steps") (codes "run") h.0 refl
steps_none value none (command.Steps s) h = let bad : None ≡ Some s = none ∙ sym h.1 in cc
steps_none value none (command.Ingest s w m g ks) h = apart (codes "steps") (codes "ingest") h.0 refl
steps_none value none (command.Reclock a b n) h = apart (codes "steps") (codes "reclock") h.0 refl

pub shard_none : (value : Text → Option Text) → None ≡ shard_in 1 (value (codes "shard")) → (c : CommandWords)
    → Means (codes "ingest") value c → ⊥
shard_none value none (command.Run s) h = apart (codes "ingest") (codes "run") h.0 refl
shard_none value none (command.Steps s) h = apart (codes "ingest") (codes "steps") h.0 refl
shard_none value none (command.Ingest s w m g ks) h = let bad : None ≡ Some s = none ∙ sym h.1 in cc
shard_none value none (command.Reclock a b n) h = apart (codes "ingest") (codes "reclock") h.0 refl

pub without_size : (value : Text → Option Text) → ((size : Size) → HasSize value size → ⊥) → (c : CommandWords)
    → Means (codes "ingest") value c → ⊥
without_size value none (command.Run s) h = apart (codes "ingest") (codes "run") h.0 refl
without_size value none (command.Steps s) h = apart (codes "ingest") (codes "steps") h.0 refl
without_size value none (command.Ingest s w m g ks) h = none (record { writers = w; compactors = m; collectors = g })
    (record { writers = h.2; compactors = h.3; collectors = h.4 })
without_size value none (command.Reclock a b n) h = apart (codes "ingest") (codes "reclock") h.0 refl

pub same_count : (low high : ℕ) (value : Option Text) (a b : ℕ) → high < 2 ^ 64 → IsCount low high value a → IsCount low high value b
    → a ≡ b
same_count low high value a b fits is_a is_b =
    decimal_same a b (omega (arith, fits, is_a.2)) (omega (arith, fits, is_b.2)) (ap (λ x. unwrap_or x []) (sym is_a.0 ∙ is_b.0))

pub unstopped : (value : Text → Option Text) (size : Size) → HasSize value size
    → ((stops : List Stop) → AreStops (size.writers + size.compactors + size.collectors) (value (codes "stop")) stops → ⊥)
    → (c : CommandWords) → Means (codes "ingest") value c → ⊥
unstopped value size has none (command.Run s) h = apart (codes "ingest") (codes "run") h.0 refl
unstopped value size has none (command.Steps s) h = apart (codes "ingest") (codes "steps") h.0 refl
unstopped value size has none (command.Ingest s w m g ks) h =
    let writers = same_count 1 16 (value (codes "writers")) w size.writers (omega arith) h.2 has.writers in
    let compactors = same_count 0 8 (value (codes "compactors")) m size.compactors (omega arith) h.3 has.compactors in
    let collectors = same_count 0 8 (value (codes "collectors")) g size.collectors (omega arith) h.4 has.collectors in
    none ks (subst (λ n. AreStops n (value (codes "stop")) ks) (λ i. writers i + compactors i + collectors i) h.5)
unstopped value size has none (command.Reclock a b n) h = apart (codes "ingest") (codes "reclock") h.0 refl

pub reclock_none : (value : Text → Option Text) → ((p : ℕ × ℕ) → HasShards value p → ⊥) → (c : CommandWords)
    → Means (codes "reclock") value c → ⊥
reclock_none value none (command.Run s) h = apart (codes "reclock") (codes "run") h.0 refl
reclock_none value none (command.Steps s) h = apart (codes "reclock") (codes "steps") h.0 refl
reclock_none value none (command.Ingest s w m g ks) h = apart (codes "reclock") (codes "ingest") h.0 refl
reclock_none value none (command.Reclock a b n) h = none (a, b) (h.1, h.2, h.3)

pub uncounted : (value : Text → Option Text) → ((n : ℕ) → IsCount 1 16 (value (codes "operators")) n → ⊥) → (c : CommandWords)
    → Means (codes "reclock") value c → ⊥
uncounted value none (command.Run s) h = apart (codes "reclock") (codes "run") h.0 refl
uncounted value none (command.Steps s) h = apart (codes "reclock") (codes "steps") h.0 refl
uncounted value none (command.Ingest s w m g ks) h = apart (codes "reclock") (codes "ingest") h.0 refl
uncounted value none (command.Reclock a b n) h = none n h.4

pub unnamed : (name : Text) (value : Text → Option Text) → bytes_eq name (codes "run") ≡ false → bytes_eq name (codes "steps") ≡ false
    → bytes_eq name (codes "ingest") ≡ false → bytes_eq name (codes "reclock") ≡ false → (c : CommandWords) → Means name value c → ⊥
unnamed name value p q i r (command.Run s) h = true≢false (sym ((bytes_eq-Decides name (codes "run")).1 h.0) ∙ p)
unnamed name value p q i r (command.Steps s) h = true≢false (sym ((bytes_eq-Decides name (codes "steps")).1 h.0) ∙ q)
unnamed name value p q i r (command.Ingest s w m g ks) h = true≢false (sym ((bytes_eq-Decides name (codes "ingest")).1 h.0) ∙ i)
unnamed name value p q i r (command.Reclock a b n) h = true≢false (sym ((bytes_eq-Decides name (codes "reclock")).1 h.0) ∙ r)

pub as_named : (name word : Text) (value : Text → Option Text) (r : Option CommandWords) → true ≡ bytes_eq name word
    → IfSome r (Means word value) → IfSome r (Means name value)
as_named name word value r is h = subst (λ t. IfSome r (Means t value)) (sym ((bytes_eq-Decides name word).0 (sym is))) h

pub none_named : (name word : Text) (value : Text → Option Text) (r : Option CommandWords) → true ≡ bytes_eq name word
    → IfNone r ((c : CommandWords) → Means word value c → ⊥) → IfNone r ((c : CommandWords) → Means name value c → ⊥)
none_named name word value r is h = subst (λ t. IfNone r ((c : CommandWords) → Means t value c → ⊥))
    (sym ((bytes_eq-Decides name word).0 (sym is))) h

pub as_named_ok : {E : Type 0} → (name word : Text) (value : Text → Option Text) (r : Result (Option CommandWords) E) → true ≡ bytes_eq name word
    → IfOk r (λ found. IfSome found (Means word value)) → IfOk r (λ found. IfSome found (Means name value))
as_named_ok name word value (Ok r) is h = as_named name word value r is h
as_named_ok name word value (Err e) is h = tt

pub none_named_ok : {E : Type 0} → (name word : Text) (value : Text → Option Text) (r : Result (Option CommandWords) E) → true ≡ bytes_eq name word
    → IfOk r (λ found. IfNone found ((c : CommandWords) → Means word value c → ⊥))
    → IfOk r (λ found. IfNone found ((c : CommandWords) → Means name value c → ⊥))
none_named_ok name word value (Ok r) is h = none_named name word value r is h
none_named_ok name word value (Err e) is h = tt

-- ---- answers

pub answers_ok : {E : Type 0} → (words : List Text) (m : ArgMatches) (r : Result (Option CommandWords) E) (a : Result CommandWords WordsFault)
    → a ≡ answer_of r → IsFound words m → IfOk r (λ found. IfSome found (Reads m)) → IfOk a (IsCommand words)
answers_ok {E} words m r a is found h = subst (λ x. IfOk x (IsCommand words)) (sym is) (go r h)
  where
    go : (r : Result (Option CommandWords) E) → IfOk r (λ found. IfSome found (Reads m)) → IfOk (answer_of r) (IsCommand words)
    go (Ok None) h = tt
    go (Ok (Some c)) h = is_command words m c found h
    go (Err e) h = tt

pub answers_none : {E : Type 0} → (words : List Text) (m : ArgMatches) (r : Result (Option CommandWords) E) (a : Result CommandWords WordsFault)
    → a ≡ answer_of r → HoldsAll words m → IfOk r (λ found. IfNone found ((c : CommandWords) → Reads m c → ⊥))
    → a ≡ Err NoCommand → (c : CommandWords) → IsCommand words c → ⊥
answers_none {E} words m r a is holds h refused = go r h (sym is ∙ refused)
  where
    go : (r : Result (Option CommandWords) E) → IfOk r (λ found. IfNone found ((c : CommandWords) → Reads m c → ⊥))
        → answer_of r ≡ Err NoCommand → (c : CommandWords) → IsCommand words c → ⊥
    go (Ok None) h e = no_command words m holds h
    go (Ok (Some d)) h e = cc
    go (Err f) h e = cc
