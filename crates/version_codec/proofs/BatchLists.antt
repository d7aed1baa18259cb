-- All batches of a version: those that are read keep the rules, and those that keep them are read.
use Rattle.std.proofs.Common.{◌≡◌, ◌||◌, ℕ, zero, suc, true, eqb, ltb, List, [], ◌∷◌, ◌++◌, length, Result, Ok, Option, Some, None, refl, sym, ap, subst, ◌∙◌, append_assoc, arith}
use Rattle.std.specs.List.{flat_map, AllByRecursion}
use Rattle.std.proofs.lemmas.Bool.{eq-eqb, eqb-true, le-leb}
use Rattle.std.proofs.lemmas.List.{append-nil}
use Rattle.std.proofs.lemmas.List.Concat.{flat_map-cons}
use Rattle.update_core.specs.Frontiers.{is_at}
use Rattle.spine_core.specs.Spines.{spine_upper}
use Rattle.spine_core.specs.declared.batches.Batch.{Batch}
use Rattle.version_codec.specs.declared.version_faults.VersionFault.{VersionFault}
use Rattle.state_core.specs.States.{ShardState}
use Rattle.version_codec.specs.Reading.{number_at, batch_at, batches_at, with_batch, batch_count_at, all_batches_at}
use Rattle.version_codec.specs.Versions.{number_bytes, batch_bytes, batches_bytes, NumberFits, BatchFits, BatchesFit}
use Rattle.state_core.proofs.Rules.{Rise}
use Rattle.version_codec.proofs.FieldLaws.{bind_then, guard_passed, ok_is, Took, took_then, number_took, number_again}
use Rattle.version_codec.proofs.Batches.{BatchMay, TookBatch, batch_took, batch_again}
use Rattle.version_codec.proofs.BatchRules.{BatchesMay, may_reach}

-- the state with batches more
abbrev pub with_batches : ShardState → List Batch → ShardState
with_batches s bs = record s { batches = s.batches ++ bs }

pub record ReadBatches (s : ShardState) (n : ℕ) (bytes : List ℕ) (y : ShardState × List ℕ) : Type 0 where
  pub batches : List Batch
  pub state : y.0 ≡ with_batches s batches
  pub count : length batches ≡ n
  pub took : Took bytes (flat_map batch_bytes batches) y.1 (AllByRecursion BatchFits batches)
  pub may : BatchesMay s batches

no_batch : (s : ShardState) (bytes : List ℕ) → ReadBatches s 0 bytes (s, bytes)
no_batch s bytes = record {
  batches = [];
  state = ap (λ (bs : List Batch). let t : ShardState = record s { batches = bs } in t) (sym (append-nil s.batches));
  count = refl;
  took = record { parts = λ h. refl; rest_is = λ h. h; fits = λ h. tt };
  may = tt;
}

module _ (total : ℕ) where
  one_batch : (s : ShardState) (n : ℕ) (bytes : List ℕ) (b : Batch × List ℕ) (x : ShardState × List ℕ) → TookBatch total s (eqb n 0) bytes b → ReadBatches (with_batch s b.0) n b.1 x → ReadBatches s (suc n) bytes x
  one_batch s n bytes b x t r =
      let both = took_then bytes (batch_bytes b.0) b.1 (flat_map batch_bytes r.batches) x.1 t.0 r.took in
      record {
        batches = b.0 ∷ r.batches;
        state = r.state ∙ ap (λ (bs : List Batch). let t : ShardState = record s { batches = bs } in t) (append_assoc s.batches (b.0 ∷ []) r.batches);
        count = ap suc r.count;
        took = record { parts = λ h. both.parts h ∙ ap (λ (text : List ℕ). text ++ x.1) (sym (flat_map-cons batch_bytes b.0 r.batches)); rest_is = both.rest_is; fits = both.fits };
        may = (subst (λ (k : ℕ). BatchMay s (eqb k 0) b.0) (sym r.count) t.1, r.may);
      }

  pub batches_took : (n : ℕ) (s : ShardState) (bytes : List ℕ) (x : ShardState × List ℕ) → Rise s.members → batches_at total s n bytes ≡ Ok x → ReadBatches s n bytes x
  unfolding batches_at
  batches_took zero s bytes x r e = subst (λ (y : ShardState × List ℕ). ReadBatches s 0 bytes y) (ok_is (s, bytes) x e) (no_batch s bytes)
  batches_took (suc n) s bytes x r e =
      bind_then (batch_at total s (eqb n 0) bytes) _ x e (λ b h k. one_batch s n bytes b x (batch_took total s (eqb n 0) bytes b r h) (batches_took n (with_batch s b.0) b.1 x r k))

  pub batches_again : (bs : List Batch) (s : ShardState) (rest : List ℕ) → AllByRecursion BatchFits bs → BatchesMay s bs → batches_at total s (length bs) (flat_map batch_bytes bs ++ rest) ≡ Ok (with_batches s bs, rest)
  unfolding batches_at
  batches_again [] s rest f may = ap (λ (us : List Batch). let t : Result (ShardState × List ℕ) VersionFault = Ok (record s { batches = us }, rest) in t) (sym (append-nil s.batches))
  batches_again (b ∷ bs) s rest f may =
      let regrouped : flat_map batch_bytes (b ∷ bs) ++ rest ≡ batch_bytes b ++ (flat_map batch_bytes bs ++ rest) =
      ap (λ (x : List ℕ). x ++ rest) (flat_map-cons batch_bytes b bs) ∙ append_assoc (batch_bytes b) (flat_map batch_bytes bs) rest in
      ap (batches_at total s (suc (length bs))) regrouped
      ∙ rw (batch_again total s (eqb (length bs) 0) b (flat_map batch_bytes bs ++ rest) f.0 may.0) (batches_again bs (with_batch s b) rest f.1 may.1)
      ∙ ap (λ (us : List Batch). let t : Result (ShardState × List ℕ) VersionFault = Ok (record s { batches = us }, rest) in t) (append_assoc s.batches (b ∷ []) bs)

  count_took : (s : ShardState) (bytes : List ℕ) (x : ℕ × List ℕ) → batch_count_at total s bytes ≡ Ok x → Took bytes (number_bytes x.0) x.1 (NumberFits x.0) × ((ltb 0 x.0 || is_at s.upper 0) ≡ true)
  unfolding batch_count_at
  count_took s bytes x e =
      bind_then (number_at total bytes) _ x e (λ n h k.
      let (some, is) = guard_passed (ltb 0 n.0 || is_at s.upper 0) _ n x k in
      subst (λ (y : ℕ × List ℕ). Took bytes (number_bytes y.0) y.1 (NumberFits y.0) × ((ltb 0 y.0 || is_at s.upper 0) ≡ true)) is (number_took total bytes n h, some))

  count_again : (s : ShardState) (n : ℕ) (rest : List ℕ) → NumberFits n → (ltb 0 n || is_at s.upper 0) ≡ true → batch_count_at total s (number_bytes n ++ rest) ≡ Ok (n, rest)
  unfolding batch_count_at
  count_again s n rest f h = rw (number_again total n rest f, h) refl

  -- all batches of a state that has none yet
  pub record AllBatches (s : ShardState) (bytes : List ℕ) (y : ShardState × List ℕ) : Type 0 where
    pub batches : List Batch
    pub state : y.0 ≡ with_batches s batches
    pub took : Took bytes (batches_bytes batches) y.1 (BatchesFit batches)
    pub may : BatchesMay s batches
    pub upper : s.upper ≡ spine_upper batches

  reaches : (s : ShardState) (bs : List Batch) → BatchesMay s bs → (ltb 0 (length bs) || is_at s.upper 0) ≡ true → s.upper ≡ spine_upper bs
  reaches s [] may h = at_is s.upper h
    where
      at_is : (f : Option ℕ) → is_at f 0 ≡ true → f ≡ Some 0
      at_is None h = cc
      at_is (Some n) h = ap Some (eqb-true n 0 h)
  reaches s (b ∷ bs) may h = may_reach bs b s may

  passes : (s : ShardState) (bs : List Batch) → s.upper ≡ spine_upper bs → (ltb 0 (length bs) || is_at s.upper 0) ≡ true
  passes s [] e = subst (λ (f : Option ℕ). is_at f 0 ≡ true) (sym e) (eq-eqb 0 0 refl)
  passes s (b ∷ bs) e = let some : ltb 0 (suc (length bs)) ≡ true = le-leb (suc 0) (suc (length bs)) (omega arith) in rw some refl

  all_of : (s : ShardState) (bytes : List ℕ) (count : ℕ × List ℕ) (x : ShardState × List ℕ) → Took bytes (number_bytes count.0) count.1 (NumberFits count.0) × ((ltb 0 count.0 || is_at s.upper 0) ≡ true)
      → ReadBatches s count.0 count.1 x → AllBatches s bytes x
  all_of s bytes count x t r =
      let both = took_then bytes (number_bytes count.0) count.1 (flat_map batch_bytes r.batches) x.1 t.0 r.took in
      record {
        batches = r.batches;
        state = r.state;
        took = record {
          parts = λ h. both.parts h ∙ ap (λ (n : ℕ). (number_bytes n ++ flat_map batch_bytes r.batches) ++ x.1) (sym r.count);
          rest_is = both.rest_is;
          fits = λ h. record { count = subst (λ (n : ℕ). NumberFits n) (sym r.count) (both.fits h).0; each = (both.fits h).1 };
        };
        may = r.may;
        upper = reaches s r.batches r.may (subst (λ (n : ℕ). (ltb 0 n || is_at s.upper 0) ≡ true) (sym r.count) t.1);
      }

  pub all_batches_took : (s : ShardState) (bytes : List ℕ) (x : ShardState × List ℕ) → Rise s.members → all_batches_at total s bytes ≡ Ok x → AllBatches s bytes x
  unfolding all_batches_at
  all_batches_took s bytes x r e =
      bind_then (batch_count_at total s bytes) _ x e (λ count h k. all_of s bytes count x (count_took s bytes count h) (batches_took count.0 s count.1 x r k))

  pub all_batches_again : (s : ShardState) (bs : List Batch) (rest : List ℕ) → BatchesFit bs → BatchesMay s bs → s.upper ≡ spine_upper bs → all_batches_at total s (batches_bytes bs ++ rest) ≡ Ok (with_batches s bs, rest)
  unfolding all_batches_at
  all_batches_again s bs rest f may e =
      let regrouped : batches_bytes bs ++ rest ≡ number_bytes (length bs) ++ (flat_map batch_bytes bs ++ rest) = append_assoc (number_bytes (length bs)) (flat_map batch_bytes bs) rest in
      ap (all_batches_at total s) regrouped
      ∙ rw (count_again s (length bs) (flat_map batch_bytes bs ++ rest) f.count (passes s bs e)) (batches_again bs s rest f.each may)
