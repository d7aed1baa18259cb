-- A transition of a version that is read is the one that was written, and what was written is read again.
use Rattle.std.proofs.Common.{◌≡◌, ℕ, zero, suc, List, [], ◌∷◌, ◌++◌, length, Result, Ok, Option, refl, sym, ap, subst, ◌∙◌, append_assoc}
use Rattle.std.specs.List.{flat_map, AllByRecursion}
use Rattle.std.proofs.lemmas.List.{append-nil}
use Rattle.std.proofs.lemmas.List.Concat.{flat_map-cons}
use Rattle.store_core.specs.declared.shards.ShardId.{ShardId}
use Rattle.store_core.specs.declared.part_keys.PartKey.{PartKey}
use Rattle.spine_core.specs.declared.batches.Batch.{Batch}
use Rattle.version_codec.specs.declared.version_faults.VersionFault.{VersionFault}
use Rattle.version_codec.specs.Reading.{number_at, frontier_at, step_key_at, step_keys_at, counted_keys_at, step_batch_at}
use Rattle.version_codec.specs.Versions.{number_bytes, frontier_bytes, key_bytes, keys_bytes, batch_bytes, NumberFits, FrontierFits, PartKeyFits, PartKeysFit, BatchFits}
use Rattle.version_codec.proofs.FieldLaws.{bind_then, ok_is, Took, took_then, number_took, number_again, frontier_took, frontier_again}

-- each key is of the shard
abbrev pub AreOf : ShardId → List PartKey → Type 0
AreOf shard ks = AllByRecursion (λ k. k.shard ≡ shard) ks

module _ (total : ℕ) (shard : ShardId) where
  abbrev TookStepKey : List ℕ → PartKey × List ℕ → Type 0
  TookStepKey bytes y = Took bytes (key_bytes y.0) y.1 (PartKeyFits y.0) × (y.0.shard ≡ shard)

  key_made : (bytes : List ℕ) (member token index : ℕ × List ℕ) → Took bytes (number_bytes member.0) member.1 (NumberFits member.0) → Took member.1 (number_bytes token.0) token.1 (NumberFits token.0)
      → Took token.1 (number_bytes index.0) index.1 (NumberFits index.0) → TookStepKey bytes (record { shard = shard; member = member.0; token = token.0; index = index.0 }, index.1)
  key_made bytes member token index t0 t1 t2 =
      let e1 = took_then member.1 (number_bytes token.0) token.1 (number_bytes index.0) index.1 t1 t2 in
      let e0 = took_then bytes (number_bytes member.0) member.1 (number_bytes token.0 ++ number_bytes index.0) index.1 t0 e1 in
      (record { parts = e0.parts; rest_is = e0.rest_is; fits = λ h. let f = e0.fits h in record { member = f.0; token = f.1.0; index = f.1.1 } }, refl)

  key_took : (bytes : List ℕ) (x : PartKey × List ℕ) → step_key_at total shard bytes ≡ Ok x → TookStepKey bytes x
  unfolding step_key_at
  key_took bytes x e =
      bind_then (number_at total bytes) _ x e (λ member h0 k0.
      bind_then (number_at total member.1) _ x k0 (λ token h1 k1.
      bind_then (number_at total token.1) _ x k1 (λ index h2 k2.
      subst (λ (y : PartKey × List ℕ). TookStepKey bytes y) (ok_is (record { shard = shard; member = member.0; token = token.0; index = index.0 }, index.1) x k2)
      (key_made bytes member token index (number_took total bytes member h0) (number_took total member.1 token h1) (number_took total token.1 index h2)))))

  key_again : (k : PartKey) (rest : List ℕ) → PartKeyFits k → k.shard ≡ shard → step_key_at total shard (key_bytes k ++ rest) ≡ Ok (k, rest)
  unfolding step_key_at
  key_again k rest f is =
      let r2 = number_bytes k.index ++ rest in
      let r1 = number_bytes k.token ++ r2 in
      let regrouped : key_bytes k ++ rest ≡ number_bytes k.member ++ r1 = simp append_assoc in
      ap (step_key_at total shard) regrouped
      ∙ rw (number_again total k.member r1 f.member, number_again total k.token r2 f.token, number_again total k.index rest f.index)
      (ap (λ (t : ShardId). let r : Result (PartKey × List ℕ) VersionFault = Ok (record { shard = t; member = k.member; token = k.token; index = k.index }, rest) in r) (sym is))

  record ReadStepKeys (ks : List PartKey) (n : ℕ) (bytes : List ℕ) (y : List PartKey × List ℕ) : Type 0 where
    pub keys : List PartKey
    pub is : y.0 ≡ ks ++ keys
    pub count : length keys ≡ n
    pub took : Took bytes (flat_map key_bytes keys) y.1 (AllByRecursion PartKeyFits keys)
    pub of_shard : AreOf shard keys

  no_key : (ks : List PartKey) (bytes : List ℕ) → ReadStepKeys ks 0 bytes (ks, bytes)
  no_key ks bytes = record { keys = []; is = sym (append-nil ks); count = refl; took = record { parts = λ h. refl; rest_is = λ h. h; fits = λ h. tt }; of_shard = tt }

  one_key : (ks : List PartKey) (n : ℕ) (bytes : List ℕ) (k : PartKey × List ℕ) (x : List PartKey × List ℕ) → TookStepKey bytes k → ReadStepKeys (ks ++ k.0 ∷ []) n k.1 x → ReadStepKeys ks (suc n) bytes x
  one_key ks n bytes k x t r =
      let both = took_then bytes (key_bytes k.0) k.1 (flat_map key_bytes r.keys) x.1 t.0 r.took in
      record {
        keys = k.0 ∷ r.keys;
        is = r.is ∙ append_assoc ks (k.0 ∷ []) r.keys;
        count = ap suc r.count;
        took = record { parts = λ h. both.parts h ∙ ap (λ (text : List ℕ). text ++ x.1) (sym (flat_map-cons key_bytes k.0 r.keys)); rest_is = both.rest_is; fits = both.fits };
        of_shard = (t.1, r.of_shard);
      }

  keys_took : (n : ℕ) (ks : List PartKey) (bytes : List ℕ) (x : List PartKey × List ℕ) → step_keys_at total shard ks n bytes ≡ Ok x → ReadStepKeys ks n bytes x
  unfolding step_keys_at
  keys_took zero ks bytes x e = subst (λ (y : List PartKey × List ℕ). ReadStepKeys ks 0 bytes y) (ok_is (ks, bytes) x e) (no_key ks bytes)
  keys_took (suc n) ks bytes x e =
      bind_then (step_key_at total shard bytes) _ x e (λ k h e2. one_key ks n bytes k x (key_took bytes k h) (keys_took n (ks ++ k.0 ∷ []) k.1 x e2))

  keys_again : (new ks : List PartKey) (rest : List ℕ) → AllByRecursion PartKeyFits new → AreOf shard new → step_keys_at total shard ks (length new) (flat_map key_bytes new ++ rest) ≡ Ok (ks ++ new, rest)
  unfolding step_keys_at
  keys_again [] ks rest f is = ap (λ (us : List PartKey). let t : Result (List PartKey × List ℕ) VersionFault = Ok (us, rest) in t) (sym (append-nil ks))
  keys_again (k ∷ new) ks rest f is =
      let regrouped : flat_map key_bytes (k ∷ new) ++ rest ≡ key_bytes k ++ (flat_map key_bytes new ++ rest) =
      ap (λ (x : List ℕ). x ++ rest) (flat_map-cons key_bytes k new) ∙ append_assoc (key_bytes k) (flat_map key_bytes new) rest in
      ap (step_keys_at total shard ks (suc (length new))) regrouped
      ∙ rw (key_again k (flat_map key_bytes new ++ rest) f.0 is.0) (keys_again new (ks ++ k ∷ []) rest f.1 is.1)
      ∙ ap (λ (us : List PartKey). let t : Result (List PartKey × List ℕ) VersionFault = Ok (us, rest) in t) (append_assoc ks (k ∷ []) new)

  abbrev pub TookKeys : List ℕ → List PartKey × List ℕ → Type 0
  TookKeys bytes y = Took bytes (keys_bytes y.0) y.1 (PartKeysFit y.0) × AreOf shard y.0

  counted_made : (bytes : List ℕ) (count : ℕ × List ℕ) (x : List PartKey × List ℕ) → Took bytes (number_bytes count.0) count.1 (NumberFits count.0) → ReadStepKeys [] count.0 count.1 x → TookKeys bytes x
  counted_made bytes count x t r =
      let both = took_then bytes (number_bytes count.0) count.1 (flat_map key_bytes r.keys) x.1 t r.took in
      let made : Took bytes (keys_bytes r.keys) x.1 (PartKeysFit r.keys) = record {
        parts = λ h. both.parts h ∙ ap (λ (n : ℕ). (number_bytes n ++ flat_map key_bytes r.keys) ++ x.1) (sym r.count);
        rest_is = both.rest_is;
        fits = λ h. record { count = subst (λ (n : ℕ). NumberFits n) (sym r.count) (both.fits h).0; each = (both.fits h).1 };
      } in
      subst (λ (ks : List PartKey). Took bytes (keys_bytes ks) x.1 (PartKeysFit ks) × AreOf shard ks) (sym r.is) (made, r.of_shard)

  pub counted_took : (bytes : List ℕ) (x : List PartKey × List ℕ) → counted_keys_at total shard bytes ≡ Ok x → TookKeys bytes x
  unfolding counted_keys_at
  counted_took bytes x e = bind_then (number_at total bytes) _ x e (λ count h k. counted_made bytes count x (number_took total bytes count h) (keys_took count.0 [] count.1 x k))

  pub counted_again : (ks : List PartKey) (rest : List ℕ) → PartKeysFit ks → AreOf shard ks → counted_keys_at total shard (keys_bytes ks ++ rest) ≡ Ok (ks, rest)
  unfolding counted_keys_at
  counted_again ks rest f is =
      let regrouped : keys_bytes ks ++ rest ≡ number_bytes (length ks) ++ (flat_map key_bytes ks ++ rest) = append_assoc (number_bytes (length ks)) (flat_map key_bytes ks) rest in
      ap (counted_keys_at total shard) regrouped ∙ rw (number_again total (length ks) (flat_map key_bytes ks ++ rest) f.count) (keys_again ks [] rest f.each is)

  abbrev pub TookStepBatch : List ℕ → Batch × List ℕ → Type 0
  TookStepBatch bytes y = Took bytes (batch_bytes y.0) y.1 (BatchFits y.0) × AreOf shard y.0.parts

  batch_made : (bytes : List ℕ) (lower : ℕ × List ℕ) (upper : Option ℕ × List ℕ) (since rows : ℕ × List ℕ) (keys : List PartKey × List ℕ)
      → Took bytes (number_bytes lower.0) lower.1 (NumberFits lower.0) → Took lower.1 (frontier_bytes upper.0) upper.1 (FrontierFits upper.0) → Took upper.1 (number_bytes since.0) since.1 (NumberFits since.0)
      → Took since.1 (number_bytes rows.0) rows.1 (NumberFits rows.0) → TookKeys rows.1 keys
      → TookStepBatch bytes (record { desc = record { lower = lower.0; upper = upper.0; since = since.0 }; parts = keys.0; rows = rows.0 }, keys.1)
  batch_made bytes lower upper since rows keys t0 t1 t2 t3 t4 =
      let b4 = keys_bytes keys.0 in
      let b3 = number_bytes rows.0 ++ b4 in
      let b2 = number_bytes since.0 ++ b3 in
      let b1 = frontier_bytes upper.0 ++ b2 in
      let e3 = took_then since.1 (number_bytes rows.0) rows.1 b4 keys.1 t3 t4.0 in
      let e2 = took_then upper.1 (number_bytes since.0) since.1 b3 keys.1 t2 e3 in
      let e1 = took_then lower.1 (frontier_bytes upper.0) upper.1 b2 keys.1 t1 e2 in
      let e0 = took_then bytes (number_bytes lower.0) lower.1 b1 keys.1 t0 e1 in
      (record { parts = e0.parts; rest_is = e0.rest_is; fits = λ h. let f = e0.fits h in record { lower = f.0; upper = f.1.0; since = f.1.1.0; rows = f.1.1.1.0; parts = f.1.1.1.1 } }, t4.1)

  pub step_batch_took : (bytes : List ℕ) (x : Batch × List ℕ) → step_batch_at total shard bytes ≡ Ok x → TookStepBatch bytes x
  unfolding step_batch_at
  step_batch_took bytes x e =
      bind_then (number_at total bytes) _ x e (λ lower h0 k0.
      bind_then (frontier_at total lower.1) _ x k0 (λ upper h1 k1.
      bind_then (number_at total upper.1) _ x k1 (λ since h2 k2.
      bind_then (number_at total since.1) _ x k2 (λ rows h3 k3.
      bind_then (counted_keys_at total shard rows.1) _ x k3 (λ keys h4 k4.
      subst (λ (y : Batch × List ℕ). TookStepBatch bytes y) (ok_is (record { desc = record { lower = lower.0; upper = upper.0; since = since.0 }; parts = keys.0; rows = rows.0 }, keys.1) x k4)
      (batch_made bytes lower upper since rows keys (number_took total bytes lower h0) (frontier_took total lower.1 upper h1) (number_took total upper.1 since h2) (number_took total since.1 rows h3) (counted_took rows.1 keys h4)))))))

  pub step_batch_again : (b : Batch) (rest : List ℕ) → BatchFits b → AreOf shard b.parts → step_batch_at total shard (batch_bytes b ++ rest) ≡ Ok (b, rest)
  unfolding step_batch_at
  step_batch_again b rest f is =
      let r3 = keys_bytes b.parts ++ rest in
      let r2 = number_bytes b.rows ++ r3 in
      let r1 = number_bytes b.desc.since ++ r2 in
      let r0 = frontier_bytes b.desc.upper ++ r1 in
      let regrouped : batch_bytes b ++ rest ≡ number_bytes b.desc.lower ++ r0 = simp append_assoc in
      ap (step_batch_at total shard) regrouped
      ∙ rw (number_again total b.desc.lower r0 f.lower, frontier_again total b.desc.upper r1 f.upper, number_again total b.desc.since r2 f.since, number_again total b.rows r3 f.rows, counted_again b.parts rest f.parts is) refl
