-- Each kind of transition is read as it was written, and keeps its shape.
use Rattle.std.proofs.Common.{◌≡◌, ◌&&◌, ◌⊎◌, ℕ, suc, Bool, true, false, cond, eqb, List, [], ◌∷◌, ◌++◌, Result, Ok, Err, Option, Some, None, refl, sym, ap, subst, ◌∙◌, append_assoc, inl, inr}
use Rattle.std.proofs.lemmas.Bool.{eqb-true, le-leb, ltb-true}
use Rattle.store_core.specs.declared.shards.ShardId.{ShardId}
use Rattle.store_core.specs.declared.part_keys.PartKey.{PartKey}
use Rattle.spine_core.specs.declared.batches.Batch.{Batch}
use Rattle.state_core.specs.declared.kinds.Kind.{Kind}
use Rattle.state_core.specs.declared.transitions.Transition.{Transition}
use Rattle.state_core.specs.declared.transitions.Transition.TheVariants.{Init, Join, Leave, Renew, Advance, Expire, Append, Merge}
use Rattle.version_codec.specs.declared.version_faults.VersionFault.{VersionFault}
use Rattle.version_codec.specs.declared.version_faults.VersionFault.TheVariants as faults
use Rattle.state_core.specs.States.{ShardState}
use Rattle.state_core.specs.Steps.{init, taken_by, added_by, acts_for, AreKeys}
use Rattle.byte_core.specs.Reading.{place}
use Rattle.version_codec.specs.Reading.{byte_at, number_at, frontier_at, kind_at, counted_keys_at, step_batch_at, join_at, one_at, two_at, append_at, merge_at, fields_at, whole_step_at, is_shaped_alone, is_below, step_at}
use Rattle.version_codec.specs.Versions.{number_bytes, frontier_bytes, kind_byte, keys_bytes, batch_bytes, step_bytes, NumberFits, FrontierFits, StepFits, IsShapedAlone, IsBelow, before_merge}
use Rattle.state_core.proofs.ListLemmas.{each_append, each_front, each_back}
use Rattle.state_core.proofs.Refused.{join_shape, append_shape, merge_shape, shaped_join, shaped_append, shaped_merge}
use Rattle.version_codec.proofs.FieldLaws.{bind_then, guard_passed, ok_is, Took, took_then, byte_took, number_took, number_again, frontier_took, frontier_again, kind_took, kind_again}
use Rattle.version_codec.proofs.Members.{and_true}
use Rattle.version_codec.proofs.StepLaws.{AreOf, TookKeys, counted_took, counted_again, TookStepBatch, step_batch_took, step_batch_again}

-- the case of a test
by_test : {A : Type 0} (b : Bool) (r q : Result A VersionFault) (x : A) → cond b r q ≡ Ok x → ((b ≡ true) × (r ≡ Ok x)) ⊎ ((b ≡ false) × (q ≡ Ok x))
by_test true r q x e = inl (refl, e)
by_test false r q x e = inr (refl, e)

module _ (total : ℕ) (shard : ShardId) where
  abbrev pub TookStep : List ℕ → Transition × List ℕ → Type 0
  TookStep bytes y = Took bytes (step_bytes y.0) y.1 (StepFits y.0) × AreOf shard (taken_by y.0)

  abbrev TookTag : List ℕ → ℕ → List ℕ → Type 0
  TookTag start tag bytes = Took start (tag ∷ []) bytes (Unit {0})

  join_made : (start bytes : List ℕ) (kind : Kind × List ℕ) (now lease : ℕ × List ℕ) → TookTag start 1 bytes → Took bytes (kind_byte kind.0 ∷ []) kind.1 (Unit {0})
      → Took kind.1 (number_bytes now.0) now.1 (NumberFits now.0) → Took now.1 (number_bytes lease.0) lease.1 (NumberFits lease.0) → TookStep start (Join kind.0 now.0 lease.0, lease.1)
  join_made start bytes kind now lease t t0 t1 t2 =
      let e1 = took_then kind.1 (number_bytes now.0) now.1 (number_bytes lease.0) lease.1 t1 t2 in
      let e0 = took_then bytes (kind_byte kind.0 ∷ []) kind.1 (number_bytes now.0 ++ number_bytes lease.0) lease.1 t0 e1 in
      let e = took_then start (1 ∷ []) bytes (kind_byte kind.0 ∷ (number_bytes now.0 ++ number_bytes lease.0)) lease.1 t e0 in
      (record { parts = e.parts; rest_is = e.rest_is; fits = λ h. let f = e.fits h in (f.1.1.0, f.1.1.1) }, tt)

  join_took : (start bytes : List ℕ) (x : Transition × List ℕ) → TookTag start 1 bytes → join_at total bytes ≡ Ok x → TookStep start x
  unfolding join_at
  join_took start bytes x t e =
      bind_then (kind_at total bytes) _ x e (λ kind h0 k0.
      bind_then (number_at total kind.1) _ x k0 (λ now h1 k1.
      bind_then (number_at total now.1) _ x k1 (λ lease h2 k2.
      subst (λ (y : Transition × List ℕ). TookStep start y) (ok_is (Join kind.0 now.0 lease.0, lease.1) x k2) (join_made start bytes kind now lease t (kind_took total bytes kind h0) (number_took total kind.1 now h1) (number_took total now.1 lease h2)))))

  -- the bytes of a transition with one field
  record IsOne (tag : ℕ) (made : ℕ → Transition) : Type 0 where
    pub text : (n : ℕ) → step_bytes (made n) ≡ tag ∷ number_bytes n
    pub fit : (n : ℕ) → NumberFits n → StepFits (made n)
    pub none : (n : ℕ) → AreOf shard (taken_by (made n))

  one_made : (tag : ℕ) (made : ℕ → Transition) (start bytes : List ℕ) (n : ℕ × List ℕ) → IsOne tag made → TookTag start tag bytes → Took bytes (number_bytes n.0) n.1 (NumberFits n.0) → TookStep start (made n.0, n.1)
  one_made tag made start bytes n is t t0 =
      let e = took_then start (tag ∷ []) bytes (number_bytes n.0) n.1 t t0 in
      (record { parts = λ h. e.parts h ∙ ap (λ (text : List ℕ). text ++ n.1) (sym (is.text n.0)); rest_is = e.rest_is; fits = λ h. is.fit n.0 (e.fits h).1 }, is.none n.0)

  one_took : (tag : ℕ) (made : ℕ → Transition) (start bytes : List ℕ) (x : Transition × List ℕ) → IsOne tag made → TookTag start tag bytes → one_at made total bytes ≡ Ok x → TookStep start x
  unfolding one_at
  one_took tag made start bytes x is t e =
      bind_then (number_at total bytes) _ x e (λ n h k. subst (λ (y : Transition × List ℕ). TookStep start y) (ok_is (made n.0, n.1) x k) (one_made tag made start bytes n is t (number_took total bytes n h)))

  -- the bytes of a transition with two fields
  record IsTwo (tag : ℕ) (made : ℕ → ℕ → Transition) : Type 0 where
    pub text : (a b : ℕ) → step_bytes (made a b) ≡ tag ∷ (number_bytes a ++ number_bytes b)
    pub fit : (a b : ℕ) → NumberFits a → NumberFits b → StepFits (made a b)
    pub none : (a b : ℕ) → AreOf shard (taken_by (made a b))

  two_made : (tag : ℕ) (made : ℕ → ℕ → Transition) (start bytes : List ℕ) (a b : ℕ × List ℕ) → IsTwo tag made → TookTag start tag bytes → Took bytes (number_bytes a.0) a.1 (NumberFits a.0)
      → Took a.1 (number_bytes b.0) b.1 (NumberFits b.0) → TookStep start (made a.0 b.0, b.1)
  two_made tag made start bytes a b is t t0 t1 =
      let e0 = took_then bytes (number_bytes a.0) a.1 (number_bytes b.0) b.1 t0 t1 in
      let e = took_then start (tag ∷ []) bytes (number_bytes a.0 ++ number_bytes b.0) b.1 t e0 in
      (record { parts = λ h. e.parts h ∙ ap (λ (text : List ℕ). text ++ b.1) (sym (is.text a.0 b.0)); rest_is = e.rest_is; fits = λ h. is.fit a.0 b.0 (e.fits h).1.0 (e.fits h).1.1 }, is.none a.0 b.0)

  two_took : (tag : ℕ) (made : ℕ → ℕ → Transition) (start bytes : List ℕ) (x : Transition × List ℕ) → IsTwo tag made → TookTag start tag bytes → two_at made total bytes ≡ Ok x → TookStep start x
  unfolding two_at
  two_took tag made start bytes x is t e =
      bind_then (number_at total bytes) _ x e (λ a h0 k0.
      bind_then (number_at total a.1) _ x k0 (λ b h1 k1.
      subst (λ (y : Transition × List ℕ). TookStep start y) (ok_is (made a.0 b.0, b.1) x k1) (two_made tag made start bytes a b is t (number_took total bytes a h0) (number_took total a.1 b h1))))

  append_made : (start bytes : List ℕ) (member token expected : ℕ × List ℕ) (new : Option ℕ × List ℕ) (rows weight : ℕ × List ℕ) (keys : List PartKey × List ℕ)
      → TookTag start 6 bytes
      → Took bytes (number_bytes member.0) member.1 (NumberFits member.0)
      → Took member.1 (number_bytes token.0) token.1 (NumberFits token.0)
      → Took token.1 (number_bytes expected.0) expected.1 (NumberFits expected.0)
      → Took expected.1 (frontier_bytes new.0) new.1 (FrontierFits new.0)
      → Took new.1 (number_bytes rows.0) rows.1 (NumberFits rows.0)
      → Took rows.1 (number_bytes weight.0) weight.1 (NumberFits weight.0)
      → TookKeys total shard weight.1 keys
      → TookStep start (Append member.0 token.0 expected.0 new.0 keys.0 rows.0 weight.0, keys.1)
  append_made start bytes member token expected new rows weight keys t t0 t1 t2 t3 t4 t5 t6 =
      let b6 = keys_bytes keys.0 in
      let b5 = number_bytes weight.0 ++ b6 in
      let b4 = number_bytes rows.0 ++ b5 in
      let b3 = frontier_bytes new.0 ++ b4 in
      let b2 = number_bytes expected.0 ++ b3 in
      let b1 = number_bytes token.0 ++ b2 in
      let e5 = took_then rows.1 (number_bytes weight.0) weight.1 b6 keys.1 t5 t6.0 in
      let e4 = took_then new.1 (number_bytes rows.0) rows.1 b5 keys.1 t4 e5 in
      let e3 = took_then expected.1 (frontier_bytes new.0) new.1 b4 keys.1 t3 e4 in
      let e2 = took_then token.1 (number_bytes expected.0) expected.1 b3 keys.1 t2 e3 in
      let e1 = took_then member.1 (number_bytes token.0) token.1 b2 keys.1 t1 e2 in
      let e0 = took_then bytes (number_bytes member.0) member.1 b1 keys.1 t0 e1 in
      let e = took_then start (6 ∷ []) bytes (number_bytes member.0 ++ b1) keys.1 t e0 in (
        record {
          parts = e.parts;
          rest_is = e.rest_is;
          fits = λ h. let f = (e.fits h).1 in record { member_fits = f.0; token_fits = f.1.0; expected_fits = f.1.1.0; new_fits = f.1.1.1.0; rows_fit = f.1.1.1.1.0; weight_fits = f.1.1.1.1.1.0; parts_fit = f.1.1.1.1.1.1 };
        },
        tt,
      )

  append_took : (start bytes : List ℕ) (x : Transition × List ℕ) → TookTag start 6 bytes → append_at total shard bytes ≡ Ok x → TookStep start x
  unfolding append_at
  append_took start bytes x t e =
      bind_then (number_at total bytes) _ x e (λ member h0 k0.
      bind_then (number_at total member.1) _ x k0 (λ token h1 k1.
      bind_then (number_at total token.1) _ x k1 (λ expected h2 k2.
      bind_then (frontier_at total expected.1) _ x k2 (λ new h3 k3.
      bind_then (number_at total new.1) _ x k3 (λ rows h4 k4.
      bind_then (number_at total rows.1) _ x k4 (λ weight h5 k5.
      bind_then (counted_keys_at total shard weight.1) _ x k5 (λ keys h6 k6.
      subst (λ (y : Transition × List ℕ). TookStep start y) (ok_is (Append member.0 token.0 expected.0 new.0 keys.0 rows.0 weight.0, keys.1) x k6)
      (append_made start bytes member token expected new rows weight keys t (number_took total bytes member h0) (number_took total member.1 token h1) (number_took total token.1 expected h2)
      (frontier_took total expected.1 new h3) (number_took total new.1 rows h4) (number_took total rows.1 weight h5) (counted_took total shard weight.1 keys h6)))))))))

  merge_made : (start bytes : List ℕ) (member token : ℕ × List ℕ) (left right merged : Batch × List ℕ)
      → TookTag start 7 bytes
      → Took bytes (number_bytes member.0) member.1 (NumberFits member.0)
      → Took member.1 (number_bytes token.0) token.1 (NumberFits token.0)
      → TookStepBatch total shard token.1 left → TookStepBatch total shard left.1 right → TookStepBatch total shard right.1 merged
      → TookStep start (Merge member.0 token.0 left.0 right.0 merged.0, merged.1)
  merge_made start bytes member token left right merged t t0 t1 t2 t3 t4 =
      let b4 = batch_bytes merged.0 in
      let b3 = batch_bytes right.0 ++ b4 in
      let b2 = batch_bytes left.0 ++ b3 in
      let b1 = number_bytes token.0 ++ b2 in
      let e3 = took_then left.1 (batch_bytes right.0) right.1 b4 merged.1 t3.0 t4.0 in
      let e2 = took_then token.1 (batch_bytes left.0) left.1 b3 merged.1 t2.0 e3 in
      let e1 = took_then member.1 (number_bytes token.0) token.1 b2 merged.1 t1 e2 in
      let e0 = took_then bytes (number_bytes member.0) member.1 b1 merged.1 t0 e1 in
      let e = took_then start (7 ∷ []) bytes (number_bytes member.0 ++ b1) merged.1 t e0 in (
        record {
          parts = e.parts;
          rest_is = e.rest_is;
          fits = λ h. let f = (e.fits h).1 in record { member_fits = f.0; token_fits = f.1.0; left_fits = f.1.1.0; right_fits = f.1.1.1.0; merged_fits = f.1.1.1.1 };
        },
        each_append (λ (k : PartKey). k.shard ≡ shard) left.0.parts right.0.parts t2.1 t3.1,
      )

  merge_took : (start bytes : List ℕ) (x : Transition × List ℕ) → TookTag start 7 bytes → merge_at total shard bytes ≡ Ok x → TookStep start x
  unfolding merge_at
  merge_took start bytes x t e =
      bind_then (number_at total bytes) _ x e (λ member h0 k0.
      bind_then (number_at total member.1) _ x k0 (λ token h1 k1.
      bind_then (step_batch_at total shard token.1) _ x k1 (λ left h2 k2.
      bind_then (step_batch_at total shard left.1) _ x k2 (λ right h3 k3.
      bind_then (step_batch_at total shard right.1) _ x k3 (λ merged h4 k4.
      subst (λ (y : Transition × List ℕ). TookStep start y) (ok_is (Merge member.0 token.0 left.0 right.0 merged.0, merged.1) x k4)
      (merge_made start bytes member token left right merged t (number_took total bytes member h0) (number_took total member.1 token h1)
      (step_batch_took total shard token.1 left h2) (step_batch_took total shard left.1 right h3) (step_batch_took total shard right.1 merged h4)))))))

  is_tag : (start bytes : List ℕ) (tag n : ℕ) → TookTag start tag bytes → eqb tag n ≡ true → TookTag start n bytes
  is_tag start bytes tag n t h = let e : tag ≡ n = eqb-true tag n h in subst (λ (k : ℕ). TookTag start k bytes) e t

  fields_took : (start : List ℕ) (tag : ℕ) (bytes : List ℕ) (x : Transition × List ℕ) → TookTag start tag bytes → fields_at total shard start tag bytes ≡ Ok x → TookStep start x
  unfolding fields_at
  fields_took start tag bytes x t e =
      elim (by_test (eqb tag 0) _ _ x e) [
        | inl h ↦ subst (λ (y : Transition × List ℕ). TookStep start y) (ok_is (Init, bytes) x h.1) (is_tag start bytes tag 0 t h.0, tt)
        | inr n ↦ elim (by_test (eqb tag 1) _ _ x n.1) [
          | inl h ↦ join_took start bytes x (is_tag start bytes tag 1 t h.0) h.1
          | inr n ↦ elim (by_test (eqb tag 2) _ _ x n.1) [
            | inl h ↦ one_took 2 Leave start bytes x (record { text = λ m. refl; fit = λ m f. f; none = λ m. tt }) (is_tag start bytes tag 2 t h.0) h.1
            | inr n ↦ elim (by_test (eqb tag 3) _ _ x n.1) [
              | inl h ↦ two_took 3 Renew start bytes x (record { text = λ a b. refl; fit = λ a b f g. (f, g); none = λ a b. tt }) (is_tag start bytes tag 3 t h.0) h.1
              | inr n ↦ elim (by_test (eqb tag 4) _ _ x n.1) [
                | inl h ↦ two_took 4 Advance start bytes x (record { text = λ a b. refl; fit = λ a b f g. (f, g); none = λ a b. tt }) (is_tag start bytes tag 4 t h.0) h.1
                | inr n ↦ elim (by_test (eqb tag 5) _ _ x n.1) [
                  | inl h ↦ one_took 5 Expire start bytes x (record { text = λ m. refl; fit = λ m f. f; none = λ m. tt }) (is_tag start bytes tag 5 t h.0) h.1
                  | inr n ↦ elim (by_test (eqb tag 6) _ _ x n.1) [
                    | inl h ↦ append_took start bytes x (is_tag start bytes tag 6 t h.0) h.1
                    | inr n ↦ elim (by_test (eqb tag 7) _ _ x n.1) [
                      | inl h ↦ merge_took start bytes x (is_tag start bytes tag 7 t h.0) h.1
                      | inr n ↦ absurd (let bad : Err (faults.Tag (place total start)) ≡ Ok x = n.1 in cc)
                    ]
                  ]
                ]
              ]
            ]
          ]
        ]
      ]

  pub whole_took : (bytes : List ℕ) (x : Transition × List ℕ) → whole_step_at total shard bytes ≡ Ok x → TookStep bytes x
  unfolding whole_step_at
  whole_took bytes x e = bind_then (byte_at total bytes) _ x e (λ tag h k. fields_took bytes tag.0 tag.1 x (byte_took total bytes tag h) k)

  -- ---- and again

  pub whole_again : (x : Transition) (rest : List ℕ) → StepFits x → AreOf shard (taken_by x) → AreOf shard (added_by x) → whole_step_at total shard (step_bytes x ++ rest) ≡ Ok (x, rest)
  unfolding whole_step_at fields_at join_at one_at two_at append_at merge_at
  whole_again Init rest f t a = refl
  whole_again (Join kind now lease) rest f t a =
      let r1 = number_bytes lease ++ rest in
      let r0 = number_bytes now ++ r1 in
      let regrouped : (number_bytes now ++ number_bytes lease) ++ rest ≡ r0 = append_assoc (number_bytes now) (number_bytes lease) rest in
      rw (kind_again total kind ((number_bytes now ++ number_bytes lease) ++ rest), regrouped, number_again total now r1 f.0, number_again total lease rest f.1) refl
  whole_again (Leave member) rest f t a = rw (number_again total member rest f) refl
  whole_again (Renew member now) rest f t a =
      rw (append_assoc (number_bytes member) (number_bytes now) rest, number_again total member (number_bytes now ++ rest) f.0, number_again total now rest f.1) refl
  whole_again (Advance member to) rest f t a =
      rw (append_assoc (number_bytes member) (number_bytes to) rest, number_again total member (number_bytes to ++ rest) f.0, number_again total to rest f.1) refl
  whole_again (Expire now) rest f t a = rw (number_again total now rest f) refl
  whole_again (Append member token expected new parts rows weight) rest f t a =
      let r6 = keys_bytes parts ++ rest in
      let r5 = number_bytes weight ++ r6 in
      let r4 = number_bytes rows ++ r5 in
      let r3 = frontier_bytes new ++ r4 in
      let r2 = number_bytes expected ++ r3 in
      let r1 = number_bytes token ++ r2 in
      let text : List ℕ = number_bytes member ++ (number_bytes token ++ (number_bytes expected ++ (frontier_bytes new ++ (number_bytes rows ++ (number_bytes weight ++ keys_bytes parts))))) in
      let regrouped : text ++ rest ≡ number_bytes member ++ r1 = simp append_assoc in
      ap (append_at total shard) regrouped
      ∙ rw (
        number_again total member r1 f.member_fits,
        number_again total token r2 f.token_fits,
        number_again total expected r3 f.expected_fits,
        frontier_again total new r4 f.new_fits,
        number_again total rows r5 f.rows_fit,
        number_again total weight r6 f.weight_fits,
        counted_again total shard parts rest f.parts_fit a,
      ) refl
  whole_again (Merge member token left right merged) rest f t a =
      let r4 = batch_bytes merged ++ rest in
      let r3 = batch_bytes right ++ r4 in
      let r2 = batch_bytes left ++ r3 in
      let r1 = number_bytes token ++ r2 in
      let text : List ℕ = number_bytes member ++ (number_bytes token ++ (batch_bytes left ++ (batch_bytes right ++ batch_bytes merged))) in
      let regrouped : text ++ rest ≡ number_bytes member ++ r1 = grouped (number_bytes member) (number_bytes token) (batch_bytes left) (batch_bytes right) (batch_bytes merged) rest in
      ap (merge_at total shard) regrouped
      ∙ rw (
        number_again total member r1 f.member_fits,
        number_again total token r2 f.token_fits,
        step_batch_again total shard left r3 f.left_fits (each_front (λ (k : PartKey). k.shard ≡ shard) left.parts right.parts t),
        step_batch_again total shard right r4 f.right_fits (each_back (λ (k : PartKey). k.shard ≡ shard) left.parts right.parts t),
        step_batch_again total shard merged rest f.merged_fits a,
      ) refl
    where
      grouped : (a b c d e r : List ℕ) → (a ++ (b ++ (c ++ (d ++ e)))) ++ r ≡ a ++ (b ++ (c ++ (d ++ (e ++ r))))
      grouped a b c d e r = simp append_assoc

-- ---- the shape

pub shape_holds : (shard : ShardId) (x : Transition) → is_shaped_alone shard x ≡ true → IsShapedAlone shard x
shape_holds shard Init h = tt
shape_holds shard (Join kind now lease) h = join_shape (init shard) kind now lease h
shape_holds shard (Leave member) h = tt
shape_holds shard (Renew member now) h = tt
shape_holds shard (Advance member to) h = tt
shape_holds shard (Expire now) h = tt
shape_holds shard (Append member token expected new parts rows weight) h = append_shape (init shard) member token expected new parts rows weight h
shape_holds shard (Merge member token left right merged) h = merge_shape (before_merge shard merged) member token left right merged h

pub shape_passes : (shard : ShardId) (x : Transition) → IsShapedAlone shard x → is_shaped_alone shard x ≡ true
shape_passes shard Init h = refl
shape_passes shard (Join kind now lease) h = shaped_join (init shard) kind now lease h
shape_passes shard (Leave member) h = refl
shape_passes shard (Renew member now) h = refl
shape_passes shard (Advance member to) h = refl
shape_passes shard (Expire now) h = refl
shape_passes shard (Append member token expected new parts rows weight) h = shaped_append (init shard) member token expected new parts rows weight h
shape_passes shard (Merge member token left right merged) h = shaped_merge (before_merge shard merged) member token left right merged h

below_holds : (o : Option ℕ) (next : ℕ) → is_below o next ≡ true → IsBelow o next
below_holds None next h = tt
below_holds (Some n) next h = ltb-true n next h

below_passes : (o : Option ℕ) (next : ℕ) → IsBelow o next → is_below o next ≡ true
below_passes None next h = refl
below_passes (Some n) next h = le-leb (suc n) next h

keys_of_shard : (shard : ShardId) (member token i : ℕ) (ks : List PartKey) → AreKeys shard member token i ks → AreOf shard ks
keys_of_shard shard member token i [] h = tt
keys_of_shard shard member token i (k ∷ ks) h = (ap (λ (q : PartKey). q.shard) h.0, keys_of_shard shard member token (suc i) ks h.1)

-- the keys that a transition of the right shape adds are of the shard
added_of : (shard : ShardId) (x : Transition) → IsShapedAlone shard x → AreOf shard (added_by x)
added_of shard Init h = tt
added_of shard (Join kind now lease) h = tt
added_of shard (Leave member) h = tt
added_of shard (Renew member now) h = tt
added_of shard (Advance member to) h = tt
added_of shard (Expire now) h = tt
added_of shard (Append member token expected new parts rows weight) h = keys_of_shard shard member token 0 parts h.keys
added_of shard (Merge member token left right merged) h = keys_of_shard shard member token 0 merged.parts h.keys

module _ (total : ℕ) where
  pub record ReadStep (s : ShardState) (bytes : List ℕ) (y : Transition × List ℕ) : Type 0 where
    pub took : Took bytes (step_bytes y.0) y.1 (StepFits y.0)
    pub taken : AreOf s.shard (taken_by y.0)
    pub shape : IsShapedAlone s.shard y.0
    pub known : IsBelow (acts_for y.0) s.next_member

  pub step_took : (s : ShardState) (bytes : List ℕ) (x : Transition × List ℕ) → step_at total s bytes ≡ Ok x → ReadStep s bytes x
  unfolding step_at
  step_took s bytes x e =
      bind_then (whole_step_at total s.shard bytes) _ x e (λ y h k.
      let (passes, is) = guard_passed (is_shaped_alone s.shard y.0 && is_below (acts_for y.0) s.next_member) _ y x k in
      let (shape, below) = and_true (is_shaped_alone s.shard y.0) _ passes in
      let t = whole_took total s.shard bytes y h in
      subst (λ (z : Transition × List ℕ). ReadStep s bytes z) is (record { took = t.0; taken = t.1; shape = shape_holds s.shard y.0 shape; known = below_holds (acts_for y.0) s.next_member below }))

  pub step_again : (s : ShardState) (x : Transition) (rest : List ℕ) → StepFits x → AreOf s.shard (taken_by x) → IsShapedAlone s.shard x → IsBelow (acts_for x) s.next_member → step_at total s (step_bytes x ++ rest) ≡ Ok (x, rest)
  unfolding step_at
  step_again s x rest f t shape below =
      rw (whole_again total s.shard x rest f t (added_of s.shard x shape), shape_passes s.shard x shape, below_passes (acts_for x) s.next_member below) refl
