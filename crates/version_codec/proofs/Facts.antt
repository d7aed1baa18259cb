-- What is known of a version that is read.
use Rattle.std.proofs.Common.{◌≡◌, ℕ, eqb, List, [], ◌∷◌, ◌++◌, length, Result, Ok, Err, Some, refl, sym, ap, subst, ◌∙◌}
use Rattle.std.proofs.lemmas.Bool.{eqb-true}
use Rattle.std.proofs.lemmas.List.{append-nil, nil_from_length}
use Rattle.store_core.specs.declared.shards.ShardId.{ShardId}
use Rattle.state_core.specs.declared.transitions.Transition.{Transition}
use Rattle.version_codec.specs.declared.version_faults.VersionFault.{VersionFault}
use Rattle.state_core.specs.States.{ShardState, IsState}
use Rattle.version_codec.specs.Reading.{magic_at, form_at, state_at, step_at, read_version, whole, version_in}
use Rattle.version_codec.specs.Versions.{state_bytes, step_bytes, version_spelling, IsVersion, VersionOf}
use Rattle.byte_core.specs.ByteLists.{IsBytes}
use Rattle.version_codec.proofs.FieldLaws.{bind_then, guard_passed, ok_is, Took, took_then, magic_took, magic_again, form_took, form_again}
use Rattle.version_codec.proofs.States.{ReadState, state_took, state_again}
use Rattle.version_codec.proofs.Transitions.{ReadStep, step_took, step_again}

-- a version that is read
pub record ReadVersion (shard : ShardId) (number : ℕ) (bytes : List ℕ) (y : ShardState × Transition) : Type 0 where
  pub state : IsState y.0
  pub is_of : y.0.shard ≡ shard
  pub is_at : y.0.number ≡ number
  pub spells : IsBytes bytes → VersionOf y.0 y.1 bytes

made : (shard : ShardId) (number : ℕ) (bytes letters form : List ℕ) (state : ShardState × List ℕ) (step : Transition × List ℕ)
    → Took bytes (80 ∷ 86 ∷ 69 ∷ 82 ∷ []) letters (Unit {0}) → Took letters (1 ∷ []) form (Unit {0})
    → ReadState (length bytes) shard number form state → ReadStep (length bytes) state.0 state.1 step → step.1 ≡ [] → ReadVersion shard number bytes (state.0, step.0)
made shard number bytes letters form state step t0 t1 s x end =
    let e2 = took_then form (state_bytes state.0) state.1 (step_bytes step.0) step.1 s.took x.took in
    let e1 = took_then letters (1 ∷ []) form (state_bytes state.0 ++ step_bytes step.0) step.1 t1 e2 in
    let e0 = took_then bytes (80 ∷ 86 ∷ 69 ∷ 82 ∷ []) letters (1 ∷ (state_bytes state.0 ++ step_bytes step.0)) step.1 t0 e1 in
    let spelled : version_spelling state.0 step.0 ++ step.1 ≡ version_spelling state.0 step.0 = ap (λ (rest : List ℕ). version_spelling state.0 step.0 ++ rest) end ∙ append-nil (version_spelling state.0 step.0) in
    record {
      state = s.state;
      is_of = s.is_of;
      is_at = s.is_at;
      spells = λ is. let f = e0.fits is in (record { state = s.state; state_fits = f.1.1.0; step_fits = f.1.1.1; shape = x.shape; known = x.known; taken = x.taken }, e0.parts is ∙ spelled);
    }

pub read_took : (shard : ShardId) (number : ℕ) (bytes : List ℕ) (y : ShardState × Transition) → read_version shard number bytes ≡ Ok y → ReadVersion shard number bytes y
unfolding read_version
read_took shard number bytes y e =
    bind_then (magic_at (length bytes) bytes) _ y e (λ letters h0 k0.
    bind_then (form_at (length bytes) letters) _ y k0 (λ form h1 k1.
    bind_then (state_at (length bytes) shard number form) _ y k1 (λ state h2 k2.
    bind_then (step_at (length bytes) state.0 state.1) _ y k2 (λ step h3 k3.
    let (end, is) = guard_passed (eqb (length step.1) 0) _ (state.0, step.0) y k3 in
    subst (λ (z : ShardState × Transition). ReadVersion shard number bytes z) is
    (made shard number bytes letters form state step (magic_took (length bytes) bytes letters h0) (form_took (length bytes) letters form h1)
    (state_took (length bytes) shard number form state h2) (step_took (length bytes) state.0 state.1 step h3) (nil_from_length step.1 (eqb-true _ _ end)))))))

pub spelled_again : (s : ShardState) (x : Transition) → IsVersion s x → read_version s.shard s.number (version_spelling s x) ≡ Ok (s, x)
unfolding read_version
spelled_again s x v =
    let n = length (version_spelling s x) in
    let text = state_bytes s ++ step_bytes x in
    let rest : step_at n s (step_bytes x) ≡ Ok (x, []) = ap (step_at n s) (sym (append-nil (step_bytes x))) ∙ step_again n s x [] v.step_fits v.taken v.shape v.known in
    rw (magic_again n (1 ∷ text), form_again n text, state_again n s (step_bytes x) v.state v.state_fits, rest) refl

pub read_again : (s : ShardState) (x : Transition) (bytes : List ℕ) → VersionOf s x bytes → read_version s.shard s.number bytes ≡ Ok (s, x)
read_again s x bytes v = ap (read_version s.shard s.number) v.1 ∙ spelled_again s x v.0

some_whole : {A : Type 0} (r : Result A VersionFault) (x : A) → whole r ≡ Some x → r ≡ Ok x
some_whole (Ok y) x e = ap Ok (let f : y ≡ x = cc in f)
some_whole (Err d) x e = absurd cc

pub version_read : (shard : ShardId) (number : ℕ) (bytes : List ℕ) (s : ShardState) (x : Transition) → version_in shard number bytes ≡ Some (s, x) → ReadVersion shard number bytes (s, x)
unfolding version_in
version_read shard number bytes s x e = read_took shard number bytes (s, x) (some_whole (read_version shard number bytes) (s, x) e)

-- the state that is read keeps the rules
pub version_in_state : (shard : ShardId) (n : ℕ) (b : List ℕ) (s : ShardState) (x : Transition) → version_in shard n b ≡ Some (s, x) → IsState s
version_in_state shard n b s x e = (version_read shard n b s x e).state

-- the state that is read is of the shard
pub version_in_shard : (shard : ShardId) (n : ℕ) (b : List ℕ) (s : ShardState) (x : Transition) → version_in shard n b ≡ Some (s, x) → s.shard ≡ shard
version_in_shard shard n b s x e = (version_read shard n b s x e).is_of

-- the state that is read has the number
pub version_in_number : (shard : ShardId) (n : ℕ) (b : List ℕ) (s : ShardState) (x : Transition) → version_in shard n b ≡ Some (s, x) → s.number ≡ n
version_in_number shard n b s x e = (version_read shard n b s x e).is_at

-- what bytes spell is read from them
pub version_in_spelled : (s : ShardState) (x : Transition) (b : List ℕ) → VersionOf s x b → version_in s.shard s.number b ≡ Some (s, x)
unfolding version_in
version_in_spelled s x b v = ap whole (read_again s x b v)

-- what is read from bytes they spell
pub version_in_of : (shard : ShardId) (n : ℕ) (b : List ℕ) (s : ShardState) (x : Transition) → IsBytes b → version_in shard n b ≡ Some (s, x) → VersionOf s x b
version_in_of shard n b s x is e = (version_read shard n b s x e).spells is

-- the same bytes have one state and one transition
pub one_version : (s t : ShardState) (x y : Transition) (b : List ℕ) → s.shard ≡ t.shard → s.number ≡ t.number → VersionOf s x b → VersionOf t y b → (s ≡ t) × (x ≡ y)
one_version s t x y b shard number p q =
    let here : read_version t.shard t.number b ≡ Ok (s, x) = (λ i. read_version (sym shard i) (sym number i) b) ∙ read_again s x b p in
    let pair : (s, x) ≡ (t, y) = ok_is (s, x) (t, y) (sym here ∙ read_again t y b q) in
    (ap (λ (z : ShardState × Transition). z.0) pair, ap (λ (z : ShardState × Transition). z.1) pair)
