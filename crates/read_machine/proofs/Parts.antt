-- The parts that a question reads: their keys are named by the state, and there are few; and the call of a reading.
use Rattle.std.proofs.Common.{◌≡◌, ◌+◌, ◌≤◌, Bool, cond, Option, Some, None, List, [], ◌∷◌, length, inl, inr, refl, sym, subst}
use Rattle.std.proofs.Common.{arith}
use Rattle.std.specs.Prelude.{IsSomeAnd, filter}
use Rattle.std.specs.List.{AllByRecursion}
use Rattle.std.specs.Option.{option_map}
use Rattle.std.proofs.lemmas.List.{length-append}
use Rattle.std.proofs.lemmas.List.Sums.{sum_by-cons}
use Rattle.store_core.specs.declared.part_keys.PartKey.{PartKey}
use Rattle.store_core.specs.declared.calls.Call.{Call}
use Rattle.store_core.specs.declared.calls.Call.TheVariants as calls
use Rattle.spine_core.specs.declared.batches.Batch.{Batch}
use Rattle.spine_core.specs.Spines.{rows_of}
use Rattle.state_core.specs.Lists.{Among}
use Rattle.state_core.specs.States.{IsPartCount, IsState, Names, ShardState, keys_of}
use Rattle.state_core.proofs.ListLemmas.{among_back, among_front, among_split, bool_cases, each_at, each_intro}
use Rattle.load_core.specs.Getting as getting
use Rattle.load_core.specs.Loading.{scan_of}
use Rattle.read_machine.specs.declared.courses.Course.{Course}
use Rattle.read_machine.specs.declared.stages.Stage.{Stage}
use Rattle.read_machine.specs.declared.stages.Stage.TheVariants as stages
use Rattle.read_machine.specs.Courses.{read_call}
use Rattle.read_machine.specs.Questions.{IsQuestion, Questions, SomeParts}
use Rattle.read_machine.specs.Readings.{IsGetting}
use Rattle.read_machine.proofs.HowRead.{IsScanStage}
use Rattle.read_machine.proofs.Undamaged.{index_among}

-- the value that is there
pub some_is : {T : Type 0} (P : T → Type 0) (o : Option T) → IsSomeAnd o P → (x : T) × (o ≡ Some x) × P x
some_is P None h = absurd h
some_is P (Some x) h = (x, refl, h)

-- ---- the keys of parts are of batches of the state

some_keys : (p : Batch → Bool) (bs : List Batch) (k : PartKey) → Among (λ q. q ≡ k) (keys_of (filter p bs)) →
    Among (λ q. q ≡ k) (keys_of bs)
some_keys p [] k h = h
some_keys p (b ∷ bs) k h =
    elim (bool_cases (p b)) [
      | inl e ↦
          let h2 : Among (λ q. q ≡ k) (keys_of (b ∷ filter p bs)) =
          subst (λ (t : Bool). Among (λ q. q ≡ k) (keys_of (cond t (b ∷ filter p bs) (filter p bs)))) e h in
          elim (among_split (λ q. q ≡ k) b.parts (keys_of (filter p bs)) h2) [
            | inl a ↦ among_front (λ q. q ≡ k) b.parts (keys_of bs) a
            | inr a ↦ among_back (λ q. q ≡ k) b.parts (keys_of bs) (some_keys p bs k a)
          ]
      | inr e ↦
          among_back (λ q. q ≡ k) b.parts (keys_of bs)
          (some_keys p bs k (subst (λ (t : Bool). Among (λ q. q ≡ k) (keys_of (cond t (b ∷ filter p bs) (filter p bs)))) e h))
    ]

pub all_named : (s : ShardState) (keys : List PartKey) → SomeParts s keys → AllByRecursion (Names s) keys
all_named s keys p = subst (AllByRecursion (Names s)) (sym p.keys_are)
    (each_intro (Names s) (keys_of (filter p.test s.batches)) (λ k a. some_keys p.test s.batches k a))

-- some of a state's batches have no more parts than all have rows
pub few_keys : (test : Batch → Bool) (bs : List Batch) → AllByRecursion (λ b. IsPartCount b.rows (length b.parts)) bs →
    length (keys_of (filter test bs)) ≤ rows_of bs
few_keys test [] h = omega arith
few_keys test (b ∷ bs) h =
    let rest = few_keys test bs h.1 in
    let sum : rows_of (b ∷ bs) ≡ b.rows + rows_of bs = sum_by-cons (λ (c : Batch). c.rows) b bs in
    elim (bool_cases (test b)) [
      | inl e ↦ rw e (omega (arith, length-append b.parts (keys_of (filter test bs)), h.0.1, rest, sum))
      | inr e ↦ rw e (omega (arith, rest, sum))
    ]

module _ {Q A : Type 0} (W : Questions Q A) (L : IsQuestion W) where
  pub some_parts : (c : Course) (q : Q) (s : ShardState) → IsState s → IsGetting W c q s → SomeParts s c.getting.keys
  some_parts c q s rules g = L.parts q s c.getting.keys rules g.keys

  -- a key that is read is one that the state names
  pub names_key : (c : Course) (q : Q) (s : ShardState) (k : PartKey) → IsState s → IsGetting W c q s →
      getting.key_of c.getting ≡ Some k → Names s k
  names_key c q s k rules g at = each_at (Names s) c.getting.keys k (all_named s c.getting.keys (some_parts c q s rules g))
      (index_among c.getting.keys c.getting.place k at)

-- ---- its call

-- the call of a reading is a Scan, or the Get of the next part
pub data Asks (c : Course) (call : Call) : Type 0 where
  scans : IsScanStage c.stage → call ≡ scan_of c.loader → Asks c call
  gets : (key : PartKey) → c.stage ≡ stages.Get → getting.key_of c.getting ≡ Some key → call ≡ calls.Get key → Asks c call

pub asks_call : (c : Course) (call : Call) → read_call c c.stage ≡ Some call → Asks c call
asks_call c call e = go c.stage refl e
  where
    some : (a b : Call) → Some a ≡ Some b → b ≡ a
    some a b f = cc

    by_key : (k : Option PartKey) → getting.key_of c.getting ≡ k → option_map (λ (q : PartKey). calls.Get q) k ≡ Some call →
        c.stage ≡ stages.Get → Asks c call
    by_key None is f st = absurd (let bad : None ≡ Some call = f in cc)
    by_key (Some k) is f st = gets k st is (some (calls.Get k) call f)

    go : (stage : Stage) → c.stage ≡ stage → read_call c stage ≡ Some call → Asks c call
    go stages.Scan st f = scans (subst IsScanStage (sym st) tt) (some (scan_of c.loader) call f)
    go (stages.Check key) st f = scans (subst IsScanStage (sym st) tt) (some (scan_of c.loader) call f)
    go stages.Get st f = by_key (getting.key_of c.getting) refl f st
