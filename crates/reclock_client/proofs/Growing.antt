-- What an operator knows stays right while entries come, whoever makes them. Entries go newest first.
use Rattle.std.proofs.Common.{◌≡◌, ℕ, ◌+◌, ◌≤◌, Bool, true, false, cond, Option, Some, None, List, [], ◌∷◌, ◌++◌, sym, ap, subst, ◌∙◌, arith}
use Rattle.std.proofs.Common.{inl, inr}
use Rattle.std.specs.List.{AllByRecursion}
use Rattle.std.specs.Prelude.{◌⊎◌, reverse}
use Rattle.update_core.specs.declared.updates.Update.{Update}
use Rattle.update_core.specs.Frontiers.{covers}
use Rattle.update_core.specs.Updates.{OutOf, sum_of}
use Rattle.update_core.proofs.SliceLaws.{between-more}
use Rattle.update_core.proofs.TallyLaws.{sum_of-covered}
use Rattle.store_core.specs.declared.calls.Call.{Call}
use Rattle.store_core.specs.declared.replies.Reply.{Reply}
use Rattle.store_core.specs.declared.shards.ShardId.{ShardId}
use Rattle.store_core.specs.declared.entries.Entry.{Entry}
use Rattle.store_core.specs.Histories.{History}
use Rattle.store_core.specs.Newest.{replay_back}
use Rattle.store_core.specs.Ports.{GainsWhereTold, GrowsByOthers, with_entries}
use Rattle.store_core.specs.Stores.{Stored}
use Rattle.state_core.specs.declared.transitions.Transition.{Transition}
use Rattle.state_core.specs.States.{ShardState}
use Rattle.state_core.specs.Steps.{Applies}
use Rattle.state_core.proofs.Batches.{upper_rises}
use Rattle.state_core.proofs.ListLemmas.{bool_cases}
use Rattle.history_core.specs.Discipline.{Lawful, LawfulBack}
use Rattle.history_core.specs.Histories.{ever}
use Rattle.history_core.specs.Laws.{LastIs}
use Rattle.history_core.specs.Stands.{StandsFor, StateIn, accepted, end_of}
use Rattle.history_core.proofs.Bases.{base_of}
use Rattle.history_core.proofs.Lasts.{last_ever, last_live}
use Rattle.history_core.proofs.Later.{accepted_past}
use Rattle.history_core.proofs.LawfulLaws.{ever_behind, lawful_both, lawful_of_older, turned}
use Rattle.history_core.proofs.LogTracks.{sound_at}
use Rattle.history_core.proofs.Presence.{kept_at}
use Rattle.load_core.proofs.Gaining.{gains_backwards, lawful_forth}
use Rattle.reclock_client.specs.Known.{IsRight, Knowledge}
use Rattle.reclock_client.specs.Knowing.{KnowsOver, KnowsWhere, IsBlank, Learned}
use Rattle.reclock_client.proofs.KnownStays.{known_stays}
use Rattle.reclock_client.proofs.Passing.{Passed, still, others, called}

-- ---- uppers

-- whether an upper covers a time, as a number
coverage : ℕ → ShardState → ℕ
coverage t s = cond (covers s.upper t) 1 0

coverage_rises : (t : ℕ) (a b : ShardState) (x : Transition) → Applies a x b → coverage t a ≤ coverage t b
unfolding coverage
coverage_rises t a b x h = elim (bool_cases (covers a.upper t)) [
  | inl e ↦ rw (e, upper_rises t a b x h e) (omega arith)
  | inr e ↦ rw e (omega arith)
]

covered_too : (a b : ShardState) (t : ℕ) → coverage t a ≤ coverage t b → covers a.upper t ≡ true → covers b.upper t ≡ true
unfolding coverage
covered_too a b t up h = elim (bool_cases (covers b.upper t)) [
  | inl e ↦ e
  | inr e ↦ absurd (let bad : 1 ≤ 0 = rw (h, e) at up in omega arith)
]

-- the last state after some entries covers what an earlier one did
pub record Later (start : Stored) (shard : ShardId) (s : ShardState) (es : List Entry) : Type 0 where
  pub number : ℕ
  pub state : ShardState
  pub last : LastIs (replay_back start es) shard number state
  pub covered : (t : ℕ) → covers s.upper t ≡ true → covers state.upper t ≡ true

-- what was accepted since lies past an upper
pub record More (start : Stored) (shard : ShardId) (list : List Update) (s : ShardState) (fs es : List Entry) : Type 0 where
  pub more : List Update
  pub is : accepted shard list start (fs ++ es) ≡ accepted shard list start es ++ more
  pub out : OutOf s.upper more

module _ (start : Stored) (shard : ShardId) (list : List Update) (st : StandsFor start shard list) (fs es : List Entry)
    (l : LawfulBack start (fs ++ es)) (n : ℕ) (s : ShardState) (is : LastIs (replay_back start es) shard n s) where
  pub later : Later start shard s (fs ++ es)
  later =
      let base = base_of start shard list st in
      let before = last_ever start shard list st es (lawful_of_older start fs es l) n s is in
      let there : StateIn shard (ever start shard (fs ++ es)) n s =
      (before.1.0, ever_behind start shard fs es n s before.1.0 before.1.1) in
      let kept = kept_at start shard base.start_member base.begin (fs ++ es) l n s there in
      let sound = sound_at start shard base.start_member base.begin (fs ++ es) l in
      let high = sound.below n s there in
      let end : kept.number + 1 ≡ end_of (ever start shard (fs ++ es)) = kept.newest in
      let le : n ≤ kept.number = omega arith in
      record {
        number = kept.number;
        state = kept.last;
        last = last_live start shard list st (fs ++ es) l kept.number kept.last kept.newest kept.state;
        covered = λ t c. covered_too s kept.last t
            (sound.rises (coverage t) (coverage_rises t) n kept.number le s kept.last there kept.state) c;
      }

  pub gained : More start shard list s fs es
  gained =
      let before = last_ever start shard list st es (lawful_of_older start fs es l) n s is in
      let found = accepted_past start shard list (base_of start shard list st) fs es l n s before.0 before.1 in
      record { more = found.0; is = found.1; out = found.2 }

-- ---- sums and slices up to an upper stay

pub sum_stays : (us more : List Update) (g : Option ℕ) (t : ℕ) → OutOf g more → covers g t ≡ true → sum_of (us ++ more) t ≡ sum_of us t
sum_stays us more g t out c = sym (sum_of-covered (us ++ more) g t c) ∙ ap (λ (vs : List Update). sum_of vs t) (between-more us more (Some 0) g out)
    ∙ sum_of-covered us g t c

-- what is out of a frontier is out of one that covers no more
out_too : (f g : Option ℕ) (us : List Update) → ((t : ℕ) → covers f t ≡ true → covers g t ≡ true) →
    AllByRecursion (λ u. covers g u.time ≡ false) us → AllByRecursion (λ u. covers f u.time ≡ false) us
out_too f g [] less all = tt
out_too f g (u ∷ us) less all = (
  elim (bool_cases (covers f u.time)) [
    | inl e ↦ absurd (let bad : true ≡ false = sym (less u.time e) ∙ all.0 in cc)
    | inr e ↦ e
  ],
  out_too f g us less all.1,
)

-- ---- what is known

pub learned_on : (start : Stored) (shard : ShardId) (list : List Update) (k : Knowledge) (fs es : List Entry) → StandsFor start shard list →
    LawfulBack start (fs ++ es) → Learned shard start es list k → Learned shard start (fs ++ es) list k
learned_on start shard list k fs es st l h =
    let up = later start shard list st fs es l h.number h.state h.last in
    let grown = gained start shard list st fs es l h.number h.state h.last in
    record {
      number = up.number;
      state = up.state;
      last = up.last;
      within = λ t c. up.covered t (h.within t c);
      right = subst (λ (us : List Update). IsRight us k) (sym grown.is) (known_stays (accepted shard list start es) grown.more k h.right
          (record { all = out_too k.synced h.state.upper grown.more h.within grown.out.all }));
    }

pub over_on : (start : Stored) (shard : ShardId) (list : List Update) (k : Knowledge) (b : Bool) (fs es : List Entry) →
    StandsFor start shard list → LawfulBack start (fs ++ es) → KnowsOver shard k b start es list → KnowsOver shard k b start (fs ++ es) list
over_on start shard list k b fs es st l h low = by (h low)
  where
    by : (IsBlank k × (b ≡ false)) ⊎ Learned shard start es list k → (IsBlank k × (b ≡ false)) ⊎ Learned shard start (fs ++ es) list k
    by (inl blank) = inl blank
    by (inr known) = inr (learned_on start shard list k fs es st l known)

-- ---- over fronts

module _ (shard : ShardId) (k : Knowledge) (b : Bool) where
  pub where_entries : (h : History) (later : List Entry) → KnowsWhere (Some h) shard k b → KnowsWhere (Some (with_entries h later)) shard k b
  where_entries h later was list st l =
      let back : LawfulBack h.start (reverse later ++ reverse h.trail) = lawful_both h later l in
      let before : Lawful h = lawful_forth h (lawful_of_older h.start (reverse later) (reverse h.trail) back) in
      subst (λ (es : List Entry). KnowsOver shard k b h.start es list) (sym (turned h later))
      (over_on h.start shard list k b (reverse later) (reverse h.trail) st back (was list st before))

  where_others : (client : ℕ) (front now : Option History) → GrowsByOthers client front now → KnowsWhere front shard k b →
      KnowsWhere now shard k b
  where_others client None now grows was = subst (λ (f : Option History). KnowsWhere f shard k b) (sym grows) tt
  where_others client (Some h) now (more, of, is) was =
      subst (λ (f : Option History). KnowsWhere f shard k b) (sym is) (where_entries h more was)

  where_gained : (client : ℕ) (front now : Option History) (call : Call) (r : Reply) → GainsWhereTold client front now call r →
      KnowsWhere front shard k b → KnowsWhere now shard k b
  where_gained client front now call r gains was =
      gains_backwards shard client front now call r (KnowsOver shard k b) (KnowsOver shard k b) was gains
      (λ start e others es list own call_is of reply_is st l h. over_on start shard list k b (e ∷ others) es st l h)

  -- past what a poll has seen
  pub where_passed : (client : ℕ) (front now : Option History) (M : Call → Type 0) → Passed client front now M → KnowsWhere front shard k b →
      KnowsWhere now shard k b
  where_passed client front now M (still e) was = subst (λ (f : Option History). KnowsWhere f shard k b) (sym e) was
  where_passed client front now M (others g) was = where_others client front now g was
  where_passed client front now M (called call r g m) was = where_gained client front now call r g was
