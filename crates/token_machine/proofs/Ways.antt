-- The two ways of a reply, and what it leaves.
use Rattle.std.proofs.Common.{◌≡◌, ◌<◌, ◌≤◌, ℕ, true, false, Some, List, length, inl, inr, refl, sym, ap, subst, ◌∙◌, arith}
use Rattle.std.specs.Prelude.{⊤, IsSome, nat_lt}
use Rattle.std.proofs.lemmas.Bool.Decides.{nat_tests}
use Rattle.store_core.specs.declared.calls.Call.{Call}
use Rattle.store_core.specs.declared.replies.Reply.{Reply}
use Rattle.store_core.specs.Ports.{Answered}
use Rattle.history_core.specs.Discipline.{Allows, Holds}
use Rattle.store_core.specs.declared.replies.Reply.TheVariants as replies
use Rattle.load_core.specs.declared.nexts.Next.{Next}
use Rattle.load_core.specs.declared.nexts.Next.TheVariants as nexts
use Rattle.load_core.specs.declared.progresses.Progress.{Progress}
use Rattle.load_core.specs.declared.progresses.Progress.TheVariants as progresses
use Rattle.load_core.specs.declared.readies.Ready.{Ready}
use Rattle.load_core.specs.declared.settings.Setting.{Setting}
use Rattle.load_core.specs.declared.tries.Tried.{Tried}
use Rattle.load_core.specs.declared.tries.Tried.TheVariants as tries
use Rattle.load_core.specs.declared.tryings.Trying.{Trying}
use Rattle.load_core.specs.Effects.{CommitsNone, IsShown}
use Rattle.load_core.specs.Loading.{scan_of}
use Rattle.load_core.specs.Runs.{OnlyCarries}
use Rattle.load_core.specs.Setting as setting
use Rattle.load_core.specs.Trying as trying
use Rattle.load_core.specs.Following.{FollowsTrying, HoldsNext}
use Rattle.load_core.specs.PartsFollowing.{IsSettable}
use Rattle.load_core.proofs.Following.{tried_allowed}
use Rattle.load_core.proofs.Outcomes.{scan_call}
use Rattle.load_core.proofs.Replied.{IsStop, stop_shown, tried_failed}
use Rattle.load_core.proofs.Runs.{Same, moves_same}
use Rattle.load_core.proofs.SettingFollows.{next_allowed, next_is, same_parts}
use Rattle.load_core.proofs.TryFacts.{prepares_is, seen_on, tried_carries, tried_fault}
use Rattle.state_core.proofs.ListLemmas.{bool_cases}
use Rattle.token_machine.specs.declared.storings.Storing.{Storing}
use Rattle.token_machine.specs.Storings.{IsSound, Moves, MovesAfterSet, MovesAfterTry, Prepares, call_of, sets, sets_before}

-- ---- the call

pub call_true : (s : Storing) (call : Call) → sets s ≡ true → call_of s ≡ Some call → setting.call_of s.setting ≡ Some call
call_true s call h e = rw h at e

pub call_false : (s : Storing) (call : Call) → sets s ≡ false → call_of s ≡ Some call → call ≡ trying.call_of s.trying
call_false s call h e = let is : Some (trying.call_of s.trying) ≡ Some call = rw h at e in cc

-- a part is left where one is set
pub sets_open : (next : Next) (s : Setting) → sets_before next s ≡ true → setting.IsOpen s
sets_open nexts.Attempt s h = absurd (let bad : false ≡ true = h in cc)
sets_open nexts.Scan s h = absurd (let bad : false ≡ true = h in cc)
sets_open (nexts.Cas r) s h = less s.place (length s.keys) h
  where
    less : (a b : ℕ) → nat_lt a b ≡ true → a < b
    less a b e = grind (arith, nat_tests)

-- and none before a Cas
pub sets_done : (r : Ready) (s : Setting) → sets_before (nexts.Cas r) s ≡ false → setting.IsSound s → setting.IsDone s
sets_done r s h sound = more s.place (length s.keys) h sound.within
  where
    more : (a b : ℕ) → nat_lt a b ≡ false → a ≤ b → a ≡ b
    more a b e le = grind (arith, nat_tests)

-- no part is set before a Scan
pub scans_first : (next : Next) (s : Setting) → trying.IsScanning next → sets_before next s ≡ false
scans_first nexts.Attempt s i = refl
scans_first nexts.Scan s i = refl
scans_first (nexts.Cas r) s i = absurd i

pub scans_call : (s : Storing) (call : Call) → trying.IsScanning s.trying.next → call_of s ≡ Some call →
    call ≡ scan_of s.trying.loader
scans_call s call idle is = call_false s call (scans_first s.trying.next s.setting idle) is ∙ scan_call s.trying idle

pub carries : (s : Storing) (call : Call) → IsSound s → call_of s ≡ Some call →
    OnlyCarries s.trying.loader.shard s.trying.step call
carries s call sound e = elim (bool_cases (sets s)) [
  | inl h ↦ let n = next_is s.setting call (call_true s call h e) in subst (OnlyCarries s.trying.loader.shard s.trying.step)
      (sym n.call_is) tt
  | inr h ↦ subst (OnlyCarries s.trying.loader.shard s.trying.step) (sym (call_false s call h e))
      (tried_carries s.trying sound.trying)
]

-- it is allowed where a part that is left may be set, and where all are set and what the transition asks of them holds
pub storing_allowed : (s : Storing) (call : Call) (own : List Answered) (member token : ℕ) → IsSound s → call_of s ≡ Some call →
    FollowsTrying s.trying own → (setting.IsOpen s.setting → IsSettable own s.trying.loader.shard member token s.setting) →
    (setting.IsDone s.setting → Holds own s.trying.step) → Allows own call
storing_allowed s call own member token sound e f settable holds = elim (bool_cases (sets s)) [
  | inl h ↦ next_allowed own s.trying.loader.shard member token s.setting call (settable (sets_open s.trying.next s.setting h))
      (call_true s call h e)
  | inr h ↦ subst (Allows own) (sym (call_false s call h e)) (tried_allowed s.trying own sound.trying f
      (next_holds s.trying.next refl h))
]
  where
    next_holds : (next : Next) → s.trying.next ≡ next → sets s ≡ false → HoldsNext next s.trying.step own
    next_holds nexts.Attempt q h = tt
    next_holds nexts.Scan q h = tt
    next_holds (nexts.Cas r) q h = holds (sets_done r s.setting (subst (λ (n : Next).
        sets_before n s.setting ≡ false) q h) sound.setting)

-- ---- the ways of a reply

-- a reply to a Set, or to a call of the transition
pub data Way (s : Storing) (r : Reply) (new : Storing) (tried : Tried) : Type 0 where
  set : sets s ≡ true → MovesAfterSet s r new tried → Way s r new tried
  try : sets s ≡ false → MovesAfterTry s r new tried → Way s r new tried

pub way : (s new : Storing) (r : Reply) (tried : Tried) → Moves s r new tried → Way s r new tried
way s new r tried moves = elim (bool_cases (sets s)) [ inl h ↦ set h (rw h at moves) | inr h ↦ try h (rw h at moves) ]

-- a Set goes on or fails
pub data SetWay (r : Reply) (tried : Tried) : Type 0 where
  goes : tried ≡ tries.Goes → r ≡ replies.Stored → SetWay r tried
  fails : tried ≡ tries.Fault → r ≡ replies.Failed → SetWay r tried

pub set_way : (s new : Storing) (r : Reply) (tried : Tried) → MovesAfterSet s r new tried → SetWay r tried
set_way s new r tried (p, progresses.More, m, n, is) = goes is m.0
set_way s new r tried (p, progresses.Done, m, n, is) = goes is m.0
set_way s new r tried (p, progresses.Fault, m, n, is) = fails is m.0

pub stored_none : (r : Reply) → r ≡ replies.Stored → CommitsNone r
stored_none r e = record {
  answered = λ h. let bad : replies.Stored ≡ replies.Failed = sym e ∙ h in cc;
  none = λ version h. let bad : replies.Stored ≡ replies.Committed version = sym e ∙ h in cc;
}

-- ---- what a reply leaves

pub same : (s new : Storing) (r : Reply) (tried : Tried) → Moves s r new tried → Same s.trying new.trying
same s new r tried moves = by (way s new r tried moves)
  where
    by : Way s r new tried → Same s.trying new.trying
    by (set h (p, progress, m, n, is)) = subst (λ (z : Storing). Same s.trying z.trying) (sym n)
        (record { shard = refl; step = refl; calls = refl; failed = λ q. q })
    by (try h (t, m, n)) = subst (λ (z : Storing). Same s.trying z.trying) (sym n) (moves_same s.trying t r tried m)

pub same_keys : (s new : Storing) (r : Reply) (tried : Tried) → Moves s r new tried →
    (new.setting.keys ≡ s.setting.keys) × (new.setting.parts ≡ s.setting.parts)
same_keys s new r tried moves = by (way s new r tried moves)
  where
    by : Way s r new tried → (new.setting.keys ≡ s.setting.keys) × (new.setting.parts ≡ s.setting.parts)
    by (set h (p, progress, m, n, is)) = subst (λ (z : Storing). (z.setting.keys ≡ s.setting.keys) ×
        (z.setting.parts ≡ s.setting.parts))
        (sym n) (same_parts s.setting p r progress m)
    by (try h (t, m, n)) = (ap (λ (z : Storing). z.setting.keys) n, ap (λ (z : Storing). z.setting.parts) n)

pub still_seen : (s new : Storing) (r : Reply) (tried : Tried) → Moves s r new tried → IsSome s.trying.loader.cached →
    IsSome new.trying.loader.cached
still_seen s new r tried moves some = by (way s new r tried moves)
  where
    by : Way s r new tried → IsSome new.trying.loader.cached
    by (set h (p, progress, m, n, is)) = subst (λ (z : Storing). IsSome z.trying.loader.cached) (sym n) some
    by (try h (t, m, n)) = subst (λ (z : Storing). IsSome z.trying.loader.cached) (sym n) (seen_on s.trying t r tried m some)

pub still_within : (s new : Storing) (r : Reply) (tried : Tried) → IsSound s → Moves s r new tried →
    new.setting.place ≤ length new.setting.keys
still_within s new r tried sound moves = by (way s new r tried moves)
  where
    one_more : (p : Setting) (progress : Progress) → setting.Moves s.setting r p progress → setting.IsOpen s.setting →
        p.place ≤ length p.keys
    one_more p progresses.More m left = subst (λ (z : Setting). z.place ≤ length z.keys) (sym m.1)
        (let lt : s.setting.place < length s.setting.keys = left in omega arith)
    one_more p progresses.Done m left = subst (λ (z : Setting). z.place ≤ length z.keys) (sym m.1)
        (let lt : s.setting.place < length s.setting.keys = left in omega arith)
    one_more p progresses.Fault m left = subst (λ (z : Setting). z.place ≤ length z.keys) (sym m.1) sound.setting.within

    by : Way s r new tried → new.setting.place ≤ length new.setting.keys
    by (set h (p, progress, m, n, is)) = subst (λ (z : Storing). z.setting.place ≤ length z.setting.keys) (sym n)
        (one_more p progress m (sets_open s.trying.next s.setting h))
    by (try h (t, m, n)) = subst (λ (z : Storing). z.setting.place ≤ length z.setting.keys) (sym n) sound.setting.within

-- a failed call alone comes to a fault, and to nothing else
pub fault_failed : (s new : Storing) (r : Reply) → Moves s r new tries.Fault → r ≡ replies.Failed
fault_failed s new r moves = by (way s new r tries.Fault moves)
  where
    set_failed : SetWay r tries.Fault → r ≡ replies.Failed
    set_failed (goes is stored) = absurd (let bad : tries.Fault ≡ tries.Goes = is in cc)
    set_failed (fails is failed) = failed

    by : Way s r new tries.Fault → r ≡ replies.Failed
    by (set h m) = set_failed (set_way s new r tries.Fault m)
    by (try h (t, m, n)) = tried_fault s.trying t r m

pub failed_fault : (s new : Storing) (tried : Tried) → Moves s replies.Failed new tried → tried ≡ tries.Fault
failed_fault s new tried moves = by (way s new replies.Failed tried moves)
  where
    set_fault : SetWay replies.Failed tried → tried ≡ tries.Fault
    set_fault (goes is stored) = absurd (let bad : replies.Failed ≡ replies.Stored = stored in cc)
    set_fault (fails is failed) = is

    by : Way s replies.Failed new tried → tried ≡ tries.Fault
    by (set h m) = set_fault (set_way s new replies.Failed tried m)
    by (try h (t, m, n)) = tried_failed s.trying t tried m

-- what ends a command without a commit is shown by the Scan that was just answered
pub shown_stop : (s new : Storing) (call : Call) (r : Reply) (tried : Tried) → call_of s ≡ Some call → Moves s r new tried →
    IsStop tried →
    IsShown s.trying.loader.shard call r
shown_stop s new call r tried call_is moves stop = by (way s new r tried moves)
  where
    no_set : SetWay r tried → ⊥
    no_set (goes is stored) = subst IsStop is stop
    no_set (fails is failed) = subst IsStop is stop

    by : Way s r new tried → IsShown s.trying.loader.shard call r
    by (set h m) = absurd (no_set (set_way s new r tried m))
    by (try h (t, m, n)) = subst (λ (c : Call). IsShown s.trying.loader.shard c r) (sym (call_false s call h call_is))
        (stop_shown s.trying t r tried stop m)

-- the command ends
abbrev pub IsEnding : Tried → Type 0
IsEnding (tries.Committed version) = ⊤
IsEnding (tries.Refused refusal) = ⊤
IsEnding tries.Spent = ⊤
IsEnding (tries.Damaged damage) = ⊤
IsEnding other = ⊥

-- a call of the transition came to it
pub record IsTried (s : Storing) (r : Reply) (new : Storing) (tried : Tried) : Type 0 where
  pub unset : sets s ≡ false
  pub to : Trying
  pub moves : trying.Moves s.trying r to tried
  pub is : new ≡ record { trying = to; setting = s.setting }

-- which it is where the command ends
pub tried_way : (s new : Storing) (r : Reply) (tried : Tried) → Moves s r new tried → IsEnding tried → IsTried s r new tried
tried_way s new r tried moves ending = by (way s new r tried moves)
  where
    none : SetWay r tried → ⊥
    none (goes is stored) = subst IsEnding is ending
    none (fails is failed) = subst IsEnding is ending

    by : Way s r new tried → IsTried s r new tried
    by (set h m) = absurd (none (set_way s new r tried m))
    by (try h (t, m, n)) = record { unset = h; to = t; moves = m; is = n }

-- ---- preparing

pub prepares_same : (old new : Storing) → Prepares old new →
    new ≡ record { trying = trying.going old.trying new.trying.next; setting = old.setting }
prepares_same old new (t, p, is) = is ∙ ap (λ (z : Trying). let s : Storing = record { trying = z; setting = old.setting } in s)
    (prepares_is old.trying t p ∙ ap (trying.going old.trying) (sym (ap (λ (z : Storing). z.trying.next) is)))
