-- What a reply makes of a collector, in four ways.
use Rattle.std.proofs.Common.{◌≡◌, ◌≢◌, ◌⊎◌, true, false, Option, Some, None, Result, Ok, Err, List, inl, inr, refl, sym, subst, ◌∙◌}
use Rattle.std.specs.Prelude.{⊤}
use Rattle.std.specs.List.{slice_get}
use Rattle.store_core.specs.declared.shards.ShardId.{ShardId}
use Rattle.store_core.specs.declared.part_keys.PartKey.{PartKey}
use Rattle.store_core.specs.declared.versions.Version.{Version}
use Rattle.store_core.specs.declared.calls.Call.{Call}
use Rattle.store_core.specs.declared.replies.Reply.{Reply}
use Rattle.store_core.specs.declared.replies.Reply.TheVariants as replies
use Rattle.state_core.proofs.ListLemmas.{bool_cases}
use Rattle.history_core.specs.declared.collect_answers.CollectAnswer.{CollectAnswer}
use Rattle.history_core.specs.declared.collect_answers.CollectAnswer.TheVariants as answers
use Rattle.load_core.specs.declared.damages.Damage.{Damage}
use Rattle.load_core.specs.declared.polls.Poll.{Poll}
use Rattle.load_core.specs.declared.polls.Poll.TheVariants as polls
use Rattle.load_core.specs.Effects.{CommitsNone}
use Rattle.load_core.specs.Trying.{more}
use Rattle.machine_core.specs.Machines.{GoesOn}
use Rattle.maint_client.specs.declared.collectors.Collector.{Collector}
use Rattle.maint_client.specs.declared.sweeps.Sweep.{Sweep}
use Rattle.maint_client.specs.Sweeping.{call_by, goes_on, sweep_of, swept}
use Rattle.maint_client.specs.Collecting.{CommitsNoneBy, Did, Ended, Fails, GoesByScan, GoesTo, IsCollecting, IsOpen, Moves, MovesBy, call_after, counted, kept, left_of, left_poll}

-- a call that changes something was answered
abbrev pub IsChanged : Reply → Type 0
IsChanged r = (r ≡ replies.Deleted) ⊎ (r ≡ replies.Truncated)

pub data Way (c new : Collector) (r : Reply) (poll : Poll CollectAnswer) : Type 0 where
  failed : r ≡ replies.Failed → Fails c new poll → Way c new r poll
  scanned : c.sweep ≡ None → (vs : List Version) → r ≡ replies.Versions vs → (w : Sweep) → sweep_of c.shard vs ≡ Ok w → GoesTo c w new poll → Way c new r poll
  damaged : c.sweep ≡ None → (vs : List Version) → r ≡ replies.Versions vs → (damage : Damage) → sweep_of c.shard vs ≡ Err damage → poll ≡ polls.Damaged damage →
      new ≡ record c { asked = None; calls = more c.calls } → Way c new r poll
  changed : (w : Sweep) → c.sweep ≡ Some w → IsChanged r → GoesTo c (swept w) new poll → Way c new r poll

pub way : (c new : Collector) (r : Reply) (poll : Poll CollectAnswer) → Moves c r new poll → Way c new r poll
way c new r poll moves = go c.sweep refl r refl moves
  where
    by : c.sweep ≡ None → (vs : List Version) → r ≡ replies.Versions vs → (found : Result Sweep Damage) → sweep_of c.shard vs ≡ found → GoesByScan c found new poll → Way c new r poll
    by is vs e (Ok w) asked m = scanned is vs e w asked m
    by is vs e (Err damage) asked m = damaged is vs e damage asked m.0 m.1

    go : (o : Option Sweep) → c.sweep ≡ o → (s : Reply) → r ≡ s → MovesBy c o s new poll → Way c new r poll
    go None is (replies.Versions vs) e m = by is vs e (sweep_of c.shard vs) refl m
    go None is replies.Failed e m = failed e m
    go (Some w) is replies.Deleted e m = changed w is (inl e) m
    go (Some w) is replies.Truncated e m = changed w is (inr e) m
    go (Some w) is replies.Failed e m = failed e m
    go None is _ e m = absurd m
    go (Some w) is _ e m = absurd m

-- ---- where something is left or nothing is

-- P holds of where the collection goes, if it does where something is left, and where nothing is
pub goes_as : (c new : Collector) (w : Sweep) (poll : Poll CollectAnswer) (P : Collector → Poll CollectAnswer → Type 0) → GoesTo c w new poll →
    (goes_on w ≡ true → P (record c { sweep = Some w; calls = more c.calls }) polls.More) →
    (goes_on w ≡ false → P (record c { asked = None; sweep = None; calls = more c.calls }) (polls.Done (answers.Collected w.floor w.place))) → P new poll
goes_as c new w poll P (p, n) left over = subst (λ (q : Poll CollectAnswer). P new q) (sym p) (subst (λ (d : Collector). P d (left_poll w)) (sym n) here)
  where
    here : P (left_of c w) (left_poll w)
    here = elim (bool_cases (goes_on w)) [ inl e ↦ rw e (left e) | inr e ↦ rw e (over e) ]

-- the same of each way but that of damage
module _ (c new : Collector) (r : Reply) (poll : Poll CollectAnswer) (P : Collector → Poll CollectAnswer → Type 0) where
  pub way_as : Way c new r poll → P (counted c) polls.Fault → ((w : Sweep) → P (record c { sweep = Some w; calls = more c.calls }) polls.More) →
      ((w : Sweep) → P (record c { asked = None; sweep = None; calls = more c.calls }) (polls.Done (answers.Collected w.floor w.place))) →
      ((damage : Damage) → P (record c { asked = None; calls = more c.calls }) (polls.Damaged damage)) → P new poll
  way_as (failed e (p, n)) fault left over bad = subst (λ (q : Poll CollectAnswer). P new q) (sym p) (subst (λ (d : Collector). P d polls.Fault) (sym n) fault)
  way_as (scanned is vs e w asked g) fault left over bad = goes_as c new w poll P g (λ more_left. left w) (λ done. over w)
  way_as (damaged is vs e damage asked p n) fault left over bad =
      subst (λ (q : Poll CollectAnswer). P new q) (sym p) (subst (λ (d : Collector). P d (polls.Damaged damage)) (sym n) (bad damage))
  way_as (changed w is e g) fault left over bad = goes_as c new (swept w) poll P g (λ more_left. left (swept w)) (λ done. over (swept w))

-- ---- what each way leaves

pub moved_kept : (c new : Collector) (r : Reply) (poll : Poll CollectAnswer) → Moves c r new poll → GoesOn poll → kept new ≡ kept c
moved_kept c new r poll moves = way_as c new r poll (λ d p. GoesOn p → kept d ≡ kept c) (way c new r poll moves) (λ on. refl) (λ w on. refl) (λ w on. absurd on) (λ damage on. absurd on)

pub moved_open : (c new : Collector) (r : Reply) (poll : Poll CollectAnswer) → IsOpen c → Moves c r new poll → GoesOn poll → IsOpen new
moved_open c new r poll is moves = way_as c new r poll (λ d p. GoesOn p → IsOpen d) (way c new r poll moves) (λ on. is) (λ w on. is) (λ w on. absurd on) (λ damage on. absurd on)

pub moved_shard : (c new : Collector) (r : Reply) (poll : Poll CollectAnswer) → Moves c r new poll → new.shard ≡ c.shard
moved_shard c new r poll moves = way_as c new r poll (λ d p. d.shard ≡ c.shard) (way c new r poll moves) refl (λ w. refl) (λ w. refl) (λ damage. refl)

pub moved_counted : (c new : Collector) (r : Reply) (poll : Poll CollectAnswer) → Moves c r new poll → new.calls ≡ more c.calls
moved_counted c new r poll moves = way_as c new r poll (λ d p. d.calls ≡ more c.calls) (way c new r poll moves) refl (λ w. refl) (λ w. refl) (λ damage. refl)

-- what is so at a poll that comes to an answer
IfDone : Collector → Collector → Poll CollectAnswer → Type 0
IfDone c d (polls.Done answer) = Ended (kept c) d
IfDone c d _ = ⊤

pub ended : (c new : Collector) (r : Reply) (answer : CollectAnswer) → Moves c r new (polls.Done answer) → Ended (kept c) new
unfolding IfDone
ended c new r answer moves = way_as c new r (polls.Done answer) (IfDone c) (way c new r (polls.Done answer) moves) tt (λ w. tt) (λ w. record { asked = refl; shard = refl }) (λ damage. tt)

IsBusy : Poll CollectAnswer → Type 0
IsBusy polls.Busy = ⊤
IsBusy _ = ⊥

pub never_busy : (c new : Collector) (r : Reply) → ¬ Moves c r new polls.Busy
unfolding IsBusy
never_busy c new r moves = way_as c new r polls.Busy (λ d p. IsBusy p → ⊥) (way c new r polls.Busy moves) (λ h. h) (λ w h. h) (λ w h. h) (λ damage h. h) tt

IsFault : Poll CollectAnswer → Type 0
IsFault polls.Fault = ⊤
IsFault _ = ⊥

goes_no_fault : (c new : Collector) (w : Sweep) (poll : Poll CollectAnswer) → GoesTo c w new poll → IsFault poll → ⊥
unfolding IsFault
goes_no_fault c new w poll g = goes_as c new w poll (λ d p. IsFault p → ⊥) g (λ e h. h) (λ e h. h)

pub fault_failed : (c new : Collector) (r : Reply) → Moves c r new polls.Fault → r ≡ replies.Failed
unfolding IsFault
fault_failed c new r moves = by (way c new r polls.Fault moves)
  where
    by : Way c new r polls.Fault → r ≡ replies.Failed
    by (failed e f) = e
    by (scanned is vs e w asked g) = absurd (goes_no_fault c new w polls.Fault g tt)
    by (damaged is vs e damage asked p n) = absurd (let bad : polls.Fault ≡ polls.Damaged damage = p in cc)
    by (changed w is e g) = absurd (goes_no_fault c new (swept w) polls.Fault g tt)

-- a changed reply isn't Failed
changed_answered : (r : Reply) → IsChanged r → r ≢ replies.Failed
changed_answered r (inl e) bad = let no_way : replies.Deleted ≡ replies.Failed = sym e ∙ bad in cc
changed_answered r (inr e) bad = let no_way : replies.Truncated ≡ replies.Failed = sym e ∙ bad in cc

changed_none : (r : Reply) → IsChanged r → CommitsNone r
changed_none r (inl e) = record {
  answered = changed_answered r (inl e);
  none = λ version bad. let no_way : replies.Deleted ≡ replies.Committed version = sym e ∙ bad in cc;
}
changed_none r (inr e) = record {
  answered = changed_answered r (inr e);
  none = λ version bad. let no_way : replies.Truncated ≡ replies.Committed version = sym e ∙ bad in cc;
}

shown_none : (r : Reply) (vs : List Version) → r ≡ replies.Versions vs → CommitsNone r
shown_none r vs e = record {
  answered = λ bad. let no_way : replies.Versions vs ≡ replies.Failed = sym e ∙ bad in cc;
  none = λ version bad. let no_way : replies.Versions vs ≡ replies.Committed version = sym e ∙ bad in cc;
}

pub more_answered : (c new : Collector) (r : Reply) → Moves c r new polls.More → r ≢ replies.Failed
more_answered c new r moves = by (way c new r polls.More moves)
  where
    by : Way c new r polls.More → r ≢ replies.Failed
    by (failed e f) bad = let no_way : polls.More ≡ polls.Fault = f.0 in cc
    by (scanned is vs e w asked g) bad = (shown_none r vs e).answered bad
    by (damaged is vs e damage asked p n) bad = let no_way : polls.More ≡ polls.Damaged damage = p in cc
    by (changed w is e g) bad = changed_answered r e bad

-- ---- its calls

pub collects : (shard : ShardId) (o : Option Sweep) → IsCollecting shard (call_after shard o)
collects shard None = (refl, refl)
collects shard (Some w) = by (slice_get w.keys w.place)
  where
    by : (k : Option PartKey) → IsCollecting shard (call_by shard w.floor k)
    by None = refl
    by (Some k) = tt

-- where something is left or nothing is, the call committed nothing
goes_none : (c new : Collector) (w : Sweep) (poll : Poll CollectAnswer) (r : Reply) → GoesTo c w new poll → CommitsNone r → CommitsNoneBy poll r
goes_none c new w poll r g h = goes_as c new w poll (λ d p. CommitsNoneBy p r) g (λ left. h) (λ over. h)

pub effect : (c new : Collector) (call : Call) (r : Reply) (poll : Poll CollectAnswer) → Some (call_after c.shard c.sweep) ≡ Some call → Moves c r new poll → Did (kept c) call r poll
effect c new call r poll is moves = record {
  collects = (let same : call_after c.shard c.sweep ≡ call = cc in subst (IsCollecting c.shard) same (collects c.shard c.sweep));
  none = by (way c new r poll moves);
}
  where
    by : Way c new r poll → CommitsNoneBy poll r
    by (failed e f) = subst (λ (p : Poll CollectAnswer). CommitsNoneBy p r) (sym f.0) tt
    by (scanned none vs e w asked g) = goes_none c new w poll r g (shown_none r vs e)
    by (damaged none vs e damage asked p n) = subst (λ (q : Poll CollectAnswer). CommitsNoneBy q r) (sym p) tt
    by (changed w some e g) = goes_none c new (swept w) poll r g (changed_none r e)
