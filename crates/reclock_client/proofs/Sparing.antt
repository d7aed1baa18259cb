-- A call of one of an operator's machines leaves its writers alone.
use Rattle.std.proofs.Common.{◌≡◌, ◌≢◌, ◌<◌, ℕ, true, false, Bool, Option, Some, None, List, [], refl, sym, ap, subst, ◌∙◌}
use Rattle.std.specs.Prelude.{⊤, IfSome, IsSome, slice_get}
use Rattle.store_core.specs.declared.calls.Call.{Call}
use Rattle.store_core.specs.declared.calls.Call.TheVariants as calls
use Rattle.store_core.specs.declared.part_keys.PartKey.{PartKey}
use Rattle.store_core.specs.declared.shards.ShardId.{ShardId}
use Rattle.state_core.specs.declared.transitions.Transition.{Transition}
use Rattle.state_core.specs.declared.transitions.Transition.TheVariants.{Init}
use Rattle.state_core.specs.Steps.{acts_for}
use Rattle.history_core.specs.declared.asked.Asked.{Asked}
use Rattle.history_core.specs.declared.asked.Asked.TheVariants as asks
use Rattle.history_core.specs.Members.{IsLeave}
use Rattle.load_core.specs.declared.nexts.Next.{Next}
use Rattle.load_core.specs.declared.nexts.Next.TheVariants as nexts
use Rattle.load_core.specs.declared.tryings.Trying.{Trying}
use Rattle.load_core.specs.Runs.{OnlyCarries}
use Rattle.load_core.specs.Trying as trying
use Rattle.load_core.proofs.SettingFollows.{next_is}
use Rattle.machine_core.specs.Machines.{IsReading}
use Rattle.token_machine.specs.declared.storings.Storing.{Storing}
use Rattle.token_machine.specs.Following.{UsesToken}
use Rattle.token_machine.specs.Storings as storing
use Rattle.token_machine.specs.Storings.{sets}
use Rattle.token_machine.proofs.Following.{key_under}
use Rattle.token_machine.proofs.Ways.{call_false, call_true}
use Rattle.read_machine.proofs.Replied.{of_reads, reads_of}
use Rattle.read_client.specs.declared.questions.Question.{Question}
use Rattle.read_client.specs.declared.readers.Reader.{Reader}
use Rattle.read_client.specs.Asking.{asking, question_of, step_question}
use Rattle.read_client.specs.Reading as readers
use Rattle.write_client.specs.declared.writers.Writer.{Writer}
use Rattle.write_client.specs.Following.{IsAnother, SetsForOthers, Spares}
use Rattle.write_client.specs.Writing as writers
use Rattle.write_client.proofs.Asking.{Asks, appends, closes, open_asks, opens}
use Rattle.write_client.proofs.Sparing.{spared}
use Rattle.reclock_client.specs.Operators.{IsChange}

if_any : (o : Option ℕ) (P : ℕ → Type 0) → ((m : ℕ) → P m) → IfSome o P
if_any None P all = tt
if_any (Some m) P all = all m

if_none : (o : Option ℕ) (P : ℕ → Type 0) → o ≡ None → IfSome o P
if_none None P e = tt
if_none (Some m) P e = absurd (let bad : Some m ≡ None = e in cc)

-- on another shard each member is another
others_shard : (w : Writer) (shard : ShardId) (m : ℕ) → shard ≢ writers.shard_of w → IsAnother w shard m
others_shard w shard m apart = if_any w.member (λ own. shard ≡ writers.shard_of w → m ≢ own) (λ own same. absurd (apart same))

-- a Set is of this shard
abbrev pub SetsOn : ShardId → Call → Type 0
SetsOn shard (calls.Set key bytes) = key.shard ≡ shard
SetsOn shard _ = ⊤

-- no part is set
abbrev pub SetsNone : Call → Type 0
SetsNone (calls.Set key bytes) = ⊥
SetsNone _ = ⊤

none_on : (shard : ShardId) (call : Call) → SetsNone call → SetsOn shard call
none_on shard (calls.Set key bytes) h = absurd h
none_on shard other h = tt

none_for : (w : Writer) (call : Call) → SetsNone call → SetsForOthers w call
none_for w (calls.Set key bytes) h = absurd h
none_for w other h = tt

sets_for : (w : Writer) (shard : ShardId) (call : Call) → shard ≢ writers.shard_of w → SetsOn shard call → SetsForOthers w call
sets_for w shard (calls.Set key bytes) apart h = others_shard w key.shard key.member (λ e. apart (sym h ∙ e))
sets_for w shard other apart h = tt

reading_sets : (call : Call) → IsReading call → SetsNone call
reading_sets (calls.Set key bytes) h = absurd h
reading_sets other h = tt

reading_carries : (shard : ShardId) (step : Transition) (call : Call) → IsReading call → OnlyCarries shard step call
reading_carries shard step (calls.Cas at expected bytes) h = absurd h
reading_carries shard step other h = tt

-- a call that changes nothing
pub reading_spares : (w : Writer) (call : Call) → IsReading call → Spares w call
reading_spares w call h = spared w (writers.shard_of w) Init call (reading_carries (writers.shard_of w) Init call h) tt
    (none_for w call (reading_sets call h))

-- a call on another shard
pub elsewhere_spares : (w : Writer) (shard : ShardId) (step : Transition) (call : Call) → shard ≢ writers.shard_of w →
    OnlyCarries shard step call → SetsOn shard call → Spares w call
elsewhere_spares w shard step call apart carries set = spared w shard step call carries
    (if_any (acts_for step) (IsAnother w shard) (λ m. others_shard w shard m apart)) (sets_for w shard call apart set)

-- a call that carries a transition which acts for no member
pub nobodys_spares : (w : Writer) (shard : ShardId) (step : Transition) (call : Call) → acts_for step ≡ None →
    OnlyCarries shard step call → SetsNone call → Spares w call
nobodys_spares w shard step call none carries set = spared w shard step call carries
    (subst (λ (o : Option ℕ). IfSome o (IsAnother w shard)) (sym none) tt) (none_for w call set)

-- a writer without a member
pub memberless_spares : (w : Writer) (call : Call) → w.member ≡ None → Spares w call
memberless_spares w call none = if_none w.member (λ member. (¬ IsLeave (writers.shard_of w) member call) ×
    ((token : ℕ) → w.token < token → ¬ UsesToken (writers.shard_of w) member token call)) none

-- ---- which parts are set

try_sets : (t : Trying) → SetsNone (trying.call_of t)
try_sets t = by t.next
  where
    by : (next : Next) → SetsNone (trying.call_by t.loader next)
    by nexts.Attempt = tt
    by nexts.Scan = tt
    by (nexts.Cas r) = tt

pub trying_sets : (t : Trying) (call : Call) → Some (trying.call_of t) ≡ Some call → SetsNone call
trying_sets t call e = let same : trying.call_of t ≡ call = cc in subst SetsNone same (try_sets t)

-- each part of a writer is of its shard
own_keys : (a : Writer) → writers.IsSound a → writers.IsOpen a → (n : ℕ) (k : PartKey) →
    slice_get a.storing.setting.keys n ≡ Some k → k.shard ≡ writers.shard_of a
own_keys a sound busy n k e = let (asked, is, how) = open_asks a sound busy in by asked how
  where
    none : a.storing.setting.keys ≡ [] → k.shard ≡ writers.shard_of a
    none is = let bad : slice_get [] n ≡ Some k = subst (λ (ks : List PartKey). slice_get ks n ≡ Some k) is e in absurd (cc)

    by : (asked : Asked) → Asks a asked → k.shard ≡ writers.shard_of a
    by asked (opens shard q of step no_keys) = none no_keys
    by asked (appends rows expected new q d) = (key_under (writers.shard_of a) d.member a.token 0 n a.storing.setting.keys k d.draft.keys e).0
    by asked (closes m q named step no_keys) = none no_keys

pub writer_sets : (a ready : Writer) (call : Call) → writers.IsSound a → writers.IsOpen a → writers.Prepares a ready →
    writers.call_of ready ≡ Some call → SetsOn (writers.shard_of a) call
writer_sets a ready call sound busy (s, (t, p, s_is), ready_is) e =
    by (sets s) refl
  where
    storing_is : ready.storing ≡ s
    storing_is = ap (λ (w : Writer). w.storing) ready_is

    called : storing.call_of s ≡ Some call
    called = subst (λ (z : Storing). storing.call_of z ≡ Some call) storing_is e

    by : (q : Bool) → sets s ≡ q → SetsOn (writers.shard_of a) call
    by true h =
        let n = next_is s.setting call (call_true s call h called) in
        subst (SetsOn (writers.shard_of a)) (sym n.call_is) (own_keys a sound busy s.setting.place n.key
        (subst (λ (z : Storing). slice_get z.setting.keys s.setting.place ≡ Some n.key) s_is n.key_is))
    by false h = none_on (writers.shard_of a) call (subst SetsNone (sym (call_false s call h called)) (try_sets s.trying))

-- ---- a reader

reads_call : (r : Reader) (call : Call) (q : Question) → readers.call_by r (Some q) ≡ Some call → IsReading call
reads_call r call q e = of_reads IsReading r.reading.course.loader.shard call (λ from. tt) (λ key. tt) (reads_of asking r.reading.course call e)

-- its call changes nothing where it asks a question, and else sets no part
reader_calls : (r : Reader) (call : Call) (o : Option Question) → readers.call_by r o ≡ Some call → SetsNone call
reader_calls r call None e = trying_sets r.trying call e
reader_calls r call (Some q) e = reading_sets call (reads_call r call q e)

pub reader_sets : (r : Reader) (call : Call) → readers.call_of r ≡ Some call → SetsNone call
reader_sets r call e = reader_calls r call (readers.question r) e

pub reader_on : (shard : ShardId) (r : Reader) (call : Call) → readers.call_of r ≡ Some call → SetsOn shard call
reader_on shard r call e = none_on shard call (reader_sets r call e)

-- A reader's call spares a writer of its shard, which has no member where the reader's is changed.
pub reader_spares : (w : Writer) (old ready : Reader) (call : Call) → readers.IsSound old → readers.IsOpen old →
    readers.Prepares old ready → readers.call_of ready ≡ Some call → OnlyCarries (readers.shard_of old) old.trying.step call →
    IfSome old.asked (λ asked. IsChange asked → w.member ≡ None) → Spares w call
reader_spares w old ready call sound busy prepares e carries leaves = by old.asked refl busy sound.asked leaves
  where
    gone : w.member ≡ None → Spares w call
    gone none = memberless_spares w call none

    -- a question
    asks_it : (q : Question) → readers.question old ≡ Some q → Spares w call
    asks_it q is =
        let same : ready ≡ old = subst (λ (o : Option Question). readers.PreparesBy o old ready) is prepares in
        let here : readers.call_by old (readers.question old) ≡ Some call =
        subst (λ (r : Reader). readers.call_of r ≡ Some call) same e in
        reading_spares w call (reads_call old call q (subst (λ (o : Option Question). readers.call_by old o ≡ Some call) is here))

    steps_on : (l : Option (Option ℕ)) → IsSome l → (q : Question) × (step_question l ≡ Some q)
    steps_on None some = absurd (let bad : false ≡ true = some in cc)
    steps_on (Some f) some = (_, refl)

    some_listen : (f : Option ℕ) → old.listen ≡ Some f → IsSome old.listen
    some_listen f is = subst IsSome (sym is) refl

    by : (a : Option Asked) → old.asked ≡ a → IsSome a → IfSome a (readers.IsAsked old) →
        IfSome a (λ asked. IsChange asked → w.member ≡ None) → Spares w call
    by None is some k l = absurd (let bad : false ≡ true = some in cc)
    by (Some (asks.OpenReader shard now lease)) is some k l = nobodys_spares w (readers.shard_of old) old.trying.step call
        (ap acts_for k.2) carries (reader_sets ready call e)
    by (Some (asks.Snapshot t)) is some k l = asks_it _ (ap (λ (x : Option Asked). question_of x old.listen) is)
    by (Some (asks.Listen as_of)) is some k l =
        let q = steps_on old.listen (some_listen _ k.1) in
        asks_it q.0 (ap (λ (x : Option Asked). question_of x old.listen) is ∙ q.1)
    by (Some asks.Next) is some k l =
        let q = steps_on old.listen k.1 in
        asks_it q.0 (ap (λ (x : Option Asked). question_of x old.listen) is ∙ q.1)
    by (Some (asks.Advance to)) is some k l = gone (l tt)
    by (Some (asks.RenewReader now)) is some k l = gone (l tt)
    by (Some asks.CloseReader) is some k l = gone (l tt)
    by (Some other) is some k l = absurd k
