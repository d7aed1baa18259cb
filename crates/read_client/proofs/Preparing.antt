-- What preparing leaves of a reader.
use Rattle.std.proofs.Common.{◌≡◌, ℕ, ◌<◌, Option, Some, None, List, refl, sym, ap, subst, ◌∙◌}
use Rattle.std.specs.Prelude.{IfSome}
use Rattle.update_core.specs.declared.updates.Update.{Update}
use Rattle.store_core.specs.declared.shards.ShardId.{ShardId}
use Rattle.store_core.specs.declared.entries.Entry.{Entry}
use Rattle.store_core.specs.Ports.{Answered}
use Rattle.store_core.specs.Stores.{Stored}
use Rattle.store_core.specs.Newest.{mine_back}
use Rattle.state_core.specs.declared.kinds.Kind.TheVariants.{Reader as AsReader}
use Rattle.update_core.specs.Limits.{most}
use Rattle.history_core.specs.Members.{JoinedAs}
use Rattle.load_core.specs.declared.tryings.Trying.{Trying}
use Rattle.load_core.specs.Costing.{CostKept, IsPrepared}
use Rattle.load_core.specs.Following.{FollowsTrying}
use Rattle.load_core.proofs.Following.{prepared_follows}
use Rattle.load_core.proofs.Remaining.{prepared_cost}
use Rattle.load_core.proofs.TryFacts.{prepared_next, prepares_is}
use Rattle.read_machine.specs.Readings as readings
use Rattle.read_client.specs.declared.questions.Question.{Question}
use Rattle.read_client.specs.declared.readers.Reader.{Reader}
use Rattle.read_client.specs.Asking.{asking}
use Rattle.read_client.specs.Following.{Follows}
use Rattle.read_client.specs.Polling.{CostAt, CostBy, CostOver}
use Rattle.read_client.specs.Reading.{Prepares, PreparesBy, question}

-- what preparing leaves of a reader
pub record Readied (old ready : Reader) : Type 0 where
  pub trying : Trying
  pub ready_is : ready ≡ record old { trying = trying }
  pub loader : trying.loader ≡ old.trying.loader
  pub step : trying.step ≡ old.trying.step
  pub calls : trying.calls ≡ old.trying.calls

pub readied : (old ready : Reader) → Prepares old ready → Readied old ready
readied old ready p = go (question old) p
  where
    go : (q : Option Question) → PreparesBy q old ready → Readied old ready
    go None (t, m, e) =
        let is = prepares_is old.trying t m in
        record {
          trying = t;
          ready_is = e;
          loader = ap (λ (z : Trying). z.loader) is;
          step = ap (λ (z : Trying). z.step) is;
          calls = ap (λ (z : Trying). z.calls) is;
        }
    go (Some q) e = record { trying = old.trying; ready_is = e; loader = refl; step = refl; calls = refl }

readied_trying : (old ready : Reader) (own : List Answered) → Prepares old ready → FollowsTrying old.trying own →
    FollowsTrying ready.trying own
readied_trying old ready own p f = go (question old) p
  where
    go : (q : Option Question) → PreparesBy q old ready → FollowsTrying ready.trying own
    go None (t, m, e) = subst (λ (r : Reader). FollowsTrying r.trying own) (sym e) (prepared_follows old.trying t own f m)
    go (Some q) e = subst (λ (r : Reader). FollowsTrying r.trying own) (sym e) f

pub prepared_on : (client : ℕ) (old ready : Reader) (start : Stored) (es : List Entry) → Prepares old ready →
    Follows client old start es →
    Follows client ready start es
prepared_on client old ready start es p f = go (question old) refl p
  where
    go : (q : Option Question) → question old ≡ q → PreparesBy q old ready → Follows client ready start es
    go None none (t, m, e) =
        let z : Reader = record old { trying = t } in
        let is = prepares_is old.trying t m in
        subst (λ (r : Reader). Follows client r start es) (sym e)
        (record {
          trying = subst (λ (r : Reader). FollowsTrying r.trying (mine_back start es client)) e
              (readied_trying old ready (mine_back start es client) p f.trying);
          member = subst (λ (d : ShardId). IfSome old.member (JoinedAs AsReader (mine_back start es client) d))
              (sym (ap (λ (z : Trying). z.loader.shard) is)) f.member;
          reading = subst (λ (q : Option Question). IfSome q (λ q. readings.Follows asking client z.reading start es))
              (sym none) tt;
        })
    go (Some q) some e = subst (λ (r : Reader). Follows client r start es) (sym e) f

-- the reader that was prepared asks what it asked before
asks_same : (old ready : Reader) → Prepares old ready → question ready ≡ question old
asks_same old ready p = ap (λ (r : Reader). question r) (readied old ready p).ready_is

pub next_of : (old ready : Reader) → Prepares old ready → question ready ≡ None → IsPrepared ready.trying.next
next_of old ready p none = go (question old) (sym (asks_same old ready p) ∙ none) p
  where
    go : (q : Option Question) → q ≡ None → PreparesBy q old ready → IsPrepared ready.trying.next
    go None e (t, m, is) = subst (λ (r : Reader). IsPrepared r.trying.next) (sym is) (prepared_next old.trying t m)
    go (Some q) e m = absurd (let bad : Some q ≡ None = e in cc)

-- the cost is kept when it is prepared
pub cost_prepared : (base client : ℕ) (old ready : Reader) (start : Stored) (es : List Entry) (list : List Update) →
    Prepares old ready →
    CostAt base client old start es list → CostAt base client ready start es list
cost_prepared base client old ready start es list p at = λ lt.
    let k = readied old ready p in
    let calls_is = ap (λ (r : Reader). r.trying.calls) k.ready_is ∙ k.calls in
    subst (λ (q : Option Question). CostBy q base client ready start es) (sym (asks_same old ready p))
    (go (question old) p (at (subst (λ (n : ℕ). n < most) calls_is lt)))
  where
    go : (q : Option Question) → PreparesBy q old ready → CostBy q base client old start es → CostBy q base client ready start es
    go None (t, m, is) kept = subst (λ (r : Reader). CostKept base client r.trying start es) (sym is)
        (prepared_cost base client old.trying t start es m kept).0
    go (Some q) is kept = subst (λ (r : Reader). CostBy (Some q) base client r start es) (sym is) kept

-- a command that has ended is within the bound of the reader before it was prepared
pub over_prepared : (base client : ℕ) (old ready new : Reader) (start : Stored) (es : List Entry) (list : List Update) →
    Prepares old ready →
    CostOver base client ready new start es list → CostOver base client old new start es list
over_prepared base client old ready new start es list p h =
    let k = readied old ready p in
    subst (λ (z : Reader). CostOver base client z new start es list →
    CostOver base client old new start es list) (sym k.ready_is) (λ o. o)
    h
