-- A reader that has begun a command follows, and is within the bound on its calls.
use Rattle.std.proofs.Common.{◌≡◌, ℕ, ◌≤◌, Option, Some, None, List, refl, sym, ap, subst, arith}
use Rattle.std.specs.Prelude.{IfSome, unwrap_or}
use Rattle.update_core.specs.declared.updates.Update.{Update}
use Rattle.store_core.specs.declared.shards.ShardId.{ShardId}
use Rattle.store_core.specs.declared.entries.Entry.{Entry}
use Rattle.store_core.specs.Stores.{Stored}
use Rattle.store_core.specs.Histories.{History}
use Rattle.store_core.specs.Newest.{mine_back}
use Rattle.state_core.specs.declared.kinds.Kind.TheVariants.{Reader as AsReader}
use Rattle.state_core.specs.declared.transitions.Transition.{Transition}
use Rattle.state_core.specs.declared.transitions.Transition.TheVariants as steps
use Rattle.state_core.specs.Steps.{acts_for}
use Rattle.history_core.specs.declared.asked.Asked.{Asked}
use Rattle.history_core.specs.declared.asked.Asked.TheVariants as asks
use Rattle.history_core.specs.Discipline.{OwnsSome}
use Rattle.history_core.specs.Members.{JoinedAs}
use Rattle.load_core.specs.Fronts.{Backwards, WhereLawful}
use Rattle.load_core.specs.Trying as trying
use Rattle.load_core.proofs.Remaining.{begun_cost}
use Rattle.machine_core.proofs.Fronts.{everywhere, there_too}
use Rattle.read_machine.specs.Courses as courses
use Rattle.read_machine.specs.Following.{FollowsAsked}
use Rattle.read_machine.specs.Readings as readings
use Rattle.read_machine.proofs.Places.{joined_owns}
use Rattle.read_client.specs.declared.questions.Question.{Question}
use Rattle.read_client.specs.declared.readers.Reader.{Reader}
use Rattle.read_client.specs.Asking.{asking, question_of}
use Rattle.read_client.specs.Beginning.{BeginsRead, Changing}
use Rattle.read_client.specs.Following.{Follows, FollowsWhere}
use Rattle.read_client.specs.Polling.{CostAt, CostBy}
use Rattle.read_client.specs.Reading.{opened, own_member, shard_of, unknown}
use Rattle.read_client.proofs.Sound.{if_any}

abbrev FollowsThere : ℕ → Reader → Stored → List Entry → List Update → Type 0
FollowsThere client r start es list = Follows client r start es

-- ---- the open

pub opened_follows : (shard : ShardId) (now lease client : ℕ) (front : Option History) →
    FollowsWhere client front (opened shard now lease)
opened_follows shard now lease client front = everywhere shard front (FollowsThere client (opened shard now lease))
    (λ start es list. record { trying = record { shown = tt; owned = tt }; member = tt; reading = tt })

pub opened_cost : (shard : ShardId) (now lease base client : ℕ) (front : Option History) → 3 ≤ base →
    WhereLawful (shard_of (opened shard now lease)) front (Backwards (CostAt base client (opened shard now lease)))
opened_cost shard now lease base client front three = everywhere shard front (CostAt base client (opened shard now lease))
    (λ start es list lt. begun_cost base client (record { shard = shard; cached = None })
    (steps.Join AsReader now lease) start es three)

pub open_follows : (r : Reader) (shard : ShardId) (now lease : ℕ) → r ≡ opened shard now lease →
    (client : ℕ) (front : Option History) → FollowsWhere client front r
open_follows r shard now lease e client front = subst (FollowsWhere client front) (sym e)
    (opened_follows shard now lease client front)

pub open_cost : (r : Reader) (shard : ShardId) (now lease : ℕ) → r ≡ opened shard now lease →
    (base client : ℕ) (front : Option History) → 3 ≤ base → WhereLawful (shard_of r) front (Backwards (CostAt base client r))
open_cost r shard now lease e base client front three = subst (λ (x : Reader). WhereLawful (shard_of x) front (Backwards
    (CostAt base client x))) (sym e) (opened_cost shard now lease base client front three)

-- ---- a question

-- a reader with a snapshot or a step begun
abbrev reads : Reader → Asked → Option (Option ℕ) → Reader
reads old asked listen = record old {
  asked = Some asked;
  listen = listen;
  trying = record old.trying { loader = unknown (shard_of old); calls = 0 };
  reading = record {
    course = courses.begun old.reading.course.getting old.trying.loader (own_member old);
    asked = question_of
        (Some asked) listen;
  };
}

module _ (old : Reader) (asked : Asked) (listen : Option (Option ℕ)) where
  pub read_follows : (member : ℕ) → old.member ≡ Some member → (new : Reader) → BeginsRead old asked listen new → (client : ℕ)
      (front : Option History) → FollowsWhere client front old → FollowsWhere client front new
  read_follows member has new e client front f =
      subst (FollowsWhere client front) (sym e)
      (there_too (shard_of old) front (FollowsThere client old) (FollowsThere client (reads old asked listen))
      (λ start es list h. record {
        trying = record { shown = tt; owned = h.trying.owned };
        member = h.member;
        reading = if_any (question_of (Some asked) listen) (readings.Follows asking client
            (reads old asked listen).reading start es) (record {
              shown = h.trying.shown;
              asked = if_any (question_of (Some asked) listen) (FollowsAsked AsReader client
                  (reads old asked listen).reading.course start es) (record {
                    member = subst (λ (n : ℕ). JoinedAs AsReader (mine_back start es client) (shard_of old) n)
                        (sym (ap (λ (m : Option ℕ). unwrap_or m 0) has))
                        (let is = h.member in subst (λ (m : Option ℕ). IfSome m (JoinedAs AsReader (mine_back start es client)
                        (shard_of old))) has is);
                    reading = tt;
                  });
            });
      }) f)

  pub read_cost : (new : Reader) → BeginsRead old asked listen new → (question_of (Some asked) listen ≡ None → ⊥) →
      (base client : ℕ)
      (front : Option History) → 3 ≤ base → WhereLawful (shard_of new) front (Backwards (CostAt base client new))
  read_cost new e some base client front three =
      subst (λ (r : Reader). WhereLawful (shard_of r) front (Backwards (CostAt base client r))) (sym e)
      (everywhere (shard_of old) front (CostAt base client (reads old asked listen))
      (λ start es list lt. by (question_of (Some asked) listen) start es some))
    where
      by : (q : Option Question) (start : Stored) (es : List Entry) → (q ≡ None → ⊥) →
          CostBy q base client (reads old asked listen) start es
      by None start es no_question = absurd (no_question refl)
      by (Some q) start es no_question = omega arith

-- what is asked is a question
pub content_asks : (t : ℕ) (listen : Option (Option ℕ)) → question_of (Some (asks.Snapshot t)) listen ≡ None → ⊥
content_asks t listen e = cc

pub listen_asks : (as_of : ℕ) (f : Option ℕ) → question_of (Some (asks.Listen as_of)) (Some f) ≡ None → ⊥
listen_asks as_of f e = cc

pub next_asks : (listen : Option (Option ℕ)) → (listen ≡ None → ⊥) → question_of (Some asks.Next) listen ≡ None → ⊥
next_asks None some e = some refl
next_asks (Some f) some e = cc

-- ---- a change

module _ (old : Reader) (asked : Asked) (step : ℕ → Transition) (acts : (member : ℕ) →
    acts_for (step member) ≡ Some member) (none : (listen : Option (Option ℕ)) → question_of (Some asked) listen ≡ None) where
  pub change_follows : (new : Reader) → Changing old asked step new → (client : ℕ) (front : Option History) →
      FollowsWhere client front old → FollowsWhere client front new
  change_follows new (member, has, e) client front f =
      subst (FollowsWhere client front) (sym e)
      (there_too (shard_of old) front (FollowsThere client old) (FollowsThere client
      (record old { asked = Some asked; trying = trying.begun old.trying.loader (step member) }))
      (λ start es list h. record {
        trying = record {
          shown = h.trying.shown;
          owned = subst (OwnsSome (mine_back start es client) (shard_of old)) (sym (acts member)) (joined_owns AsReader
              (mine_back start es client) (shard_of old) member (subst (λ (m : Option ℕ). IfSome m (JoinedAs AsReader
              (mine_back start es client) (shard_of old))) has h.member));
        };
        member = h.member;
        reading = subst (λ (q : Option Question). IfSome q (λ q. readings.Follows asking client old.reading start es)) (sym
            (none old.listen)) tt;
      }) f)

  pub change_cost : (new : Reader) → Changing old asked step new → (base client : ℕ) (front : Option History) → 3 ≤ base →
      WhereLawful (shard_of new) front (Backwards (CostAt base client new))
  change_cost new (member, has, e) base client front three =
      let z : Reader = record old { asked = Some asked; trying = trying.begun old.trying.loader (step member) } in
      subst (λ (r : Reader). WhereLawful (shard_of r) front (Backwards (CostAt base client r))) (sym e)
      (everywhere (shard_of old) front (CostAt base client z)
      (λ start es list lt. subst (λ (q : Option Question). CostBy q base client z start es) (sym (none old.listen))
      (begun_cost base client old.trying.loader (step member) start es three)))
