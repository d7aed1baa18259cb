-- A version that an entry of a lawful history commits, and the last version after it. Entries go newest first.
use Rattle.std.specs.Prelude.{⊤}
use Rattle.std.proofs.Common.{◌≡◌, ℕ, ◌+◌, Option, Some, None, List, [], ◌∷◌, ◌++◌, ◌⊎◌, inl, inr, refl, subst, sym, ap, ◌∙◌}
use Rattle.update_core.specs.declared.updates.Update.{Update}
use Rattle.store_core.specs.declared.shards.ShardId.{ShardId}
use Rattle.store_core.specs.declared.calls.Call.{Call}
use Rattle.store_core.specs.declared.calls.Call.TheVariants as calls
use Rattle.store_core.specs.declared.replies.Reply.TheVariants as replies
use Rattle.store_core.specs.declared.entries.Entry.{Entry}
use Rattle.store_core.specs.Stores.{Log, Stored, no_log, committed}
use Rattle.store_core.specs.Histories.{reply, reply_by}
use Rattle.store_core.specs.Newest.{replay_back, mine_back}
use Rattle.state_core.specs.declared.transitions.Transition.{Transition}
use Rattle.state_core.specs.declared.transitions.Transition.TheVariants.{Init, Join, Leave, Renew, Advance, Expire, Append, Merge}
use Rattle.state_core.specs.States.{ShardState}
use Rattle.state_core.specs.Steps.{Applies, init}
use Rattle.version_codec.specs.Reading.{version_in}
use Rattle.state_core.proofs.ListLemmas.{append-nil}
use Rattle.history_core.specs.Histories.{ever}
use Rattle.history_core.specs.Discipline.{Allows, LawfulBack}
use Rattle.history_core.specs.Stands.{StandsFor, StateIn, IsLast, accepted, appended, appended_by}
use Rattle.history_core.specs.Laws.{LastIs}
use Rattle.history_core.specs.Placing.{placed, Commits}
use Rattle.history_core.proofs.Logs.{end_of-committed}
use Rattle.history_core.proofs.Entries.{lawful_newest, lawful_older}
use Rattle.history_core.proofs.Chains.{newest_is}
use Rattle.history_core.proofs.Owners.{CommitBy, commit_of}
use Rattle.history_core.proofs.Owners.{CommitsFirst as BeginsLog}
use Rattle.history_core.proofs.Bases.{base_of, none_there}
use Rattle.history_core.proofs.Lasts.{last_ever, last_live}
use Rattle.history_core.proofs.Appends.{ever_commits}
use Rattle.history_core.proofs.Appended.{appended_grown, appended_none}
use Rattle.load_core.specs.Effects.{CommitsStep, CommitsFirst}
use Rattle.load_core.proofs.Outcomes.{TookCas, took_cas}

-- ---- a step

-- a transition that appends no rows
abbrev pub AppendsNone : Transition → Type 0
AppendsNone (Append member token expected new parts rows weight) = ⊥
AppendsNone _ = ⊤

appends_none : (store : Stored) (to : ShardState) (step : Transition) → AppendsNone step → appended_by store (Some (to, step)) ≡ []
appends_none store to Init none = refl
appends_none store to (Join kind now lease) none = refl
appends_none store to (Leave member) none = refl
appends_none store to (Renew member now) none = refl
appends_none store to (Advance member since) none = refl
appends_none store to (Expire now) none = refl
appends_none store to (Append member token expected new parts rows weight) none = absurd none
appends_none store to (Merge member token left right merged) none = refl

-- what an entry that commits this transition does: it makes the last version's state of the one before, and appends its rows
pub record Stepped (shard : ShardId) (list : List Update) (start : Stored) (step : Transition) (number : ℕ) (to : ShardState) (e : Entry)
    (es : List Entry) : Type 0 where
  pub from : ShardState
  pub last : LastIs (replay_back start es) shard number from
  pub applies : Applies from step to
  pub now : LastIs (replay_back start (e ∷ es)) shard (number + 1) to
  pub commit : Commits start shard (placed e es)
  pub grows : accepted shard list start (e ∷ es) ≡ accepted shard list start es ++ appended (replay_back start es) shard e e.call
  pub rows : appended (replay_back start es) shard e e.call ≡ appended_by (replay_back start es) (Some (to, step))

-- a Cas that was answered Committed committed
pub commits_by : (shard : ShardId) (start : Stored) (e : Entry) (es : List Entry) (expected : Option ℕ) (bytes : List ℕ) (version : ℕ) →
    e.call ≡ calls.Cas shard expected bytes →
    reply (replay_back start es) e ≡ replies.Committed version → TookCas ((replay_back start es).logs shard) expected e.outcome version
commits_by shard start e es expected bytes version c r =
    took_cas (replay_back start es) shard expected bytes e.outcome version
    (subst (λ (q : Call). reply_by (replay_back start es) q e.outcome ≡ replies.Committed version) c r)

module _ (shard : ShardId) (list : List Update) (start : Stored) (st : StandsFor start shard list) (e : Entry) (es : List Entry)
    (l : LawfulBack start (e ∷ es)) where
  -- a commit of a version is its transition on the last version's state
  pub step_commits : (step : Transition) (c : CommitsStep shard step e.call (reply (replay_back start es) e)) →
      Stepped shard list start step c.number c.to e es
  step_commits step c = go (commit_of start shard (base_of start shard list st).begin.first es e.client (Some c.number) c.bytes took.commit
      (subst (λ (q : Call). Allows (mine_back start es e.client) q) c.call_is (lawful_newest start e es l)))
    where
      took : TookCas ((replay_back start es).logs shard) (Some c.number) e.outcome c.version
      took = commits_by shard start e es (Some c.number) c.bytes c.version c.call_is c.reply_is

      k : Commits start shard (placed e es)
      k = record { expected = Some c.number; bytes = c.bytes; call_is = c.call_is; took = rw took.outcome_is refl; commit = took.commit }

      go : BeginsLog shard (ever start shard es) (Some c.number) c.bytes ⊎ CommitBy (mine_back start es e.client) shard (ever start shard es)
          (Some c.number) c.bytes → Stepped shard list start step c.number c.to e es
      go (inl f) = absurd (let none = f.none in cc)
      go (inr b) =
          let m = b.commit in
          let number_is : m.n ≡ c.number = (let same : Some c.number ≡ Some m.n = b.number in cc) in
          let written : version_in shard (m.n + 1) c.bytes ≡ Some (c.to, step) =
          subst (λ (j : ℕ). version_in shard (j + 1) c.bytes ≡ Some (c.to, step)) (sym number_is) c.written in
          let one : (m.to, m.step) ≡ (c.to, step) = (let reads : version_in shard (m.n + 1) c.bytes ≡ Some (m.to, m.step) = m.written in cc) in
          let to_is : m.to ≡ c.to = ap (λ (p : ShardState × Transition). p.0) one in
          let step_is : m.step ≡ step = ap (λ (p : ShardState × Transition). p.1) one in
          let grown : ever start shard (e ∷ es) ≡ committed (ever start shard es) c.bytes = ever_commits start shard e es k in
          let last : IsLast (ever start shard (e ∷ es)) (m.n + 1) =
          subst (λ (g : Log). IsLast g (m.n + 1)) (sym grown) (ap (λ j. j + 1) m.last ∙ sym (end_of-committed (ever start shard es) c.bytes)) in
          let state = subst (λ (s : ShardState). StateIn shard (ever start shard (e ∷ es)) (m.n + 1) s) to_is
          (subst (λ (g : Log). StateIn shard g (m.n + 1) m.to) (sym grown) (m.step, newest_is shard (ever start shard es) c.bytes m)) in
          record {
            from = m.from;
            last = subst (λ (j : ℕ). LastIs (replay_back start es) shard j m.from) number_is
                (last_live start shard list st es (lawful_older start e es l) m.n m.from m.last m.from_is);
            applies = subst (λ (s : ShardState). Applies m.from step s) to_is (subst (λ (x : Transition). Applies m.from x m.to) step_is m.applies);
            now = subst (λ (j : ℕ). LastIs (replay_back start (e ∷ es)) shard (j + 1) c.to) number_is
                (last_live start shard list st (e ∷ es) l (m.n + 1) c.to last state);
            commit = k;
            grows = refl;
            rows = appended_grown (replay_back start es) shard e e.call (Some c.number) c.number c.bytes c.to step c.call_is refl k.took took.commit c.written;
          }

  -- one that appends no rows leaves the accepted list
  pub step_keeps : (step : Transition) → AppendsNone step → CommitsStep shard step e.call (reply (replay_back start es) e) →
      accepted shard list start (e ∷ es) ≡ accepted shard list start es
  step_keeps step none c =
      let s = step_commits step c in
      s.grows ∙ ap (λ (us : List Update). accepted shard list start es ++ us) (s.rows ∙ appends_none (replay_back start es) c.to step none)
      ∙ append-nil (accepted shard list start es)

  -- so does a leave
  pub leaves : (member : ℕ) → CommitsStep shard (Leave member) e.call (reply (replay_back start es) e) →
      accepted shard list start (e ∷ es) ≡ accepted shard list start es
  leaves member c = step_keeps (Leave member) tt c

  -- ---- a first version

  first_log : (c : CommitsFirst shard e.call (reply (replay_back start es) e)) → BeginsLog shard (ever start shard es) None c.bytes
  first_log c = go (commit_of start shard (base_of start shard list st).begin.first es e.client None c.bytes
      (commits_by shard start e es None c.bytes c.version c.call_is c.reply_is).commit
      (subst (λ (q : Call). Allows (mine_back start es e.client) q) c.call_is (lawful_newest start e es l)))
    where
      go : BeginsLog shard (ever start shard es) None c.bytes ⊎ CommitBy (mine_back start es e.client) shard (ever start shard es) None c.bytes →
          BeginsLog shard (ever start shard es) None c.bytes
      go (inl f) = f
      go (inr b) = absurd (let number = b.number in cc)

  -- where there is a last version none commits as the first
  pub first_never : (n : ℕ) (s : ShardState) → LastIs (replay_back start es) shard n s → CommitsFirst shard e.call (reply (replay_back start es) e) → ⊥
  first_never n s last c =
      none_there shard (ever start shard es) n s (first_log c).empty (last_ever start shard list st es (lawful_older start e es l) n s last).1

  -- after the first version's commit it is the last one, with the first state
  pub first_last : CommitsFirst shard e.call (reply (replay_back start es) e) → LastIs (replay_back start (e ∷ es)) shard 0 (init shard)
  first_last c =
      let took = commits_by shard start e es None c.bytes c.version c.call_is c.reply_is in
      let f = first_log c in
      let grown : ever start shard (e ∷ es) ≡ committed no_log c.bytes =
      ever_commits start shard e es (record { expected = None; bytes = c.bytes; call_is = c.call_is; took = rw took.outcome_is refl; commit = took.commit })
      ∙ ap (λ (g : Log). committed g c.bytes) f.empty in
      let there : StateIn shard (committed no_log c.bytes) 0 (init shard) = (Init, f.first) in
      last_live start shard list st (e ∷ es) l 0 (init shard)
      (subst (λ (g : Log). IsLast g 0) (sym grown) refl)
      (subst (λ (g : Log). StateIn shard g 0 (init shard)) (sym grown) there)

  -- and it appends nothing
  pub first_keeps : CommitsFirst shard e.call (reply (replay_back start es) e) → accepted shard list start (e ∷ es) ≡ accepted shard list start es
  first_keeps c =
      ap (λ (us : List Update). accepted shard list start es ++ us) (appended_none (replay_back start es) shard e e.call None c.bytes c.call_is refl)
      ∙ append-nil (accepted shard list start es)
