-- A version that an entry of a lawful history commits, however it was answered. Entries go newest first.
use Rattle.std.proofs.Common.{◌&&◌, ◌≡◌, ℕ, ◌+◌, Bool, true, false, Option, Some, None, List, ◌∷◌, ◌++◌, ◌⊎◌, inl, inr, refl, subst, sym, ap, ◌∙◌}
use Rattle.std.proofs.Common.{append-nil}
use Rattle.update_core.specs.declared.updates.Update.{Update}
use Rattle.store_core.specs.declared.shards.ShardId.{ShardId}
use Rattle.store_core.specs.declared.calls.Call.{Call}
use Rattle.store_core.specs.declared.calls.Call.TheVariants as calls
use Rattle.store_core.specs.declared.entries.Entry.{Entry}
use Rattle.store_core.specs.Stores.{Log, Stored, no_log, committed}
use Rattle.store_core.specs.Changes.{commits}
use Rattle.store_core.specs.Newest.{replay_back, mine_back}
use Rattle.state_core.specs.declared.transitions.Transition.{Transition}
use Rattle.state_core.specs.declared.transitions.Transition.TheVariants.{Init}
use Rattle.state_core.specs.States.{ShardState}
use Rattle.state_core.specs.Steps.{Applies, init}
use Rattle.version_codec.specs.Reading.{version_in}
use Rattle.history_core.specs.Costs.{commits_on}
use Rattle.history_core.specs.Histories.{ever, same_shard, took_effect}
use Rattle.history_core.specs.Discipline.{Allows, LawfulBack}
use Rattle.history_core.specs.Stands.{StandsFor, StateIn, IsLast, accepted, appended_by}
use Rattle.history_core.specs.Laws.{LastIs}
use Rattle.history_core.specs.Placing.{placed, Commits}
use Rattle.history_core.proofs.Logs.{end_of-committed}
use Rattle.history_core.proofs.Entries.{lawful_newest, lawful_older, shard_eq}
use Rattle.history_core.proofs.Chains.{newest_is}
use Rattle.history_core.proofs.Owners.{CommitBy, CommitsFirst, commit_of}
use Rattle.history_core.proofs.Bases.{base_of, none_there}
use Rattle.history_core.proofs.Lasts.{last_ever, last_live}
use Rattle.history_core.proofs.Appends.{ever_commits}
use Rattle.history_core.proofs.Appended.{appended_grown, appended_none}

-- what an entry that commits a version after another does
pub record Stepped (shard : ShardId) (list : List Update) (start : Stored) (e : Entry) (es : List Entry) : Type 0 where
  pub commit : Commits start shard (placed e es)
  pub number : ℕ
  pub expected : commit.expected ≡ Some number
  pub from : ShardState
  pub to : ShardState
  pub step : Transition
  pub written : version_in shard (number + 1) commit.bytes ≡ Some (to, step)
  pub last : LastIs (replay_back start es) shard number from
  pub applies : Applies from step to
  pub now : LastIs (replay_back start (e ∷ es)) shard (number + 1) to
  pub grows : accepted shard list start (e ∷ es) ≡ accepted shard list start es ++ appended_by (replay_back start es) (Some (to, step))

-- what an entry that commits the first version does
pub record Begun (shard : ShardId) (list : List Update) (start : Stored) (e : Entry) (es : List Entry) : Type 0 where
  pub none : (n : ℕ) (s : ShardState) → LastIs (replay_back start es) shard n s → ⊥
  pub after : (k : Commits start shard (placed e es)) (n : ℕ) → k.expected ≡ Some n → ⊥
  pub now : LastIs (replay_back start (e ∷ es)) shard 0 (init shard)
  pub same : accepted shard list start (e ∷ es) ≡ accepted shard list start es

-- whether a call commits tells that the entry does
pub commits_there : (start : Stored) (shard : ShardId) (e : Entry) (es : List Entry) →
    commits_on shard (replay_back start es) e.call e.outcome ≡ true →
    Commits start shard (placed e es)
commits_there start shard e es h = go e.call refl h
  where
    both : (a b : Bool) → (a && b) ≡ true → (a ≡ true) × (b ≡ true)
    both true b k = (refl, k)
    both false b k = absurd (let bad : false ≡ true = k in cc)

    go : (c : Call) → e.call ≡ c → commits_on shard (replay_back start es) c e.outcome ≡ true → Commits start shard (placed e es)
    go (calls.Cas at_shard expected bytes) is k =
        let p = both (took_effect e.outcome) (same_shard at_shard shard && commits ((replay_back start es).logs shard) expected) k in
        let q = both (same_shard at_shard shard) (commits ((replay_back start es).logs shard) expected) p.1 in
        record {
          expected = expected;
          bytes = bytes;
          call_is = is ∙ ap (λ (s : ShardId). calls.Cas s expected bytes) (shard_eq at_shard shard q.0);
          took = p.0;
          commit = q.1;
        }
    go (calls.Head d) is k = absurd (let bad : false ≡ true = k in cc)
    go (calls.Scan d from) is k = absurd (let bad : false ≡ true = k in cc)
    go (calls.Truncate d below) is k = absurd (let bad : false ≡ true = k in cc)
    go (calls.Get key) is k = absurd (let bad : false ≡ true = k in cc)
    go (calls.Set key bytes) is k = absurd (let bad : false ≡ true = k in cc)
    go (calls.Delete key) is k = absurd (let bad : false ≡ true = k in cc)

module _ (shard : ShardId) (list : List Update) (start : Stored) (st : StandsFor start shard list) (e : Entry) (es : List Entry)
    (l : LawfulBack start (e ∷ es)) where
  pub what_commits : (k : Commits start shard (placed e es)) → Begun shard list start e es ⊎ Stepped shard list start e es
  what_commits k = go (commit_of start shard (base_of start shard list st).begin.first es e.client k.expected k.bytes k.commit
      (subst (λ (q : Call). Allows (mine_back start es e.client) q) k.call_is (lawful_newest start e es l)))
    where
      not_both : (a b : Option ℕ) (x y : List ℕ) (n : ℕ) → calls.Cas shard a x ≡ calls.Cas shard b y → a ≡ None → b ≡ Some n → ⊥
      not_both a b x y n h none some = let same : a ≡ b = cc in let bad : None ≡ Some n = sym none ∙ same ∙ some in cc

      other : (q : Commits start shard (placed e es)) (n : ℕ) → q.expected ≡ Some n → k.expected ≡ None → ⊥
      other q n some none = not_both k.expected q.expected k.bytes q.bytes n (sym k.call_is ∙ q.call_is) none some

      grown : ever start shard (e ∷ es) ≡ committed (ever start shard es) k.bytes
      grown = ever_commits start shard e es k

      go : CommitsFirst shard (ever start shard es) k.expected k.bytes ⊎ CommitBy (mine_back start es e.client) shard
          (ever start shard es) k.expected k.bytes →
          Begun shard list start e es ⊎ Stepped shard list start e es
      go (inl f) =
          let first : ever start shard (e ∷ es) ≡ committed no_log k.bytes = grown ∙ ap (λ (g : Log). committed g k.bytes) f.empty in
          let there : StateIn shard (committed no_log k.bytes) 0 (init shard) = (Init, f.first) in
          inl (record {
            none = λ n s last. none_there shard (ever start shard es) n s f.empty
                (last_ever start shard list st es (lawful_older start e es l) n s last).1;
            after = λ q n e. other q n e f.none;
            now = last_live start shard list st (e ∷ es) l 0 (init shard) (subst (λ (g : Log). IsLast g 0) (sym first) refl)
                (subst (λ (g : Log). StateIn shard g 0 (init shard)) (sym first) there);
            same = ap (λ (us : List Update). accepted shard list start es ++ us)
                (appended_none (replay_back start es) shard e e.call k.expected k.bytes k.call_is f.none)
                ∙ append-nil (accepted shard list start es);
          })
      go (inr b) =
          let m = b.commit in
          let last : IsLast (ever start shard (e ∷ es)) (m.n + 1) =
          subst (λ (g : Log). IsLast g (m.n + 1)) (sym grown)
          (ap (λ j. j + 1) m.last ∙ sym (end_of-committed (ever start shard es) k.bytes)) in
          let state = subst (λ (g : Log). StateIn shard g (m.n + 1) m.to) (sym grown)
          (m.step, newest_is shard (ever start shard es) k.bytes m) in
          inr (record {
            commit = k;
            number = m.n;
            expected = b.number;
            from = m.from;
            to = m.to;
            step = m.step;
            written = m.written;
            last = last_live start shard list st es (lawful_older start e es l) m.n m.from m.last m.from_is;
            applies = m.applies;
            now = last_live start shard list st (e ∷ es) l (m.n + 1) m.to last state;
            grows = ap (λ (us : List Update). accepted shard list start es ++ us)
                (appended_grown (replay_back start es) shard e e.call k.expected m.n k.bytes m.to m.step k.call_is b.number k.took
                k.commit m.written);
          })
