-- An append that commits is accepted by the collection at its place.
use Rattle.std.proofs.Common.{◌≡◌, ℕ, ◌+◌, ◌≤◌, ◌^◌, true, List, ◌∷◌, ◌++◌, ◌⊎◌, inl, inr, refl, arith, subst, sym, ap, ◌∙◌, Some, None, Option}
use Rattle.std.proofs.lemmas.Bool.{le-leb}
use Rattle.update_core.specs.declared.updates.Update.{Update}
use Rattle.std.specs.Prelude.{reverse}
use Rattle.update_core.specs.Updates.{cons, weight_of}
use Rattle.update_core.specs.Frontiers.{is_at}
use Rattle.update_core.specs.Collections.{Collection as PlainCollection, append_answer, extended}
use Rattle.update_core.specs.Collections.{accepted as append_accepted}
use Rattle.store_core.specs.declared.shards.ShardId.{ShardId}
use Rattle.store_core.specs.declared.part_keys.PartKey.{PartKey}
use Rattle.store_core.specs.declared.calls.Call.{Call}
use Rattle.store_core.specs.declared.entries.Entry.{Entry}
use Rattle.store_core.specs.Stores.{Log, Stored, committed}
use Rattle.store_core.specs.Newest.{replay_back, mine_back}
use Rattle.store_core.specs.Histories.{with_entry}
use Rattle.store_core.proofs.NewestLaws.{newest-first, replay-newest}
use Rattle.state_core.specs.declared.transitions.Transition.{Transition}
use Rattle.state_core.specs.declared.transitions.Transition.TheVariants.{Append}
use Rattle.state_core.specs.States.{ShardState}
use Rattle.state_core.specs.Steps.{Applies}
use Rattle.version_codec.specs.Reading.{version_in}
use Rattle.history_core.specs.Histories.{ever, grown}
use Rattle.history_core.specs.Discipline.{Allows, LawfulBack}
use Rattle.history_core.specs.Stands.{StandsFor, StateIn, IsLast, accepted, appended, rows_under}
use Rattle.history_core.specs.Placing.{placed, Commits}
use Rattle.history_core.specs.Legal.{AcceptedAt, collection_in}
use Rattle.history_core.specs.AnswerLaws.{AppendsAccepted}
use Rattle.history_core.proofs.Prefixes.{lawful_back}
use Rattle.history_core.proofs.Logs.{end_of-committed}
use Rattle.history_core.proofs.Entries.{shard_same, lawful_newest, lawful_older}
use Rattle.history_core.proofs.Chains.{newest_is}
use Rattle.history_core.proofs.Owners.{CommitBy, CommitsFirst, commit_of}
use Rattle.history_core.proofs.Bases.{base_of}
use Rattle.history_core.proofs.Lasts.{last_live}
use Rattle.history_core.proofs.Content.{appended_grown}

-- an entry that commits adds its bytes to the versions that ever were
pub ever_commits : (start : Stored) (shard : ShardId) (e : Entry) (es : List Entry) (k : Commits start shard (placed e es)) → ever start shard (e ∷ es) ≡ committed (ever start shard es) k.bytes
ever_commits start shard e es k =
    subst (λ (q : Call). grown shard ((replay_back start es).logs shard) q e.outcome (ever start shard es) ≡ committed (ever start shard es) k.bytes) (sym k.call_is)
    (rw (k.took, shard_same shard, k.commit) refl)

same_version : (o : Option (ShardState × Transition)) (s s2 : ShardState) (x x2 : Transition) → o ≡ Some (s, x) → o ≡ Some (s2, x2) → (s ≡ s2) × (x ≡ x2)
same_version o s s2 x x2 h g = let e : (s, x) ≡ (s2, x2) = cc in (ap (λ (p : ShardState × Transition). p.0) e, ap (λ (p : ShardState × Transition). p.1) e)

record Fits (from to : ShardState) (expected : ℕ) (new : Option ℕ) (weight : ℕ) : Type 0 where
  pub upper : from.upper ≡ Some expected
  pub light : from.weight + weight ≤ 2 ^ 62
  pub since_is : to.since ≡ from.since
  pub upper_is : to.upper ≡ new
  pub weight_is : to.weight ≡ from.weight + weight

fits_of : (from to : ShardState) (member token expected : ℕ) (new : Option ℕ) (parts : List PartKey) (rows weight : ℕ) → Applies from (Append member token expected new parts rows weight) to → Fits from to expected new weight
fits_of from to member token expected new parts rows weight a = record {
  upper = a.makes.fits;
  light = a.makes.light;
  since_is = ap (λ (s : ShardState). s.since) a.makes.effect;
  upper_is = ap (λ (s : ShardState). s.upper) a.makes.effect;
  weight_is = ap (λ (s : ShardState). s.weight) a.makes.effect;
}

itself : (n : ℕ) → is_at (Some n) n ≡ true
itself n = grind arith

answer_is : (c : PlainCollection) (expected weight : ℕ) → c.upper ≡ Some expected → c.weight + weight ≤ 2 ^ 62 → append_answer c expected weight ≡ append_accepted
answer_is c expected weight at light = rw (at, itself expected, le-leb (c.weight + weight) (2 ^ 62) light) refl

make : List Update → ℕ → Option ℕ → ℕ → PlainCollection
make us since upper weight = record { updates = us; since = since; upper = upper; weight = weight }

alike : (us us2 : List Update) (since since2 : ℕ) (upper upper2 : Option ℕ) (weight weight2 : ℕ) → us ≡ us2 → since ≡ since2 → upper ≡ upper2 → weight ≡ weight2 → make us since upper weight ≡ make us2 since2 upper2 weight2
alike us us2 since since2 upper upper2 weight weight2 a b c d = cc

effect_is : (list rows : List Update) (new_list : List Update) (from to : ShardState) (new : Option ℕ) (weight : ℕ) → new_list ≡ list ++ cons rows → to.since ≡ from.since → to.upper ≡ new → to.weight ≡ from.weight + weight →
    collection_in new_list to ≡ extended (collection_in list from) rows new weight
unfolding make
effect_is list rows new_list from to new weight a b c d = alike new_list (list ++ cons rows) to.since from.since to.upper new to.weight (from.weight + weight) a b c d

-- In a lawful history an entry that commits an Append, whose parts there hold the consolidation of these rows and whose weight
-- is theirs, is accepted by the collection at its place, and extends it by the rows.
pub append_accepted_at : (start : Stored) (shard : ShardId) (list : List Update) → StandsFor start shard list → (e : Entry) (es : List Entry) → LawfulBack start (e ∷ es) → (k : Commits start shard (placed e es)) →
    (n : ℕ) → k.expected ≡ Some n → (to : ShardState) (member token expected : ℕ) (new : Option ℕ) (parts : List PartKey) (count weight : ℕ) →
    version_in shard (n + 1) k.bytes ≡ Some (to, Append member token expected new parts count weight) → (rows : List Update) → rows_under (replay_back start es) parts ≡ cons rows → weight ≡ weight_of rows →
    AcceptedAt list start shard rows expected new (placed e es)
append_accepted_at start shard list st e es l k n at to member token expected new parts count weight written rows held heavy =
    go (commit_of start shard (base_of start shard list st).begin.first es e.client k.expected k.bytes k.commit
    (subst (λ (q : Call). Allows (mine_back start es e.client) q) k.call_is (lawful_newest start e es l)))
  where
    go : CommitsFirst shard (ever start shard es) k.expected k.bytes ⊎ CommitBy (mine_back start es e.client) shard (ever start shard es) k.expected k.bytes → AcceptedAt list start shard rows expected new (placed e es)
    go (inl f) = absurd (let a = f.none in let b : Some n ≡ None = sym at ∙ a in cc)
    go (inr b) =
        let m = b.commit in
        let number_is : m.n ≡ n = (let c : Some m.n ≡ Some n = sym b.number ∙ at in cc) in
        let written2 : version_in shard (m.n + 1) k.bytes ≡ Some (to, Append member token expected new parts count weight) =
        subst (λ (j : ℕ). version_in shard (j + 1) k.bytes ≡ Some (to, Append member token expected new parts count weight)) (sym number_is) written in
        let (to_is, step_is) = same_version (version_in shard (m.n + 1) k.bytes) m.to to m.step (Append member token expected new parts count weight) m.written written2 in
        let applies = subst (λ (s : ShardState). Applies m.from (Append member token expected new parts count weight) s) to_is (subst (λ (x : Transition). Applies m.from x m.to) step_is m.applies) in
        let fits = subst (Fits m.from to expected new) heavy (fits_of m.from to member token expected new parts count weight applies) in
        let grows = ever_commits start shard e es k in
        let last : IsLast (ever start shard (e ∷ es)) (m.n + 1) =
        subst (λ (g : Log). IsLast g (m.n + 1)) (sym grows) (ap (λ j. j + 1) m.last ∙ sym (end_of-committed (ever start shard es) k.bytes)) in
        let state = subst (λ (s : ShardState). StateIn shard (ever start shard (e ∷ es)) (m.n + 1) s) to_is
        (subst (λ (g : Log). StateIn shard g (m.n + 1) m.to) (sym grows) (m.step, newest_is shard (ever start shard es) k.bytes m)) in
        let new_rows : appended (replay_back start es) shard e e.call ≡ cons rows =
        appended_grown (replay_back start es) shard e e.call k.expected n k.bytes to (Append member token expected new parts count weight) k.call_is at k.took k.commit written ∙ held in
        record {
          before = collection_in (accepted shard list start es) m.from;
          after = collection_in (accepted shard list start (e ∷ es)) to;
          before_is = (m.n, m.from, last_live start shard list st es (lawful_older start e es l) m.n m.from m.last m.from_is, refl);
          after_is = (m.n + 1, to, last_live start shard list st (e ∷ es) l (m.n + 1) to last state, refl);
          answer = answer_is (collection_in (accepted shard list start es) m.from) expected (weight_of rows) fits.upper fits.light;
          effect = effect_is (accepted shard list start es) rows (accepted shard list start (e ∷ es)) m.from to new (weight_of rows) (ap (λ us. accepted shard list start es ++ us) new_rows) fits.since_is fits.upper_is fits.weight_is;
        }

pub accepted_law : AppendsAccepted
accepted_law shard list h e st l c n at to member token expected new parts count rows written held =
    append_accepted_at h.start shard list st e (reverse h.trail) (subst (LawfulBack h.start) (newest-first h.trail e) (lawful_back (with_entry h e) l)) c n at to member token expected new parts count (weight_of rows)
    written rows (subst (λ (s : Stored). rows_under s parts ≡ cons rows) (replay-newest h.start h.trail) held) refl
