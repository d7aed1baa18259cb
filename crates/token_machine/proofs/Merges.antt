-- A merge that is in may be answered so. Entries go newest first.
use Rattle.std.proofs.Common.{◌≡◌, ℕ, ◌+◌, ◌<◌, Option, Some, List, [], ◌∷◌, ◌++◌, inl, inr, ap, subst, ◌∙◌}
use Rattle.update_core.specs.declared.updates.Update.{Update}
use Rattle.spine_core.specs.declared.batches.Batch.{Batch}
use Rattle.store_core.specs.declared.calls.Call.TheVariants as calls
use Rattle.store_core.specs.declared.entries.Entry.{Entry}
use Rattle.store_core.specs.declared.shards.ShardId.{ShardId}
use Rattle.store_core.specs.Newest.{mine_back}
use Rattle.store_core.specs.Ports.{Answered}
use Rattle.store_core.specs.Stores.{Stored}
use Rattle.state_core.specs.declared.kinds.Kind.{Kind}
use Rattle.state_core.specs.declared.transitions.Transition.{Transition}
use Rattle.state_core.specs.declared.transitions.Transition.TheVariants.{Merge}
use Rattle.state_core.specs.Lists.{Among}
use Rattle.version_codec.specs.Reading.{version_in}
use Rattle.update_core.specs.Limits.{most}
use Rattle.history_core.specs.Placing.{Commits, OnlyOne, Placed}
use Rattle.history_core.specs.Upkeep.{MergedAs}
use Rattle.load_core.specs.declared.tries.Tried.{Tried}
use Rattle.token_machine.specs.declared.storeds.Stored.{Stored as Came}
use Rattle.token_machine.specs.declared.storeds.Stored.TheVariants as storeds
use Rattle.token_machine.specs.declared.storings.Storing.{Storing}
use Rattle.token_machine.specs.Legality.{IsInOnce, LegalStored, StepAs, StoresAt, StoringMoves, command_entries}
use Rattle.token_machine.specs.Outcomes.{IsInAs, stored}
use Rattle.token_machine.proofs.Once.{legal}

among_one : {A : Type 0} (P Q R : A → Type 0) → ((x : A) → Q x → R x) → (xs : List A) → OnlyOne P Q xs → Among R xs
among_one P Q R f [] h = h
among_one P Q R f (x ∷ xs) (inl h) = inl (f x h.1)
among_one P Q R f (x ∷ xs) (inr h) = inr (among_one P Q R f xs h.1)

merged_by : (client : ℕ) (own : List Answered) (start : Stored) (shard : ShardId) (step : Transition) (member token version : ℕ)
    (left right merged : Batch) → step ≡ Merge member token left right merged → (p : Placed) →
    StepAs client own start shard step version p → MergedAs start shard member token version p
merged_by client own start shard step member token version left right merged is p (a, version_is) = record {
  left = left;
  right = right;
  tries = record {
    expected = a.number;
    bytes = a.commit.bytes;
    to = a.to;
    merged = merged;
    call_is = a.commit.call_is ∙ ap (λ (n : Option ℕ). calls.Cas shard n a.commit.bytes) a.expected_is;
    carries = subst (λ (x : Transition). version_in shard (a.number + 1) a.commit.bytes ≡ Some (a.to, x)) is a.written;
  };
  commits = a.commit;
  version_is = version_is;
}

is_in : (client member token : ℕ) (s new : Storing) (start : Stored) (e : Entry) (before : List Entry) (came : Came)
    (version : ℕ) →
    LegalStored client member token s new start e before came → IsInAs came version → IsInOnce client s start e before version
is_in client member token s new start e before (storeds.Now at) version h is = subst (IsInOnce client s start e before) is h
is_in client member token s new start e before (storeds.Before at) version h is = subst (IsInOnce client s start e before) is h
is_in client member token s new start e before other version h is = absurd is

pub merge_in : (kind : Kind) (member token : ℕ) (s new : Storing) (client : ℕ) (list : List Update) (start : Stored) (e : Entry)
    (others es : List Entry) → StoresAt kind member token s client list start e others es → (left right merged : Batch) →
    s.trying.step ≡ Merge member token left right merged → (tried : Tried) → StoringMoves s start e (others ++ es) new tried →
    s.trying.calls < most → (version : ℕ) → IsInAs (stored new.trying token tried) version →
    Among (MergedAs start s.trying.loader.shard member token version) (command_entries client s e (others ++ es))
merge_in kind member token s new client list start e others es at left right merged step tried moves lt version is =
    let once = is_in client member token s new start e (others ++ es) (stored new.trying token tried) version
    (legal kind member token s client list start e others es at new tried moves) is in
    among_one (Commits start s.trying.loader.shard)
    (StepAs client (mine_back start (others ++ es) client) start s.trying.loader.shard s.trying.step version)
    (MergedAs start s.trying.loader.shard member token version)
    (merged_by client (mine_back start (others ++ es) client) start s.trying.loader.shard s.trying.step member token version left right merged step)
    (command_entries client s e (others ++ es)) (once.once lt)
