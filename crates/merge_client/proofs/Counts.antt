-- What a compactor counts goes on. Entries go newest first.
use Rattle.std.proofs.Common.{◌≡◌, ℕ, ◌<◌, ◌≤◌, Option, Some, None, List, [], ◌∷◌, ◌++◌, length, take, inl, inr, refl, sym, ap, subst, ◌∙◌}
use Rattle.update_core.specs.declared.updates.Update.{Update}
use Rattle.store_core.specs.declared.part_keys.PartKey.{PartKey}
use Rattle.store_core.specs.declared.entries.Entry.{Entry}
use Rattle.store_core.specs.Histories.{reply}
use Rattle.store_core.specs.Stores.{Stored}
use Rattle.store_core.specs.Ports.{Answered, OfOthers, answered}
use Rattle.store_core.specs.Newest.{mine_back, replay_back}
use Rattle.history_core.specs.Discipline.{GotAs, Hold}
use Rattle.history_core.proofs.Gaining.{mine_gained, mine_others}
use Rattle.load_core.specs.declared.gettings.Getting.{Getting}
use Rattle.load_core.proofs.Following.{hold_on}
use Rattle.read_machine.specs.declared.courses.Course.{Course}
use Rattle.read_machine.specs.declared.stages.Stage.{Stage}
use Rattle.read_machine.specs.declared.stages.Stage.TheVariants as stages
use Rattle.merge_client.specs.declared.compactors.Compactor.{Compactor}
use Rattle.merge_client.specs.declared.pair_bounds.PairBound.{PairBound}
use Rattle.merge_client.specs.Fitting.{bound_at}
use Rattle.merge_client.specs.Following.{Counts, CountsBy}

-- with more own entries
pub counts_more : (o : Answered) (own : List Answered) (n : ℕ) (g : Getting) (b : Option PairBound) → CountsBy own n g b →
    CountsBy (o ∷ own) n g b
counts_more o own n g None h = tt
counts_more o own n g (Some b) h = λ past. let (rows, held, is) = h past in
    (rows, hold_on (GotAs own) (GotAs (o ∷ own)) (λ k x a. inr a) (take b.parts g.keys) rows held, is)

-- past entries of others
pub counts_past : (client : ℕ) (start : Stored) (others es : List Entry) → OfOthers client others → (c : Compactor) →
    Counts (mine_back start es client) c → Counts (mine_back start (others ++ es) client) c
counts_past client start others es of c h = subst (λ (os : List Answered). Counts os c) (sym (mine_others start client others es of)) h

-- with one more of its own
pub counts_gained : (client : ℕ) (start : Stored) (e : Entry) (others es : List Entry) → e.client ≡ client → OfOthers client others →
    (n : ℕ) (g : Getting) (b : Option PairBound) → CountsBy (mine_back start es client) n g b →
    CountsBy (mine_back start (e ∷ (others ++ es)) client) n g b
counts_gained client start e others es own of n g b h =
    subst (λ (os : List Answered). CountsBy os n g b) (sym (mine_gained start client e others es own of))
    (counts_more (answered e (reply (replay_back start (others ++ es)) e)) (mine_back start es client) n g b h)

-- where nothing is known nothing is counted
pub unknown_counts : (own : List Answered) (n : ℕ) (k : Course) (stage : Stage) → k.loader.cached ≡ None →
    CountsBy own n k.getting (bound_at k stage)
unknown_counts own n k stages.Scan none = tt
unknown_counts own n k stages.Get none = rw none tt
unknown_counts own n k (stages.Check key) none = tt
