-- What an entry of a lawful history does to a shard, and what Scans show that allow a Delete and a Truncate.
use Rattle.std.proofs.Common.{◌≡◌, ℕ, ◌≤◌, true, List, [], ◌∷◌, inl, inr, refl, subst, ◌∙◌, Some, None, Option}
use Rattle.state_core.specs.Lists.{Among}
use Rattle.store_core.specs.declared.shards.ShardId.{ShardId}
use Rattle.store_core.specs.declared.part_keys.PartKey.{PartKey}
use Rattle.store_core.specs.declared.versions.Version.{Version}
use Rattle.store_core.specs.declared.calls.Call.{Call}
use Rattle.store_core.specs.declared.calls.Call.TheVariants as calls
use Rattle.store_core.specs.declared.replies.Reply.{Reply}
use Rattle.store_core.specs.declared.replies.Reply.TheVariants as replies
use Rattle.store_core.specs.declared.entries.Entry.{Entry}
use Rattle.store_core.specs.Changes.{commits}
use Rattle.store_core.specs.Stores.{Log, Stored, committed, truncated}
use Rattle.store_core.specs.Ports.{Answered}
use Rattle.store_core.specs.Newest.{replay_back, mine_back}
use Rattle.state_core.specs.declared.transitions.Transition.{Transition}
use Rattle.state_core.specs.States.{ShardState, floor}
use Rattle.state_core.specs.Steps.{Takes}
use Rattle.version_codec.specs.Reading.{version_in}
use Rattle.history_core.specs.Histories.{version_at, took_effect, Told, Shows, ever}
use Rattle.history_core.specs.Discipline.{TakesIn, TakenUpTo, NewestIs, IsScanTaking, IsScanCovering, Allows, LawfulBack}
use Rattle.history_core.specs.Stands.{VersionIs, StateIn, TakenIn}
use Rattle.history_core.proofs.Entries.{LogStep, idle, cuts, adds, log_step, lawful_newest}
use Rattle.history_core.proofs.Versions.{ever_on, live, shows_ever}
use Rattle.history_core.proofs.Chains.{version_is, bytes_of}
use Rattle.history_core.proofs.Owners.{CommitBy, CommitsFirst, commit_of}

-- what an entry of a lawful history does to the shard's versions, live and ever
pub data Turn (start : Stored) (shard : ShardId) (e : Entry) (es : List Entry) : Type 0 where
  still : ever start shard (e ∷ es) ≡ ever start shard es → live start shard (e ∷ es) ≡ live start shard es →
      Turn start shard e es
  shorter : (below : ℕ) → e.call ≡ calls.Truncate shard below → ever start shard (e ∷ es) ≡ ever start shard es →
      live start shard (e ∷ es) ≡ truncated (live start shard es) below → Turn start shard e es
  begins : (expected : Option ℕ) (bytes : List ℕ) → e.call ≡ calls.Cas shard expected bytes →
      CommitsFirst shard (ever start shard es) expected bytes →
      ever start shard (e ∷ es) ≡ committed (ever start shard es) bytes → live start shard (e ∷ es) ≡ committed (live start shard es) bytes → Turn start shard e es
  grows : (expected : Option ℕ) (bytes : List ℕ) → e.call ≡ calls.Cas shard expected bytes → took_effect e.outcome ≡ true →
      commits (live start shard es) expected ≡ true →
      CommitBy (mine_back start es e.client) shard (ever start shard es) expected bytes →
      ever start shard (e ∷ es) ≡ committed (ever start shard es) bytes → live start shard (e ∷ es) ≡ committed (live start shard es) bytes → Turn start shard e es

pub turn : (start : Stored) (shard : ShardId) → ((start.logs shard).versions ≡ [] → (start.logs shard).first ≡ 0) →
    (e : Entry) (es : List Entry) → LawfulBack start (e ∷ es) → Turn start shard e es
turn start shard z e es l = go (log_step shard (replay_back start es) e.call e.outcome)
  where
    go : LogStep shard (replay_back start es) e.call e.outcome → Turn start shard e es
    go (idle q g) = still (g (ever start shard es)) q
    go (cuts below c q g) = shorter below c (g (ever start shard es)) q
    go (adds expected bytes c t k q g) =
        elim (commit_of start shard z es e.client expected bytes k (subst (Allows (mine_back start es e.client)) c (lawful_newest start e es l))) [
          | inl f ↦ begins expected bytes c f (g (ever start shard es)) q
          | inr b ↦ grows expected bytes c t k b (g (ever start shard es)) q
        ]

pub version_ever_on : (start : Stored) (shard : ShardId) (e : Entry) (es : List Entry) (n : ℕ) (s : ShardState)
    (x : Transition) → VersionIs shard (ever start shard es) n s x → VersionIs shard (ever start shard (e ∷ es)) n s x
version_ever_on start shard e es n s x h =
    let (b, there, reads) = bytes_of shard (ever start shard es) n s x h in
    version_is shard (ever start shard (e ∷ es)) n b s x (ever_on start shard e es n b there) reads

-- what a version takes it goes on to take
pub taken_ever_on : (start : Stored) (shard : ShardId) (e : Entry) (es : List Entry) (n : ℕ) (k : PartKey) →
    TakenIn shard (ever start shard es) n k → TakenIn shard (ever start shard (e ∷ es)) n k
taken_ever_on start shard e es n k t = (t.0, t.1, version_ever_on start shard e es n t.0 t.1 t.2, t.3)

newest_among : (shard : ShardId) (vs : List Version) (s : ShardState) → NewestIs shard vs s →
    (n : ℕ) × (b : List ℕ) × (x : Transition) × Among (λ v. (v.number ≡ n) × (v.bytes ≡ b)) vs × (version_in shard n b ≡ Some (s, x))
newest_among shard [] s h = absurd h
newest_among shard (v ∷ []) s h = (v.number, v.bytes, h.0, inl (refl, refl), h.1)
newest_among shard (v ∷ w ∷ vs) s h =
    let (n, b, x, among, reads) = newest_among shard (w ∷ vs) s h in (n, b, x, inr among, reads)

taken_among : (shard : ShardId) (top : ℕ) (vs : List Version) (k : PartKey) → TakenUpTo shard top vs k →
    (n : ℕ) × (b : List ℕ) × Among (λ v. (v.number ≡ n) × (v.bytes ≡ b)) vs × (n ≤ top) × TakesIn (version_in shard n b) k
taken_among shard top [] k h = absurd h
taken_among shard top (v ∷ vs) k (inl h) = (v.number, v.bytes, inl (refl, refl), h.0, h.1)
taken_among shard top (v ∷ vs) k (inr h) = let (n, b, among, le, t) = taken_among shard top vs k h in (n, b, inr among, le, t)

takes-of : (o : Option (ShardState × Transition)) (k : PartKey) → TakesIn o k →
    (s : ShardState) × (x : Transition) × (o ≡ Some (s, x)) × Takes x k
takes-of (Some (s, x)) k h = (s, x, refl, h)
takes-of None k h = absurd h

-- what a scan that takes a key shows
pub record Shown (shard : ShardId) (k : PartKey) (log : Log) : Type 0 where
  pub n : ℕ
  pub m : ℕ
  pub s : ShardState
  pub taken : TakenIn shard log n k
  pub state : StateIn shard log m s
  pub low : n ≤ floor s

shown-by : (shard : ShardId) (k : PartKey) (log : Log) (call : Call) (r : Reply) → k.shard ≡ shard →
    ((n : ℕ) (b : List ℕ) → Told shard n b call r → version_at log n ≡ Some b) → IsScanTaking k call r → Shown shard k log
shown-by shard k log (calls.Scan q from) (replies.Versions vs) e there h =
    let here : q ≡ shard = h.0 ∙ e in
    let (s, newest, taken) = h.1 in
    let newest2 = subst (λ (a : ShardId). NewestIs a vs s) here newest in
    let taken2 = subst (λ (a : ShardId). TakenUpTo a (floor s) vs k) here taken in
    let (m, b, x, among, reads) = newest_among shard vs s newest2 in
    let (n, b2, among2, le, takes) = taken_among shard (floor s) vs k taken2 in
    let (t, y, reads2, takes2) = takes-of (version_in shard n b2) k takes in
    record {
      n = n;
      m = m;
      s = s;
      taken = (t, y, version_is shard log n b2 t y (there n b2 (here, among2)) reads2, takes2);
      state = (x, version_is shard log m b s x (there m b (here, among)) reads);
      low = le;
    }
shown-by shard k log (calls.Scan q from) (replies.Version v) e there h = absurd h
shown-by shard k log (calls.Scan q from) (replies.Committed v) e there h = absurd h
shown-by shard k log (calls.Scan q from) replies.Mismatch e there h = absurd h
shown-by shard k log (calls.Scan q from) replies.Spent e there h = absurd h
shown-by shard k log (calls.Scan q from) replies.Truncated e there h = absurd h
shown-by shard k log (calls.Scan q from) (replies.Bytes v) e there h = absurd h
shown-by shard k log (calls.Scan q from) replies.Stored e there h = absurd h
shown-by shard k log (calls.Scan q from) replies.Deleted e there h = absurd h
shown-by shard k log (calls.Scan q from) replies.Failed e there h = absurd h
shown-by shard k log (calls.Head q) r e there h = absurd h
shown-by shard k log (calls.Cas q x b) r e there h = absurd h
shown-by shard k log (calls.Truncate q x) r e there h = absurd h
shown-by shard k log (calls.Get q) r e there h = absurd h
shown-by shard k log (calls.Set q b) r e there h = absurd h
shown-by shard k log (calls.Delete q) r e there h = absurd h

-- what allows a Delete: the key was taken at a version not above a floor that was
pub delete_shown : (start : Stored) (shard : ShardId) → ((start.logs shard).versions ≡ [] → (start.logs shard).first ≡ 0) →
    (es : List Entry) (c : ℕ) (k : PartKey) → k.shard ≡ shard →
    Allows (mine_back start es c) (calls.Delete k) → Shown shard k (ever start shard es)
delete_shown start shard z es c k e h = go (mine_back start es c) (λ n b g. shows_ever start shard z es c n b g) h
  where
    go : (own : List Answered) → ((n : ℕ) (b : List ℕ) → Shows own shard n b → version_at (ever start shard es) n ≡ Some b) →
        Among (λ o. IsScanTaking k o.entry.call o.reply) own → Shown shard k (ever start shard es)
    go [] there g = absurd g
    go (p ∷ ps) there (inl g) = shown-by shard k (ever start shard es) p.entry.call p.reply e (λ n b t. there n b (inl t)) g
    go (p ∷ ps) there (inr g) = go ps (λ n b t. there n b (inr t)) g

-- what allows a Truncate: its number isn't above a floor that was
pub record Covered (shard : ShardId) (below : ℕ) (log : Log) : Type 0 where
  pub m : ℕ
  pub s : ShardState
  pub state : StateIn shard log m s
  pub low : below ≤ floor s

covered-by : (own : List Answered) (shard : ShardId) (below : ℕ) (log : Log) (call : Call) (r : Reply) →
    ((n : ℕ) (b : List ℕ) → Told shard n b call r → version_at log n ≡ Some b) → IsScanCovering own shard below call r →
    Covered shard below log
covered-by own shard below log (calls.Scan q from) (replies.Versions vs) there h =
    let (s, newest, le, deleted) = h.2 in
    let (m, b, x, among, reads) = newest_among shard vs s newest in
    record { m = m; s = s; state = (x, version_is shard log m b s x (there m b (h.0, among)) reads); low = le }
covered-by own shard below log (calls.Scan q from) (replies.Version v) there h = absurd h
covered-by own shard below log (calls.Scan q from) (replies.Committed v) there h = absurd h
covered-by own shard below log (calls.Scan q from) replies.Mismatch there h = absurd h
covered-by own shard below log (calls.Scan q from) replies.Spent there h = absurd h
covered-by own shard below log (calls.Scan q from) replies.Truncated there h = absurd h
covered-by own shard below log (calls.Scan q from) (replies.Bytes v) there h = absurd h
covered-by own shard below log (calls.Scan q from) replies.Stored there h = absurd h
covered-by own shard below log (calls.Scan q from) replies.Deleted there h = absurd h
covered-by own shard below log (calls.Scan q from) replies.Failed there h = absurd h
covered-by own shard below log (calls.Head q) r there h = absurd h
covered-by own shard below log (calls.Cas q x b) r there h = absurd h
covered-by own shard below log (calls.Truncate q x) r there h = absurd h
covered-by own shard below log (calls.Get q) r there h = absurd h
covered-by own shard below log (calls.Set q b) r there h = absurd h
covered-by own shard below log (calls.Delete q) r there h = absurd h

pub truncate_covered : (start : Stored) (shard : ShardId) → ((start.logs shard).versions ≡ [] → (start.logs shard).first ≡ 0) →
    (es : List Entry) (c below : ℕ) →
    Allows (mine_back start es c) (calls.Truncate shard below) → Covered shard below (ever start shard es)
truncate_covered start shard z es c below h = go (mine_back start es c) (λ n b g. shows_ever start shard z es c n b g) h
  where
    go : (own : List Answered) → ((n : ℕ) (b : List ℕ) → Shows own shard n b → version_at (ever start shard es) n ≡ Some b) →
        Among (λ o. IsScanCovering (mine_back start es c) shard below o.entry.call o.reply) own →
        Covered shard below (ever start shard es)
    go [] there g = absurd g
    go (p ∷ ps) there (inl g) = covered-by (mine_back start es c) shard below (ever start shard es) p.entry.call p.reply (λ n b t. there n b (inl t)) g
    go (p ∷ ps) there (inr g) = go ps (λ n b t. there n b (inr t)) g
