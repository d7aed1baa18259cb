-- What a client's own entries say of a compactor. Entries go newest first.
use Rattle.std.specs.Prelude.{⊤, ◌≡◌, ◌⊎◌, ℕ, ◌<◌, ◌≤◌, ◌+◌, Option, Some, None, IfSome, IsSomeAnd, List, [], ◌++◌, length, take}
use Rattle.std.specs.List.{AllByRecursion}
use Rattle.update_core.specs.declared.updates.Update.{Update}
use Rattle.store_core.specs.declared.shards.ShardId.{ShardId}
use Rattle.store_core.specs.declared.calls.Call.{Call}
use Rattle.store_core.specs.declared.entries.Entry.{Entry}
use Rattle.store_core.specs.Histories.{History}
use Rattle.store_core.specs.Stores.{Stored}
use Rattle.store_core.specs.Ports.{Answered}
use Rattle.store_core.specs.Newest.{mine_back}
use Rattle.state_core.specs.declared.kinds.Kind.TheVariants.{Keeper}
use Rattle.state_core.specs.declared.members.Member.{Member}
use Rattle.state_core.specs.declared.transitions.Transition.{Transition}
use Rattle.state_core.specs.declared.transitions.Transition.TheVariants.{Join, Leave, Renew}
use Rattle.state_core.specs.Lists.{Among}
use Rattle.state_core.specs.Refusals.{member_of}
use Rattle.state_core.specs.States.{ShardState}
use Rattle.update_core.specs.Limits.{most}
use Rattle.history_core.specs.declared.asked.Asked.{Asked}
use Rattle.history_core.specs.declared.asked.Asked.TheVariants as asks
use Rattle.history_core.specs.Discipline.{GotAs, Hold, ShowsState}
use Rattle.history_core.specs.Placing.{places}
use Rattle.history_core.specs.Upkeep.{TriesMerge}
use Rattle.load_core.specs.declared.gettings.Getting.{Getting}
use Rattle.load_core.specs.declared.nexts.Next.{Next}
use Rattle.load_core.specs.declared.nexts.Next.TheVariants as nexts
use Rattle.load_core.specs.Following.{FollowsTrying}
use Rattle.load_core.specs.Fronts.{Backwards, WhereLawful}
use Rattle.merge_core.specs.declared.drafts.MergeDraft.{MergeDraft}
use Rattle.merge_core.specs.Drafting.{IsDraft}
use Rattle.read_machine.specs.declared.looks.Look.TheVariants as looks
use Rattle.read_machine.specs.Following.{IsRead}
use Rattle.read_machine.specs.Readings as readings
use Rattle.token_machine.specs.Following.{Draws, FollowsStoring, UsesToken}
use Rattle.merge_client.specs.declared.compactors.Compactor.{Compactor}
use Rattle.merge_client.specs.declared.dues.Due.{Due}
use Rattle.merge_client.specs.declared.pair_bounds.PairBound.{PairBound}
use Rattle.merge_client.specs.declared.pairs.Pair.{Pair}
use Rattle.merge_client.specs.Finding.{IsDueIn, finding, look_by, places_in}
use Rattle.merge_client.specs.Fitting.{bound_at}
use Rattle.merge_client.specs.Merging.{owner, shard_of}

-- ---- a merge

-- the command's calls were Scans and Gets, and its token wasn't used yet
pub record OnlyReads (client member : ℕ) (c : Compactor) (start : Stored) (es : List Entry) : Type 0 where
  pub reads : c.storing.trying.calls < most → AllByRecursion (λ p. IsRead p.entry.call) (places client c.storing.trying.calls es)
  pub fresh : ¬ Among (λ o. UsesToken (shard_of c) member c.token o.entry.call) (mine_back start es client)

-- The pair is the one that is due in a state that was shown, its parts were got, and their rows are no more than it says. There the
-- member stands as a keeper, with a lower token.
pub record IsPairOf (shard : ShardId) (member token : ℕ) (own : List Answered) (p : Pair) (s : ShardState) : Type 0 where
  pub shown : ShowsState own shard s.number s
  pub due : IsDueIn p s
  pub keys : look_by s (places_in s) ≡ looks.Parts (p.left.parts ++ p.right.parts)
  pub got : Hold (GotAs own) (p.left.parts ++ p.right.parts) p.rows
  pub few : length p.rows ≤ p.left.rows + p.right.rows
  pub found : Member
  pub found_is : member_of member s.members ≡ Some found
  pub kind : found.kind ≡ Keeper
  pub lower : found.token < token

-- the pair that is due is read
pub record FollowsRead (client : ℕ) (c : Compactor) (start : Stored) (es : List Entry) (member : ℕ) : Type 0 where
  pub reading : readings.Follows finding client c.reading start es
  pub member_is : c.reading.course.member ≡ member
  pub calls : c.reading.course.calls ≡ c.storing.trying.calls
  pub so_far : OnlyReads client member c start es

-- it is got, and not drafted yet
pub record FollowsGot (client : ℕ) (c : Compactor) (start : Stored) (es : List Entry) (member : ℕ) (p : Pair) : Type 0 where
  pub state : ShardState
  pub known : c.storing.trying.loader.cached ≡ Some state
  pub pair : IsPairOf (shard_of c) member c.token (mine_back start es client) p state
  pub called : 0 < c.storing.trying.calls
  pub so_far : OnlyReads client member c start es

-- where a Scan comes next the merge was tried, or the state that named the pair is the newest and has the last number
abbrev pub WasTried : ℕ → Compactor → List Entry → ℕ → Pair → ShardState → Next → Type 0
WasTried client c es member p s nexts.Scan =
    (c.storing.trying.calls < most → Among (λ q. TriesMerge (shard_of c) member c.token p.left p.right q.entry.call)
    (places client c.storing.trying.calls es)) ⊎ ((c.storing.trying.loader.cached ≡ Some s) × (s.number ≡ most))
WasTried client c es member p s (nexts.Cas r) = ⊤
WasTried client c es member p s nexts.Attempt = ⊥

-- its draft is tried, under the token that was drawn
pub record FollowsDraft (client : ℕ) (c : Compactor) (start : Stored) (es : List Entry) (member : ℕ) : Type 0 where
  pub state : ShardState
  pub of_pair : Pair
  pub draft : MergeDraft
  pub pair : IsPairOf (shard_of c) member c.token (mine_back start es client) of_pair state
  pub is_draft : IsDraft (owner c) of_pair.left of_pair.right of_pair.since of_pair.rows draft
  pub step : c.storing.trying.step ≡ draft.step
  pub keys : c.storing.setting.keys ≡ draft.setting.keys
  pub parts : c.storing.setting.parts ≡ draft.setting.parts
  pub called : 0 < c.storing.trying.calls
  pub storing : FollowsStoring client member c.token c.storing start es
  pub tried : WasTried client c es member of_pair state c.storing.trying.next

-- by what is read, and by what is got
abbrev pub FollowsMerge : ℕ → Compactor → Stored → List Entry → ℕ → Option Due → Option Pair → Type 0
FollowsMerge client c start es member (Some q) pair = FollowsRead client c start es member
FollowsMerge client c start es member None (Some p) = FollowsGot client c start es member p
FollowsMerge client c start es member None None = FollowsDraft client c start es member

-- ---- a compactor

-- what is tried of its own member, without parts
pub record Tries (c : Compactor) (x : Transition) : Type 0 where
  pub step : c.storing.trying.step ≡ x
  pub no_keys : c.storing.setting.keys ≡ []
  pub undrafted : c.pair ≡ None

-- what the open command needs
abbrev pub FollowsAsked : ℕ → Compactor → Stored → List Entry → Option Asked → Type 0
FollowsAsked client c start es None = c.pair ≡ None
FollowsAsked client c start es (Some (asks.OpenCompactor shard now lease)) = (shard ≡ shard_of c) × Tries c (Join Keeper now lease)
FollowsAsked client c start es (Some asks.Merge) =
    IsSomeAnd c.member (λ member. (0 < c.token) × FollowsMerge client c start es member c.reading.asked c.pair)
FollowsAsked client c start es (Some (asks.RenewCompactor now)) = IsSomeAnd c.member (λ member. Tries c (Renew member now))
FollowsAsked client c start es (Some asks.CloseCompactor) = IsSomeAnd c.member (λ member. Tries c (Leave member))
FollowsAsked client c start es (Some _) = ⊥

-- Once a part of the right batch is got, the rows of the left one's parts are counted, as the client got them.
abbrev pub CountsBy : List Answered → ℕ → Getting → Option PairBound → Type 0
CountsBy own n g None = ⊤
CountsBy own n g (Some b) =
    b.parts < g.place → (rows : List Update) × Hold (GotAs own) (take b.parts g.keys) rows × (length rows ≡ n)

abbrev pub Counts : List Answered → Compactor → Type 0
Counts own c = CountsBy own c.left_rows c.reading.course.getting (bound_at c.reading.course c.reading.course.stage)

-- a compactor follows from its client's own entries, but for the rows that it counts
pub record Follows (client : ℕ) (c : Compactor) (start : Stored) (es : List Entry) : Type 0 where
  pub trying : FollowsTrying c.storing.trying (mine_back start es client)
  pub member : IfSome c.member (λ member. Draws Keeper (shard_of c) member c.token (mine_back start es client))
  pub asked : FollowsAsked client c start es c.asked

-- and for these too
pub record FollowsAll (client : ℕ) (c : Compactor) (start : Stored) (es : List Entry) : Type 0 where
  pub follows : Follows client c start es
  pub counts : Counts (mine_back start es client) c

-- the same over a front, where it is told, lawful and from a start that stands for a list
abbrev pub FollowsWhere : ℕ → Option History → Compactor → Type 0
FollowsWhere client front c = WhereLawful (shard_of c) front (Backwards (λ start es list. FollowsAll client c start es))

-- a call that uses no token of the compactor's member above the last one drawn
abbrev pub Spares : Compactor → Call → Type 0
Spares c call = IfSome c.member (λ member. (token : ℕ) → c.token < token → ¬ UsesToken (shard_of c) member token call)
