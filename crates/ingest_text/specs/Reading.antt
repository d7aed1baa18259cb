-- What a reader of a feed counts besides what was said, and what it answers of a line.
use Rattle.std.specs.Prelude.{◌≡◌, ℕ, ◌+◌, ◌≤◌, Option, Some, None}
use Rattle.update_core.specs.declared.appends.FeedAppend.{FeedAppend}
use Rattle.update_core.specs.Updates.{weight_of}
use Rattle.appends_core.specs.Feeds.{end_of_feed, weight_of_all}
use Rattle.feed_text.specs.declared.limits.TheConstants.{MAX_COMMANDS}
use Rattle.ingest_text.specs.declared.feeds.Said.{Said}
use Rattle.ingest_text.specs.declared.counts.Counts.{Counts}
use Rattle.ingest_text.specs.declared.counts.SoFar.{SoFar}
use Rattle.ingest_text.specs.declared.limits.TheConstants.{MAX_LISTENS, MAX_WEIGHT}
use Rattle.ingest_text.specs.Feeds.{commands_in, listens_in}

-- the block that is open as a command, and its weight
abbrev pub open_count : Option FeedAppend → ℕ
open_count None = 0
open_count (Some a) = 1

abbrev pub open_weight : Option FeedAppend → ℕ
open_weight None = 0
open_weight (Some a) = weight_of a.rows

-- where the appends end, what all rows weigh, and how many listens and commands there are
pub record IsCounted (s : Said) (c : Counts) : Type 0 where
  pub end : c.end ≡ end_of_feed s.feed.appends
  pub weight : c.weight ≡ weight_of_all s.feed.appends + open_weight s.block
  pub light : c.weight ≤ MAX_WEIGHT
  pub listens : c.listens ≡ listens_in s.feed.queries
  pub few_listens : c.listens ≤ MAX_LISTENS
  pub commands : c.commands ≡ commands_in s.feed + open_count s.block
  pub few_commands : c.commands ≤ MAX_COMMANDS

-- what is answered where something may be done: that it may and what is then said, or that it mayn't
abbrev pub Does : Type 0 → Said → Option SoFar → Type 0
Does May t None = May → ⊥
Does May t (Some x) = May × (x.said ≡ t) × IsCounted x.said x.counts

-- what is answered of a line: what it takes the feed to, or that nothing takes it
abbrev pub Answers : (Said → Type 0) → Option SoFar → Type 0
Answers P None = (t : Said) → P t → ⊥
Answers P (Some x) = P x.said × IsCounted x.said x.counts
