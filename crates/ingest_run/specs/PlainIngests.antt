-- What one writer alone would print for a feed of ingest: by the plain collection alone.
use Rattle.std.specs.Prelude.{ℕ, Option, Some, None, List}
use Rattle.update_core.specs.declared.appends.FeedAppend.{FeedAppend}
use Rattle.appends_core.specs.Feeds.{from_upper}
use Rattle.crew_core.specs.Completing.{plain_after}
use Rattle.ingest_text.specs.declared.feeds.IngestFeed.{IngestFeed}
use Rattle.plain_run.specs.PlainRuns.{View, plain_run, view_since, view_with}

-- the view after the feed's since, where it has one
abbrev pub since_done : View → Option ℕ → View
since_done view None = view
since_done view (Some to) = view_since view to

-- the view after these appends from its upper on, as one writer makes them in order
abbrev pub appends_done : View → List FeedAppend → View
appends_done view appends = view_with view (plain_after view.collection (from_upper view.collection.upper appends))

-- the view after the feed's since and its appends
abbrev pub view_made : View → IngestFeed → View
view_made view feed = appends_done (since_done view feed.since) feed.appends

-- and then the replies to its questions
abbrev pub plain_ingest : View → IngestFeed → List ℕ
plain_ingest view feed = plain_run (view_made view feed) feed.queries
