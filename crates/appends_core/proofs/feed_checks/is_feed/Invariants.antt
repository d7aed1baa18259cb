use Rattle.std.proofs.Common.{◌↔◌, drop}
use Rattle.appends_core.proofs.FeedSteps.{AreLeft}
use Rattle.appends_core.specs.Feeds.{IsFeed}
use Rattle.appends_core.proofs.feed_checks.is_feed.Given as goal

abbrev pub invariant-loop-append : goal.invariant-loop-append
invariant-loop-append l = IsFeed l.appends ↔ AreLeft l.upper l.left (drop l.append-index l.appends)
