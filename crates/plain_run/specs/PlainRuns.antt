-- Plain runs: the replies to a feed, by the plain collection alone.
use Rattle.std.specs.Prelude.{ℕ, ◌+◌, Option, Some, None, List, [], ◌∷◌, ◌&&◌, Bool, not, nat_le, min, position, if◌then◌else◌}
use Rattle.std.specs.List.{flat_map}
use Rattle.update_core.specs.declared.appends.FeedAppend.{FeedAppend}
use Rattle.update_core.specs.declared.updates.Update.{Update}
use Rattle.update_core.specs.Collections.{Collection, empty_collection, AppendAnswer, accepted, mismatch, heavy, append_answer, after_append, SnapshotAnswer, content, early, late, snapshot_answer, ListenAnswer, behind, ended, quiet, step, listen_answer}
use Rattle.update_core.specs.Frontiers.{after, covers}
use Rattle.update_core.specs.Updates.{weight_of}
use Rattle.feed_text.specs.declared.feed_lines.FeedLine.{FeedLine}
use Rattle.feed_text.specs.declared.feed_lines.FeedLine.TheVariants.{Append, Snapshot, Listen, Since, Compact}
use Rattle.feed_text.specs.declared.replies.RunReply.{RunReply}
use Rattle.feed_text.specs.declared.replies.RunReply.TheVariants as replies
use Rattle.feed_text.specs.Replies.{reply_text}

-- what a run starts from: a collection, the since of the run's own reader, and the sinces of the other readers that stand
pub record View : Type 0 where
  pub collection : Collection
  pub own : ℕ
  pub readers : List ℕ

abbrev pub empty_view : View
empty_view = record { collection = empty_collection; own = 0; readers = [] }

-- the time is outside the append's range
abbrev pub is_outside : FeedAppend → Update → Bool
is_outside a u = not (nat_le a.lower u.time && covers a.upper u.time)

-- what the collection answers to an append, as a reply
abbrev pub append_text : AppendAnswer → RunReply
append_text accepted = replies.Accepted
append_text (mismatch upper) = replies.Mismatch upper
append_text (heavy weight) = replies.Heavy weight

abbrev pub snapshot_text : SnapshotAnswer → RunReply
snapshot_text (content rows) = replies.Rows rows
snapshot_text (early since) = replies.Early since
snapshot_text (late upper) = replies.Late upper

-- what it answers to a listen, as a reply
abbrev pub listen_text : ListenAnswer → RunReply
listen_text (behind since) = replies.Early since
listen_text ended = replies.Ended
listen_text (quiet upper) = replies.Quiet upper
listen_text (step updates upper) = replies.Step updates upper

-- Where a row is outside, the first one is the reply, counted from 1; else the collection answers.
abbrev pub ranged_reply : Option ℕ → Collection → FeedAppend → RunReply
ranged_reply (Some row) c a = replies.Range (row + 1)
ranged_reply None c a = append_text (append_answer c a.lower (weight_of a.rows))

abbrev pub ranged_after : Option ℕ → Collection → FeedAppend → Collection
ranged_after (Some row) c a = c
ranged_after None c a = after_append c a.rows a.lower a.upper (weight_of a.rows)

-- An append whose upper doesn't cover its lower is empty.
abbrev pub append_reply : Collection → FeedAppend → RunReply
append_reply c a = if covers a.upper a.lower then ranged_reply (position (is_outside a) a.rows) c a else replies.Empty

abbrev pub collection_after : Collection → FeedAppend → Collection
collection_after c a = if covers a.upper a.lower then ranged_after (position (is_outside a) a.rows) c a else c

-- the view with another collection
abbrev pub view_with : View → Collection → View
view_with view c = record { collection = c; own = view.own; readers = view.readers }

-- A new since of the reader with this one is accepted exactly where it isn't below.
abbrev pub since_reply : ℕ → ℕ → RunReply
since_reply own to = if nat_le own to then replies.Accepted else replies.Back own

-- the least of a since and those of readers
abbrev pub least_of : ℕ → List ℕ → ℕ
least_of since [] = since
least_of since (reader ∷ readers) = min reader (least_of since readers)

-- the own reader has this since, and the collection's is the least of all
abbrev pub with_own : View → ℕ → View
with_own view to = record { collection = record view.collection { since = least_of to view.readers }; own = to; readers = view.readers }

-- The view after a new since of the own reader; one that is below changes nothing.
abbrev pub view_since : View → ℕ → View
view_since view to = if nat_le view.own to then with_own view to else view

-- a collection that has no reader but the run's own, after its new since
abbrev pub collection_since : Collection → ℕ → Collection
collection_since c to = if nat_le c.since to then record c { since = to } else c

-- the reply to a command, and the view after it
abbrev pub reply_to : View → FeedLine → RunReply
reply_to view (Append a) = append_reply view.collection a
reply_to view (Snapshot t) = snapshot_text (snapshot_answer view.collection t)
reply_to view (Listen t) = listen_text (listen_answer view.collection (after t))
reply_to view (Since to) = since_reply view.own to
reply_to view Compact = replies.Accepted

abbrev pub view_after : View → FeedLine → View
view_after view (Append a) = view_with view (collection_after view.collection a)
view_after view (Snapshot t) = view
view_after view (Listen t) = view
view_after view (Since to) = view_since view to
view_after view Compact = view

-- the replies to the commands in turn
abbrev pub plain_replies : View → List FeedLine → List RunReply
plain_replies view [] = []
plain_replies view (line ∷ lines) = reply_to view line ∷ plain_replies (view_after view line) lines

-- the view after them
abbrev pub plain_end : View → List FeedLine → View
plain_end view [] = view
plain_end view (line ∷ lines) = plain_end (view_after view line) lines

-- the text of a plain run
abbrev pub plain_run : View → List FeedLine → List ℕ
plain_run view lines = flat_map reply_text (plain_replies view lines)
