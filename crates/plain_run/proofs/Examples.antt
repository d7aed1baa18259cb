-- Views at work, by computation.
use Rattle.std.proofs.Common.{◌≡◌, [], ◌∷◌, refl}
use Rattle.update_core.specs.Collections.{empty_collection}
use Rattle.feed_text.specs.declared.feed_lines.FeedLine.TheVariants.{Listen, Since}
use Rattle.feed_text.specs.declared.replies.RunReply.TheVariants as replies
use Rattle.plain_run.specs.PlainRuns.{View, reply_to, view_after}

-- a reader at 2 beside one at 3
abbrev shared : View
shared = record { collection = record empty_collection { since = 2 }; own = 2; readers = 3 ∷ [] }

abbrev moved : View
moved = view_after shared (Since 5)

moved_is_accepted : reply_to shared (Since 5) ≡ replies.Accepted
moved_is_accepted = refl

-- the collection's since is that of the other reader
moved_since : moved.collection.since ≡ 3
moved_since = refl

moved_own : moved.own ≡ 5
moved_own = refl

-- below the own since, and not below the collection's
moved_back : reply_to moved (Since 4) ≡ replies.Back 5
moved_back = refl

stays : view_after moved (Since 4) ≡ moved
stays = refl

early_from_the_since : reply_to moved (Listen 2) ≡ replies.Early 3
early_from_the_since = refl
