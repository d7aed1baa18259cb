-- What a client's own entries say of a reader. Entries go newest first.
use Rattle.std.specs.Prelude.{ℕ, Option, IfSome, List}
use Rattle.store_core.specs.declared.entries.Entry.{Entry}
use Rattle.store_core.specs.Histories.{History}
use Rattle.store_core.specs.Stores.{Stored}
use Rattle.store_core.specs.Newest.{mine_back}
use Rattle.state_core.specs.declared.kinds.Kind.TheVariants.{Reader as AsReader}
use Rattle.history_core.specs.Members.{JoinedAs}
use Rattle.load_core.specs.Following.{FollowsTrying}
use Rattle.load_core.specs.Fronts.{Backwards, WhereLawful}
use Rattle.read_machine.specs.Readings as readings
use Rattle.read_client.specs.declared.readers.Reader.{Reader}
use Rattle.read_client.specs.Asking.{asking}
use Rattle.read_client.specs.Reading.{question, shard_of}

-- a reader follows from its client's own entries: its member was joined by the client as a reader
pub record Follows (client : ℕ) (r : Reader) (start : Stored) (es : List Entry) : Type 0 where
  pub trying : FollowsTrying r.trying (mine_back start es client)
  pub member : IfSome r.member (JoinedAs AsReader (mine_back start es client) (shard_of r))
  pub reading : IfSome (question r) (λ q. readings.Follows asking client r.reading start es)

-- the same over a front, where it is told, lawful and from a start that stands for a list
abbrev pub FollowsWhere : ℕ → Option History → Reader → Type 0
FollowsWhere client front r = WhereLawful (shard_of r) front (Backwards (λ start es list. Follows client r start es))
