-- Readers between commands.
use Rattle.std.specs.Prelude.{◌≡◌, ℕ, Option, None}
use Rattle.store_core.specs.declared.shards.ShardId.{ShardId}
use Rattle.store_core.specs.Histories.{History}
use Rattle.read_client.specs.declared.readers.Reader.{Reader}
use Rattle.read_client.specs.Following.{FollowsWhere}
use Rattle.read_client.specs.Reading.{IsSound, shard_of}

-- a reader of the shard between commands, which follows as this client; it may have joined or not
pub record IsIdle (here : ShardId) (client : ℕ) (front : Option History) (r : Reader) : Type 0 where
  pub shard : shard_of r ≡ here
  pub sound : IsSound r
  pub follows : FollowsWhere client front r
  pub free : r.asked ≡ None
