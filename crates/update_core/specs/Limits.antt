-- The limits of what a collection holds.
use Rattle.std.specs.Prelude.{ℕ, ◌^◌}

-- the weight of a shard, and of the rows of one command
abbrev pub max_weight : ℕ
max_weight = 2 ^ 62

-- the rows of an append
abbrev pub max_rows : ℕ
max_rows = 65536

-- the rows of a part
abbrev pub max_part_rows : ℕ
max_part_rows = 4096

-- the members of a shard
abbrev pub max_members : ℕ
max_members = 256

-- the greatest number in eight bytes: of a version, a member, a token
abbrev pub most : ℕ
most = 0xffff_ffff_ffff_ffff
