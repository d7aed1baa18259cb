-- What a walk in memory has seen.
use Rattle.store_core.specs.Contents.{blobs_of}
use Rattle.history_core.specs.declared.walks.Walk.{Walk}
use Rattle.history_core.specs.Walks.{Walked}

abbrev pub walked_of : Walk → Walked
walked_of w = record { last = w.last; blobs = blobs_of w.blobs; rows = w.rows }
