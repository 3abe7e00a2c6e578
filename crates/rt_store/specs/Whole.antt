-- What happens to a whole store: a crash, an admission, and a snapshot.
use Rattle.std.specs.Prelude.{ℕ, List, map, Option, None, Some}
use Rattle.rt_base.specs.declared.choice.Choice.{Choice}
use Rattle.rt_store.specs.declared.faults.FaultConfig.{FaultConfig}
use Rattle.rt_store.specs.Crash.{all_crashed}
use Rattle.rt_store.specs.Directory.{named_numbers, number_of}
use Rattle.rt_store.specs.File.{FileState, synced, closed}
use Rattle.rt_store.specs.Kept.{Kept}
use Rattle.rt_store.specs.Store.{StoreState, at_place}

-- a crash decided over the changes of all blobs that have a name, in the order of partitions and names
abbrev pub after_crash : StoreState → List Choice → StoreState
after_crash s cs = record s { files = all_crashed (named_numbers s.directory) cs s.files }

-- all changes of the blob of a name are durable, where it is there
abbrev pub admitted_at : List FileState → Option ℕ → List FileState
admitted_at files None = files
admitted_at files (Some n) = at_place files n synced

abbrev pub after_admit : StoreState → List ℕ → List ℕ → StoreState
after_admit s partition name = record s { files = admitted_at s.files (number_of partition name s.directory) }

-- no token is live; the number of the next one stays, so that none of them comes again
abbrev pub snapshot_of : StoreState → StoreState
snapshot_of s = record s { files = map closed s.files }

-- a store of a snapshot: nothing was refused in it yet
abbrev pub store_of : StoreState → FaultConfig → Kept
store_of s faults = record { state = s; faults = faults; injected = 0; refusals = 0 }
