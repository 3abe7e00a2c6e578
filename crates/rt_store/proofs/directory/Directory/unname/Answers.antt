use Rattle.rt_store.proofs.Prelude.{◌≡◌, ◌<◌, Some, length, rules, slice_get, Partitions, at_name}
use Rattle.rt_store.proofs.Leading.{shelf_there, shelf_within, unnamed_is}
use Rattle.rt_store.proofs.directory.Directory.unname.Goals as goal

pub returns-in-Some : goal.returns-in-Some
returns-in-Some c =
    let d : Partitions = record { shelf = c.self.inside.partitions; shelves = c.self.inside.shelves.items } in
    let i = c.in-Some.shelf in
    let found : at_name c.args.partition.now d.shelf ≡ Some i = search rules in
    let within : i < length d.shelves = shelf_within d.shelf (length d.shelves) c.self.invariant c.args.partition.now i found in
    let at : slice_get d.shelves i ≡ Some c.index_mut.result.now = shelf_there d.shelves i c.index_mut.result.now within c.index_mut.ensures.value in
    let is = unnamed_is d c.args.partition.now c.args.name.now i c.index_mut.result.now found at in
    search (rules, is)
