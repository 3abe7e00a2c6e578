use Rattle.rt_store.proofs.Prelude.{◌≡◌, ◌<◌, Some, length, rules, slice_get, Partitions, at_name}
use Rattle.rt_store.proofs.Leading.{push_length, shelf_there, shelf_within, shelves_with, named_is}
use Rattle.rt_store.proofs.directory.Directory.name.Goals as goal

pub returns-in-Some-clause-after : goal.returns-in-Some-clause-after
returns-in-Some-clause-after g c =
    let d : Partitions = record { shelf = c.self.inside.partitions; shelves = c.self.inside.shelves.items } in
    let i = c.in-Some.shelf in
    let found : at_name c.args.partition.now d.shelf ≡ Some i = search rules in
    let within : i < length d.shelves = shelf_within d.shelf (length d.shelves) c.self.invariant c.args.partition.now i found in
    let at : slice_get d.shelves i ≡ Some c.index_mut.result.now = shelf_there d.shelves i c.index_mut.result.now within c.index_mut.ensures.value in
    let is = named_is d c.args.partition.now c.args.name.now c.args.number i c.index_mut.result.now found at in
    search (rules, is)

pub invariant_of-self-2 : goal.invariant_of-self-2
invariant_of-self-2 g c =
    let kept = shelves_with c.self.inside.partitions (length c.self.inside.shelves.items) c.args.partition.now c.self.invariant in
    search (rules, kept, push_length)
