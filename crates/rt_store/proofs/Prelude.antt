-- What the proofs of this crate cite of others and of the definitions, under one name.
pub use Rattle.std.proofs.Common.{All, Bool, Err, Global, List, None, Ok, Result, Some, Vec, [], ap, append-nil, arith, cond, drop, false, get_or, inl, inr, length, map, max, min, not, refl, replicate, rules, slice_set, subst, suc, sym, take, true, vec_capacity, vec_len, zero, ℕ, ◌%◌, ◌*◌, ◌++◌, ◌+◌, ◌-◌, ◌<◌, ◌==◌, ◌||◌, ◌∙◌, ◌∷◌, ◌≡◌, ◌≢◌, ◌≤◌, ◌⊎◌}
pub use Rattle.std.proofs.Math.Seq.{drop-append_seam, take-append_seam}
pub use Rattle.std.proofs.lemmas.Bool.{eqb-false, eqb-true, lt-ltb, ltb-false}
pub use Rattle.std.proofs.lemmas.Bool.Decides.{Decides-ltb}
pub use Rattle.std.proofs.lemmas.Grind.{common_steps}
pub use Rattle.std.proofs.lemmas.List.{append_assoc, drop-append-le, length-drop, length-replicate, length-take, length-take-le, map-set, take-append-le}
pub use Rattle.std.proofs.lemmas.List.Elements.{All-cons, All-nil, All-pop, All-rest}
pub use Rattle.std.proofs.lemmas.Map.Steps.{le-length_from_below}
pub use Rattle.std.specs.BTreeMap.{insert_entry, keys}
pub use Rattle.std.specs.Cmp.Lexicographic.{slice_cmp}
pub use Rattle.std.specs.List.{AllByRecursion, flat_map, list_any}
unfoldable pub use Rattle.std.specs.List.Sorted.{IsStrictlySortedBy}
pub use Rattle.std.specs.Map.{lookup, remove_entry}
pub use Rattle.std.specs.Ordering.{match_ordering, nat_cmp}
pub use Rattle.std.specs.Prelude.{IfErr, IfOk, IsSome, Option, eqb, is_some, nat_lt, slice_get}
pub use Rattle.std.specs.Vec.Iter.{into_iter_items}
pub use Rattle.std.specs.declared.cmp.Ordering.{Ordering}
pub use Rattle.std.specs.declared.cmp.Ordering.TheVariants.{Equal, Greater, Less}
pub use Rattle.rt_base.specs.Counted.{Counts, Notes}
pub use Rattle.rt_base.specs.Noted.{Adds, Drawn, Noted}
pub use Rattle.rt_base.specs.declared.choice.Choice.{Choice}
pub use Rattle.rt_base.specs.declared.choice.Choice.TheVariants.{Prefix}
pub use Rattle.rt_base.specs.declared.error.Error.{Error}
pub use Rattle.rt_base.specs.declared.error.Error.TheVariants.{Io, NoMemory, ReadFailed, UnknownToken}
pub use Rattle.rt_base.specs.declared.options.WriteOptions.{WriteOptions}
pub use Rattle.rt_base.specs.declared.version.BlobVersion.{BlobVersion}
pub use Rattle.rt_bufs.specs.Chunked.{Chunked}
pub use Rattle.rt_bufs.specs.WritableChunks.{WritableChunks}
pub use Rattle.rt_hasher.specs.Crc32c.{register_of}
pub use Rattle.rt_hasher.specs.Digest.{fields_digest}
pub use Rattle.rt_hasher.specs.Framing.{framed}
pub use Rattle.rt_store.specs.Answered.{CountsDone}
pub use Rattle.rt_store.specs.Audit.{TakesFields, audit_fields, blob_fields, names_fields, partitions_fields, shelf_fields}
pub use Rattle.rt_store.specs.Calls.{IsNow, IsOpened, Opens, OpensVersioned, Reads, Resizes, Saves, Syncs, Writes, after_open, after_resize, after_sync, after_write, blob_of, default_range, file_at, file_named, is_partition_name, many_refusal, open_refusal, open_refusal_of, opened_for, polled_ticket, started, version_for, with_blob}
pub use Rattle.rt_store.specs.Changes.{HasRoom, all_undone, laid, len_after, len_before, mutations, undone, zeroed}
pub use Rattle.rt_store.specs.Content.{resized, written}
pub use Rattle.rt_store.specs.Crash.{Chooses, ChoosesAll, Chosen, IsCut, WriteChosen, all_crashed, choices_after, crashed_at, later_at, later_of}
pub use Rattle.rt_store.specs.Directory.{Ascend, Names, Partitions, all_numbers, at_name, at_shelf, emptied, in_names, is_name, named, named_in, named_numbers, names_in, no_partitions, number_of, numbers, numbers_of, put_name, unnamed, unnamed_in, without_name, without_partition}
pub use Rattle.rt_store.specs.Draws.{Passes, Refused}
pub use Rattle.rt_store.specs.Durable.{IsDurable, KeepsPoll, KeepsRead, KeepsResize, KeepsStart, KeepsSync, KeepsWrite, Leaves, LeavesAll, LeavesWhenGivenUp, OfOne, OpensApart, Promises, StayApart, Stays}
pub use Rattle.rt_store.specs.File.{FileState, applied, closed, crashed, detached, detached_for, fresh_file, has_none, is_settled, mutated, replay, replayed, synced, with_token}
pub use Rattle.rt_store.specs.Kept.{Kept, answered, moved_to}
pub use Rattle.rt_store.specs.Leading.{LeadToBlobs, LeadToShelves, one_if, removals, same, standing, times}
pub use Rattle.rt_store.specs.Memory.{left_of, memory_apart, memory_bytes, memory_left, memory_opened, memory_promised}
pub use Rattle.rt_store.specs.Reading.{AreCollected, HaveLengths, HavePlacedLengths, IsWhole, are_below, bytes_of, last_at, last_or, lengths_of, placed, placed_bytes, ranges_of, ranges_refusal}
pub use Rattle.rt_store.specs.Store.{StoreState, all_detached, at_blob, at_place, content_at, count_later, if_open, is_token, live, refusal_at}
pub use Rattle.rt_store.specs.declared.blob.Blob.{Blob}
pub use Rattle.rt_store.specs.declared.change.Change.{Change}
pub use Rattle.rt_store.specs.declared.faults.FaultConfig.{FaultConfig}
pub use Rattle.rt_store.specs.declared.mutation.Mutation.{Mutation}
pub use Rattle.rt_store.specs.declared.mutation.Mutation.TheVariants.{Resize, Write}
pub use Rattle.rt_store.specs.declared.ticket.Done.{Done}
pub use Rattle.rt_store.specs.declared.ticket.Done.TheVariants.{Gated, Now}
pub use Rattle.rt_store.specs.declared.ticket.Ticket.{Ticket}
pub use Rattle.rt_store.specs.declared.ticket.Ticket.TheVariants.{Numbered, Ready}
