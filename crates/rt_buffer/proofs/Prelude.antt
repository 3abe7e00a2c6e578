-- What the proofs of this crate cite of others and of the definitions, under one name.
pub use Rattle.std.proofs.Common.{Bool, Err, IfOk, List, None, Ok, OnErr, OnOk, Option, Result, Some, [], ap, arith, cond, drop, false, inl, inr, length, map, max, min, refl, rules, slice_get, slice_set, subst, suc, sym, take, true, vec_len, zero, ℕ, ◌&&◌, ◌*◌, ◌++◌, ◌+◌, ◌-◌, ◌<◌, ◌==◌, ◌∙◌, ◌∷◌, ◌≡◌, ◌≢◌, ◌≤◌, ◌⊎◌}
pub use Rattle.std.proofs.Math.ListN.{replicate}
pub use Rattle.std.proofs.Math.Nat.{add-mul, mul-add, mul-le-mul_right, suc-mul}
pub use Rattle.std.proofs.Math.Seq.{drop-append-add, take-add, take-append-add}
pub use Rattle.std.proofs.lemmas.Bool.{and_parts, cases_lt, eq-eqb, eqb-false, eqb-true, le-leb, leb-true, lt-leb, lt-ltb, ltb-true}
pub use Rattle.std.proofs.lemmas.Bool.Decides.{nat_tests}
pub use Rattle.std.proofs.lemmas.List.{append-nil, append_assoc, drop-append-le, drop-drop, drop-take, drop_all, drop_at, length-append, length-drop, length-replicate, length-take, length-take-le, take-append-drop, take-append-le, take-replicate, take-take, take_all, take_at}
pub use Rattle.std.specs.List.{concat}
pub use Rattle.std.specs.Prelude.{IfSome, if◌then◌else◌, nat_le, nat_lt, unwrap_or, ⊤, ◌^◌}
pub use Rattle.rt_base.specs.Counted.{Counts, Notes}
pub use Rattle.rt_base.specs.Noted.{Adds, Noted}
pub use Rattle.rt_base.specs.Outside.{HasRisen}
pub use Rattle.rt_base.specs.declared.choice.Choice.{Choice}
pub use Rattle.rt_base.specs.declared.error.Error.{Error}
pub use Rattle.rt_base.specs.declared.error.Error.TheVariants.{NoMemory}
pub use Rattle.rt_base.specs.declared.options.ReadOptions.{ReadOptions}
pub use Rattle.rt_base.specs.declared.options.WriteOptions.{WriteOptions}
pub use Rattle.rt_base.specs.declared.poll.Poll.{Poll}
pub use Rattle.rt_base.specs.declared.version.BlobVersion.{BlobVersion}
pub use Rattle.rt_buffer.specs.Calls.{IsGivenUp, IsOpen, IsOpenVersioned, IsPoll, IsRead, IsResize, IsStart, IsSync, IsWrite, Left}
pub use Rattle.rt_buffer.specs.Delayed.{AfterHold, AfterInner, AfterSync, AnswersInner, Closes, ClosesAll, ClosesLast, CountsAnswer, Delayed, GivesUp, GivesUpAll, GivesUpLast, GivesUpStage, LetsGo, OnBlob, Opens, Polls, PollsStage, Syncs, SyncsAt, SyncsOr, SyncsReleased, Writes, WritesAt, WritesThen, blob_at, closed_by, delayed, given, held_less, held_more, inner_blob, kept, moved, refused, stage_of, with_blob, with_holder, without_holder, without_ticket}
pub use Rattle.rt_buffer.specs.DelayedBytes.{bytes_in, delayed_apart, delayed_bytes, delayed_left, delayed_of, delayed_opened, delayed_promised, has_other, left_in, promised_by, promised_in, stays_open}
pub use Rattle.rt_buffer.specs.Durable.{Asked, HoldsBytes, HoldsSync, IfBegun, IfStepped, IsPast, Keeping, Keeps, KnowsState, Shows, is_open}
pub use Rattle.rt_buffer.specs.Flat.{StandsFor}
pub use Rattle.rt_buffer.specs.Memory.{CrashLeaves, MemoryKeeps}
pub use Rattle.rt_buffer.specs.Mocks.{one_more}
pub use Rattle.rt_buffer.specs.Pending.{all_released, gate_of, outcome}
pub use Rattle.rt_buffer.specs.Pieces.{Merging, Pieces, chunks_written, cut, merged_chunks, passed, pieces, with_bytes}
pub use Rattle.rt_buffer.specs.Reading.{Ahead, Fetches, Gives, Joins, ResizesAndSyncs, TakesHeld, advanced, fetch_len, filled, no_hints, placed_at, sought}
pub use Rattle.rt_buffer.specs.Steps.{Act, AreBuffers, Begins, BeginsFor, Behind, Changed, Drains, DrainsTaken, Ends, Finishes, GivesHandle, HoldsStarted, IsBuffer, Lacks, MergesChunk, Progress, Puts, PutsAgain, PutsAll, PutsBeyond, PutsChunks, PutsFor, PutsPast, Raised, ResizesBlob, ResizesTaken, ResizesTip, Rests, Runs, RunsBehind, Saves, SavesBytes, SavesChanges, SavesTaken, Settled, Settles, SettlesBehind, Starts, StartsFor, SyncsBlob, Then, Waits, WaitsFor, Writer, WritesBuffer, WritesChunk, WritesDurably, WritesLeft, WritesOut, answer_of, durably, is_done, is_started, plain, progress_of, seen_start, seen_step, with_handle, with_state, with_tip, writer}
pub use Rattle.rt_buffer.specs.Tip.{Tip, bytes_before, bytes_to_write, drained, empty_tip, end_of, is_within, laid_over, merged, raised, resized_tip, shortened}
pub use Rattle.rt_buffer.specs.Writing.{AddsTip, ClosesWriter, LiesOver, ReadsThrough, ReadsTip, before_tip, has_bytes, is_clean, is_in_the_way}
pub use Rattle.rt_buffer.specs.declared.held.Held.{Held}
pub use Rattle.rt_buffer.specs.declared.shared_blob.SharedBlob.{SharedBlob}
pub use Rattle.rt_buffer.specs.declared.stage.Hold.{Hold}
pub use Rattle.rt_buffer.specs.declared.stage.Passed.{Passed}
pub use Rattle.rt_buffer.specs.declared.stage.Stage.{Stage}
pub use Rattle.rt_buffer.specs.declared.stage.Stage.TheVariants.{Out}
pub use Rattle.rt_buffer.specs.declared.sync_handle.Begun.{Begun}
pub use Rattle.rt_buffer.specs.declared.sync_state.SyncState.{SyncState}
pub use Rattle.rt_buffer.specs.declared.sync_state.SyncState.TheVariants.{Clean, Dirty, Started}
pub use Rattle.rt_buffer.specs.declared.write_fault.WriteFaults.{WriteFaults}
pub use Rattle.rt_buffer.specs.declared.write_op.Rest.{Rest}
pub use Rattle.rt_buffer.specs.declared.write_op.Stepped.{Stepped}
pub use Rattle.rt_bufs.specs.Chunked.{Chunked, NoneEmpty}
pub use Rattle.rt_bufs.specs.WritableChunks.{WritableChunks}
pub use Rattle.rt_store.specs.Answered.{CountsDone, CountsPoll, CountsStart, IsCopy, PollsTicket, is_numbered}
pub use Rattle.rt_store.specs.Calls.{blob_of}
pub use Rattle.rt_store.specs.Content.{resized, written}
pub use Rattle.rt_store.specs.Crash.{all_crashed, choices_after, crashed_at}
pub use Rattle.rt_store.specs.Directory.{named_numbers}
pub use Rattle.rt_store.specs.Durable.{IsDurable, IsOf, KeepsPoll, KeepsRead, KeepsResize, KeepsStart, KeepsSync, KeepsWrite, Leaves, LeavesAll, LeavesWhenGivenUp, OfOne, OpensApart, Promises, SavedBy, StayApart, Stays}
pub use Rattle.rt_store.specs.File.{FileState, crashed}
pub use Rattle.rt_store.specs.Kept.{Kept}
pub use Rattle.rt_store.specs.Memory.{left_of, memory_bytes, memory_left, memory_promised}
pub use Rattle.rt_store.specs.Store.{at_blob, if_open, is_token}
pub use Rattle.rt_store.specs.declared.blob.Blob.{Blob}
pub use Rattle.rt_store.specs.declared.mutation.Mutation.{Mutation}
pub use Rattle.rt_store.specs.declared.storage.Storage.{Ghosts}
pub use Rattle.rt_store.specs.declared.ticket.Done.{Done}
pub use Rattle.rt_store.specs.declared.ticket.Done.TheVariants.{Gated, Now}
pub use Rattle.rt_store.specs.declared.ticket.Ticket.{Ticket}
pub use Rattle.rt_store.specs.declared.ticket.Ticket.TheVariants.{Numbered, Ready}
