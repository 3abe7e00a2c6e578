-- What the proofs of this crate cite of others and of the definitions, under one name.
pub use Rattle.std.proofs.Common.{Bool, Err, List, None, Ok, Option, Result, Some, [], ap, append_assoc, arith, cond, false, inl, inr, length, max, min, refl, rules, subst, suc, sym, take, true, w64, zero, ℕ, ◌*◌, ◌++◌, ◌+◌, ◌-◌, ◌<◌, ◌||◌, ◌∙◌, ◌∷◌, ◌≡◌, ◌≢◌, ◌≤◌, ◌⊎◌}
pub use Rattle.std.proofs.lemmas.Grind.{common_steps}
pub use Rattle.std.proofs.lemmas.Iterator.Adapters.{position_from-zero}
pub use Rattle.std.proofs.lemmas.List.{length-append, length-take-le}
pub use Rattle.std.proofs.lemmas.List.Elements.{AllWithin-more}
pub use Rattle.std.proofs.lemmas.List.Folds.{list_any_more}
pub use Rattle.std.proofs.lemmas.Option.{get_or_from_slice_get, slice_get_read}
pub use Rattle.std.proofs.raw_atomic.Walks.{proved}
pub use Rattle.std.specs.List.{AllWithin, concat, list_any, position, position_from}
pub use Rattle.std.specs.Option.{unwrap_or}
pub use Rattle.std.specs.Prelude.{IfOk, IsSomeAnd, MatchOption, if◌then◌else◌, is_some, slice_get, slice_index_or, slice_set}
pub use Rattle.std.specs.VecDeque.{deque_capacity}
pub use Rattle.indexmap.specs.IndexSet.{insert_key}
pub use Rattle.rt_base.specs.declared.addr.Addr.{Addr}
pub use Rattle.rt_base.specs.declared.error.Error.{Error}
pub use Rattle.rt_base.specs.declared.error.Error.TheVariants.{NoMemory, RecvFailed, UnknownToken}
pub use Rattle.rt_base.specs.declared.poll.Poll.{Poll}
pub use Rattle.rt_base.specs.declared.poll.Poll.TheVariants.{Pending, Ready}
pub use Rattle.rt_bufs.specs.Chunked.{Chunked}
pub use Rattle.rt_net.specs.Asked.{AreThere, HasLength, asked_of, unread_of}
pub use Rattle.rt_net.specs.Calls.{NetPeeks, NetPollsReceive, NetPollsSend, NetReceives, NetSends, connected, next_connection}
pub use Rattle.rt_net.specs.Channel.{Answers, ChannelState, IsQuiet, Peeks, PollsReceive, PollsSend, Receives, Sends, after_answer, after_poll_recv, after_poll_send, after_recv, after_send, appended, closed_sink, closed_stream, fresh, handed, held, is_open, is_receivable, left, pulled, started_length, unread}
pub use Rattle.rt_net.specs.Forgotten.{IsWhole, nothing_forgotten, with_answered, with_lost}
pub use Rattle.rt_net.specs.Kept.{Kept, moved_to}
pub use Rattle.rt_net.specs.Network.{addr_eq, after_closing, at, at_sink, has_sink, has_stream, if_lives, is_alive, listener_at, live_listener, live_stream, number_at, with_closed, with_closed_sink, with_connection, woken_by_closing}
pub use Rattle.rt_net.specs.Pipe.{channel_of}
pub use Rattle.rt_net.specs.Waiting.{is_not_ready, still_waits, waits}
pub use Rattle.rt_net.specs.contracts.byte_queue.ByteQueue.{the_row as Q}
pub use Rattle.rt_net.specs.contracts.forgotten.Forgotten.{the_row as R}
pub use Rattle.rt_net.specs.contracts.net.Net.{the_view}
pub use Rattle.rt_net.specs.declared.acceptor.Connection.{Connection}
pub use Rattle.rt_net.specs.declared.half.Parked.{Parked}
pub use Rattle.rt_net.specs.declared.pipe.Pipe.TheInside.{Inside}
pub use Rattle.rt_net.specs.declared.reply.Reply.{Reply}
pub use base.Fml.{flft, fsep, ftrue}
pub use base.Logic.{emp, ent}
pub use denote.Builtin.{RefOf, unit, usize}
pub use denote.Exit.{yes}
pub use denote.Plain.{uint_Tells, uint_vals}
pub use denote.RattleType.{RattleType, owns}
pub use denote.Ref.{mut_Tells, mut_vals, shr_Tells, shr_vals}
pub use denote.Shadow.{makes_shadow}
pub use denote.Signature.{plain, types_at}
pub use denote.Steps.{closes, nothing, opens}
pub use denote.Struct.Struct.{Struct}
pub use denote.Triple.Walked.{Goes-dropped, Goes-ref, Stays, ends_at, says, stay_dropped, stay_ref, walk_of}
pub use mir.Syntax.{named}
pub use mir.Val.{Val, vcons, vnil, vstruct, vunit}
pub use seplogic.Ra.Ura.{Ura}
pub use types.ByLocal.{alloc_all, free_all, get, look_at, pass_all, sets}
pub use types.Kit.{ !, done, feq_i, fjoin, frame, fsplit, fsplit3, group, join, keep, move, qed, split, suffices, use0, ‵, ◌$◌, ◌∵◌, ◌⊛◌}
pub use types.Logic.{Logic, sem}
pub use types.Part.{agg}
pub use types.Run.{and_then, enter, no_more, of_opd, returns, unit_lit}
