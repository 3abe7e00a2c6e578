-- What the proofs of this crate cite of others and of the definitions, under one name.
pub use Rattle.std.proofs.Common.{Bool, Err, IfNone, IfSome, List, None, Ok, Option, Result, Some, [], ap, append_assoc, arith, cond, drop, eqb, false, filter, filter_map, get_or, if◌then◌else◌, inl, inr, leb, length, length-append, ltb, map, nat_lt, not, refl, reverse, rules, set, subst, suc, sym, true, vec_capacity, zero, ℕ, ℤ, ⊎_elim, ◌&&◌, ◌++◌, ◌+◌, ◌-◌, ◌<◌, ◌==◌, ◌||◌, ◌∙◌, ◌∷◌, ◌≡◌, ◌≢◌, ◌≤◌, ◌⊎◌}
pub use Rattle.std.proofs.Math.Facts.{to_z-of_z}
pub use Rattle.std.proofs.Math.Seq.{map-set_same}
pub use Rattle.std.proofs.lemmas.Bool.{cases_Bool, cases_lt}
pub use Rattle.std.proofs.lemmas.Bool.Decides.{nat_tests}
pub use Rattle.std.proofs.lemmas.Cmp.{nat_cmp_total, on_total, then_total}
pub use Rattle.std.proofs.lemmas.Grind.{common_steps, flat_map-append, get_or_default_zero}
pub use Rattle.std.proofs.lemmas.List.{append-nil, get_or-set_other, get_or-set_same, get_or_past, length-map, length-reverse, length-set, length_push, map-append, map-set, nil_from_length, reverse-append, reverse-reverse, set-get_or, with_items_is}
pub use Rattle.std.proofs.lemmas.List.Elements.{filter-append, filter_map-append}
pub use Rattle.std.proofs.lemmas.List.Folds.{find-append, list_any-append}
pub use Rattle.std.proofs.lemmas.Map.Steps.{length-le_from_distinct_below}
pub use Rattle.std.proofs.lemmas.Option.{get_or_from_slice_get, slice_get-get_or, slice_get-map, slice_get_past, slice_get_read, slice_get_within}
pub use Rattle.std.proofs.raw_atomic.Walks.{proved}
pub use Rattle.std.specs.BTreeMap.{insert_entry, is_at}
pub use Rattle.std.specs.Cmp.{IsTotalOrder, nat_cmp_is}
pub use Rattle.std.specs.Global.{Global}
pub use Rattle.std.specs.List.{All, AllByRecursion, cons_option, flat_map, list_any, slice_get, slice_set}
unfoldable pub use Rattle.std.specs.List.{IsDistinct}
unfoldable pub use Rattle.std.specs.List.Sorted.{IsStrictlySortedBy}
pub use Rattle.std.specs.Map.{keys_of, lookup, set_value}
pub use Rattle.std.specs.Option.{IsSome, is_some, option_and_then, option_map, option_map_or, option_or, option_to_list}
pub use Rattle.std.specs.Ordering.{is_eq, match_ordering, nat_cmp, ordering_reverse, ordering_then}
pub use Rattle.std.specs.Prelude.{Vec}
pub use Rattle.std.specs.Result.{OnErr}
pub use Rattle.std.specs.Vec.{with_items}
pub use Rattle.std.specs.VecDeque.{deque_capacity}
pub use Rattle.std.specs.declared.cmp.Ordering.{Ordering}
pub use Rattle.std.specs.declared.cmp.Ordering.TheVariants.{Equal, Greater, Less}
pub use Rattle.rt_base.specs.declared.poll.Poll.TheVariants.{Pending}
pub use Rattle.rt_super.specs.AlarmQueue.{key_cmp, queued}
pub use Rattle.rt_super.specs.Alarms.{Alarm, AreInOrder, AreOnce, alarm_at, due_at, due_first, first_due, is_before, waking, with_alarm}
pub use Rattle.rt_super.specs.AlarmsInside.{alarm_of, alarms_of}
pub use Rattle.rt_super.specs.Ancestry.{NodeState, TreeRecord, changed, is_child, is_ended, is_known, is_live, links, live_task, new_node, newly_ended, node_at, nodes_below, stands_in, subtree, task_on, tasks_on, was_born_ended, with_end, with_new}
unfoldable pub use Rattle.rt_super.specs.Ancestry.{AreEnded}
pub use Rattle.rt_super.specs.Ending.{fresh_tasks, task_at}
pub use Rattle.rt_super.specs.History.{after, no_history}
pub use Rattle.rt_super.specs.Inside.{AreOlder, IsClosed, IsOlder, IsSound, Matches, adopted, children_from, children_lists, is_marked, marks_set, parents, placed, states}
pub use Rattle.rt_super.specs.Rows.{AreRising, find, replaced, rows, those, without}
pub use Rattle.rt_super.specs.Signals.{IsShutdown, KeepOthers, KeepShutdowns, ShowShutdown, SignalRecord, StopRecord, completed, completes, completion_answer, completion_closed, completion_polled, group_for, group_of, is_alive, is_open, new_group, new_token, shown, signal_answer, signal_closed, signal_polled, signaled, signaler_closed, stopped_after, stopped_first, unwaited, waiting_as, waits_in, with_clone, with_completion, with_group, without_signal, woken_by_last, woken_by_stop, woken_by_value}
pub use Rattle.rt_super.specs.SignalsInside.{ArePending, WaitFor, state_of}
pub use Rattle.rt_super.specs.Tokens.{AreAscending, IsLeft, Stand, lists_of, wait_of, with_met}
pub use Rattle.rt_super.specs.TokensInside.{AreTied, count_of, numbers_at, owners}
pub use Rattle.rt_super.specs.Wakers.{waker_of}
pub use Rattle.rt_super.specs.declared.node.Node.{Node}
pub use Rattle.rt_super.specs.declared.signal_group.SignalGroup.{SignalGroup}
pub use Rattle.rt_super.specs.declared.signal_token.SignalToken.{SignalToken}
pub use contract.Running.{tables}
pub use denote.Exit.{yes}
pub use denote.RattleType.{owns}
pub use denote.Ref.{shr_Tells, shr_vals}
pub use denote.Shadow.{pure_i}
pub use denote.Signature.{plain, types_at}
pub use denote.Triple.Entry.{alive}
pub use denote.Triple.Walked.{Goes-none_ref, Stays, ends_at, says, stay_none_ref, walk_of}
pub use mir.Syntax.{named}
pub use mir.Val.{vnil, vstruct}
pub use types.ByLocal.{alloc_all, free_all, look_at, pass_all, sets}
pub use types.Kit.{ !, done, keep, move, qed, raw, split, suffices, ‵, ◌$◌, ◌∵◌, ◌⊛◌}
pub use types.Part.{agg}
pub use types.Run.{enter, no_more, returns}
