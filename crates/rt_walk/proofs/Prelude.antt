-- What the proofs of this crate cite of others and of the definitions, under one name.
pub use Rattle.std.proofs.Common.{Bool, Err, IfNone, IfOk, IfSome, IsTrue, List, None, Ok, Option, Result, Some, [], ap, append_assoc, arith, codes, cond, drop, eq-eqb, eqb, false, filter, get_or, if◌then◌else◌, inl, inr, is_ok, is_some, leb, length, ltb, map, nat_eq, not, option_map, refl, reverse, rules, subst, suc, sym, take, true, zero, ℕ, ℤ, ◌&&◌, ◌++◌, ◌+◌, ◌-◌, ◌<◌, ◌^◌, ◌||◌, ◌↔◌, ◌∙◌, ◌∷◌, ◌≡◌, ◌≢◌, ◌≤◌, ◌⊎◌}
pub use Rattle.std.proofs.lemmas.Bool.{cases_Bool}
pub use Rattle.std.proofs.lemmas.Bool.Decides.{Decides-eqb, nat_tests}
pub use Rattle.std.proofs.lemmas.Grind.{flat_map-append}
pub use Rattle.std.proofs.lemmas.List.{append-nil, drop-drop, map-append, nil_from_length, reverse-append, reverse-reverse, take_more}
pub use Rattle.std.proofs.lemmas.List.Folds.{find-append, list_any-append}
pub use Rattle.std.proofs.lemmas.List.Sorted.{IsNonDecreasingBy-from_sort, IsPermutation-sym, IsPermutation-trans, searched, sum_by-IsPermutation}
pub use Rattle.std.proofs.lemmas.List.Sums.{sum_by-cons}
pub use Rattle.std.proofs.lemmas.Option.{get_or_from_slice_get, slice_get-get_or, slice_get_within}
pub use Rattle.std.proofs.lemmas.Slice.Eq.{slice_eq-Decides}
pub use Rattle.std.specs.Cmp.Lexicographic.{pointwise}
pub use Rattle.std.specs.HashMap.{get}
pub use Rattle.std.specs.Int.{cast_unsigned, to_be_bytes, w32}
pub use Rattle.std.specs.List.{flat_map, insert, list_any, remove, slice_get, slice_set, sum_by}
pub use Rattle.std.specs.List.Sorted.{IsBinarySearchResult, IsNonDecreasing, IsPermutation, IsSorted}
pub use Rattle.std.specs.Option.{option_map_or, option_or}
pub use Rattle.std.specs.Ordering.{nat_cmp}
pub use Rattle.rt_audit.specs.declared.answer.AnswerKind.{AnswerKind}
pub use Rattle.rt_audit.specs.declared.answer.AnswerKind.TheVariants.{Ended, NoMemory, Panicked, Pending, Ready, Stopped}
pub use Rattle.rt_audit.specs.declared.call.Call.{Call}
pub use Rattle.rt_audit.specs.declared.call.Call.TheVariants.{Abort, AbortTask, Child, CloseNode, FillBytes, GiveUp, Join, NextU32, NextU64, SleepPoll, Slots, Spawn, Stop, Wake as WakeCall}
pub use Rattle.rt_audit.specs.declared.entry.Entry.{Entry}
pub use Rattle.rt_audit.specs.declared.entry.Entry.TheVariants.{Answer, Call as CallEntry, Cleanup, Draw, Event, NodeEnd, Round, Wake}
pub use Rattle.rt_audit.specs.declared.reply.CallReply.{CallReply}
pub use Rattle.rt_audit.specs.declared.reply.CallReply.TheVariants.{Closed, Done, NodeAt, PendingAt, Ready as IsReady, Refused, SlotAt, TaskAt}
pub use Rattle.rt_base.specs.declared.error.Error.{Error}
pub use Rattle.rt_base.specs.declared.no_memory.NoMemory.{NoMemory as OutOfMemory}
pub use Rattle.rt_model.proofs.Append.{AreLawful-append, runs_after-append}
pub use Rattle.rt_model.proofs.Draws.{only-rounds, round-draws}
pub use Rattle.rt_model.specs.Causes.{cause_at, ends_next, from_running}
pub use Rattle.rt_model.specs.Effects.{cleans, due_node, entered, is_closing, marks_after, owed_after, panicked_after, phase_after, stood_after}
unfoldable pub use Rattle.rt_model.specs.Effects.{after}
pub use Rattle.rt_model.specs.Events.{IsOfCall, announced_by}
pub use Rattle.rt_model.specs.Lists.{find, has_number, or_else, replaced, those, with_number, without, without_number}
pub use Rattle.rt_model.specs.Marks.{due_all, flag_all, flagged}
pub use Rattle.rt_model.specs.Rules.{Answers, ChildAnswers, IsEndedNext, May, MayAnswer, MayDraw, MayEvent, MayRound, SpawnAnswers, Unless, is_free}
pub use Rattle.rt_model.specs.Runs.{AreLawful, next_begin, renewed, renews, run_after, runs_after}
pub use Rattle.rt_model.specs.State.{Announced, Between, Closing, Entered, Making, Phase, State, Stood, Turning, Visiting}
unfoldable pub use Rattle.rt_model.specs.State.{begun}
pub use Rattle.rt_model.specs.declared.begin.Begin.{Begin}
pub use Rattle.rt_model.specs.declared.mark.Mark.{Mark}
pub use Rattle.rt_model.specs.declared.result.TaskResult.{TaskResult}
pub use Rattle.rt_super.specs.Ancestry.{NodeState, TreeRecord, is_child, is_ended, is_known, is_live, links, new_node, newly_ended, nodes_below, stands_in, subtree, tasks_on, was_born_ended}
pub use Rattle.rt_walk.specs.Family.{children_in}
pub use Rattle.rt_walk.specs.First.{BreaksAt}
pub use Rattle.rt_walk.specs.Nodes.{AreElders, AreEnded, children_of, links_of, numbers_of, told_by}
pub use Rattle.rt_walk.specs.Places.{AreDistinct, ArePlaced, first_place, kept}
pub use Rattle.rt_walk.specs.Quiet.{quiet}
pub use Rattle.rt_walk.specs.Rising.{AreFrom, AreRising}
