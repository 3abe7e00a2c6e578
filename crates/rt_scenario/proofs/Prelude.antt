-- What the proofs of this crate cite of others and of the definitions, under one name.
pub use Rattle.std.proofs.Common.{Bool, Err, List, None, Option, SFits, Some, [], add-one, ap, append_assoc, ap₂, arith, codes, cond, drop, false, fold, get_or, if◌then◌else◌, is_none, is_some, length, length-drop, length-set, map, min, nat_le, nat_lt, not, one-add, position, refl, rules, slice_index, slice_index_or, slice_range, slice_set, subst, suc, sym, take, true, true≢false, w32, w64, zero, ℕ, ℤ, ⊎_elim, ◌&&◌, ◌*◌, ◌++◌, ◌+◌, ◌-◌, ◌<◌, ◌==◌, ◌^◌, ◌||◌, ◌∙◌, ◌∷◌, ◌≡◌, ◌≢◌, ◌≤◌}
pub use Rattle.std.proofs.Math.Seq.{get_or-append_seam, take-append_seam}
pub use Rattle.std.proofs.lemmas.Bool.{and_parts, cases_lt}
pub use Rattle.std.proofs.lemmas.Bool.Decides.{nat_tests}
pub use Rattle.std.proofs.lemmas.Int.{to_z-of_z}
pub use Rattle.std.proofs.lemmas.List.{append-nil, drop-append-le, drop_all, drop_at, drop_more, ext_get_or, get_or-map, get_or-set_other, get_or-set_same, get_or_append_left, length-append, length-map, length_push, map-append, map_push, take-append-le, take_all}
pub use Rattle.std.proofs.lemmas.List.Edits.{map_over_more}
pub use Rattle.std.proofs.lemmas.List.Elements.{All-cons, All-get_or, All-head, All-map, All-push, All-tail, All-weaker}
pub use Rattle.std.proofs.lemmas.List.Sorted.{All-permutation, IsPermutation-map, length_permutation, list_any-IsPermutation}
pub use Rattle.std.proofs.lemmas.List.Sums.{fold_push}
pub use Rattle.std.proofs.lemmas.Map.Keys.{IsDistinct-IsPermutation, Less-from_sorted, apart_from_distinct, sorted_from_all_adjacent}
pub use Rattle.std.proofs.lemmas.Map.Lookups.{btree_set_from_contains, exact_bytes}
pub use Rattle.std.proofs.lemmas.Map.Text.{is_eq-slice_cmp}
pub use Rattle.std.proofs.lemmas.Option.{get_or_from_slice_get}
pub use Rattle.std.proofs.lemmas.Slice.Eq.{HasBytesAt, text_from_reads}
pub use Rattle.std.proofs.lemmas.Str.{IsUtf8-from_ascii}
pub use Rattle.std.specs.BTreeSet.{BTreeSet, insert_key}
pub use Rattle.std.specs.Borrow.{Bor}
pub use Rattle.std.specs.Char.{digit_value, is_ascii_alphabetic, is_ascii_digit}
pub use Rattle.std.specs.Cmp.Lexicographic.{nat_list_cmp_total, nat_list_eq_equiv, same_text}
pub use Rattle.std.specs.List.{All, AllByRecursion, IsDistinct, filter, list_all, list_any, position_or_len}
pub use Rattle.std.specs.List.Sorted.{IsPartitionPoint, IsPermutation, IsSorted}
unfoldable pub use Rattle.std.specs.List.Sorted.{IsStrictlySortedBy}
pub use Rattle.std.specs.Option.{IfSome, MatchOption, option_map}
pub use Rattle.std.specs.Ordering.{eq_by_cmp, is_eq, is_lt, match_ordering, nat_cmp, ordering_reverse, ordering_then}
pub use Rattle.std.specs.Str.{IsUtf8, bytes_eq}
pub use Rattle.std.specs.Str.Parse.{digits_value, digits_value_after}
pub use Rattle.std.specs.declared.cmp.Ordering.{Ordering}
pub use Rattle.std.specs.declared.cmp.Ordering.TheVariants.{Equal, Greater, Less}
pub use Rattle.indexmap.specs.IndexSet.{insert_key as insert_last}
pub use Rattle.rt_base.specs.Attributes.{text_cmp}
pub use Rattle.rt_base.specs.Label.{is_label, is_word_byte}
pub use Rattle.rt_scenario.specs.Answers.{Answers, IsBare, IsSetting}
pub use Rattle.rt_scenario.specs.Capped.{capped, capped_tasks}
pub use Rattle.rt_scenario.specs.Indexed.{HasIndex, in_order, name_at, named_by, numbered_from, placed_at, read, with_name}
pub use Rattle.rt_scenario.specs.Lines.{lines_of, onto_first, words_in, words_of}
pub use Rattle.rt_scenario.specs.Lists.{IsSpan}
pub use Rattle.rt_scenario.specs.Numbers.{below, is_decimal, minus, number_of, plus, small_value_of, value_of}
pub use Rattle.rt_scenario.specs.Scenario.{CanRun, CanRunLine, Draft, after_text, is_between, is_name, is_placed, is_printable, is_runnable, names_run, onto_places, reading, row, scenario_of, script_at, script_row, scripts_at, select_row, spawned_row, step_row, with_choices, with_line, with_panic, with_select}
pub use Rattle.rt_scenario.specs.Scripts.{Begun, all_names, closed_script, handle_of, handles_of, names_of, place_of, placed, spawned_in, tasks_after, tasks_at, tasks_of, with_handle, with_handles}
pub use Rattle.rt_scenario.specs.Texts.{text_at, whole, wholes}
pub use Rattle.rt_scenario.specs.Within.{HasPlaces, HavePlaces, IsBegun, IsClear, IsFree, IsNamed, IsWithin}
pub use Rattle.rt_scenario.specs.Words.{is_text}
pub use Rattle.rt_scenario.specs.declared.line.Line.{Line}
pub use Rattle.rt_scenario.specs.declared.line.Line.TheVariants.{StopWithin}
pub use Rattle.rt_scenario.specs.declared.named_line.NamedLine.{NamedLine}
pub use Rattle.rt_scenario.specs.declared.named_line.NamedLine.TheVariants.{Abort, Drop, Join, Plain, Spawn, Stopped, Wait, Within}
pub use Rattle.rt_scenario.specs.declared.scenario.RunLine.{RunLine}
pub use Rattle.rt_scenario.specs.declared.scenario.ScriptText.{ScriptText}
pub use Rattle.rt_scenario.specs.declared.scenario.Settings.{Settings}
pub use Rattle.rt_scenario.specs.declared.script_texts.Parts.{Parts}
pub use Rattle.rt_scenario.specs.declared.word.Word.{Word}
pub use Rattle.rt_scenario.specs.declared.word.Word.TheVariants.{Catch, Cycle, Done, Draw, End, Next, Panic, Pend, Run, Script, Seed, Select, Sleep, Start, Stop, Timeout, Until, Yield}
