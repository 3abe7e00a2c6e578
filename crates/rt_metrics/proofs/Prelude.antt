-- What the proofs of this crate cite of others and of the definitions, under one name.
pub use Rattle.std.proofs.Common.{Bool, List, None, Option, Some, [], ap, arith, cond, false, inl, inr, is_some, length, refl, rules, string_bytes, suc, sym, take, true, ℕ, ◌%◌, ◌&&◌, ◌++◌, ◌+◌, ◌-◌, ◌/◌, ◌<◌, ◌↔◌, ◌∙◌, ◌∷◌, ◌≡◌, ◌≢◌, ◌≤◌, ◌⊎◌}
pub use Rattle.std.proofs.Math.Seq.{take-append_seam}
pub use Rattle.std.proofs.lemmas.Bool.{and_from, and_parts, both_ways, cases_Bool, eq-eqb, eqb-true}
pub use Rattle.std.proofs.lemmas.Bool.Decides.{nat_tests}
pub use Rattle.std.proofs.lemmas.Grind.{common_steps}
pub use Rattle.std.proofs.lemmas.Int.{wraps}
pub use Rattle.std.proofs.lemmas.List.{append-nil, length-append}
pub use Rattle.std.proofs.lemmas.Map.Steps.{set_value_same}
pub use Rattle.std.proofs.lemmas.Map.Text.{is_eq-slice_cmp}
pub use Rattle.std.proofs.lemmas.Slice.Eq.{bytes_eq-Decides, slice_eq-Decides}
pub use Rattle.std.specs.BTreeMap.{is_at}
pub use Rattle.std.specs.Bool.{Decides}
pub use Rattle.std.specs.Cmp.Lexicographic.{pointwise}
pub use Rattle.std.specs.List.{fold}
pub use Rattle.std.specs.Map.{lookup, remove_entry, set_value, values_of}
pub use Rattle.std.specs.Option.{option_map_or}
pub use Rattle.std.specs.Ordering.{is_eq}
pub use Rattle.std.specs.Prelude.{nat_eq}
pub use Rattle.std.specs.declared.cmp.Ordering.{Ordering}
pub use Rattle.std.specs.declared.cmp.Ordering.TheVariants.{Equal, Greater, Less}
pub use Rattle.indexmap.specs.IndexMap.{spare}
pub use Rattle.rt_base.specs.Attributes.{text_cmp}
pub use Rattle.rt_metrics.specs.Coherence.{Agree, ChangesOne, IsMetricOf, is_key}
pub use Rattle.rt_metrics.specs.MetricText.{children_lines, escape, escaped, families_text, headed, header, members_lines, more_labels, sample_name}
pub use Rattle.rt_metrics.specs.Registry.{FamilyState, MetricState, Pairs, RegistryState, fresh_metric, member_in, same_pairs, with_child, with_first, with_member, without_value}
pub use Rattle.rt_metrics.specs.Several.{numbered, with_children, with_firsts}
pub use Rattle.rt_metrics.specs.declared.kind.Kind.{Kind}
pub use Rattle.rt_metrics.specs.declared.sample.Sample.{Sample}
unfoldable pub use lib.Utf8.{encode}
