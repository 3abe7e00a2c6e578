use Rattle.std.proofs.Common.{ℕ, List, ap, sym, subst, ◌∙◌, set}
use Rattle.std.specs.List.{insert}
use Rattle.rt_base.specs.Attributes.{IsSortedByKey}
use Rattle.rt_base.proofs.SortedKeys.{sorted_with}
use Rattle.rt_base.proofs.name.add_attribute.Goals as goal

pub returns-in-Ok-clause-sorted : goal.returns-in-Ok-clause-sorted
returns-in-Ok-clause-sorted c = λ sorted.
    let P : List (List ℕ × List ℕ) → Type 0 = λ l. IsSortedByKey l in
    let placed = rw c.as_slice.ensures.value at c.in-Ok.ensures in
    let put = placed.1 c.of-value.result c.index_mut.result.now in
    let here = ap (λ (p : List ℕ × List ℕ). set c.args.attributes.now.items c.in-Ok.at (p.0, c.of-value.result)) (sym c.index_mut.ensures.value) in
    subst P (put ∙ here) (sorted_with _ _ _ sorted)

pub returns-in_ok-insert-in-Err-clause-sorted : goal.returns-in_ok-insert-in-Err-clause-sorted
returns-in_ok-insert-in-Err-clause-sorted c = λ sorted.
    let P : List (List ℕ × List ℕ) → Type 0 = λ l. IsSortedByKey l in
    let placed = rw c.as_slice.ensures.value at c.in-Err.ensures in
    let put = placed.1 c.of-value.result in
    let key = ap (λ (k : List ℕ). insert c.args.attributes.now.items c.in-Err.at (k, c.of-value.result)) (sym (c.of-key.ensures ∙ c.in_ok-from_str-in-Err.ensures.ok)) in
    subst P (put ∙ key ∙ sym c.in_ok-insert-in-Err.ensures.items) (sorted_with _ _ _ sorted)
