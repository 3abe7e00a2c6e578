use Rattle.rt_scenario.proofs.Prelude.{subst, sym, IsPermutation, numbered_from}
use Rattle.rt_scenario.proofs.FirstUse.{distinct_sorted, ordered, strictly, within_sorted}
use Rattle.rt_scenario.proofs.handles.Handles.in_order.Goals as goal
use Rattle.rt_scenario.proofs.handles.Handles.in_order.Goals.{After-as_slice}

sorted : (c : After-as_slice) → IsPermutation (numbered_from 0 c.args.self) c.as_slice.result.now
sorted c = subst (IsPermutation (numbered_from 0 c.args.self)) (sym c.as_slice.ensures.value) (subst (λ l. IsPermutation l c.sort_unstable.new.self.items) c.in_ok-numbered.ensures.names c.sort_unstable.ensures.permutation)

pub apart-requires-clause-sorted : goal.apart-requires-clause-sorted
apart-requires-clause-sorted c =
    let distinct = distinct_sorted c.args.self c.as_slice.result.now (sorted c) c.in_ok-numbered.ensures.distinct in
    strictly c.as_slice.result.now (rw c.as_slice.ensures.value c.sort_unstable.ensures.sorted) distinct

pub apart-requires-clause-within : goal.apart-requires-clause-within
apart-requires-clause-within c = within_sorted c.args.self c.as_slice.result.now (sorted c)

pub returns-clause-names : goal.returns-clause-names
returns-clause-names c =
    let pairs = c.as_slice.result.now in
    let perm : IsPermutation (numbered_from 0 c.args.self) pairs = subst (IsPermutation (numbered_from 0 c.args.self)) (sym c.as_slice.ensures.value) (subst (λ l. IsPermutation l c.sort_unstable.new.self.items) c.in_ok-numbered.ensures.names c.sort_unstable.ensures.permutation) in
    rw (ordered c.args.self pairs perm (rw c.as_slice.ensures.value c.sort_unstable.ensures.sorted) c.in_ok-numbered.ensures.distinct) c.in_ok-both.ensures.names

pub returns-clause-places : goal.returns-clause-places
returns-clause-places c =
    let pairs = c.as_slice.result.now in
    let perm : IsPermutation (numbered_from 0 c.args.self) pairs = subst (IsPermutation (numbered_from 0 c.args.self)) (sym c.as_slice.ensures.value) (subst (λ l. IsPermutation l c.sort_unstable.new.self.items) c.in_ok-numbered.ensures.names c.sort_unstable.ensures.permutation) in
    rw (ordered c.args.self pairs perm (rw c.as_slice.ensures.value c.sort_unstable.ensures.sorted) c.in_ok-numbered.ensures.distinct) (c.in_ok-both.ensures.places c.args.self perm)
