-- A child with a bad label is refused, and no other is for its label.
use Rattle.rt_laws.proofs.Prelude.{ℕ, Bool, [], ◌++◌, Error, Child, NodeAt, Refused, begun, after, IsLawful, small_begin, opening, visiting_root, handle, asked}
use Rattle.rt_laws.proofs.Small.{told}

pub no_child_of_a_bad_label : (number : ℕ) (ended : Bool) → IsLawful (begun small_begin) (asked (Child 0 []) (NodeAt number ended)) → ⊥
unfolding begun after
no_child_of_a_bad_label number ended l = let fit = (told (opening ++ visiting_root) (Child 0 []) (NodeAt number ended) l).0 in cc

pub no_refused_label : (error : Error) → IsLawful (begun small_begin) (asked (Child 0 handle) (Refused error)) → ⊥
unfolding begun after
no_refused_label error l = let unfit = told (opening ++ visiting_root) (Child 0 handle) (Refused error) l in cc
