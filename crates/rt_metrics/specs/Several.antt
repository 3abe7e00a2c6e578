-- Several children that are made at once: their numbers first, and then their values. No public contract names these.
use Rattle.std.specs.Prelude.{ℕ, ◌+◌, suc, zero, if◌then◌else◌, List, [], ◌∷◌, is_some}
use Rattle.std.specs.List.{fold}
use Rattle.std.specs.Map.{lookup}
use Rattle.std.specs.BTreeMap.{is_at}
use Rattle.std.specs.BTreeMap as tree
use Rattle.rt_base.specs.Attributes.{text_cmp}
use Rattle.rt_metrics.specs.declared.kind.Kind.{Kind}
use Rattle.rt_metrics.specs.declared.sample.Sample.{Sample}
use Rattle.rt_metrics.specs.Registry.{RegistryState, with_child, with_first}

abbrev pub with_children : RegistryState → ℕ → List (List ℕ) → Kind → RegistryState
with_children r id labels kind = fold (λ made l. with_child made id l kind) r labels

-- the children with those that are missing, which have the numbers from this one on; and the number after the last
abbrev pub numbered : List (List ℕ × ℕ) → ℕ → List (List ℕ) → List (List ℕ × ℕ) × ℕ
numbered children next [] = (children, next)
numbered children next (l ∷ ls) =
    if is_some (lookup (is_at (text_cmp l)) children) then numbered children next ls
    else numbered (tree.insert_entry text_cmp children l next) (next + 1) ls

-- the values with the first ones of a kind, for as many numbers from this one on
abbrev pub with_firsts : Kind → List (ℕ × Sample) → ℕ → ℕ → List (ℕ × Sample)
with_firsts kind values id zero = values
with_firsts kind values id (suc n) = with_firsts kind (with_first kind values id) (id + 1) n
