-- What holds of each tree.
use Rattle.std.specs.Prelude.{◌≡◌, ◌≤◌, length, [], vec_capacity}
use Rattle.std.specs.VecDeque.{deque_capacity}
use Rattle.rt_super.specs.Inside.{IsSound, Matches, marks_set, parents, states, children_lists}
use Rattle.rt_super.specs.declared.tree.Tree.TheInside.{Inside}

-- What is kept is right by the record. There is room for a flag and for a visit of each node, and no more flags than ended
-- nodes.
pub record IsWhole (t : Inside) : Type 0 where
  pub sound : IsSound (parents t.nodes.items) (children_lists t.nodes.items) t.ended.items
  pub right : Matches (parents t.nodes.items) (states t.nodes.items) t.ended.items t.flags.items t.history.told
  pub flags : length t.flags.items ≤ marks_set t.ended.items
  pub pending : t.pending.items ≡ []
  pub visits : length t.nodes.items ≤ vec_capacity t.pending
  pub room : length t.nodes.items ≤ deque_capacity t.flags
