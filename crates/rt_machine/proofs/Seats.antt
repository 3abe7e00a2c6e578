-- A node that is free stays so when a child of it is made.
use Rattle.rt_machine.proofs.Prelude.{◌≡◌, ℕ, List, [], ◌∷◌, ◌++◌, refl, true, Bool, Option, Some, None, arith, NodeState, TreeRecord, is_live, live_task, node_at, with_child, is_free}
use Rattle.std.proofs.Common.{find}

find-more : {V : Type 0} (p : V → Bool) (xs ys : List V) (x : V) → find p xs ≡ Some x → find p (xs ++ ys) ≡ Some x
find-more p [] ys x h = cc
find-more p (y ∷ xs) ys x h = grind (arith, find-more p xs ys x)

-- a live node is one of the nodes
live-known : (r : TreeRecord) (n : ℕ) (o : Option NodeState) → node_at r n ≡ o → is_live r n ≡ true → (x : NodeState) × (node_at r n ≡ Some x)
live-known r n None e h = absurd (cc)
live-known r n (Some x) e h = (x, e)

same-node : (r : TreeRecord) (number parent n : ℕ) → is_live r n ≡ true → node_at (with_child r number parent) n ≡ node_at r n
same-node r number parent n h =
    let k = live-known r n (node_at r n) refl h in
    rw k.1 (find-more _ r.nodes _ k.0 k.1)

pub live-kept : (r : TreeRecord) (number parent n : ℕ) → is_live r n ≡ true → is_live (with_child r number parent) n ≡ true
live-kept r number parent n h = rw (same-node r number parent n h) h

pub task-kept : (r : TreeRecord) (number parent n : ℕ) → is_live r n ≡ true → live_task (with_child r number parent) n ≡ live_task r n
task-kept r number parent n h = rw (same-node r number parent n h) refl

pub free-live : (r : TreeRecord) (n : ℕ) → is_free r n ≡ true → is_live r n ≡ true
free-live r n h = grind arith

pub free-task : (r : TreeRecord) (n : ℕ) → is_free r n ≡ true → live_task r n ≡ None
free-task r n h = grind arith

pub ruleset seat_laws = (live-kept, task-kept, free-live, free-task)
