-- How many nodes of a tree are live.
use Rattle.rt_machine.proofs.Prelude.{◌≡◌, ◌≤◌, ◌+◌, ℕ, List, [], ◌∷◌, ◌++◌, refl, Bool, true, false, arith, Option, Some, None, length, length-append, map, ◌==◌, if◌then◌else◌, NodeState, TreeRecord, is_live, is_known, with_end, with_release, with_task, with_child, Mark, released, live_count, ones}

live-fewer : (n : ℕ) (xs : List NodeState) → live_count (map {A = NodeState} {B = NodeState} (λ x. if x.number == n then record x { live = false } else x) xs) ≤ live_count xs
live-fewer n [] = omega arith
live-fewer n (x ∷ xs) = grind (arith, live-fewer n xs)

release-fewer : (n : ℕ) (xs : List NodeState) (ends flags : List ℕ) → is_live (record { nodes = xs; ends = ends; flags = flags }) n ≡ true → live_count (map {A = NodeState} {B = NodeState} (λ x. if x.number == n then record x { live = false } else x) xs) + 1 ≤ live_count xs
release-fewer n [] ends flags h = cc
release-fewer n (x ∷ xs) ends flags h = grind (arith, release-fewer n xs ends flags, live-fewer n xs)

-- a live node that is released takes its place with it
pub live-release : (r : TreeRecord) (n : ℕ) → is_live r n ≡ true → live_count (with_release r n).nodes + 1 ≤ live_count r.nodes
live-release r n h = release-fewer n r.nodes r.ends r.flags h

task-same : (n task : ℕ) (xs : List NodeState) → live_count (map {A = NodeState} {B = NodeState} (λ x. if x.number == n then record x { task = Some task } else x) xs) ≡ live_count xs
task-same n task [] = refl
task-same n task (x ∷ xs) = grind (arith, task-same n task xs)

pub live-task : (r : TreeRecord) (n task : ℕ) → live_count (with_task r n task).nodes ≡ live_count r.nodes
live-task r n task = task-same n task r.nodes

count-more : (xs : List NodeState) (x : NodeState) → live_count (xs ++ x ∷ []) ≡ live_count xs + ones x.live
count-more [] x = omega arith
count-more (y ∷ xs) x = omega (arith, count-more xs x)

pub live-child : (r : TreeRecord) (number parent : ℕ) → live_count (with_child r number parent).nodes ≡ live_count r.nodes + 1
live-child r number parent = count-more r.nodes _

length-changed : (change : NodeState → NodeState) (n : ℕ) (xs : List NodeState) → length (map {A = NodeState} {B = NodeState} (λ x. if x.number == n then change x else x) xs) ≡ length xs
length-changed change n [] = refl
length-changed change n (x ∷ xs) = omega (arith, length-changed change n xs)

pub length-release : (r : TreeRecord) (n : ℕ) → length (with_release r n).nodes ≡ length r.nodes
length-release r n = length-changed (λ x. record x { live = false }) n r.nodes

pub length-task : (r : TreeRecord) (n task : ℕ) → length (with_task r n task).nodes ≡ length r.nodes
length-task r n task = length-changed (λ x. record x { task = Some task }) n r.nodes

pub length-child : (r : TreeRecord) (number parent : ℕ) → length (with_child r number parent).nodes ≡ length r.nodes + 1
length-child r number parent = length-append r.nodes _

-- a node is given up with its task, if there is one
pub released-fewer : (m : Option Mark) (r : TreeRecord) → live_count (released m r).nodes ≤ live_count r.nodes
released-fewer None r = omega arith
released-fewer (Some m) r = live-fewer m.node r.nodes

pub length-released : (m : Option Mark) (r : TreeRecord) → length (released m r).nodes ≡ length r.nodes
length-released None r = refl
length-released (Some m) r = length-release r m.node

-- an end changes no node
end-nodes : (r : TreeRecord) (n : ℕ) (b : Bool) → is_known r n ≡ b → (with_end r n).nodes ≡ r.nodes
end-nodes r n true h = rw h refl
end-nodes r n false h = rw h refl

pub live-end : (r : TreeRecord) (n : ℕ) → live_count (with_end r n).nodes ≡ live_count r.nodes
live-end r n = rw (end-nodes r n (is_known r n) refl) refl

pub length-end : (r : TreeRecord) (n : ℕ) → length (with_end r n).nodes ≡ length r.nodes
length-end r n = rw (end-nodes r n (is_known r n) refl) refl

pub ruleset node_laws = (live-release, live-task, live-child, length-release, length-task, length-child)
