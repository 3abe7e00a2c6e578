-- The tree of a run with one spawned task, whatever the numbers of its nodes: a child of node 0 with the task on it, and below that
-- the node of the task's own context.
use Rattle.rt_laws.proofs.Prelude.{◌≡◌, ℕ, Bool, true, false, [], ◌∷◌, Some, None, eqb, eq-eqb, refl, arith, TreeRecord, first_record, new_node, with_child, with_task, with_release, with_end, is_known, is_live, is_ended, is_free}

abbrev pub one_child : ℕ → TreeRecord
one_child child = with_child first_record child 0

-- by which of the two are live
abbrev pub grown : ℕ → ℕ → ℕ → Bool → Bool → TreeRecord
grown child own task upper lower = record {
  nodes =
      new_node 0 None false
      ∷ record { number = child; parent = Some 0; born_ended = false; live = upper; task = Some task }
      ∷ record { number = own; parent = Some child; born_ended = false; live = lower; task = None }
      ∷ [];
  ends = [];
  flags = [];
}

module _ (child : ℕ) (fresh : is_known first_record child ≡ false) where
  root-child : eqb 0 child ≡ false
  root-child = grind arith

  child-child : eqb child child ≡ true
  child-child = eq-eqb child child refl

  pub free : is_free (one_child child) child ≡ true
  free = rw (root-child, child-child) refl

  pub alive : is_live (one_child child) child ≡ true
  alive = rw (root-child, child-child) refl

  pub not_ended : is_ended (one_child child) child ≡ false
  not_ended = rw (root-child, child-child) refl

  module _ (own : ℕ) (other : is_known (one_child child) own ≡ false) where
    child-root : eqb child 0 ≡ false
    child-root = let k = root-child in grind arith

    root-own : eqb 0 own ≡ false
    root-own = grind arith

    child-own : eqb child own ≡ false
    child-own = let k = root-own in grind arith

    own-child : eqb own child ≡ false
    own-child = let k = child-own in grind arith

    own-own : eqb own own ≡ true
    own-own = eq-eqb own own refl

    module _ (task : ℕ) where
      pub spawned : with_task (with_child (one_child child) own child) child task ≡ grown child own task true true
      spawned = rw (root-child, child-child, own-child) refl

      pub closed : with_release (grown child own task true true) own ≡ grown child own task true false
      closed = rw (root-own, child-own, own-own) refl

      pub left : with_release (grown child own task true false) child ≡ grown child own task false false
      left = rw (root-child, child-child, own-child) refl

      pub still : is_ended (grown child own task true false) child ≡ false
      still = rw (root-child, child-child) refl

      pub live : is_live (grown child own task true true) own ≡ true
      live = rw (root-own, child-own, own-own) refl

      pub known : is_known (grown child own task false false) child ≡ true
      known = rw (root-child, child-child) refl

      -- the end of the child flags the task
      pub flags : (with_end (grown child own task false false) child).flags ≡ task ∷ []
      flags = rw (root-child, child-child, child-root, root-own, child-own, own-own, root-child, child-child, root-own, child-own, own-own) refl
