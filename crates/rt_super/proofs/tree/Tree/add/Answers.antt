use Rattle.rt_super.proofs.Prelude.{◌≡◌, false, arith, length, refl, ap, sym, ◌∙◌, inl, inr, ⊎_elim, is_some, length-map, length_push, slice_get_past, is_known, parents, states, children_lists, adopted}
use Rattle.rt_super.proofs.Walk.{marks_set-le}
use Rattle.rt_super.proofs.Records.{count_kept, known_kept, live_within, free_new, ended_new}
use Rattle.rt_super.proofs.Shapes.{count_states, marks_set-push, sound_added, right_added, older_of, lasts_of, unmarked_of}
use Rattle.rt_super.proofs.tree.Tree.add.Goals as goal

pub reserve_flags-requires : goal.reserve_flags-requires
reserve_flags-requires c = record { few = omega (arith, c.self.invariant.flags, c.self.invariant.sound.lengths, marks_set-le c.self.inside.ended.items, length-map c.self.inside.nodes.items (λ x. x.parent)) }

pub adopt-requires : goal.adopt-requires
adopt-requires c = record { known = λ p is. let live = rw (← c.self.view_is) at (c.requires.live p is) in omega (arith, live_within _ _ _ _ _ c.self.invariant.right p live, count_states c.self.inside.nodes.items, ap length c.reserve.ensures.items) }

pub invariant_of-self-2 : goal.invariant_of-self-2
invariant_of-self-2 c =
    let same : parents c.adopt.new.nodes.items ≡ parents c.self.inside.nodes.items = c.in_ok-adopt.ensures.parents ∙ ap (λ xs. parents xs) c.reserve.ensures.items in
    let states_same : states c.adopt.new.nodes.items ≡ states c.self.inside.nodes.items = c.in_ok-adopt.ensures.states ∙ ap (λ xs. states xs) c.reserve.ensures.items in
    let lists = c.in_ok-adopt.ensures.adopted ∙ ap (λ xs. adopted (children_lists xs) c.args.parent c.len-number.result) c.reserve.ensures.items in
    let count : length c.adopt.new.nodes.items ≡ length c.self.inside.nodes.items = sym (length-map c.adopt.new.nodes.items (λ x. x.parent)) ∙ ap length same ∙ length-map c.self.inside.nodes.items (λ x. x.parent) in
    let lasts = lasts_of c.self.inside.history.told c.args.parent (rw (← c.self.view_is) at c.requires.lasting) in
    let live = rw (← c.self.view_is) at c.requires.live in
    let empty = rw (← c.self.view_is) at c.requires.rooted in
    let nodes = count_kept _ _ _ _ _ c.self.invariant.right ∙ length-map c.self.inside.nodes.items (λ x. x.parent) in
    record {
      sound = rw (c.push_reserved.ensures.items, c.of.ensures, c.of-2.ensures, c.push_reserved-2.ensures.items, c.reserve-2.ensures.items) (sound_added c.adopt.new.nodes.items c.self.inside.nodes.items _ c.self.inside.ended.items c.args.ended c.len-number.result c.self.invariant.sound same lists c.new.ensures (omega (arith, c.len-number.ensures)) (older_of c.args.parent (length c.self.inside.nodes.items) (λ x e. omega (arith, live_within _ _ _ _ _ c.self.invariant.right x (live x e), count_states c.self.inside.nodes.items))) (unmarked_of c.self.inside.ended.items c.self.inside.history.told c.args.parent c.self.invariant.right.ended lasts) (λ e. ⊎_elim (λ on. inl on) (λ none. inr (sym nodes ∙ ap length none)) (empty e)));
      right = rw (c.push_reserved.ensures.items, c.of.ensures, c.of-2.ensures, c.push_reserved-2.ensures.items, c.reserve-2.ensures.items, c.reserve_flags.ensures.items, c.after-self-inside.ensures) (right_added c.adopt.new.nodes.items c.self.inside.nodes.items _ c.self.inside.ended.items c.args.ended c.self.inside.flags.items c.self.inside.history.told c.len-number.result c.self.invariant.right same states_same refl refl c.self.invariant.sound.lengths (omega (arith, c.len-number.ensures)) lasts);
      flags = rw (c.push_reserved-2.ensures.items, c.reserve-2.ensures.items, c.reserve_flags.ensures.items) (omega (arith, c.self.invariant.flags, marks_set-push c.self.inside.ended.items c.args.ended));
      pending = c.reserve-3.ensures.items ∙ c.self.invariant.pending;
      visits = rw (c.push_reserved.ensures.items, length_push) (omega (arith, count, c.in_ok-reserve-3.ensures.ok));
      room = rw (c.push_reserved.ensures.items, length_push) (omega (arith, count, c.in_ok-reserve_flags.ensures.room));
    }

pub returns-clause-number : goal.returns-clause-number
returns-clause-number c = rw (← c.self.view_is) (omega (arith, c.len-number.ensures, count_kept _ _ _ _ _ c.self.invariant.right, length-map c.self.inside.nodes.items (λ x. x.parent)))

fresh_number : (c : goal.After-self-1) → is_known c.self.inside.history.told c.len-number.result ≡ false
fresh_number c = known_kept _ _ _ _ _ c.self.invariant.right c.len-number.result ∙ ap is_some (slice_get_past (states c.self.inside.nodes.items) c.len-number.result (omega (arith, c.len-number.ensures, count_states c.self.inside.nodes.items)))

pub returns-clause-fresh : goal.returns-clause-fresh
returns-clause-fresh c = rw (← c.self.view_is) (fresh_number c)

pub returns-clause-free : goal.returns-clause-free
returns-clause-free c = rw (c.after-self-inside.ensures) (free_new c.self.inside.history.told c.len-number.result c.args.parent c.args.ended (fresh_number c))

pub returns-clause-born : goal.returns-clause-born
returns-clause-born c =
    let lasts = lasts_of c.self.inside.history.told c.args.parent (rw (← c.self.view_is) at c.requires.lasting) in
    λ n. rw (c.after-self-inside.ensures, ← c.self.view_is) (ended_new _ _ _ _ _ c.self.invariant.right c.args.parent c.args.ended c.len-number.result (omega (arith, c.len-number.ensures, count_states c.self.inside.nodes.items)) (omega (arith, c.self.invariant.sound.lengths, count_states c.self.inside.nodes.items, length-map c.self.inside.nodes.items (λ x. x.parent))) (omega (arith, count_states c.self.inside.nodes.items, length-map c.self.inside.nodes.items (λ x. x.parent))) lasts n)
