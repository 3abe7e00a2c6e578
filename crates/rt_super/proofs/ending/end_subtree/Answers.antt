use Rattle.rt_super.proofs.Prelude.{length, reverse, true, arith, ap, ◌∙◌, set, length-append, length-reverse, is_marked, parents, children_from}
use Rattle.rt_super.proofs.Walk.{popped_within, count_marks, children_at, task_here, walk_skip, walk_mark, walk_room, is_marked-set, marks_set-set, marks_set-lt, walk_shorter_by_one, few_flags}
use Rattle.rt_super.proofs.ending.end_subtree.Goals as goal

pub bounds-ended-at : goal.bounds-ended-at
bounds-ended-at c = let within = popped_within _ _ _ _ _ _ _ _ _ _ c.loop-at.invariant.walk c.in-Some.ensures.items c.requires.known in omega (arith, count_marks _ _ _ c.requires.sound)

pub bounds-ended-at-then-not-ended-at : goal.bounds-ended-at-then-not-ended-at
bounds-ended-at-then-not-ended-at c = let within = popped_within _ _ _ _ _ _ _ _ _ _ c.loop-at.invariant.walk c.in-Some.ensures.items c.requires.known in omega (arith, count_marks _ _ _ c.requires.sound)

pub bounds-nodes-at : goal.bounds-nodes-at
bounds-nodes-at c = popped_within _ _ _ _ _ _ _ _ _ _ c.loop-at.invariant.walk c.in-Some.ensures.items c.requires.known

pub offset_bounds-nodes-at : goal.offset_bounds-nodes-at
offset_bounds-nodes-at c = let within = popped_within _ _ _ _ _ _ _ _ _ _ c.loop-at.invariant.walk c.in-Some.ensures.items c.requires.known in omega arith

pub flag-requires : goal.flag-requires
flag-requires c =
    let within = popped_within _ _ _ _ _ _ _ _ _ _ c.loop-at.invariant.walk c.in-Some.ensures.items c.requires.known in
    let lengths = count_marks _ _ _ c.requires.sound in
    let room = marks_set-lt c.loop-at.ended c.in-Some.at (omega arith) c.if-not-ended-at.true in
    record { room = omega arith }

pub push_children-requires : goal.push_children-requires
push_children-requires c =
    let w = rw (c.in-Some.ensures.items) at c.loop-at.invariant.walk in
    let within = popped_within _ _ _ _ _ _ _ _ _ _ c.loop-at.invariant.walk c.in-Some.ensures.items c.requires.known in
    let lengths = count_marks _ _ _ c.requires.sound in
    let children = children_at c.args.nodes.now _ c.in-Some.at _ c.requires.sound within c.index-nodes-at.is in
    let next = walk_mark _ _ _ _ _ _ _ (is_marked (set c.loop-at.ended c.in-Some.at true)) _ _ w c.requires.sound.older c.if-not-ended-at.true (λ m. is_marked-set c.loop-at.ended c.in-Some.at m (omega arith)) in
    let few = walk_room _ _ _ _ _ _ _ _ next c.requires.sound.older (omega (arith, c.requires.sound.lengths)) in
    let turned = length-reverse (children_from c.in-Some.at 0 (parents c.args.nodes.now)) in
    let both = length-append c.pop.new.self.items (reverse (children_from c.in-Some.at 0 (parents c.args.nodes.now))) in
    let same = ap length (c.as_slice.ensures ∙ children) in
    record { room = omega arith }

pub loop-at-smaller-then-not-ended-at : goal.loop-at-smaller-then-not-ended-at
loop-at-smaller-then-not-ended-at c =
    let within = popped_within _ _ _ _ _ _ _ _ _ _ c.loop-at.invariant.walk c.in-Some.ensures.items c.requires.known in
    let children = children_at c.args.nodes.now _ c.in-Some.at _ c.requires.sound within c.index-nodes-at.is in
    rw (c.push_children.ensures.pushed, c.as_slice.ensures, children, c.in-Some.ensures.items) (walk_shorter_by_one (parents c.args.nodes.now) c.pop.new.self.items c.in-Some.at c.requires.sound.older)

pub loop-at-preserved-then-not-ended-at : goal.loop-at-preserved-then-not-ended-at
loop-at-preserved-then-not-ended-at c =
    let w = rw (c.in-Some.ensures.items) at c.loop-at.invariant.walk in
    let within = popped_within _ _ _ _ _ _ _ _ _ _ c.loop-at.invariant.walk c.in-Some.ensures.items c.requires.known in
    let lengths = count_marks _ _ _ c.requires.sound in
    let children = children_at c.args.nodes.now _ c.in-Some.at _ c.requires.sound within c.index-nodes-at.is in
    let task = task_here c.args.nodes.now c.in-Some.at c.index-nodes-at.result within c.index-nodes-at.is in
    let next = walk_mark _ _ _ _ _ _ _ (is_marked (set c.loop-at.ended c.in-Some.at true)) _ _ w c.requires.sound.older c.if-not-ended-at.true (λ m. is_marked-set c.loop-at.ended c.in-Some.at m (omega arith)) in
    let more = marks_set-set c.loop-at.ended c.in-Some.at (omega arith) c.if-not-ended-at.true in
    record {
      walk = rw (c.push_children.ensures.pushed, c.as_slice.ensures, children, c.flag.ensures.noted, c.get.ensures, ← task) next;
      few = few_flags c.loop-at.flags.items c.get.result _ _ _ c.flag.ensures.noted more c.loop-at.invariant.few;
      visits = c.push_children.ensures.room ∙ c.in-Some.ensures.capacity ∙ c.loop-at.invariant.visits;
      room = c.flag.ensures.room ∙ c.loop-at.invariant.room;
    }

pub loop-at-preserved : goal.loop-at-preserved
loop-at-preserved c =
    let w = rw (c.in-Some.ensures.items) at c.loop-at.invariant.walk in
    record {
      walk = walk_skip _ _ _ _ _ _ _ _ _ w c.requires.sound.older c.requires.sound.closed c.if-not-ended-at.false;
      few = c.loop-at.invariant.few;
      visits = c.in-Some.ensures.capacity ∙ c.loop-at.invariant.visits;
      room = c.loop-at.invariant.room;
    }
