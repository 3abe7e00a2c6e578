use Rattle.rt_buffer.proofs.Prelude.{◌≡◌, false, length, sym, ◌∙◌, is_within}
use Rattle.rt_buffer.proofs.Merging.{merged_stops, stays}
use Rattle.rt_buffer.proofs.tip.Buffer.merge_chunks.Goals as goal

pub returns-then-not-branch-clause-tip : goal.returns-then-not-branch-clause-tip
returns-then-not-branch-clause-tip c =
    let beyond : is_within c.loop-self.self c.loop-self.left.at (length c.first.result.now) ≡ false = rw c.at.ensures at (sym c.in_ok-merge.ensures.within ∙ c.if-not-branch.true) in
    let far = merged_stops c.loop-self.self c.loop-self.left.at c.loop-self.left.chunks c.first.result.now c.first.ensures beyond _ (sym c.loop-self.invariant) in
    stays c.in_ok-merge.field-0 _ c.merge.new.self _ c.loop-self.self c.in_ok-merge.ensures.within c.if-not-branch.true c.in_ok-merge.ensures.merged ∙ sym far.0

pub returns-then-not-branch-clause-left : goal.returns-then-not-branch-clause-left
returns-then-not-branch-clause-left c =
    let beyond : is_within c.loop-self.self c.loop-self.left.at (length c.first.result.now) ≡ false = rw c.at.ensures at (sym c.in_ok-merge.ensures.within ∙ c.if-not-branch.true) in
    sym (merged_stops c.loop-self.self c.loop-self.left.at c.loop-self.left.chunks c.first.result.now c.first.ensures beyond _ (sym c.loop-self.invariant)).1
