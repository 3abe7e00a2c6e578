use Rattle.rt_machine.proofs.Prelude.{◌≡◌, ◌∙◌, ◌<◌, ◌++◌, ap, sym, List, ℕ, length, arith}
use Rattle.rt_machine.proofs.Shuffled.{plain-drains}
use Rattle.rt_machine.proofs.machine.Machine.round.Goals as goal

pub returns-then-len-lt2-clause-ok : goal.returns-then-len-lt2-clause-ok
returns-then-len-lt2-clause-ok g c =
    let copied = c.in_ok-extend_from_slice.ensures.items ∙ ap (λ (xs : List ℕ). xs ++ c.as_slice.result.now) c.clear.ensures.items ∙ c.as_slice.ensures.value in
    let ready : c.extend_from_slice.new.self.items ≡ c.args.self.now.told.state.ready = rw (← c.self.view_is) (copied ∙ sym c.self.invariant.ready_is) in
    let few : length c.extend_from_slice.new.self.items < 2 = omega (arith, ap length copied, c.if-len-lt2.true, c.len.ensures, c.as_slice.ensures.len, ap length c.as_slice.ensures.value) in
    plain-drains _ c.args.self.now c.plain_round.new.self c.extend_from_slice.new.self.items c.plain_round.result (rw (← c.self.view_is) c.self.invariant.none_drawn) ready few (rw c.deref.ensures.value at c.plain_round.ensures.ok)
