use Rattle.rt_world.proofs.Prelude.{◌≡◌, ◌∙◌, sym, refl, Some, None, true, false, is_some, get_or, ◌+◌, eqb, arith, option_eq, common_steps}
use Rattle.rt_world.proofs.Places.{ends-place, ends-last, ends-never}
use Rattle.rt_world.proofs.tasks.Tasks.ends_next.Goals as goal
use Rattle.rt_world.proofs.tasks.Tasks.ends_next.Goals.{then-loop-place-test+else-eq-2, then-is_none, else-is_none, else-loop-place-test}

pub returns-then-place-len-clause-next : goal.returns-then-place-len-clause-next
returns-then-place-len-clause-next g c =
    let i = c.self.inside in
    let place = c.loop-place.place in
    elim c.loop-place-test.branch [
      | then-loop-place-test+else-eq-2 w ↦
          elim w.if-is_none.branch [
            | then-is_none w' ↦ absurd (cc)
            | else-is_none w' ↦
                let here : is_some (get_or i.places.items place None) ≡ true = grind (arith, common_steps) in
                let other : option_eq eqb c.args.root (Some (i.first + place)) ≡ false = sym w'.eq-else-is_none.ensures ∙ sym w'.value-is ∙ w.if-eq-2.false in
                rw (← c.self.view_is) (sym (ends-place c.args.root (i.first + place) i.first place i.places.items refl c.loop-place.invariant.passed here other))
          ]
      | else-loop-place-test w ↦ absurd (omega arith)
    ]

pub returns-in-Some-clause-next : goal.returns-in-Some-clause-next
returns-in-Some-clause-next g c =
    let i = c.self.inside in
    rw (← c.self.view_is)
    (sym (ends-last c.args.root i.first c.loop-place.place i.places.items c.loop-place.invariant.passed (omega arith) c.in-Some.task (sym c.if-has.ensures)))

pub returns-in_default-clause-next : goal.returns-in_default-clause-next
returns-in_default-clause-next g c =
    let i = c.self.inside in
    rw (← c.self.view_is)
    (sym (ends-never c.args.root i.first c.loop-place.place i.places.items c.loop-place.invariant.passed (omega arith) (λ k e. cc)))

pub returns-in_default-2-clause-next : goal.returns-in_default-2-clause-next
returns-in_default-2-clause-next g c =
    let i = c.self.inside in
    rw (← c.self.view_is)
    (sym (ends-never c.args.root i.first c.loop-place.place i.places.items c.loop-place.invariant.passed (omega arith) (λ k e. absurd (cc))))
