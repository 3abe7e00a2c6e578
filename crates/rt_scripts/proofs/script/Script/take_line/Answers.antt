use Rattle.rt_scripts.proofs.Prelude.{rules, refl, to_z-of_z, w32, w64, SFits, Ready, polled-gives, goes_on}
use Rattle.rt_scripts.proofs.script.Script.take_line.Goals as goal

pub returns-in-Yield-clause-steps : goal.returns-in-Yield-clause-steps
unfolding goes_on
returns-in-Yield-clause-steps g c lines =
    rw (c.in-Yield.is) (c.give_way.ensures.steps (λ next. goes_on lines next c.args.world.now.told.state.clock.time c.args.cx.now.task))

pub returns-in-Draw-clause-steps : goal.returns-in-Draw-clause-steps
unfolding goes_on
returns-in-Draw-clause-steps g c lines =
    rw (c.in-Draw.is) (c.draw.ensures.steps (λ next. goes_on lines next c.args.world.now.told.state.clock.time c.args.cx.now.task))

pub returns-in-Spawn-clause-steps : goal.returns-in-Spawn-clause-steps
unfolding goes_on
returns-in-Spawn-clause-steps g c lines =
    rw (c.in-Spawn.is) (c.spawn.ensures.steps (λ next. goes_on lines next c.args.world.now.told.state.clock.time c.args.cx.now.task))

pub returns-in-Join-clause-steps : goal.returns-in-Join-clause-steps
unfolding goes_on
returns-in-Join-clause-steps g c lines =
    rw (c.in-Join.is) (c.join.ensures.steps (λ next. goes_on lines next c.args.world.now.told.state.clock.time c.args.cx.now.task))

pub returns-in-AbortSelf-clause-steps : goal.returns-in-AbortSelf-clause-steps
unfolding goes_on
returns-in-AbortSelf-clause-steps g c lines =
    rw (c.in-AbortSelf.is) (c.abort_itself.ensures.steps (λ next. goes_on lines next c.args.world.now.told.state.clock.time c.args.cx.now.task))

pub returns-in-End-clause-steps : goal.returns-in-End-clause-steps
unfolding goes_on
returns-in-End-clause-steps g c lines =
    let fits : SFits w64 c.in-End.value = (search rules) in
    rw (c.in-End.is, to_z-of_z w64 c.in-End.value fits) (polled-gives c.args.world.now c.args.self.now (Ready c.in-End.value) c.args.self.now refl)

pub returns-in-Sleep-clause-steps : goal.returns-in-Sleep-clause-steps
unfolding goes_on
returns-in-Sleep-clause-steps g c lines =
    rw (c.in-Sleep.is) (rw c.sleep-fresh.ensures at (c.sleep.ensures.steps (λ next. goes_on lines next c.args.world.now.told.state.clock.time c.args.cx.now.task)))

pub returns-in-Until-clause-steps : goal.returns-in-Until-clause-steps
unfolding goes_on
returns-in-Until-clause-steps g c lines =
    rw (c.in-Until.is) (rw c.sleep_until-fresh.ensures at (c.sleep-in-Until.ensures.steps (λ next. goes_on lines next c.args.world.now.told.state.clock.time c.args.cx.now.task)))

pub returns-in-EndLast-clause-steps : goal.returns-in-EndLast-clause-steps
unfolding goes_on
returns-in-EndLast-clause-steps g c lines =
    let fits : SFits w64 c.self-in-EndLast.inside.last = (search rules) in
    rw (c.in-EndLast.is, to_z-of_z w64 c.self-in-EndLast.inside.last fits, ← c.self-in-EndLast.view_is) (polled-gives c.args.world.now _ (Ready c.self-in-EndLast.inside.last) _ refl)

pub returns-in-Within-clause-steps : goal.returns-in-Within-clause-steps
unfolding goes_on
returns-in-Within-clause-steps g c lines =
    rw (c.in-Within.is) (rw c.sleep-fresh-in-Within.ensures at (c.join_within.ensures.steps (λ next. goes_on lines next c.args.world.now.told.state.clock.time c.args.cx.now.task)))

pub returns-in-Select-clause-steps : goal.returns-in-Select-clause-steps
unfolding goes_on
returns-in-Select-clause-steps g c lines =
    rw (c.in-Select.is) (c.select.ensures.steps (λ next. goes_on lines next c.args.world.now.told.state.clock.time c.args.cx.now.task))

pub returns-in-Stopped-clause-steps : goal.returns-in-Stopped-clause-steps
unfolding goes_on
returns-in-Stopped-clause-steps g c lines =
    rw (c.in-Stopped.is) (c.ask_stopped.ensures.steps (λ next. goes_on lines next c.args.world.now.told.state.clock.time c.args.cx.now.task))

pub returns-in-Wait-clause-steps : goal.returns-in-Wait-clause-steps
unfolding goes_on
returns-in-Wait-clause-steps g c lines =
    rw (c.in-Wait.is) (c.wait.ensures.steps (λ next. goes_on lines next c.args.world.now.told.state.clock.time c.args.cx.now.task))

pub returns-in-Stop-clause-steps : goal.returns-in-Stop-clause-steps
unfolding goes_on
returns-in-Stop-clause-steps g c lines =
    let fits : SFits w32 c.in-Stop.value = (search rules) in
    rw (c.in-Stop.is) (rw (to_z-of_z w32 c.in-Stop.value fits) at (c.stop.ensures.steps (λ next. goes_on lines next c.args.world.now.told.state.clock.time c.args.cx.now.task)))

pub returns-in-StopWithin-clause-steps : goal.returns-in-StopWithin-clause-steps
unfolding goes_on
returns-in-StopWithin-clause-steps g c lines =
    let fits : SFits w32 c.in-StopWithin.value = (search rules) in
    rw (c.in-StopWithin.is) (rw (to_z-of_z w32 c.in-StopWithin.value fits) at (c.stop-in-StopWithin.ensures.steps (λ next. goes_on lines next c.args.world.now.told.state.clock.time c.args.cx.now.task)))
