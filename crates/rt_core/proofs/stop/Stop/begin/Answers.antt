use Rattle.rt_core.proofs.Prelude.{rules, SFits, w32, to_z-of_z}
use Rattle.rt_core.proofs.Stops.{late-goes, begun-goes, lacked-goes}
use Rattle.rt_core.proofs.stop.Stop.begin.Goals as goal

pub returns-in-Err-clause-steps : goal.returns-in-Err-clause-steps
returns-in-Err-clause-steps g c = late-goes _ _ _ c.now.ensures.time _ c.limit_of.ensures _ _ c.in-Err.is

pub returns-in-Ok-stop-clause-steps : goal.returns-in-Ok-stop-clause-steps
returns-in-Ok-stop-clause-steps g c =
    let fits : SFits w32 c.args.self.now.value = search rules in
    rw (c.put.ensures, c.limited.ensures, c.of.ensures)
    (begun-goes c.args.self.now _ _ c.now.ensures.time _ c.limit_of.ensures _ _ _ c.in-Ok.is _ (rw (to_z-of_z w32 c.args.self.now.value fits) at c.in-Ok-stop.ensures.ok))

pub returns-in-Err-stop-clause-steps : goal.returns-in-Err-stop-clause-steps
returns-in-Err-stop-clause-steps g c =
    lacked-goes _ _ _ c.now.ensures.time _ c.limit_of.ensures _ _ _ c.in-Ok.is c.in-Err-stop.ensures.err
