use Rattle.rt_walk.proofs.Prelude.{◌∙◌, sym, true, Mark}
use Rattle.rt_walk.proofs.Tables.{replaced-found}
use Rattle.rt_walk.proofs.marks.leave.Goals as goal

pub returns-in-Some : goal.returns-in-Some
returns-in-Some c = c.replace.ensures ∙ replaced-found (λ (m : Mark). record m { left = true }) c.args.task c.in-Some.mark c.args.marks.now (sym c.in-Some.ensures)
