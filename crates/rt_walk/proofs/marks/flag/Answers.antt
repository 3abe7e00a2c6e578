use Rattle.rt_walk.proofs.Prelude.{◌∙◌, sym, flagged}
use Rattle.rt_walk.proofs.Tables.{replaced-found}
use Rattle.rt_walk.proofs.marks.flag.Goals as goal

pub returns-in-Some : goal.returns-in-Some
returns-in-Some c = c.replace.ensures ∙ replaced-found flagged c.args.task c.in-Some.mark c.args.marks.now (sym c.in-Some.ensures)
