use Rattle.rt_walk.proofs.Prelude.{◌∙◌, sym, TaskResult}
use Rattle.rt_walk.proofs.Tables.{replaced-found}
use Rattle.rt_walk.proofs.results.set_outcome.Goals as goal

pub returns-in-Some : goal.returns-in-Some
returns-in-Some c = c.replace.ensures ∙ replaced-found (λ (r : TaskResult). record r { outcome = c.args.outcome }) c.args.task c.in-Some.found c.args.results.now (sym c.in-Some.ensures)
