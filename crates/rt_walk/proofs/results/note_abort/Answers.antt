use Rattle.rt_walk.proofs.Prelude.{◌∙◌, sym, true, TaskResult}
use Rattle.rt_walk.proofs.Tables.{replaced-found}
use Rattle.rt_walk.proofs.results.note_abort.Goals as goal

pub returns-in-Some : goal.returns-in-Some
returns-in-Some c = c.replace.ensures ∙ replaced-found (λ (r : TaskResult). record r { aborted = true }) c.args.task c.in-Some.found c.args.results.now (sym c.in-Some.ensures)
