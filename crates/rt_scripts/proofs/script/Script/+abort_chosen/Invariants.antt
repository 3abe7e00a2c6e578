use Rattle.rt_scripts.proofs.Prelude.{◌-◌}
use Rattle.rt_scripts.proofs.script.Script.+abort_chosen.Given as goal

abbrev pub decreases-abort_chosen : goal.decreases-abort_chosen
decreases-abort_chosen g l = l.past - l.first
