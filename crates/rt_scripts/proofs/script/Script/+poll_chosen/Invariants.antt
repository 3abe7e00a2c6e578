use Rattle.rt_scripts.proofs.Prelude.{◌-◌}
use Rattle.rt_scripts.proofs.script.Script.+poll_chosen.Given as goal

abbrev pub decreases-poll_chosen : goal.decreases-poll_chosen
decreases-poll_chosen g l = l.past - l.first
