use Rattle.rt_scripts.proofs.Prelude.{◌-◌}
use Rattle.rt_scripts.proofs.script.Script.+release_chosen.Given as goal

abbrev pub decreases-release_chosen : goal.decreases-release_chosen
decreases-release_chosen g l = l.past - l.first
