use Rattle.rt_scripts.proofs.Prelude.{◌-◌}
use Rattle.rt_scripts.proofs.script.Script.+hold_handles.Given as goal

abbrev pub decreases-hold_handles : goal.decreases-hold_handles
decreases-hold_handles l = l.past - l.first
