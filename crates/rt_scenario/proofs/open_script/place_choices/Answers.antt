use Rattle.rt_scenario.proofs.Prelude.{slice_index, rules, map_over_more}
use Rattle.rt_scenario.proofs.open_script.place_choices.Goals as goal

pub loop-choice-preserved : goal.loop-choice-preserved
loop-choice-preserved c = search (rules, map_over_more (slice_index c.args.places.now))
