use Rattle.rt_scenario.proofs.Prelude.{rules, sym, map_over_more, placed_at}
use Rattle.rt_scenario.proofs.Indexed.{unplaced}
use Rattle.rt_scenario.proofs.open_script.place_lines.Goals as goal

pub returns-then-is_empty : goal.returns-then-is_empty
returns-then-is_empty c = sym (unplaced c.args.places.now c.args.lines.now (search rules) c.requires)

pub loop-line-preserved : goal.loop-line-preserved
loop-line-preserved c = search (rules, map_over_more (placed_at c.args.places.now))
