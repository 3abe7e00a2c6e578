use Rattle.rt_laws.proofs.Drawings.{no_draw_unannounced, no_draw_announced_so, no_auditor_announced, no_great_short, no_great_long, no_other_length}
use Rattle.rt_laws.proofs.drawing.near_misses_of_drawing_are_not_lawful.Goals as goal

pub returns-clause-unannounced : goal.returns-clause-unannounced
returns-clause-unannounced c = no_draw_unannounced

pub returns-clause-announced : goal.returns-clause-announced
returns-clause-announced c = no_draw_announced_so

pub returns-clause-silent : goal.returns-clause-silent
returns-clause-silent c = no_auditor_announced

pub returns-clause-short : goal.returns-clause-short
returns-clause-short c = no_great_short

pub returns-clause-long : goal.returns-clause-long
returns-clause-long c = no_great_long

pub returns-clause-bytes : goal.returns-clause-bytes
returns-clause-bytes c = no_other_length
