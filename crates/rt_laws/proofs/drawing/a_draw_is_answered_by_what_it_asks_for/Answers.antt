use Rattle.rt_laws.proofs.Drawings.{short_answers, long_answers, bytes_answer}
use Rattle.rt_laws.proofs.drawing.a_draw_is_answered_by_what_it_asks_for.Goals as goal

pub returns-clause-short : goal.returns-clause-short
returns-clause-short c = short_answers

pub returns-clause-long : goal.returns-clause-long
returns-clause-long c = long_answers

pub returns-clause-bytes : goal.returns-clause-bytes
returns-clause-bytes c = bytes_answer
