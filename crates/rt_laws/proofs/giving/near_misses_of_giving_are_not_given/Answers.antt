use Rattle.rt_laws.proofs.Given.{no_other_short, no_other_long, no_other_bytes, in_order, not_turned, not_left_out, nothing_lost, nothing_changed}
use Rattle.rt_laws.proofs.giving.near_misses_of_giving_are_not_given.Goals as goal

pub returns-clause-short : goal.returns-clause-short
returns-clause-short c = no_other_short

pub returns-clause-long : goal.returns-clause-long
returns-clause-long c = no_other_long

pub returns-clause-bytes : goal.returns-clause-bytes
returns-clause-bytes c = no_other_bytes

pub returns-clause-order : goal.returns-clause-order
returns-clause-order c = in_order

pub returns-clause-turned : goal.returns-clause-turned
returns-clause-turned c = not_turned

pub returns-clause-left_out : goal.returns-clause-left_out
returns-clause-left_out c = not_left_out

pub returns-clause-lost : goal.returns-clause-lost
returns-clause-lost c = nothing_lost

pub returns-clause-changed : goal.returns-clause-changed
returns-clause-changed c = nothing_changed
