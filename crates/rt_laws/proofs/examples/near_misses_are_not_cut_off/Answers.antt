use Rattle.rt_laws.proofs.Cut.{not_silent, none_in_a_poll, none_in_an_end, none_by_the_maker}
use Rattle.rt_laws.proofs.examples.near_misses_are_not_cut_off.Goals as goal

pub returns-clause-silent_end : goal.returns-clause-silent_end
returns-clause-silent_end c = not_silent

pub returns-clause-in_a_poll : goal.returns-clause-in_a_poll
returns-clause-in_a_poll c = none_in_a_poll

pub returns-clause-in_an_end : goal.returns-clause-in_an_end
returns-clause-in_an_end c = none_in_an_end

pub returns-clause-by_the_maker : goal.returns-clause-by_the_maker
returns-clause-by_the_maker c = none_by_the_maker
