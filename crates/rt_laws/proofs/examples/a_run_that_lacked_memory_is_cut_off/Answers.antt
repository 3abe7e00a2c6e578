use Rattle.rt_laws.proofs.Runs.{cut_off}
use Rattle.rt_laws.proofs.Cut.{lacks_within, lacks_lawfully, lacks_in_maker, lacks_without_call, called_lawfully}
use Rattle.rt_laws.proofs.Lacked.{lacks_beside, lacks_in_join, lacks_at_first, lacks_behind_send}
use Rattle.rt_laws.proofs.examples.a_run_that_lacked_memory_is_cut_off.Goals as goal

pub returns-clause-at_once : goal.returns-clause-at_once
returns-clause-at_once c = cut_off

pub returns-clause-within : goal.returns-clause-within
returns-clause-within c = lacks_within

pub returns-clause-lawful : goal.returns-clause-lawful
returns-clause-lawful c = lacks_lawfully

pub returns-clause-beside : goal.returns-clause-beside
returns-clause-beside c = lacks_beside

pub returns-clause-spawned : goal.returns-clause-spawned
returns-clause-spawned c = lacks_in_join

pub returns-clause-free : goal.returns-clause-free
returns-clause-free c = lacks_at_first

pub returns-clause-sent : goal.returns-clause-sent
returns-clause-sent c = lacks_behind_send

pub returns-clause-maker : goal.returns-clause-maker
returns-clause-maker c = lacks_in_maker

pub returns-clause-lawful_maker : goal.returns-clause-lawful_maker
returns-clause-lawful_maker c = called_lawfully

pub returns-clause-maker_at_once : goal.returns-clause-maker_at_once
returns-clause-maker_at_once c = lacks_without_call
