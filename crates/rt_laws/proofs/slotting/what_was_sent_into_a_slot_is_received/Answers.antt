use Rattle.rt_laws.proofs.Mailing.{number_run, error_run, its_number}
use Rattle.rt_laws.proofs.slotting.what_was_sent_into_a_slot_is_received.Goals as goal

pub returns-clause-number : goal.returns-clause-number
returns-clause-number c = number_run

pub returns-clause-error : goal.returns-clause-error
returns-clause-error c = error_run

pub returns-clause-value : goal.returns-clause-value
returns-clause-value c = its_number
