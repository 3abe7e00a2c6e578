use Rattle.rt_laws.proofs.Handed.{slot_sent_once, slot_handed_once}
use Rattle.rt_laws.proofs.a_value_of_a_slot_is_sent_and_handed_out_once.Goals as goal

pub returns-clause-sent : goal.returns-clause-sent
returns-clause-sent c = slot_sent_once

pub returns-clause-handed_out : goal.returns-clause-handed_out
returns-clause-handed_out c = slot_handed_once
