use Rattle.rt_laws.proofs.Audited.{digest_answers, no_refused_digest, no_other_digest}
use Rattle.rt_laws.proofs.auditing.an_auditor_is_answered_by_four_bytes.Goals as goal

pub returns-clause-answer : goal.returns-clause-answer
returns-clause-answer c = digest_answers

pub returns-clause-refused : goal.returns-clause-refused
returns-clause-refused c = no_refused_digest

pub returns-clause-count : goal.returns-clause-count
returns-clause-count c = no_other_digest
