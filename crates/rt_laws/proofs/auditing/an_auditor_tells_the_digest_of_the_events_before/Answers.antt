use Rattle.rt_laws.proofs.Audited.{only_digest, that_digest}
use Rattle.rt_laws.proofs.auditing.an_auditor_tells_the_digest_of_the_events_before.Goals as goal

pub returns-clause-only : goal.returns-clause-only
returns-clause-only c = only_digest

pub returns-clause-that : goal.returns-clause-that
returns-clause-that c = that_digest
