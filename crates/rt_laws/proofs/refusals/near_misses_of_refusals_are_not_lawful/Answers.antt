use Rattle.rt_laws.proofs.Refusing.{no_child_of_a_bad_label, no_refused_label}
use Rattle.rt_laws.proofs.refusals.near_misses_of_refusals_are_not_lawful.Goals as goal

pub returns-clause-bad_label : goal.returns-clause-bad_label
returns-clause-bad_label c = no_child_of_a_bad_label

pub returns-clause-fit_label : goal.returns-clause-fit_label
returns-clause-fit_label c = no_refused_label
