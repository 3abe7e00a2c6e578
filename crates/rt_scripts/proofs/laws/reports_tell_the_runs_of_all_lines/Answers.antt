use Rattle.rt_scripts.proofs.Misses.{each-line, no-report-without-a-line, no-report-behind-a-failure, begins-behind, to-the-end}
use Rattle.rt_scripts.proofs.laws.reports_tell_the_runs_of_all_lines.Goals as goal

pub returns-clause-each_line : goal.returns-clause-each_line
returns-clause-each_line c = each-line

pub returns-clause-without_a_line : goal.returns-clause-without_a_line
returns-clause-without_a_line c = no-report-without-a-line

pub returns-clause-behind_a_failure : goal.returns-clause-behind_a_failure
returns-clause-behind_a_failure c = no-report-behind-a-failure

pub returns-clause-begins : goal.returns-clause-begins
returns-clause-begins c = begins-behind

pub returns-clause-to_the_end : goal.returns-clause-to_the_end
returns-clause-to_the_end c = to-the-end
