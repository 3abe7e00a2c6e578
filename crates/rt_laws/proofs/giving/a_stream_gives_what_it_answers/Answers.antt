use Rattle.rt_laws.proofs.Given.{gives_numbers, gives_bytes, all_answered, gives_nothing, draws_nothing}
use Rattle.rt_laws.proofs.giving.a_stream_gives_what_it_answers.Goals as goal

pub returns-clause-numbers : goal.returns-clause-numbers
returns-clause-numbers c = gives_numbers

pub returns-clause-bytes : goal.returns-clause-bytes
returns-clause-bytes c = gives_bytes

pub returns-clause-calls : goal.returns-clause-calls
returns-clause-calls c = all_answered

pub returns-clause-nothing : goal.returns-clause-nothing
returns-clause-nothing c = gives_nothing

pub returns-clause-no_more : goal.returns-clause-no_more
returns-clause-no_more c = draws_nothing
