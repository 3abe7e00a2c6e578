use Rattle.std.proofs.Common.{rules, sym}
use Rattle.rt_buffer_tests.proofs.durable.ask.Goals as goal

pub returns-in-Ready-Ok-clause-crash : goal.returns-in-Ready-Ok-clause-crash
returns-in-Ready-Ok-clause-crash c = λ content number holds. c.in-Ready-Ok.ensures.crash content (sym number) holds (search rules)
