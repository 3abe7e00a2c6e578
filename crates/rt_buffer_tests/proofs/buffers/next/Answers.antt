use Rattle.rt_buffer_tests.proofs.buffers.next.Goals as goal

pub returns-clause-bytes : goal.returns-clause-bytes
returns-clause-bytes c = λ s. (c.read.ensures.flat s).1

pub returns-clause-stands : goal.returns-clause-stands
returns-clause-stands c = λ s. (c.read.ensures.flat s).0
