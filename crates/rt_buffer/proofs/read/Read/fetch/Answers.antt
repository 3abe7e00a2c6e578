use Rattle.rt_buffer.proofs.Prelude.{rules}
use Rattle.rt_buffer.proofs.read.Read.fetch.Goals as goal

pub returns-clause-fetched : goal.returns-clause-fetched
returns-clause-fetched g c =
    let gives = c.read_at-fetched.ensures.gives in
    (gives.0, gives.1, (c.read_at-fetched.result, ((search (rules, gives.2)), (search rules), (search rules)), (search rules), (search rules), (search rules)))
