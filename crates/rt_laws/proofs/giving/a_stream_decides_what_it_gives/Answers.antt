use Rattle.rt_laws.proofs.Given.{one_given}
use Rattle.rt_laws.proofs.giving.a_stream_decides_what_it_gives.Goals as goal

pub returns : goal.returns
returns c = one_given
