use Rattle.rt_laws.proofs.Given.{in_parts}
use Rattle.rt_laws.proofs.giving.a_stream_gives_in_parts_what_it_gives.Goals as goal

pub returns : goal.returns
returns c = in_parts
