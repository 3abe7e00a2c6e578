use Rattle.rt_laws.proofs.Given.{counts, counts_not_turned, counts_not_twice, counts_not_late, counts_no_other_byte, counting_fills}
use Rattle.rt_laws.proofs.giving.a_counting_stream_gives_its_counts.Goals as goal

pub returns-clause-counts : goal.returns-clause-counts
returns-clause-counts c = counts

pub returns-clause-turned : goal.returns-clause-turned
returns-clause-turned c = counts_not_turned

pub returns-clause-twice : goal.returns-clause-twice
returns-clause-twice c = counts_not_twice

pub returns-clause-late : goal.returns-clause-late
returns-clause-late c = counts_not_late

pub returns-clause-byte : goal.returns-clause-byte
returns-clause-byte c = counts_no_other_byte

pub returns-clause-fills : goal.returns-clause-fills
returns-clause-fills c = counting_fills
