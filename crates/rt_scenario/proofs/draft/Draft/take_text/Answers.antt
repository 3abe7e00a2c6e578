use Rattle.rt_scenario.proofs.Prelude.{length}
use Rattle.rt_scenario.proofs.draft.Draft.take_text.Goals as goal

pub push_plain-requires-clause-free : goal.push_plain-requires-clause-free
push_plain-requires-clause-free c = c.in-Some.ensures.free (length c.args.self.now.scripts)
