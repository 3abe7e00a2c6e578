use Rattle.rt_scripts.proofs.Prelude.{rules, inl, inr, refl}
use Rattle.rt_scripts.proofs.Written.{part_of}
use Rattle.rt_scripts.proofs.simulate.refuse.Goals as goal

pub returns-in-Err-clause-ends : goal.returns-in-Err-clause-ends
returns-in-Err-clause-ends g c =
    let held = g.K.Sink8.held in
    inr (inl (inl (search rules), (c.args.status, (refl, search rules, search rules)), part_of (held c.args.sink.now) (held c.write_whole.new.sink) c.as_bytes.result.now c.args.line.now (search rules) c.in-Err.ensures.part))
