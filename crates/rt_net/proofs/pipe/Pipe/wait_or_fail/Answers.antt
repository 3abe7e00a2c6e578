use Rattle.rt_net.proofs.Prelude.{rules, arith, ◌≡◌, ◌<◌, channel_of}
use Rattle.rt_net.proofs.Quiet.{parked-quiet}
use Rattle.rt_net.proofs.pipe.Pipe.wait_or_fail.Goals as goal

pub invariant_of-self-2 : goal.invariant_of-self-2
invariant_of-self-2 c =
    let quiet = parked-quiet (channel_of c.self.inside) c.self.inside.held c.args.len c.args.task (search (rules, arith)) c.self.invariant.quiet (search (rules, arith)) (search rules) (search rules) (search (rules, arith)) in
    let lacks : c.self.inside.held < c.args.len = search (rules, arith) in
    record {
      within = c.self.invariant.within;
      of_sink = c.self.invariant.of_sink;
      of_stream = c.self.invariant.of_stream;
      counted = record { read = c.self.invariant.counted.read; taken = c.self.invariant.counted.taken };
      quiet = quiet;
      answer = λ len started enough.
          let same : c.args.len ≡ len = cc in
          absurd (omega (arith, lacks));
    }
