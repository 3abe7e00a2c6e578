use Rattle.rt_buffer.proofs.Prelude.{arith, rules, writer}
use Rattle.rt_buffer.proofs.Steps.{runs_fails, runs_on, runs_waits}
use Rattle.rt_buffer.proofs.write.Write.run.Goals as goal

pub returns-in-Ok-Ready : goal.returns-in-Ok-Ready
returns-in-Ok-Ready g c = record {
  lasts = λ start l. c.finish-progress.ensures.lasts start (c.wait.ensures.lasts start l);
  runs = runs_on g.S.Storage c.args.self.blob c.args.rest c.args.task (writer c.args.store.now c.args.self.held) (writer c.wait.new.store c.wait.new.self.held) (writer c.finish-progress.new.store c.finish-progress.new.self.held)
      c.wait.result c.finish-progress.result c.end.new.store _ (g.E.Env.noted c.args.env.now) (g.E.Env.noted c.wait.new.env) (g.E.Env.noted c.finish-progress.new.env)
      (search rules) c.wait.ensures.waits (rw c.wait.ensures.blob at c.finish-progress.ensures.finishes) (rw (c.finish-progress.ensures.blob, c.wait.ensures.blob) at c.end.ensures.ends);
  callable = c.end.ensures.callable;
  spent = omega (arith, c.wait.ensures.spent, c.finish-progress.ensures.spent);
}

pub returns-in-Ok-Pending : goal.returns-in-Ok-Pending
returns-in-Ok-Pending g c = record {
  lasts = c.wait.ensures.lasts;
  runs = runs_waits g.S.Storage c.args.self.blob c.args.rest c.args.task (writer c.args.store.now c.args.self.held) (writer c.wait.new.store c.wait.new.self.held)
      c.wait.result c.end-in-Ok-Pending.new.store _ (g.E.Env.noted c.args.env.now) (g.E.Env.noted c.wait.new.env) (search rules) c.wait.ensures.waits (rw c.wait.ensures.blob at c.end-in-Ok-Pending.ensures.ends);
  callable = c.end-in-Ok-Pending.ensures.callable;
  spent = omega (arith, c.wait.ensures.spent);
}

pub returns-in-Err : goal.returns-in-Err
returns-in-Err g c = record {
  lasts = c.wait.ensures.lasts;
  runs = runs_fails g.S.Storage c.args.self.blob c.args.rest c.args.task (writer c.args.store.now c.args.self.held) (writer c.wait.new.store c.wait.new.self.held)
      c.wait.result c.in-Err.error c.end-in-Err.new.store _ (g.E.Env.noted c.args.env.now) (g.E.Env.noted c.wait.new.env) (search rules) c.wait.ensures.waits (rw c.wait.ensures.blob at c.end-in-Err.ensures.ends);
  callable = c.end-in-Err.ensures.callable;
  spent = omega (arith, c.wait.ensures.spent);
}
