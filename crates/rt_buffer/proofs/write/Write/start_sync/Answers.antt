use Rattle.rt_buffer.proofs.Prelude.{arith, refl, writer}
use Rattle.rt_buffer.proofs.Durable.{start_keeps, unbegun}
use Rattle.rt_buffer.proofs.Framed.{starts_leave}
use Rattle.rt_buffer.proofs.Steps.{none_has, some_has, starts_at_once, starts_behind, starts_handle}
use Rattle.rt_buffer.proofs.write.Write.start_sync.Goals as goal

pub returns-then-is_empty : goal.returns-then-is_empty
returns-then-is_empty g c =
    let starts = starts_at_once g.S.Storage c.args.self.blob c.args.task (writer c.args.store.now c.args.self.held) (writer c.begin-progress.new.store c.begin-progress.new.self.held) c.begin-progress.result c.end.new.store _ _ (g.E.Env.noted c.args.env.now) (g.E.Env.noted c.begin-progress.new.env)
    (none_has _ (c.if-is_empty.ensures.0 refl)) c.begin-progress.ensures.begins (rw c.begin-progress.ensures.blob at c.end.ensures.ends) c.handed.ensures in record {
      lasts = c.begin-progress.ensures.lasts;
      starts = starts;
      handle = starts_handle g.S.Storage c.args.self.blob c.args.task (writer c.args.store.now c.args.self.held) c.end.new.store _ _ c.handed.result starts.0 starts.2;
      durable = λ lies knows.
          unbegun _ _ c.handed.result _ _ (start_keeps g.S.Storage c.args.self.blob c.args.task
          (writer c.args.store.now c.args.self.held) c.end.new.store _ starts.0 lies knows starts.2);
      others = λ knows.
          let came = starts_leave g.S.Storage c.args.self.blob c.args.task (writer c.args.store.now c.args.self.held) c.end.new.store _ starts.0 knows starts.2 in
          (came.0, unbegun _ _ c.handed.result _ _ came.1);
      callable = c.end.ensures.callable;
      spent = omega (arith, c.begin-progress.ensures.spent);
    }

pub returns : goal.returns
returns g c =
    let starts = starts_behind g.S.Storage c.args.self.blob c.args.task (writer c.args.store.now c.args.self.held) c.run.new.store _ _ (g.E.Env.noted c.args.env.now) (g.E.Env.noted c.run.new.env)
    (some_has _ (λ none. c.if-is_empty.ensures.1 none)) c.run.ensures.runs c.handed-2.ensures in record {
      lasts = c.run.ensures.lasts;
      starts = starts;
      handle = starts_handle g.S.Storage c.args.self.blob c.args.task (writer c.args.store.now c.args.self.held) c.run.new.store _ _ c.handed-2.result starts.0 starts.2;
      durable = λ lies knows.
          unbegun _ _ c.handed-2.result _ _ (start_keeps g.S.Storage c.args.self.blob c.args.task
          (writer c.args.store.now c.args.self.held) c.run.new.store _ starts.0 lies knows starts.2);
      others = λ knows.
          let came = starts_leave g.S.Storage c.args.self.blob c.args.task (writer c.args.store.now c.args.self.held) c.run.new.store _ starts.0 knows starts.2 in
          (came.0, unbegun _ _ c.handed-2.result _ _ came.1);
      callable = c.run.ensures.callable;
      spent = omega (arith, c.run.ensures.spent);
    }
