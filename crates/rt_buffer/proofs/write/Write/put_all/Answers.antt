use Rattle.rt_buffer.proofs.Prelude.{rules, length, ◌*◌, writer}
use Rattle.rt_buffer.proofs.Steps.{puts_first, puts_none, puts_refused, spent_chunk}
use Rattle.rt_buffer.proofs.write.Write.put_all.Goals as goal

pub returns-in_err-put-clause-puts : goal.returns-in_err-put-clause-puts
returns-in_err-put-clause-puts g c =
    c.loop-chunk.invariant.5 _ _ (g.E.Env.noted c.put.new.env)
    (puts_refused g.S.Storage c.args.self.now.blob c.loop-chunk.left.at c.loop-chunk.left.chunks c.in-Some.chunk (writer c.loop-chunk.store c.loop-chunk.self.held) (writer c.put.new.store c.put.new.self.held) c.put.result _ c.in_err-put.field-0.0 (g.E.Env.noted c.loop-chunk.env) (g.E.Env.noted c.put.new.env)
    (search rules) (search rules) (search rules) (rw (c.loop-chunk.invariant.0, c.loop-chunk.invariant.3) at c.put.ensures.puts))

pub loop-chunk-preserved : goal.loop-chunk-preserved
loop-chunk-preserved g c = (
  (search rules),
  c.put.ensures.callable,
  c.put.ensures.settled,
  c.at-at-in-Ready.ensures,
  spent_chunk c.loop-chunk.left.at c.loop-chunk.left.chunks c.in-Some.chunk c.next.new.self g.S.Storage.most (g.E.Env.spare c.args.env.now) (g.E.Env.spare c.loop-chunk.env) (g.E.Env.spare c.put.new.env) (length c.args.left.chunks * (2 * g.S.Storage.most)) (search rules) c.next.ensures.rest c.loop-chunk.invariant.4 c.put.ensures.spent,
  λ r new behind k.
      c.loop-chunk.invariant.5 r new behind
      (puts_first g.S.Storage c.args.self.now.blob c.loop-chunk.left.at c.loop-chunk.left.chunks c.in-Some.chunk c.next.new.self (writer c.loop-chunk.store c.loop-chunk.self.held) (writer c.put.new.store c.put.new.self.held) c.put.result (g.E.Env.noted c.loop-chunk.env) (g.E.Env.noted c.put.new.env)
      (search rules) c.next.ensures.rest (search rules) (rw (c.loop-chunk.invariant.0, c.loop-chunk.invariant.3) at c.put.ensures.puts) r new behind k),
  λ start h. c.put.ensures.lasts start (c.loop-chunk.invariant.6 start h),
)

pub returns-clause-puts : goal.returns-clause-puts
returns-clause-puts g c =
    c.loop-chunk.invariant.5 _ _ (g.E.Env.noted c.loop-chunk.env)
    (puts_none g.S.Storage c.args.self.now.blob c.loop-chunk.left.at c.loop-chunk.left.chunks (writer c.loop-chunk.store c.loop-chunk.self.held) (g.E.Env.noted c.loop-chunk.env) (search rules))
