use Rattle.rt_buffer.proofs.Prelude.{◌≡◌, ◌≤◌, ◌+◌, ◌*◌, false, List, length, Notes, Noted, Progress, PutsAll, Writer, is_started, writer}
use Rattle.std.specs.Prelude.{Option}
use Rattle.rt_buffer.proofs.write.Write.put_all.Given as goal

abbrev pub invariant-loop-chunk : goal.invariant-loop-chunk
invariant-loop-chunk g l =
    (l.self.blob ≡ l.fn.self.blob)
    × g.S.Storage.callable l.store
    × (is_started l.self.held.state ≡ false)
    × (l.at ≡ l.left.at)
    × (g.E.Env.spare l.fn.env + length l.left.chunks * (2 * g.S.Storage.most) ≤ g.E.Env.spare l.env + length l.fn.left.chunks * (2 * g.S.Storage.most))
    × ((r : Progress) (new : Writer g.row.S.Denot) (behind : Option (List Noted))
    → Notes (g.E.Env.noted l.env) (λ z. PutsAll g.S.Storage l.fn.self.blob l.left (writer l.store l.self.held) r new z) behind
    → Notes (g.E.Env.noted l.fn.env) (λ x. PutsAll g.S.Storage l.fn.self.blob l.fn.left (writer l.fn.store l.fn.self.held) r new x) behind)
    × ((start : g.row.E.Denot) → g.E.Env.lasts start l.fn.env → g.E.Env.lasts start l.env)

abbrev pub decreases-loop-chunk : goal.decreases-loop-chunk
decreases-loop-chunk g l = length l.left.chunks
