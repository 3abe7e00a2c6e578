use Rattle.rt_buffer.proofs.Framed.{closes_held, closes_left, closes_started}
use Rattle.rt_buffer.proofs.write.Write.close.Goals as goal
use Rattle.rt_buffer.proofs.write.Write.close.Goals.{in-Clean, in-Started}

pub returns-clause-closed : goal.returns-clause-closed
returns-clause-closed g c = elim c.match-state.branch [
  | in-Clean w ↦
      closes_held g.S.Storage c.args.self.blob c.args.self.held.state c.args.store.now c.close.new.self w.in-Clean.is
      (rw w.store-is at c.close.ensures.gives, rw w.store-is at c.close.ensures.others)
  | in-Started w ↦
      let up = w.give_up_sync.ensures in
      closes_started g.S.Storage c.args.self.blob c.args.self.held.state w.in-Started.ticket c.args.store.now w.give_up_sync.new.self c.close.new.self w.in-Started.is
      (up.gives, up.one, up.others) up.ready (rw w.store-is at c.close.ensures.gives, rw w.store-is at c.close.ensures.others)
]

pub returns-clause-others : goal.returns-clause-others
returns-clause-others g c = λ knows.
    (closes_left g.S.Storage c.args.self.blob c.args.self.held.state c.args.store.now c.close.new.self knows (returns-clause-closed g c), tt)
