use Rattle.rt_buffer.proofs.Prelude.{rules}
use Rattle.rt_buffer.proofs.Flat.{flat_held, flat_fetched}
use Rattle.rt_buffer.proofs.read.Read.read.Goals as goal

pub returns-in-None-clause-flat : goal.returns-in-None-clause-flat
returns-in-None-clause-flat g c = λ s.
    flat_held c.args.self.now.ahead c.take.new.self c.args.len c.take.result (g.S.Storage.bytes c.args.store.now c.args.self.now.blob) s (search rules) c.take.ensures

pub returns-in-Some-clause-flat : goal.returns-in-Some-clause-flat
returns-in-Some-clause-flat g c = λ s.
    let fetched = c.fetch.ensures.fetched in
    flat_fetched g.S.Storage c.args.self.now.blob c.args.self.now.ahead c.fetch.new.self.ahead c.in-Some.lacking c.args.len
    c.args.store.now c.fetch.new.store c.fetch.result fetched.0 s c.fetch.ensures.enough (search rules) fetched.2
