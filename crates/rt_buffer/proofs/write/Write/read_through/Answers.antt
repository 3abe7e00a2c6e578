use Rattle.rt_buffer.proofs.Prelude.{◌≡◌, rules, no_hints, before_tip}
use Rattle.rt_buffer.proofs.write.Write.read_through.Goals as goal

pub returns-in_err-append-clause-reads : goal.returns-in_err-append-clause-reads
returns-in_err-append-clause-reads g c =
    let gives = c.read_at.ensures.gives in
    let bytes = c.read_at.ensures.bytes in
    let first : c.min-first.result ≡ before_tip c.args.self.now.held.tip c.args.offset c.args.len = search rules in
    let hints : c.default.result ≡ no_hints = search rules in
    (gives.0, gives.1, (c.read_at.result, ((rw (first, hints) at gives.2), (rw first at bytes), c.read_at.ensures.others), c.read_at.ensures.counts, (search rules)))

pub returns-clause-reads : goal.returns-clause-reads
returns-clause-reads g c =
    let gives = c.read_at.ensures.gives in
    let bytes = c.read_at.ensures.bytes in
    let first : c.min-first.result ≡ before_tip c.args.self.now.held.tip c.args.offset c.args.len = search rules in
    let hints : c.default.result ≡ no_hints = search rules in
    (gives.0, gives.1, (c.read_at.result, ((rw (first, hints) at gives.2), (rw first at bytes), c.read_at.ensures.others), c.read_at.ensures.counts, (search rules)))
