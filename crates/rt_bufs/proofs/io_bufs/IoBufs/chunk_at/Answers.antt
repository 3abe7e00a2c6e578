use Rattle.std.proofs.Common.{◌++◌, rules, ap, sym, ◌∙◌, add-one, take}
use Rattle.std.specs.List.{concat}
use Rattle.rt_bufs.proofs.Chunks.{concat-take}
use Rattle.rt_bufs.proofs.io_bufs.IoBufs.chunk_at.Goals as goal

pub returns-clause-next : goal.returns-clause-next
returns-clause-next c =
    let chunks = c.self.inside.chunks.items in
    let same = ap (λ v. v.chunks) c.self.view_is in
    let next = concat-take chunks c.args.index c.index.result.now (search rules) in
    rw (add-one, ← same) (next ∙ ap (λ l. concat (take c.args.index chunks) ++ l) (sym (c.as_slice.ensures ∙ c.index.ensures)))
