use Rattle.std.proofs.Common.{rules, ap, ◌∙◌, ◌++◌, ◌<◌, length}
use Rattle.std.proofs.lemmas.List.Elements.{All-push, All-same}
use Rattle.std.specs.List.{concat}
use Rattle.rt_bufs.proofs.Chunks.{concat_push, length-concat_push}
use Rattle.rt_bufs.proofs.io_bufs.IoBufs.append.Goals as goal

pub invariant_of-self-2 : goal.invariant_of-self-2
invariant_of-self-2 c =
    let old = c.self.inside.chunks.items in
    let size = ap (λ l. length (concat l)) c.in_ok-push_back.ensures.items ∙ length-concat_push old c.args.buf in (
      search rules,
      All-same (λ x. 0 < length x) _ _ c.in_ok-push_back.ensures.items (All-push (λ x. 0 < length x) old c.args.buf c.self.invariant.1 (search rules)),
    )

pub returns-clause-bytes : goal.returns-clause-bytes
returns-clause-bytes c =
    ap concat c.in_ok-push_back.ensures.items ∙ concat_push c.self.inside.chunks.items c.args.buf ∙ ap (λ v. v.bytes ++ c.args.buf) c.self.view_is
