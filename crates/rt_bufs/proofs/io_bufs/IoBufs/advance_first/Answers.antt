use Rattle.std.proofs.Common.{arith, ap, ◌∙◌, ◌<◌, length, length-append, length-drop}
use Rattle.std.proofs.lemmas.List.Elements.{All-cons, All-rest, All-same}
use Rattle.std.specs.List.{concat}
use Rattle.rt_bufs.proofs.io_bufs.IoBufs.advance_first.Goals as goal

pub invariant_of-self : goal.invariant_of-self
invariant_of-self c =
    let rest = c.pop_front.new.self.items in
    let size = ap (λ l. length (concat l)) c.in-Some.ensures.items ∙ length-append c.in-Some.first (concat rest) in
    (omega arith, All-rest (λ x. 0 < length x) c.in-Some.first rest _ c.in-Some.ensures.items c.self.invariant.1)

pub invariant_of-self-2 : goal.invariant_of-self-2
invariant_of-self-2 c =
    let rest = c.pop_front.new.self.items in
    let cut = ap length c.advance.ensures ∙ length-drop c.args.n c.in-Some.first in
    let old = ap (λ l. length (concat l)) c.in-Some.ensures.items ∙ length-append c.in-Some.first (concat rest) in
    let new = ap (λ l. length (concat l)) c.push_front_reserved.ensures.items ∙ length-append _ (concat rest) in
    let P = λ (x : _). 0 < length x in (
      omega arith,
      All-same P _ _ c.push_front_reserved.ensures.items
          (All-cons P _ rest (omega arith) (All-rest P c.in-Some.first rest _ c.in-Some.ensures.items c.self.invariant.1)),
    )
