use Rattle.std.proofs.Common.{◌≡◌, ◌++◌, ◌<◌, rules, arith, ap, ◌∙◌, length, length-append}
use Rattle.std.proofs.Math.Seq.{take-length}
use Rattle.std.proofs.lemmas.List.Elements.{All-append, All-same}
use Rattle.std.proofs.lemmas.List.Folds.{concat-append}
use Rattle.std.specs.List.{concat}
use Rattle.rt_bufs.proofs.io_bufs.IoBufs.append_all.Goals as goal

pub invariant_of-self-2 : goal.invariant_of-self-2
invariant_of-self-2 c =
    let old = c.self.inside.chunks.items in
    let more = c.other.inside.chunks.items in
    let whole = take-length more in
    let joined : c.move_first.new.to.items ≡ old ++ more = search rules in
    let size = ap (λ l. length (concat l)) joined ∙ ap length (concat-append old more) ∙ length-append (concat old) (concat more) in
    let P = λ (x : _). 0 < length x in
    (omega arith, All-same P _ _ joined (All-append P old more c.self.invariant.1 c.other.invariant.1))

pub returns-clause-bytes : goal.returns-clause-bytes
returns-clause-bytes c =
    let old = c.self.inside.chunks.items in
    let more = c.other.inside.chunks.items in
    let whole = take-length more in
    let joined : c.move_first.new.to.items ≡ old ++ more = search rules in
    let first = ap (λ v. v.bytes) c.self.view_is in
    let last = ap (λ v. v.bytes) c.other.view_is in
    ap concat joined ∙ concat-append old more ∙ ap (λ l. l ++ concat more) first ∙ ap (λ l. c.args.self.now.bytes ++ l) last
