use Rattle.std.proofs.Common.{◌≡◌, ℕ, List, ◌+◌, ◌-◌, ◌++◌, ◌<◌, arith, Some, ap, sym, ◌∙◌, append-nil, length, length-take-le}
use Rattle.std.proofs.lemmas.List.Elements.{All-pop, All-push, All-same}
use Rattle.std.specs.List.{concat}
use Rattle.rt_bufs.proofs.Chunks.{concat_push, length-concat_push, take-append_last}
use Rattle.rt_bufs.proofs.io_bufs.IoBufs.truncate_last.Goals as goal

pub invariant_of-self : goal.invariant_of-self
invariant_of-self c =
    let rest = c.pop_back.new.self.items in
    let size = ap (λ l. length (concat l)) c.in-Some.ensures.items ∙ length-concat_push rest c.in-Some.last in
    let whole = All-pop (λ x. 0 < length x) _ rest (Some c.in-Some.last) c.in-Some.ensures.items c.self.invariant.1 in
    (omega arith, whole.0)

pub returns-then-len-n-clause-rest : goal.returns-then-len-n-clause-rest
returns-then-len-n-clause-rest c =
    let rest = c.pop_back.new.self.items in
    let last = c.in-Some.last in
    let old = sym (ap (λ v. v.bytes) c.self.view_is) ∙ ap concat c.in-Some.ensures.items ∙ concat_push rest last in
    let sum : 0 + c.len-len.result ≡ length last = omega arith in
    sym (take-append_last c.args.self.now.bytes (concat rest) last 0 c.len-len.result old sum ∙ append-nil (concat rest))

pub invariant_of-self-2 : goal.invariant_of-self-2
invariant_of-self-2 c =
    let rest = c.pop_back.new.self.items in
    let last = c.in-Some.last in
    let P = λ (x : List ℕ). 0 < length x in
    let cut = ap length c.truncate.ensures ∙ length-take-le (c.len-len.result - c.args.n) last (omega arith) in
    let old = ap (λ l. length (concat l)) c.in-Some.ensures.items ∙ length-concat_push rest last in
    let new = ap (λ l. length (concat l)) c.push_back_reserved.ensures.items ∙ length-concat_push rest c.truncate.new.self in
    let whole = All-pop P _ rest (Some last) c.in-Some.ensures.items c.self.invariant.1 in
    (omega arith, All-same P _ _ c.push_back_reserved.ensures.items (All-push P rest c.truncate.new.self whole.0 (omega arith)))

pub returns-clause-rest : goal.returns-clause-rest
returns-clause-rest c =
    let rest = c.pop_back.new.self.items in
    let last = c.in-Some.last in
    let kept = c.len-len.result - c.args.n in
    let old = sym (ap (λ v. v.bytes) c.self.view_is) ∙ ap concat c.in-Some.ensures.items ∙ concat_push rest last in
    let sum : kept + c.args.n ≡ length last = omega arith in
    ap concat c.push_back_reserved.ensures.items ∙ concat_push rest c.truncate.new.self ∙ ap (λ l. concat rest ++ l) c.truncate.ensures
    ∙ sym (take-append_last c.args.self.now.bytes (concat rest) last kept c.args.n old sum)
