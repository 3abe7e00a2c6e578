use Rattle.std.proofs.Common.{◌≡◌, ◌+◌, ◌<◌, rules, arith, ap, sym, ◌∙◌, length-take-le, length, length-append, take, drop, take-append-drop}
use Rattle.std.proofs.lemmas.List.Elements.{All-drop, All-push, All-same, All-take}
use Rattle.std.specs.List.{concat}
use Rattle.rt_bufs.proofs.Chunks.{concat_parts, concat-cut, concat-whole, drop-concat}
use Rattle.rt_bufs.proofs.io_bufs.IoBufs.split_to.Goals as goal
use Rattle.rt_bufs.proofs.io_bufs.IoBufs.split_to.Goals.{in-Some, in_default}

pub invariant_of-self : goal.invariant_of-self
invariant_of-self c =
    let items = c.self.inside.chunks.items in
    let whole = c.place_of-whole.result.0 in
    let same = ap (λ v. v.chunks) c.self.view_is in
    let sum : length (concat (take whole items)) + c.place_of-whole.result.1 ≡ c.args.n = rw same c.place_of-whole.ensures.sum in
    let size = ap length (concat_parts whole items) ∙ length-append (concat (take whole items)) (concat (drop whole items)) in
    let left = ap (λ l. length (concat l)) c.move_first.ensures.from in
    let P = λ (x : _). 0 < length x in
    (omega arith, All-same P _ _ c.move_first.ensures.from (All-drop P whole items c.self.invariant.1))

pub returns-clause-front : goal.returns-clause-front
returns-clause-front c =
    let items = c.self.inside.chunks.items in
    let whole = c.place_of-whole.result.0 in
    let within = c.place_of-whole.result.1 in
    let same = ap (λ v. v.chunks) c.self.view_is in
    let sum : length (concat (take whole items)) + within ≡ c.args.n = rw same c.place_of-whole.ensures.sum in
    let front : concat c.match-edge.front.items ≡ take c.args.n (concat items) =
    elim c.match-edge.branch [
      | in-Some w ↦ concat-cut items c.match-edge.front.items w.in-Some.edge whole within c.args.n sum (search rules) (rw same (search rules))
      | in_default w ↦ concat-whole items c.match-edge.front.items whole within c.args.n sum (search rules) (search rules)
    ] in
    front ∙ ap (λ v. take c.args.n v.bytes) c.self.view_is

pub returns-clause-rest : goal.returns-clause-rest
returns-clause-rest c =
    let items = c.self.inside.chunks.items in
    let whole = c.place_of-whole.result.0 in
    let same = ap (λ v. v.chunks) c.self.view_is in
    let sum : length (concat (take whole items)) + c.place_of-whole.result.1 ≡ c.args.n = rw same c.place_of-whole.ensures.sum in
    c.advance.ensures ∙ ap (λ l. drop c.place_of-whole.result.1 (concat l)) c.move_first.ensures.from ∙ sym (drop-concat items whole _ _ sum) ∙ ap (λ v. drop c.args.n v.bytes) c.self.view_is

pub returns-clause-joined : goal.returns-clause-joined
returns-clause-joined c = rw (returns-clause-front c, returns-clause-rest c) (take-append-drop c.args.n c.args.self.now.bytes)

pub invariant_of-result : goal.invariant_of-result
invariant_of-result c =
    let size = ap length (returns-clause-front c) ∙ length-take-le c.args.n c.args.self.now.bytes c.requires in
    let P = λ (x : _). 0 < length x in
    let whole = All-take P c.place_of-whole.result.0 c.self.inside.chunks.items c.self.invariant.1 in (
      omega arith,
      elim c.match-edge.branch [
        | in-Some w ↦ All-same P c.match-edge.front.items _ (search rules) (All-push P (take c.place_of-whole.result.0 c.self.inside.chunks.items) w.in-Some.edge whole (search rules))
        | in_default w ↦ All-same P c.match-edge.front.items _ (search rules) whole
      ],
    )
