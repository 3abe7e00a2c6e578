use Rattle.rt_walk.proofs.Prelude.{◌≡◌, ◌∙◌, ap, sym, true, State, begun, next_begin, renews}
use Rattle.rt_walk.proofs.Quiet.{begun-quiet}
use Rattle.rt_walk.proofs.first.begin_next.Goals as goal

pub returns-in_ok-begin_anew : goal.returns-in_ok-begin_anew
returns-in_ok-begin_anew c s is =
    let renewing : renews c.args.entry.now s.phase ≡ true = ap (λ (u : State). renews c.args.entry.now u.phase) is ∙ sym c.renews.ensures ∙ c.if-renews.true in
    let next = ap (λ (u : State). next_begin u) is in
    rw renewing (begun-quiet (next_begin s) ∙ ap begun (next ∙ sym c.next_begin-begin.ensures) ∙ sym c.in_ok-begin_anew.ensures)
