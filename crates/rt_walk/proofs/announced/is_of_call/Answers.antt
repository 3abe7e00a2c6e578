use Rattle.rt_walk.proofs.Prelude.{◌≡◌, ◌∙◌, sym, arith, length, nil_from_length}
use Rattle.rt_walk.proofs.OfCall.{draw-decides, stop-decides, stopped-decides}
use Rattle.rt_walk.proofs.announced.is_of_call.Goals as goal

pub returns-in-stop : goal.returns-in-stop
returns-in-stop c stood =
    let none : length c.args.announced.now ≡ 0 = grind (arith, c.is_empty.ensures, c.if-is_empty.true) in
    stop-decides stood c.args.announced.now c.args.label.now c.args.fields.now (nil_from_length c.args.announced.now none) c.is_a_value.result (sym c.as_str.ensures ∙ c.in-stop.is) c.is_a_value.ensures

pub returns-in-stopped : goal.returns-in-stopped
returns-in-stopped c stood =
    let none : length c.args.announced.now ≡ 0 = grind (arith, c.is_empty.ensures, c.if-is_empty.true) in
    stopped-decides stood c.args.announced.now c.args.label.now c.args.fields.now (nil_from_length c.args.announced.now none) c.is_empty-in-stopped.result (sym c.as_str.ensures ∙ c.in-stopped.is) c.is_empty-in-stopped.ensures

pub returns-in-rand : goal.returns-in-rand
returns-in-rand c stood =
    let none : length c.args.announced.now ≡ 0 = grind (arith, c.is_empty.ensures, c.if-is_empty.true) in
    draw-decides stood c.args.announced.now c.args.label.now c.args.fields.now (nil_from_length c.args.announced.now none) c.is_a_draw_name.result (sym c.as_str.ensures ∙ c.in-rand.is) c.is_a_draw_name.ensures
