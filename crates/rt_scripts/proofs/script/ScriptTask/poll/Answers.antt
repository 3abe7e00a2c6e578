use Rattle.rt_scripts.proofs.Prelude.{◌≡◌, ◌∙◌, ◌+◌, Some, None, drop, ap, sym, arith, length, Clock, Pending, kept-kept, line_at, Script}
use Rattle.rt_scripts.proofs.Scripts.{leads-on, leads-gives, leads-end, line_next, line_there, line_none}
use Rattle.rt_scripts.proofs.script.ScriptTask.poll.Goals as goal

pub returns-in-Some-take_line-clause-steps : goal.returns-in-Some-take_line-clause-steps
returns-in-Some-take_line-clause-steps g c =
    let i = c.loop-line.invariant in
    let s = c.loop-line.self in
    let line = c.in-Some.line in
    let here : line_at s.text s.place ≡ Some line = ap (λ (t : Script). line_at t.text t.place) (sym c.self.view_is) ∙ sym c.line.ensures.line ∙ c.in-Some.is in
    leads-gives c.args.self.now s c.take_line.new.self c.args.world.now.told.state.clock.time c.args.cx.now.task c.loop-line.world.told.state.clock.time c.args.world.now c.loop-line.world c.take_line.new.world line c.in-Some-take_line.answer (sym (ap (λ (k : Clock). k.time) i.kept.clock)) (line_next s line here) i.leads (c.in-Some-take_line.ensures.steps (drop (s.place + 1) s.text.lines))

pub returns-in-Some-Pending-clause-steps : goal.returns-in-Some-Pending-clause-steps
returns-in-Some-Pending-clause-steps g c =
    let i = c.loop-line.invariant in
    let s = c.loop-line.self in
    let line = c.in-Some.line in
    let here : line_at s.text s.place ≡ Some line = ap (λ (t : Script). line_at t.text t.place) (sym c.self.view_is) ∙ sym c.line.ensures.line ∙ c.in-Some.is in
    leads-gives c.args.self.now s c.take_line.new.self c.args.world.now.told.state.clock.time c.args.cx.now.task c.loop-line.world.told.state.clock.time c.args.world.now c.loop-line.world c.take_line.new.world line Pending (sym (ap (λ (k : Clock). k.time) i.kept.clock)) (line_next s line here) i.leads (rw c.in-Some-Pending.field-0-is at c.in-Some-Pending.ensures.steps (drop (s.place + 1) s.text.lines))

pub loop-line-smaller : goal.loop-line-smaller
loop-line-smaller g c =
    let s = c.loop-line.self in
    let line = c.in-Some.line in
    let here : line_at s.text s.place ≡ Some line = ap (λ (t : Script). line_at t.text t.place) (sym c.self.view_is) ∙ sym c.line.ensures.line ∙ c.in-Some.is in
    omega (arith, line_there s line here, c.in-None.ensures.place, ap (λ text. length text.lines) c.take_line.ensures.text)

pub loop-line-preserved : goal.loop-line-preserved
loop-line-preserved g c =
    let i = c.loop-line.invariant in
    let s = c.loop-line.self in
    let line = c.in-Some.line in
    let here : line_at s.text s.place ≡ Some line = ap (λ (t : Script). line_at t.text t.place) (sym c.self.view_is) ∙ sym c.line.ensures.line ∙ c.in-Some.is in
    record {
      kept = kept-kept _ _ _ i.kept c.take_line.ensures.kept;
      text = c.take_line.ensures.text ∙ i.text;
      leads = leads-on c.args.self.now s c.take_line.new.self c.args.world.now.told.state.clock.time c.args.cx.now.task c.args.world.now c.loop-line.world c.take_line.new.world c.loop-line.world.told.state.clock.time line (sym (ap (λ (k : Clock). k.time) i.kept.clock)) (line_next s line here) c.in-None.ensures.place c.take_line.ensures.text i.leads (c.in-None.ensures.steps (drop (s.place + 1) s.text.lines));
    }

pub returns-clause-steps : goal.returns-clause-steps
returns-clause-steps g c =
    let s = c.loop-line.self in
    let none : line_at s.text s.place ≡ None = ap (λ (t : Script). line_at t.text t.place) (sym c.self.view_is) ∙ sym c.line.ensures.line ∙ c.in_default.is in
    leads-end c.args.self.now s c.args.world.now.told.state.clock.time c.args.cx.now.task c.args.world.now c.loop-line.world (line_none s none) c.loop-line.invariant.leads
