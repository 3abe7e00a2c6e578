use Rattle.rt_scenario.proofs.Prelude.{◌≡◌, ◌∙◌, [], ap, arith, length}
use Rattle.rt_scenario.proofs.Scripts.{setting_none}
use Rattle.rt_scenario.proofs.draft.Draft.set.Goals as goal
use Rattle.rt_scenario.proofs.draft.Draft.set.Goals.{in-Seed+in_ok-put-in-Seed, in-Next+in_ok-put-in-Next, in-Cycle+in_ok-put-in-Cycle, in-Start+in_ok-put-in-Start, in-Timeout+in_ok-put-in-Timeout, in_default+in_ok-put-in_default}

pub invariant_of-self-2 : goal.invariant_of-self-2
invariant_of-self-2 c =
    let i = c.self.invariant in
    let none : c.self.inside.runs.items ≡ [] = ap (λ d. d.runs) c.self.view_is ∙ setting_none c.args.self.now c.args.word c.requires.setting c.requires.placed in
    elim c.match-word.branch [
      | in-Seed+in_ok-put-in-Seed w ↦ rw w.self-inside-is (i.0, i.1, λ k d lt. absurd (omega (arith, lt, ap length none)), i.3, i.4, i.5)
      | in-Next+in_ok-put-in-Next w ↦ rw w.self-inside-is (i.0, i.1, λ k d lt. absurd (omega (arith, lt, ap length none)), i.3, i.4, i.5)
      | in-Cycle+in_ok-put-in-Cycle w ↦ rw w.self-inside-is (i.0, i.1, λ k d lt. absurd (omega (arith, lt, ap length none)), i.3, i.4, i.5)
      | in-Start+in_ok-put-in-Start w ↦ rw w.self-inside-is (i.0, i.1, λ k d lt. absurd (omega (arith, lt, ap length none)), i.3, i.4, i.5)
      | in-Timeout+in_ok-put-in-Timeout w ↦ rw w.self-inside-is (i.0, i.1, λ k d lt. absurd (omega (arith, lt, ap length none)), i.3, i.4, i.5)
      | in_default+in_ok-put-in_default w ↦ rw w.self-inside-is (i.0, i.1, λ k d lt. absurd (omega (arith, lt, ap length none)), i.3, i.4, i.5)
    ]
