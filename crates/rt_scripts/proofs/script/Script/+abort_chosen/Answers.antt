use Rattle.rt_scripts.proofs.Prelude.{rules, ◌∙◌, ◌+◌, ◌<◌, ◌≤◌, ◌∷◌, refl, sym, ap, subst, choices_in, Script, aborted_in, aborts_chosen, Spends}
use Rattle.rt_scripts.proofs.Choices.{choices-more, choices-none, aborts-nobody, aborts-one}
use Rattle.rt_scripts.proofs.script.Script.+abort_chosen.Goals as goal

pub returns-then-first-past-clause-state : goal.returns-then-first-past-clause-state
unfolding aborted_in
returns-then-first-past-clause-state g t c =
    let s = c.args.self.now in
    let over : c.args.past ≤ c.args.first = search rules in
    let none = choices-none s.text c.args.first c.args.past over in
    rw none refl

pub returns-then-first-past-clause-steps : goal.returns-then-first-past-clause-steps
returns-then-first-past-clause-steps g t c =
    let s = c.args.self.now in
    let over : c.args.past ≤ c.args.first = search rules in
    let none = choices-none s.text c.args.first c.args.past over in
    rw none (aborts-nobody s.held c.args.world.now)

pub returns-clause-state : goal.returns-clause-state
unfolding aborted_in
returns-clause-state g t c =
    let s = c.args.self.now in
    let ats = choices_in s.text (c.args.first + 1) c.args.past in
    let more : c.args.first < c.args.past = search rules in
    let split = choices-more s.text c.args.first c.args.past more ∙ ap (λ n. n ∷ ats) (sym c.chosen_name.ensures) in
    rw split (c.abort_chosen.ensures.state ∙ ap (λ (t : Script). record t { held = aborted_in (choices_in t.text (c.args.first + 1) c.args.past) t.held }) c.abort_name.ensures.state)

pub returns-clause-steps : goal.returns-clause-steps
returns-clause-steps g t c =
    let s = c.args.self.now in
    let at = c.chosen_name.result in
    let ats = choices_in s.text (c.args.first + 1) c.args.past in
    let more : c.args.first < c.args.past = search rules in
    let split = choices-more s.text c.args.first c.args.past more ∙ ap (λ n. n ∷ ats) (sym c.chosen_name.ensures) in
    let rest = subst (λ (mid : Script). Spends (aborts_chosen (choices_in mid.text (c.args.first + 1) c.args.past) mid.held) c.abort_name.new.world c.abort_chosen.new.world) c.abort_name.ensures.state c.abort_chosen.ensures.steps in
    rw split (aborts-one at ats s.held c.args.world.now c.abort_name.new.world c.abort_chosen.new.world c.abort_name.ensures.steps rest)
