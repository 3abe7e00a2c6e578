use Rattle.rt_scripts.proofs.Prelude.{rules, ◌≡◌, ◌∙◌, ◌+◌, ◌<◌, ◌≤◌, ◌∷◌, sym, ap, subst, ScriptText, Goes, choices_in, Script, polls_chosen}
use Rattle.rt_scripts.proofs.Choices.{choices-more, choices-none, polls-nobody, polls-pending, polls-ready}
use Rattle.rt_scripts.proofs.script.Script.+poll_chosen.Goals as goal

pub returns-then-first-past-clause-steps : goal.returns-then-first-past-clause-steps
returns-then-first-past-clause-steps g t c =
    let s = c.args.self.now in
    let over : c.args.past ≤ c.args.first = search rules in
    rw (choices-none s.text c.args.first c.args.past over) (polls-nobody s c.args.world.now)

pub returns-in-Pending-clause-steps : goal.returns-in-Pending-clause-steps
returns-in-Pending-clause-steps g t c =
    let s = c.args.self.now in
    let mid = c.poll_name.new.self in
    let ats = choices_in s.text (c.args.first + 1) c.args.past in
    let more : c.args.first < c.args.past = search rules in
    let split = choices-more s.text c.args.first c.args.past more ∙ ap (λ n. n ∷ ats) (sym c.chosen_name.ensures) in
    let text : mid.text ≡ s.text = ap (λ (x : Script). x.text) c.poll_name.ensures.rest in
    let next = subst (λ (x : ScriptText). Goes (polls_chosen (choices_in x (c.args.first + 1) c.args.past) mid) c.poll_name.new.world c.poll_chosen.new.world c.poll_chosen.result c.poll_chosen.new.self) text c.poll_chosen.ensures.steps in
    rw split
    (polls-pending c.chosen_name.result ats s mid c.args.world.now c.poll_name.new.world c.poll_chosen.new.world c.poll_chosen.result c.poll_chosen.new.self (rw c.in-Pending.is at c.poll_name.ensures.steps) next)

pub returns-in_default-clause-steps : goal.returns-in_default-clause-steps
returns-in_default-clause-steps g t c =
    let s = c.args.self.now in
    let ats = choices_in s.text (c.args.first + 1) c.args.past in
    let more : c.args.first < c.args.past = search rules in
    let split = choices-more s.text c.args.first c.args.past more ∙ ap (λ n. n ∷ ats) (sym c.chosen_name.ensures) in
    rw split (polls-ready c.chosen_name.result ats s c.poll_name.new.self c.args.world.now c.poll_name.new.world c.poll_name.result c.in_default.not-Pending c.poll_name.ensures.steps)
