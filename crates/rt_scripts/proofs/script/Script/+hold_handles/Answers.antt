use Rattle.rt_scripts.proofs.Prelude.{rules, ◌∙◌, ◌+◌, ◌<◌, ◌≤◌, ◌∷◌, true, sym, ap, subst, choices_in, Script, Tries}
use Rattle.rt_scripts.proofs.Choices.{choices-more, choices-none, tried-free, tries-missing, tries-more, tries-none}
use Rattle.rt_scripts.proofs.script.Script.+hold_handles.Goals as goal

pub returns-then-first-past : goal.returns-then-first-past
returns-then-first-past l c =
    let s = c.args.self.now in
    let over : c.args.past ≤ c.args.first = search rules in
    subst (λ ats. Tries ats s true s) (sym (choices-none s.text c.args.first c.args.past over)) (tries-none s)

pub returns-in_default : goal.returns-in_default
returns-in_default l c =
    let s = c.args.self.now in
    let ats = choices_in s.text (c.args.first + 1) c.args.past in
    let more : c.args.first < c.args.past = search rules in
    let split = choices-more s.text c.args.first c.args.past more ∙ ap (λ n. n ∷ ats) (sym c.chosen_name-at.ensures) in
    rw (c.in_default.ensures.stays, split) (tries-missing c.chosen_name-at.result ats s (sym c.in_default.ensures.handle))

pub keep-requires-clause-free : goal.keep-requires-clause-free
keep-requires-clause-free l c =
    let mid = c.take_handle.new.self in
    rw (c.hold_handles-all.ensures.1) (tried-free (choices_in mid.text (c.args.first + 1) c.args.past) mid.held c.chosen_name-at.result c.in-Some.ensures.taken.2)

pub returns : goal.returns
returns l c =
    let s = c.args.self.now in
    let at = c.chosen_name-at.result in
    let ats = choices_in s.text (c.args.first + 1) c.args.past in
    let more : c.args.first < c.args.past = search rules in
    let split = choices-more s.text c.args.first c.args.past more ∙ ap (λ n. n ∷ ats) (sym c.chosen_name-at.ensures) in
    let rest = subst (λ (mid : Script). Tries (choices_in mid.text (c.args.first + 1) c.args.past) mid c.hold_handles-all.result c.hold_handles-all.new.self) c.in-Some.ensures.taken.0 c.hold_handles-all.ensures in
    rw (split, c.keep.ensures) (tries-more at ats s c.hold_handles-all.new.self c.in-Some.handle c.hold_handles-all.result (sym c.in-Some.ensures.handle) rest)
