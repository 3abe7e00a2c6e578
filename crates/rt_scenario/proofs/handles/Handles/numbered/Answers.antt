use Rattle.rt_scenario.proofs.Prelude.{◌≡◌, ◌+◌, ◌++◌, ◌∷◌, [], ◌∙◌, append_assoc, ap, drop, rules, drop_more, length_push, numbered_from}
use Rattle.rt_scenario.proofs.FirstUse.{all_numbered}
use Rattle.rt_scenario.proofs.handles.Handles.numbered.Goals as goal

pub loop-name-preserved : goal.loop-name-preserved
loop-name-preserved c =
    let names = c.as_slice-names.result.now in
    let i = c.loop-name.name-index in
    let numbered = c.loop-name.numbered.items in
    let name = c.name-item.result in
    let rest : drop i names ≡ name ∷ drop (i + 1) names = drop_more names i name (search rules) ∙ ap (λ n. n ∷ drop (i + 1) names) (search rules) in
    let pushed : c.push.new.self.items ≡ numbered ++ (name, i) ∷ [] = search rules in
    let so_far = c.loop-name.invariant.0 in (
      rw (pushed, append_assoc numbered ((name, i) ∷ []) (numbered_from (i + 1) (drop (i + 1) names))) (rw rest at so_far),
      rw (pushed, length_push numbered (name, i)) (ap (λ n. n + 1) c.loop-name.invariant.1),
      c.loop-name.invariant.2,
    )

pub returns-clause-names : goal.returns-clause-names
returns-clause-names c =
    all_numbered c.loop-name.numbered.items c.as_slice-names.result.now c.loop-name.name-index _ c.loop-name-test.false c.loop-name.invariant.0
