use Rattle.rt_scenario.proofs.Prelude.{◌≡◌, ◌<◌, ◌+◌, ℕ, List, ◌∷◌, [], ◌++◌, drop, length, map, subst, ap, ◌∙◌, append_assoc, length-set, arith, rules, All, All-tail, drop_all, drop_more, length_permutation, numbered_from}
use Rattle.rt_scenario.proofs.FirstUse.{Filled, first, filled_first, filled_more, filled_last, here, inside, length_numbered}
use Rattle.rt_scenario.proofs.handles.apart.Goals as goal

pub loop-pair-init : goal.loop-pair-init
loop-pair-init c =
    let pairs = c.args.numbered.now in
    let none : c.in_ok-names.names.items ≡ [] = search rules in (
      search rules,
      search rules,
      c.requires.within,
      c.requires.sorted,
      λ names perm. filled_first (map first pairs) names c.in_ok-places.places.items pairs perm,
    )

pub returns-clause-names : goal.returns-clause-names
returns-clause-names c =
    let pairs = c.args.numbered.now in
    let none : drop c.loop-pair.pair-index pairs ≡ [] = drop_all c.loop-pair.pair-index pairs c.loop-pair-test.false in
    search rules

pub returns-clause-places : goal.returns-clause-places
returns-clause-places c = λ names perm.
    let pairs = c.args.numbered.now in
    let places = c.loop-pair.places.items in
    let none : drop c.loop-pair.pair-index pairs ≡ [] = drop_all c.loop-pair.pair-index pairs c.loop-pair-test.false in
    let long : length places ≡ length names =
    c.loop-pair.invariant.1 ∙ length_permutation (numbered_from 0 names) pairs perm ∙ length_numbered 0 names in
    filled_last (map first pairs) names places long (subst (Filled (map first pairs) names places) none (c.loop-pair.invariant.4 names perm))

pub loop-pair-preserved : goal.loop-pair-preserved
loop-pair-preserved c =
    let pairs = c.args.numbered.now in
    let names = c.loop-pair.names.items in
    let i = c.loop-pair.pair-index in
    let more = drop (i + 1) pairs in
    let p = c.pair-item.result in
    let rest : drop i pairs ≡ p ∷ more = drop_more pairs i p (search rules) ∙ ap (λ q. q ∷ more) (search rules) in
    let all : names ++ map first (p ∷ more) ≡ map first pairs = subst (λ r. names ++ map first r ≡ map first pairs) rest c.loop-pair.invariant.0 in
    let each : All (λ (q : List ℕ × ℕ). q.1 < length pairs) (p ∷ more) = subst (All (λ (q : List ℕ × ℕ). q.1 < length pairs)) rest c.loop-pair.invariant.2 in
    let low : p.1 < length c.loop-pair.places.items = omega (arith, each 0 p (omega arith), c.loop-pair.invariant.1) in
    let pushed : c.push.new.self.items ≡ names ++ p.0 ∷ [] = search rules in
    let at : c.len.result ≡ length names = search rules in (
      rw (pushed, append_assoc names (p.0 ∷ []) (map first more)) all,
      length-set c.loop-pair.places.items p.1 c.len.result ∙ c.loop-pair.invariant.1,
      All-tail (λ (q : List ℕ × ℕ). q.1 < length pairs) p more each,
      c.loop-pair.invariant.3,
      λ first_names perm.
          rw at (filled_more (map first pairs) first_names c.loop-pair.places.items p more (length names) c.loop-pair.invariant.3 (inside names p more pairs all) (here names p more pairs all) low
          (subst (Filled (map first pairs) first_names c.loop-pair.places.items) rest (c.loop-pair.invariant.4 first_names perm))),
    )
