use Rattle.rt_scenario.proofs.Prelude.{◌≡◌, ◌++◌, ◌∷◌, [], length, rules}
use Rattle.rt_scenario.proofs.Spans.{lists_pushed}
use Rattle.rt_scenario.proofs.lists.Lists.push.Goals as goal

pub returns-clause-ok : goal.returns-clause-ok
returns-clause-ok g c =
    let items = c.self.inside.items.items in
    let spans = c.self.inside.spans.items in
    let more = c.args.items.now in
    let all : c.extend_from_slice.new.self.items ≡ items ++ more = search rules in
    let first : c.len-first.result ≡ length items = search rules in
    let past : c.len.result ≡ length (items ++ more) = rw (← all) (search rules) in
    let pushed : c.push_reserved.new.self.items ≡ spans ++ (length items, length (items ++ more)) ∷ [] = rw (← past, ← first) (search rules) in
    rw (all, pushed, ← c.self.view_is) (lists_pushed items more spans c.self.invariant)
