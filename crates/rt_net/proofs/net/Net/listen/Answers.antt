use Rattle.rt_net.proofs.Prelude.{◌≡◌, ◌∷◌, [], None, length, arith, rules, ap, ◌∙◌, length-append, number_at}
use Rattle.rt_net.proofs.Places.{goes-last}
use Rattle.rt_net.proofs.net.Net.listen.Goals as goal

pub invariant_of-self-2 : goal.invariant_of-self-2
invariant_of-self-2 c =
    let xs = c.self.inside.addresses.keys in
    let absent : number_at xs c.args.socket ≡ None = search rules in
    let keys = c.in_ok-insert.ensures.keys ∙ goes-last xs c.args.socket absent in
    let count : length xs ≡ length c.self.inside.listeners.items = c.self.invariant.1 in
    (c.self.invariant.0, ap length keys ∙ length-append xs (c.args.socket ∷ []) ∙ search (rules, arith, count))

pub returns-clause-after : goal.returns-clause-after
returns-clause-after c =
    let xs = c.self.inside.addresses.keys in
    let absent : number_at xs c.args.socket ≡ None = search rules in
    let keys = c.in_ok-insert.ensures.keys ∙ goes-last xs c.args.socket absent in
    search (rules, keys)
