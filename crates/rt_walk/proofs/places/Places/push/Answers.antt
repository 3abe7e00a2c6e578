use Rattle.rt_walk.proofs.Prelude.{rules, ◌≡◌, ◌∙◌, ap, true, false, nat_eq, cond, length, ℕ, Some, Option, get, has_number}
use Rattle.rt_walk.proofs.Placed.{placed-again, placed-new}
use Rattle.rt_walk.proofs.places.Places.push.Goals as goal

pub invariant_of-self : goal.invariant_of-self
invariant_of-self c =
    let there : has_number c.args.number c.self.inside.numbers.items ≡ true = search rules in
    rw c.push_reserved.ensures.items (placed-again (get nat_eq c.self.inside.places) c.self.inside.numbers.items c.args.number c.self.invariant there)

pub invariant_of-self-2 : goal.invariant_of-self-2
invariant_of-self-2 c =
    let i = c.self.inside in
    let fresh : has_number c.args.number i.numbers.items ≡ false = search rules in
    let count : c.len.result ≡ length i.numbers.items = search rules in
    let put : (k : ℕ) → get nat_eq c.insert.new.self k ≡ cond (nat_eq c.args.number k) (Some (length i.numbers.items)) (get nat_eq i.places k) =
    λ k.
    let rest : Option ℕ = get nat_eq i.places k in
    c.in-Ok.ensures.updates.0 k ∙ ap (λ n. cond (nat_eq c.args.number k) (Some n) rest) count in
    rw c.push_reserved-2.ensures.items (placed-new (get nat_eq i.places) (get nat_eq c.insert.new.self) i.numbers.items c.args.number c.self.invariant fresh put)
