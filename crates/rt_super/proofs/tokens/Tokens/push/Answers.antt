use Rattle.rt_super.proofs.Prelude.{◌≡◌, ◌∷◌, ◌++◌, [], refl, arith, lists_of, owners}
use Rattle.rt_super.proofs.TokenLemmas.{tied-first, owners-push, lists-push}
use Rattle.rt_super.proofs.tokens.Tokens.push.Goals as goal

pub invariant_of-self : goal.invariant_of-self
invariant_of-self c =
    let t = c.self.invariant.tied in
    let tied = tied-first _ _ _ _ t in
    let group : c.len-group.result ≡ c.self.inside.table.next = omega (arith, c.len-group.ensures, t.lives) in
    let os : owners c.push.new.self.items ≡ owners c.self.inside.table.items ++ (c.self.inside.table.next, c.self.inside.table.next) ∷ [] = rw (c.push.ensures.items, owners-push, group) refl in
    let ls : lists_of c.push_reserved.new.self.items ≡ lists_of c.self.inside.later.items ++ [] ∷ [] = rw (c.push_reserved.ensures.items) (lists-push _ _ c.new-list.ensures.items) in
    record { tied = rw (os, ls, c.push_reserved-2.ensures.items, c.push.ensures.next) tied }
