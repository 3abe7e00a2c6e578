use Rattle.rt_super.proofs.Prelude.{◌≡◌, ◌<◌, ◌∙◌, ◌∷◌, ◌++◌, [], ap, refl, arith, get_or, set, get_or_default_zero, lists_of, owners}
use Rattle.rt_super.proofs.TokenLemmas.{tied-push, owners-push, lists-push, count-few, count-owners}
use Rattle.rt_super.proofs.tokens.Tokens.push_to.Goals as goal

pub overflow_add-index_mut : goal.overflow_add-index_mut
overflow_add-index_mut c =
    let t = c.self.invariant.tied in
    let within : c.args.group < c.self.inside.table.next = omega (arith, c.if-group-count.false, rw (← c.self.view_is) at c.count.ensures) in
    let value = c.index_mut.ensures.value ∙ get_or_default_zero c.self.inside.live.items c.args.group _ (omega (arith, within, t.lives)) in
    omega (arith, value, t.counted c.args.group, count-few c.args.group (owners c.self.inside.table.items), count-owners c.self.inside.table.items, c.facts.ensures.few, t.lives, c.self.inside.live.small)

pub invariant_of-self-2 : goal.invariant_of-self-2
invariant_of-self-2 c =
    let t = c.self.invariant.tied in
    let within : c.args.group < c.self.inside.table.next = omega (arith, c.if-group-count.false, rw (← c.self.view_is) at c.count.ensures) in
    let value = c.index_mut.ensures.value ∙ get_or_default_zero c.self.inside.live.items c.args.group _ (omega (arith, within, t.lives)) in
    let number : c.len-number.result ≡ c.self.inside.table.next = omega (arith, c.len-number.ensures, t.lives) in
    let os : owners c.push-2.new.self.items ≡ owners c.self.inside.table.items ++ (c.self.inside.table.next, c.args.group) ∷ [] = rw (c.push-2.ensures.items, owners-push) refl in
    let ls : lists_of c.push_reserved.new.self.items ≡ set (lists_of c.self.inside.later.items) c.args.group (get_or (lists_of c.self.inside.later.items) c.args.group [] ++ c.self.inside.table.next ∷ []) ++ [] ∷ [] = rw (c.push_reserved.ensures.items) (lists-push _ _ c.new-list.ensures.items ∙ ap (λ xs. xs ++ [] ∷ []) (rw (← number) c.in_ok-list_number.ensures.listed)) in
    record { tied = rw (os, ls, c.push_reserved-2.ensures.items, c.push-2.ensures.next, value) (tied-push _ _ _ _ c.args.group t within) }
