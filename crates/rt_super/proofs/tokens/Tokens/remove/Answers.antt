use Rattle.rt_super.proofs.Prelude.{◌≡◌, ◌∙◌, sym, ap, arith, get_or_default_zero, find, without, owners}
use Rattle.std.specs.Prelude.{None, option_map}
use Rattle.rt_super.proofs.Rows.{without-none}
use Rattle.rt_super.proofs.TokenLemmas.{find-owners, owners-without, counted-some, group-within, tied-without}
use Rattle.rt_super.proofs.tokens.Tokens.remove.Goals as goal

pub index_mut-requires : goal.index_mut-requires
index_mut-requires c =
    let there = find-owners c.args.number c.self.inside.table.items ∙ ap (λ o. option_map (λ t. t.group) o) (sym c.in-Some.ensures) in
    omega (arith, group-within _ _ _ _ _ _ c.self.invariant.tied there)

pub overflow_sub-index_mut : goal.overflow_sub-index_mut
overflow_sub-index_mut c =
    let there = find-owners c.args.number c.self.inside.table.items ∙ ap (λ o. option_map (λ t. t.group) o) (sym c.in-Some.ensures) in
    let value = c.index_mut.ensures.value ∙ get_or_default_zero c.self.inside.live.items c.in-Some.token.group _ (group-within _ _ _ _ _ _ c.self.invariant.tied there) in
    omega (arith, value, counted-some c.args.number c.in-Some.token.group (owners c.self.inside.table.items) there, c.self.invariant.tied.counted c.in-Some.token.group)

pub invariant_of-self : goal.invariant_of-self
invariant_of-self c =
    let there = find-owners c.args.number c.self.inside.table.items ∙ ap (λ o. option_map (λ t. t.group) o) (sym c.in-Some.ensures) in
    let value = c.index_mut.ensures.value ∙ get_or_default_zero c.self.inside.live.items c.in-Some.token.group _ (group-within _ _ _ _ _ _ c.self.invariant.tied there) in
    let os : owners c.remove.new.self.items ≡ without c.args.number (owners c.self.inside.table.items) = rw (c.remove.ensures.items) (owners-without c.args.number c.self.inside.table.items) in
    let gone : find c.args.number (without c.args.number (owners c.self.inside.table.items)) ≡ None = ap (λ xs. find c.args.number xs) (sym os) ∙ find-owners c.args.number c.remove.new.self.items ∙ ap (λ o. option_map (λ t. t.group) o) c.remove.ensures.gone in
    record { tied = rw (os, c.remove.ensures.next, value) (tied-without _ _ _ _ _ _ c.self.invariant.tied there gone) }

pub returns-in_default-clause-items : goal.returns-in_default-clause-items
returns-in_default-clause-items c = rw (← c.self.view_is) (sym (without-none c.args.number c.self.inside.table.items (sym c.in_default.ensures)))
