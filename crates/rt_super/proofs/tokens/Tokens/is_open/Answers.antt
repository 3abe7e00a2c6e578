use Rattle.rt_super.proofs.Prelude.{◌≡◌, ◌≤◌, ◌<◌, ◌∙◌, sym, ap, refl, arith, get_or, length, nat_lt, get_or_past, get_or_from_slice_get, slice_get_read}
use Rattle.rt_super.proofs.TokenLemmas.{open-counted}
use Rattle.rt_super.proofs.tokens.Tokens.is_open.Goals as goal

pub returns-in-Some : goal.returns-in-Some
returns-in-Some c =
    let look = c.in-Some.ensures.lookup in
    let within : c.args.group < length c.deref.result.now = grind (arith, look.0) in
    let read = slice_get_read c.deref.result.now (length c.deref.result.now) c.args.group c.in-Some.live.now refl within look.1 in
    let value : get_or c.self.inside.live.items c.args.group 0 ≡ c.in-Some.live.now = get_or_from_slice_get c.self.inside.live.items c.args.group _ 0 (rw c.deref.ensures.value at read) in
    rw (← c.self.view_is) (ap (λ n. nat_lt 0 n) (sym value ∙ c.self.invariant.tied.counted c.args.group) ∙ sym (open-counted c.args.group c.self.inside.table.items))

pub returns-in-None : goal.returns-in-None
returns-in-None c =
    let past : length c.self.inside.live.items ≤ c.args.group = rw (← c.deref.ensures.value) (grind (arith, c.in-None.ensures.lookup)) in
    rw (← c.self.view_is) (ap (λ n. nat_lt 0 n) (sym (get_or_past c.self.inside.live.items c.args.group 0 past) ∙ c.self.invariant.tied.counted c.args.group) ∙ sym (open-counted c.args.group c.self.inside.table.items))
