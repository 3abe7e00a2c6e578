use Rattle.rt_walk.proofs.Prelude.{◌≡◌, ◌∷◌, [], ◌∙◌, ap, sym, rules}
use Rattle.rt_walk.proofs.Fields.{one-item}
use Rattle.rt_walk.proofs.announced.is_only.Goals as goal

pub returns-in-len1 : goal.returns-in-len1
returns-in-len1 c =
    let whole : c.args.fields.now ≡ c.only-item.result ∷ [] = rw (sym c.as_slice.ensures) (one-item c.as_slice.result.now c.only-item.result c.in-len1.len_at_least c.in-len1.len_below c.only-item.is) in
    (λ t. let same : c.only-item.result ≡ c.args.field.now = search rules in whole ∙ ap (λ v. v ∷ []) same, λ e. let same : c.only-item.result ≡ c.args.field.now = cc in search rules)
