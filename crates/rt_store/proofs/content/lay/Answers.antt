use Rattle.rt_store.proofs.Prelude.{rules, ◌≡◌, ◌∙◌, ap, ℕ, List, take, laid, len_after}
use Rattle.rt_store.proofs.Undone.{laid_is}
use Rattle.rt_store.proofs.content.lay.Goals as goal

pub returns-in-Write-clause-bytes : goal.returns-in-Write-clause-bytes
returns-in-Write-clause-bytes c =
    let m = c.args.mutation.now in
    let held = c.args.held.now.items in
    let len : c.max.result ≡ len_after m c.args.len = (search rules) in
    let bytes : c.put.new.content.items ≡ laid m c.args.len held = (search rules) in
    ap (λ (k : ℕ). take k c.put.new.content.items) len
    ∙ ap (λ (b : List ℕ). take (len_after m c.args.len) b) bytes
    ∙ laid_is m c.args.len held c.requires.within
