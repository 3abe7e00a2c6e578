use Rattle.rt_store.proofs.Prelude.{◌≡◌, ap, sym, subst, ◌∙◌, ℕ, List, map, Vec, Global, keys, Ascend}
use Rattle.std.proofs.Common.{IfOk}
use Rattle.rt_store.proofs.Named.{names_ascend, names_shown}
use Rattle.rt_store.proofs.names.Names.list.Goals as goal

pub returns-clause-ascend : goal.returns-clause-ascend
returns-clause-ascend c =
    subst (λ (es : List (List ℕ × ℕ)). Ascend (map (λ (e : List ℕ × ℕ). e.0) es)) c.self.view_is (names_ascend c.self.inside.numbers.entries c.copies.ensures.ascend)

pub returns-clause-names : goal.returns-clause-names
returns-clause-names c =
    let e : map (λ (n : Vec ℕ Global). n.items) (keys c.self.inside.numbers) ≡ map (λ (e : List ℕ × ℕ). e.0) c.args.self.now =
    sym (names_shown c.self.inside.numbers.entries) ∙ ap (λ (es : List (List ℕ × ℕ)). map (λ (e : List ℕ × ℕ). e.0) es) c.self.view_is in
    subst (λ (ns : List (List ℕ)). IfOk c.copies.result (λ names. map (λ (n : Vec ℕ Global). n.items) names.items ≡ ns)) e c.copies.ensures.names
