use Rattle.rt_super.proofs.Prelude.{sym, ◌∙◌}
use Rattle.rt_super.proofs.QueueLemmas.{ordered_with, put_alone, put_before, put_behind}
use Rattle.rt_super.proofs.alarms.queue.Queue.insert.Goals as goal

pub invariant_of-self : goal.invariant_of-self
invariant_of-self c =
    let put = put_alone c.self.inside.first c.self.inside.later.entries c.args.key c.args.task c.in_default.is c.self.invariant.1 in
    (ordered_with _ _ c.args.key c.args.task put c.self.invariant.0, λ none. cc)

pub returns-in_default-clause-ordered : goal.returns-in_default-clause-ordered
returns-in_default-clause-ordered c =
    let put = put_alone c.self.inside.first c.self.inside.later.entries c.args.key c.args.task c.in_default.is c.self.invariant.1 in
    ordered_with _ _ c.args.key c.args.task put c.self.invariant.0

pub invariant_of-self-in-Less : goal.invariant_of-self-in-Less
invariant_of-self-in-Less c =
    let put = put_before c.self.inside.first c.in-Some.first c.self.inside.later.entries c.insert.new.self.entries c.args.key c.args.task c.in-Some.is (sym c.cmp.ensures ∙ c.in-Less.is) c.in_ok-insert-in-Less.ensures.entries c.self.invariant.0 in
    (ordered_with _ _ c.args.key c.args.task put c.self.invariant.0, λ none. cc)

pub returns-in_ok-insert-in-Less-clause-ordered : goal.returns-in_ok-insert-in-Less-clause-ordered
returns-in_ok-insert-in-Less-clause-ordered c =
    let put = put_before c.self.inside.first c.in-Some.first c.self.inside.later.entries c.insert.new.self.entries c.args.key c.args.task c.in-Some.is (sym c.cmp.ensures ∙ c.in-Less.is) c.in_ok-insert-in-Less.ensures.entries c.self.invariant.0 in
    ordered_with _ _ c.args.key c.args.task put c.self.invariant.0

pub returns-in_ok-insert-in-Less-clause-entries : goal.returns-in_ok-insert-in-Less-clause-entries
returns-in_ok-insert-in-Less-clause-entries c =
    rw (← c.self.view_is) (put_before c.self.inside.first c.in-Some.first c.self.inside.later.entries c.insert.new.self.entries c.args.key c.args.task c.in-Some.is (sym c.cmp.ensures ∙ c.in-Less.is) c.in_ok-insert-in-Less.ensures.entries c.self.invariant.0)

pub invariant_of-self-in_ok-insert-in-Greater : goal.invariant_of-self-in_ok-insert-in-Greater
invariant_of-self-in_ok-insert-in-Greater c =
    let put = put_behind c.self.inside.first c.in-Some.first c.self.inside.later.entries c.insert-in-Greater.new.self.entries c.args.key c.args.task c.in-Some.is (sym c.cmp.ensures ∙ c.in-Greater.is) c.in_ok-insert-in-Greater.ensures.entries in
    (ordered_with _ _ c.args.key c.args.task put c.self.invariant.0, λ none. let is = c.in-Some.is in cc)

pub returns-in_ok-insert-in-Greater-clause-ordered : goal.returns-in_ok-insert-in-Greater-clause-ordered
returns-in_ok-insert-in-Greater-clause-ordered c =
    let put = put_behind c.self.inside.first c.in-Some.first c.self.inside.later.entries c.insert-in-Greater.new.self.entries c.args.key c.args.task c.in-Some.is (sym c.cmp.ensures ∙ c.in-Greater.is) c.in_ok-insert-in-Greater.ensures.entries in
    ordered_with _ _ c.args.key c.args.task put c.self.invariant.0
