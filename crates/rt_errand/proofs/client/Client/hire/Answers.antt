use Rattle.std.proofs.Common.{refl, rules}
use Rattle.rt_core.proofs.Tasks.{polled-gives}
use Rattle.rt_errand.specs.Client.{spawned, worker}
use Rattle.rt_errand.proofs.client.Client.hire.Goals as goal

pub returns-in-Err-clause-steps : goal.returns-in-Err-clause-steps
returns-in-Err-clause-steps g c =
    let closed = rw c.in-Err.ensures.back at c.close.ensures.closed in
    let spent = rw c.in-Err.ensures.back at c.give_up-in-Err.ensures.steps in
    c.in-Err.ensures.polls (worker c.args.number c.args.sender) (λ told u. spawned c.args.self.now c.args.context c.args.sender c.args.receiver told) _ _ _ (λ context state post. search rules)
    (closed.onward _ _ _ _ (spent.onward _ _ _ _ (c.give_up-in-Err-2.ensures.steps.onward _ _ _ _ (polled-gives _ _ _ _ refl))))
