use Rattle.rt_scripts.proofs.Prelude.{◌∙◌, refl, subst, sym, IsPending, Pending, Polled, polled-gives, Script, limited, waiting, Limits}
use Rattle.rt_scripts.proofs.script.Script.poll_limit.Goals as goal

pub returns-in-Pending-clause-steps : goal.returns-in-Pending-clause-steps
returns-in-Pending-clause-steps g c on =
    let state = c.self.view_is ∙ c.keep.ensures in
    subst (λ (t : Script). Polled (limited c.args.self.now on c.args.at c.args.sleep IsPending c.args.handle) c.args.world.now c.poll.new.world Pending (waiting t (Limits c.args.at c.poll.new.self))) (sym state)
    (c.poll.ensures.steps.onward _ c.poll.new.world Pending _ (rw (c.of.ensures.pending c.in-Pending.is) (polled-gives _ _ _ _ refl)))
