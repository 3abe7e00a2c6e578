use Rattle.rt_core.proofs.Prelude.{sleep_polls, walked-sleep, walked-gives, walked-lacking, goes-on}
use Rattle.rt_core.proofs.sleep.SleepPollerUnit.poll.Goals as goal

pub returns-in-Ok-None-clause-steps : goal.returns-in-Ok-None-clause-steps
unfolding sleep_polls
returns-in-Ok-None-clause-steps g c =
    rw (← c.self.view_is) (goes-on _ _ _ _ _ (walked-sleep _ _ _ _ _ _ _ _ _ c.in-Ok-None.ensures.told c.in-Ok-None.ensures.ok (rw c.in-Ok-None.field-0-is (walked-gives _ _ _))))

pub returns-in-Ok-Some-clause-steps : goal.returns-in-Ok-Some-clause-steps
unfolding sleep_polls
returns-in-Ok-Some-clause-steps g c =
    rw (← c.self.view_is) (goes-on _ _ _ _ _ (walked-sleep _ _ _ _ _ _ _ _ _ c.in-Ok-Some.ensures.told c.in-Ok-Some.ensures.ok (rw c.in-Ok-Some.field-0-is (walked-gives _ _ _))))

pub returns-in-Err-clause-steps : goal.returns-in-Err-clause-steps
unfolding sleep_polls
returns-in-Err-clause-steps g c = rw (← c.self.view_is) (goes-on _ _ _ _ _ (walked-lacking _ _ _ _ _ c.in-Err.ensures.err tt))
