-- A poller with a limit in time walks its state, and then its sleep.
use Rattle.rt_core.proofs.Prelude.{◌≡◌, sym, ◌∙◌, ℕ, Option, Some, None, Result, Ok, Err, refl, Error, Poll, Ready, Pending, World, Goes, walked-then, walked-gives, goes-on, Sleeper, sleep_polls, Polling, limit_of, over, timeout_polls, Timeout}

-- a sleep that is refused wasn't begun
unbegun : {P : Type 0} (t : Timeout P) (now : ℕ) (sleep : Option Sleeper) (error : Error) → t.sleep ≡ sleep → Err error ≡ limit_of t now sleep → record t { sleep = None } ≡ t
unbegun t now None error is e = rw is refl
unbegun t now (Some sleep) error is e = cc

module _ {A P O V G : Type 0} (polls : Polling A P O V) (t : Timeout P) (now task : ℕ) where
  pub refused-goes : (w : World A O G) (new : Timeout P) (error : Error) (time : ℕ) (begun : Result Sleeper Error) → begun ≡ Err error → time ≡ now → begun ≡ limit_of t time t.sleep → new ≡ record t { sleep = None } → Goes (timeout_polls polls t now task) w w (Ready (Err error)) new
  unfolding timeout_polls
  refused-goes w new error time begun refused same found is =
      let e : Err error ≡ limit_of t now t.sleep = sym refused ∙ (rw same at found) in
      rw (is, unbegun t now t.sleep error refl e) (goes-on w w (timeout_polls polls t now task) (Ready (Err error)) t (rw (← e) (walked-gives w (Ready (Err error)) t)))

  module _ (old mid : World A O G) (sleep : Sleeper) (state : P) (time : ℕ) (begun : Result Sleeper Error) (is : begun ≡ Ok sleep) (same : time ≡ now) (found : begun ≡ limit_of t time t.sleep) where
    begins : Ok sleep ≡ limit_of t now t.sleep
    begins = sym is ∙ (rw same at found)

    pub ready-goes : (answer : Result V Error) → Goes (polls t.state now task) old mid (Ready answer) state → Goes (timeout_polls polls t now task) old mid (Ready answer) (record t { state = state; sleep = Some sleep })
    unfolding timeout_polls
    ready-goes answer one =
        goes-on old mid (timeout_polls polls t now task) (Ready answer) (record t { state = state; sleep = Some sleep }) (rw (← begins) (walked-then old mid mid _ _ (Ready answer) state _ _ one.walked (walked-gives mid _ _)))

    pub pending-goes : (new : World A O G) (slept : Poll (Result (Unit {0}) Error)) (left : Sleeper) → Goes (polls t.state now task) old mid Pending state → Goes (sleep_polls sleep) mid new slept left → Goes (timeout_polls polls t now task) old new (over slept) (record t { state = state; sleep = Some left })
    unfolding timeout_polls
    pending-goes new slept left one two =
        goes-on old new (timeout_polls polls t now task) (over slept) (record t { state = state; sleep = Some left }) (rw (← begins) (walked-then old mid new _ _ Pending state _ _ one.walked (walked-then mid new new _ _ slept left _ _ two.walked (walked-gives new _ _))))

pub ruleset timeout_laws = (refused-goes, ready-goes, pending-goes)
