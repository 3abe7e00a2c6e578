-- A pause begins its sleep, and walks it.
use Rattle.rt_core.proofs.Prelude.{◌≡◌, sym, ◌∙◌, ℕ, Some, Result, Ok, Err, Error, Poll, Ready, World, Goes, goes-gives, goes-then, pause_for, pause_polls, begun_sleep, sleep_polls, Sleeper, Pause}

module _ {A O G : Type 0} (p : Pause) (now time : ℕ) (same : time ≡ now) (begun : Result Sleeper Error) (is : begun ≡ begun_sleep time p.duration p.sleep) where
  pub late-goes : (w : World A O G) (error : Error) → begun ≡ Err error → Goes (pause_polls p now) w w (Ready (Err error)) (pause_for p.duration)
  unfolding pause_polls
  late-goes w error late =
      let e : begun_sleep now p.duration p.sleep ≡ Err error = sym (rw same at is) ∙ late in
      rw e (goes-gives w _ _)

  pub slept-goes : (old new : World A O G) (sleep left : Sleeper) (answer : Poll (Result (Unit {0}) Error)) → begun ≡ Ok sleep → Goes (sleep_polls sleep) old new answer left → Goes (pause_polls p now) old new answer (record p { sleep = Some left })
  unfolding pause_polls
  slept-goes old new sleep left answer ok one =
      let e : begun_sleep now p.duration p.sleep ≡ Ok sleep = sym (rw same at is) ∙ ok in
      rw e (goes-then old new new _ _ answer left _ _ one (goes-gives new _ _))
