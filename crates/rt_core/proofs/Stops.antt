-- What a poller of the shutdown's end walks.
use Rattle.rt_core.proofs.Prelude.{◌≡◌, ◌≢◌, sym, ◌∙◌, ℕ, ℤ, Option, Result, Ok, Err, refl, Error, NoMemory, Poll, Ready, StopCall, CompletionAt, Plainly, Plain, World, Made, lacking, Goes, walked-then, walked-gives, walked-made, walked-lacking, goes-on, Sleeper, begins, limit_for, still, stop_polls, stopping, Stop, Stopping, Begins, Waits, Limited}

module _ {A O G : Type 0} (s : Stop) (now time : ℕ) (same : time ≡ now) (limit : Result (Option (ℕ × Sleeper)) Error) (is : limit ≡ limit_for s.timeout time) where
  pub late-goes : (w : World A O G) (error : Error) → limit ≡ Err error → Goes (begins s now) w w (Err error) s
  unfolding begins
  late-goes w error late =
      let e : limit_for s.timeout now ≡ Err error = sym (rw same at is) ∙ late in
      rw e (goes-on _ _ _ _ _ (walked-gives _ _ _))

  module _ (old new : World A O G) (begun : Option (ℕ × Sleeper)) (ok : limit ≡ Ok begun) where
    found : limit_for s.timeout now ≡ Ok begun
    found = sym (rw same at is) ∙ ok

    pub begun-goes : (completion : ℕ) → Made old new (Plainly (StopCall s.value)) (CompletionAt completion) → Goes (begins s now) old new (Ok tt) (record s { stage = stopping completion begun })
    unfolding begins
    begun-goes completion made =
        rw found (goes-on _ _ _ _ _ (walked-made old new new _ _ (Plainly (StopCall s.value)) (CompletionAt completion) (Plain (CompletionAt completion)) _ made (refl, tt) refl (walked-gives _ _ _)))

    pub lacked-goes : new ≡ lacking old → Goes (begins s now) old new (Err NoMemory) s
    unfolding begins
    lacked-goes lack = rw found (goes-on _ _ _ _ _ (walked-lacking old new _ _ _ lack tt))

module _ {A O G : Type 0} (s : Stop) (now task : ℕ) where
  still-at : (stage : Stopping) → stage ≢ Begins → (old new : World A O G) (answer : Poll (Result (Unit {0}) Error)) (left : Stop) → Goes (still s now task stage) old new answer left → Goes (stop_polls s now task stage) old new answer left
  unfolding stop_polls
  still-at Begins begun old new answer left one = absurd (begun refl)
  still-at (Waits completion) begun old new answer left one = one
  still-at (Limited limit) begun old new answer left one = one

  pub still-goes : (old new : World A O G) (answer : Poll (Result (Unit {0}) Error)) (left : Stop) → s.stage ≢ Begins → Goes (still s now task s.stage) old new answer left → Goes (stop_polls s now task s.stage) old new answer left
  still-goes old new answer left begun one = still-at s.stage begun old new answer left one

  module _ (stage : Stopping) (is : stage ≡ Begins) where
    first-at : (old mid new : World A O G) (time : ℕ) (begun : Stop) (answer : Poll (Result (Unit {0}) Error)) (left : Stop) → time ≡ now → Goes (begins s now) old mid (Ok tt) begun → Goes (still begun time task begun.stage) mid new answer left → Goes (stop_polls s now task stage) old new answer left
    unfolding stop_polls
    first-at old mid new time begun answer left same one two =
        rw is (goes-on _ _ _ _ _ (walked-then old mid new _ _ (Ok tt) begun _ _ one.walked (rw same at two.walked)))

    refused-at : (old new : World A O G) (error : Error) (left : Stop) → Goes (begins s now) old new (Err error) left → Goes (stop_polls s now task stage) old new (Ready (Err error)) left
    unfolding stop_polls
    refused-at old new error left one =
        rw is (goes-on _ _ _ _ _ (walked-then old new new _ _ (Err error) left _ _ one.walked (walked-gives _ _ _)))

  pub first-goes : (old mid new : World A O G) (time : ℕ) (begun : Stop) (answer : Poll (Result (Unit {0}) Error)) (left : Stop) → s.stage ≡ Begins → time ≡ now → Goes (begins s now) old mid (Ok tt) begun → Goes (still begun time task begun.stage) mid new answer left → Goes (stop_polls s now task s.stage) old new answer left
  first-goes old mid new time begun answer left is same one two = first-at s.stage is old mid new time begun answer left same one two

  pub refused-goes : (old new : World A O G) (error : Error) (left : Stop) → s.stage ≡ Begins → Goes (begins s now) old new (Err error) left → Goes (stop_polls s now task s.stage) old new (Ready (Err error)) left
  refused-goes old new error left is one = refused-at s.stage is old new error left one
