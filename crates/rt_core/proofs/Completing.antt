-- What completions and handles walk.
use Rattle.rt_core.proofs.Prelude.{◌≡◌, Option, None, Result, Err, Error, Closed, IsAborted, Poll, Ready, Step, Gives, then, World, Goes, walked-then, walked-gives, goes-on, Polls, completion_polls, held_answer, stage_by, Kind, Completion, Polled, Open, Answered, Aborted}
use Rattle.rt_core.specs.declared.completion.Source.TheVariants.{Held}

module _ {A O P G : Type 0} (polls : Polls A O P O) (c : Completion O P) where
  pub aborted-goes : (w : World A O G) → c.stage ≡ Aborted → Goes (completion_polls polls c c.stage) w w (Ready (Err IsAborted)) c
  unfolding completion_polls
  aborted-goes w is = rw is (goes-on _ _ _ _ _ (walked-gives _ _ _))

  pub answered-goes : (w : World A O G) → c.stage ≡ Answered → Goes (completion_polls polls c c.stage) w w (Ready (Err Closed)) c
  unfolding completion_polls
  answered-goes w is = rw is (goes-on _ _ _ _ _ (walked-gives _ _ _))

  pub held-goes : (w : World A O G) (held : Option (Result O Error)) (answer : Result O Error) (new : Completion O P) → c.stage ≡ Open → c.source ≡ Held held → answer ≡ held_answer held → new ≡ record { source = Held None; stage = Open } → Goes (completion_polls polls c c.stage) w w (Ready answer) new
  unfolding completion_polls
  held-goes w held answer new is from gives left = rw (is, from, gives, left) (goes-on _ _ _ _ _ (walked-gives _ _ _))

  pub polled-goes : (old new : World A O G) (state after : P) (answer : Poll (Result O Error)) (left : Completion O P) → c.stage ≡ Open → c.source ≡ Polled state → left ≡ record { source = Polled after; stage = stage_by answer } → Goes (polls state) old new answer after → Goes (completion_polls polls c c.stage) old new answer left
  unfolding completion_polls
  polled-goes old new state after answer left is from leaves one =
      rw (is, from, leaves) (goes-on _ _ _ _ _ (walked-then old new new _ _ answer after _ _ one.walked (walked-gives _ _ _)))

-- what keeps the state that was polled so
module _ {A L M O R G : Type 0} (inner : Step A L O R) (wrap : L → M) (old new : World A O G) where
  pub wrapped-goes : (answer : R) (left : L) → Goes inner old new answer left → Goes (then inner (λ answer left. Gives answer (wrap left))) old new answer (wrap left)
  wrapped-goes answer left one =
      goes-on _ _ _ _ _ (walked-then old new new _ _ answer left _ _ one.walked (walked-gives _ _ _))
