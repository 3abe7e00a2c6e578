-- Calls that spawn: what is heard of one alone, and what one walks that makes a child first.
use Rattle.rt_core.proofs.Prelude.{◌≡◌, ℕ, List, Option, Ok, Err, Error, TaskAt, Refused, Plainly, Gives, World, Goes, goes-on, walked-gives, walked-then, childs, context_on, spawns}
use Rattle.rt_audit.specs.declared.call.Call.TheVariants.{CloseNode}
use Rattle.rt_audit.specs.declared.reply.CallReply.{CallReply}
use Rattle.rt_audit.specs.declared.reply.CallReply.TheVariants.{Closed}
use Rattle.rt_world.specs.Walked.{Closes}
use Rattle.rt_world.proofs.Walked.{walked-spend}
use Rattle.rt_core.specs.Contexts.{Context, IsAskedBy, given_replied, handle_replied, starts, starts_on, settled}
use Rattle.rt_core.specs.Handles.{TaskHandle}

-- the handle, where what was given along is left out
pub handle-alone : {C O : Type 0} (given : C) (reply : CallReply) (spawned : TaskHandle O × Option C) → given_replied given reply ≡ Ok spawned → handle_replied reply ≡ Ok spawned.0
handle-alone given (TaskAt task node) spawned is = cc
handle-alone given Closed spawned is = cc
handle-alone given (Refused error) spawned is = cc
handle-alone given _ spawned is = cc

-- what may be made by one may be made by another
pub asked-also : {A O G : Type 0} (post other : Context → A → Type 0) (context : Context) (old new : World A O G) (reply : CallReply) → IsAskedBy post context old new reply → ((own : Context) (state : A) → post own state → other own state) → IsAskedBy other context old new reply
asked-also post other context old new (TaskAt task node) is also = (is.0, also (context_on node context.name) is.0 is.1, is.2)
asked-also post other context old new _ is also = is

module _ {A O G : Type 0} (context : Context) (label : List ℕ) (makes : Context → A) where
  -- the child was refused
  pub start-refused : (old new : World A O G) (error : Error) → Goes (childs context label) old new (Err error) tt → Goes (starts context label makes) old new (Err error) tt
  unfolding starts
  start-refused old new error one =
      goes-on _ _ _ _ _ (walked-then old new new _ (λ child u. starts_on makes child) (Err error) tt _ _ one.walked (walked-gives new _ _))

  -- a task was spawned on the child
  pub start-spawned : (old mid new : World A O G) (child : Context) (handle : TaskHandle O) → Goes (childs context label) old mid (Ok child) tt → Goes (spawns child makes) mid new (Ok handle) tt → Goes (starts context label makes) old new (Ok handle) tt
  unfolding starts
  start-spawned old mid new child handle one two =
      goes-on _ _ _ _ _ (walked-then old mid new _ (λ child u. starts_on makes child) (Ok child) tt _ _ one.walked
      (walked-then mid new new _ (λ told u. settled child told) (Ok handle) tt _ _ two.walked (walked-gives new _ _)))

  -- the task was refused, and the child was closed
  pub start-closed : (old mid last new : World A O G) (child : Context) (error : Error) → Goes (childs context label) old mid (Ok child) tt → Goes (spawns child makes) mid last (Err error) tt → Closes (Plainly (CloseNode child.node)) last new → Goes (starts context label makes) old new (Err error) tt
  unfolding starts
  start-closed old mid last new child error one two three =
      goes-on _ _ _ _ _ (walked-then old mid new _ (λ child u. starts_on makes child) (Ok child) tt _ _ one.walked
      (walked-then mid last new _ (λ told u. settled child told) (Err error) tt _ _ two.walked
      (walked-spend last new new _ _ (Plainly (CloseNode child.node)) (Gives (Err error) tt) tt three.spent (walked-gives new _ _))))
