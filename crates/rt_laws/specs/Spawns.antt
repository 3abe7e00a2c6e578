-- Which task a call has spawned.
use Rattle.std.specs.Prelude.{◌≡◌, ℕ}
use Rattle.rt_audit.specs.declared.reply.CallReply.TheVariants.{TaskAt}
use Rattle.rt_model.specs.State.{Turn}

-- the call was told that this task is spawned, with the number of its own context
abbrev pub Spawns : ℕ → Turn → Type 0
Spawns task t = (number : ℕ) × (t.reply ≡ TaskAt task number)
