-- What a client does next: it makes a slot, hands the sender to a worker that it spawns, and waits for what comes.
use Rattle.std.specs.Prelude.{ℕ, codes, Option, Some, None, Result, Ok, Err}
use Rattle.rt_core.specs.Tasks.{Error, Poll, IsReady, IsPending, CloseNode, Slots, Slot, SlotClose, CallReply, SlotAt, Answer, Pending, Ready, NoMemory, TaskSteps, Plainly, Sending, Heard, Plain, Handed, Step, Last, Does, Spends, Gives, then, followed_by, Context, childs, root_context, spawns_with, TaskHandle, task_spends, closes, receiver_polls, receiver_spends}
use Rattle.rt_errand.specs.declared.client.Client.{Client}
use Rattle.rt_errand.specs.declared.client.Work.{Work}
use Rattle.rt_errand.specs.declared.client.Work.TheVariants.{Asks, Waits, Serves, Done}

abbrev pub Output : Type 0
Output = Result ℕ Error

-- a call, or an answer and the task after it
abbrev pub Next : Type 0
Next = Step Client Client Output (Answer Output)

abbrev pub at : Client → Work → Client
at c work = record c { work = work }

-- its receiver was polled
abbrev pub came : Client → Poll (Result Output Error) → Next
came c IsPending = Gives Pending c
came c (IsReady (Ok output)) = Gives (Ready output) c
came c (IsReady (Err error)) = Gives (Ready (Err error)) c

abbrev pub waits : Client → ℕ → Next
waits c receiver = then (receiver_polls receiver) (λ answer receiver. came (at c (Waits receiver)) answer)

-- it lets its worker go, and waits
abbrev pub settles : Client → TaskHandle Output → ℕ → Next
settles c worker receiver = followed_by (task_spends worker) (waits c receiver)

-- a sender that came back is given up
abbrev pub hired : Client → TaskHandle Output → ℕ → Option ℕ → Next
hired c worker receiver None = settles c worker receiver
hired c worker receiver (Some sender) = Spends (Plainly (Slots (SlotClose sender))) (settles c worker receiver)

-- after a refusal it gives up all that it has
abbrev pub spawned : Client → Context → ℕ → ℕ → Result (TaskHandle Output × Option ℕ) Error → Next
spawned c context sender receiver (Ok told) = hired c told.0 receiver told.1
spawned c context sender receiver (Err error) =
    Spends (Plainly (CloseNode context.node)) (Spends (Plainly (Slots (SlotClose sender))) (followed_by (receiver_spends receiver) (Gives (Ready (Err error)) c)))

-- a worker is on its context, and has the sender
abbrev pub worker : ℕ → ℕ → Context → Client
worker number sender context = record { context = context; work = Serves sender number }

abbrev pub hires : Client → Context → ℕ → ℕ → ℕ → Next
hires c context sender receiver number =
    then (spawns_with context sender (worker number sender)) (λ told u. spawned c context sender receiver told)

-- its slot was made: it has both ends
abbrev pub slotted : Client → Context → ℕ → CallReply → Next
slotted c context number (SlotAt slot) = hires c context slot slot number
slotted c context number _ = Spends (Plainly (CloseNode context.node)) (Gives NoMemory c)

abbrev pub made : Client → Context → ℕ → Heard Output → Next
made c context number (Plain reply) = slotted c context number reply
made c context number (Handed value) = Gives NoMemory c

-- a child was made for its worker
abbrev pub asked : Client → ℕ → Result Context Error → Next
asked c number (Ok context) = Does (Plainly (Slots Slot)) (made c context number)
asked c number (Err error) = Gives (Ready (Err error)) c

-- a poll, by what is to be done
abbrev pub polled : Client → Work → Next
polled c (Asks number) = then (childs c.context (codes "worker")) (λ child told. asked (at c Done) number child)
polled c (Waits receiver) = waits (at c Done) receiver
polled c (Serves sender number) = Spends (Sending sender (Ok (Ok number))) (Gives (Ready (Ok number)) (at c Done))
polled c Done = Gives Pending c

-- its end gives up the end of the slot that it has, and closes its context
abbrev pub ended : Client → Work → Last Client Output
ended c (Waits receiver) = followed_by (receiver_spends receiver) (closes c.context.node)
ended c (Serves sender number) = Spends (Plainly (Slots (SlotClose sender))) (closes c.context.node)
ended c work = closes c.context.node

abbrev pub client_steps : TaskSteps Client Output
client_steps = record { next = λ c time task. polled c c.work; last = λ c time number. ended c c.work }

-- the root, on node 0
abbrev pub client_made : ℕ → Step Client Client Output (Unit {0})
client_made number = Gives tt (record { context = root_context; work = Asks number })
