-- Calls that wake nobody.
use Rattle.rt_machine.proofs.Prelude.{◌≡◌, ℕ, ℤ, List, [], refl, true, false, Bool, not, ◌&&◌, if◌then◌else◌, Child, CloseNode, Spawn, Abort, AbortTask, Join, GiveUp, Slots, Stop, SlotCall, CallReply, Done, NodeAt, CompletionAt, Mark, find, Stood, due_if, is_left, slots_wake, woken_by_stop, due_called}

pub due-close : (closing : Bool) (ms : List (ℕ × Mark)) (st : Stood) (node : ℕ) → due_called closing ms st (CloseNode node) Done ≡ []
due-close true ms st node = refl
due-close false ms st node = refl

pub due-child : (closing : Bool) (ms : List (ℕ × Mark)) (st : Stood) (node : ℕ) (label : List ℕ) (number : ℕ) (ended : Bool) → due_called closing ms st (Child node label) (NodeAt number ended) ≡ []
due-child true ms st node label number ended = refl
due-child false ms st node label number ended = refl

pub due-spawn : (closing : Bool) (ms : List (ℕ × Mark)) (st : Stood) (node : ℕ) (reply : CallReply) → due_called closing ms st (Spawn node) reply ≡ []
due-spawn true ms st node reply = refl
due-spawn false ms st node reply = refl

pub due-join : (closing : Bool) (ms : List (ℕ × Mark)) (st : Stood) (task : ℕ) (reply : CallReply) → due_called closing ms st (Join task) reply ≡ []
due-join true ms st task reply = refl
due-join false ms st task reply = refl

pub due-give-up : (closing : Bool) (ms : List (ℕ × Mark)) (st : Stood) (task : ℕ) → due_called closing ms st (GiveUp task) Done ≡ []
due-give-up true ms st task = refl
due-give-up false ms st task = refl

pub due-abort : (closing : Bool) (ms : List (ℕ × Mark)) (st : Stood) (task : ℕ) → due_called closing ms st (Abort task) Done ≡ due_if (not closing && is_left (find task ms)) task
due-abort true ms st task = refl
due-abort false ms st task = refl

pub due-abort-task : (closing : Bool) (ms : List (ℕ × Mark)) (st : Stood) (task : ℕ) → due_called closing ms st (AbortTask task) Done ≡ due_if (not closing && is_left (find task ms)) task
due-abort-task true ms st task = refl
due-abort-task false ms st task = refl

pub due-slots : (closing : Bool) (ms : List (ℕ × Mark)) (st : Stood) (call : SlotCall) (reply : CallReply) → due_called closing ms st (Slots call) reply ≡ (if closing then [] else slots_wake st.slots call reply)
due-slots true ms st call reply = refl
due-slots false ms st call reply = refl

pub due-stop : (closing : Bool) (ms : List (ℕ × Mark)) (st : Stood) (value : ℤ) (number : ℕ) → due_called closing ms st (Stop value) (CompletionAt number) ≡ (if closing then [] else woken_by_stop st.signals st.stop value)
due-stop true ms st value number = refl
due-stop false ms st value number = refl

pub ruleset owed_laws = (due-slots, due-abort, due-abort-task, due-close, due-child, due-spawn, due-join, due-give-up)
