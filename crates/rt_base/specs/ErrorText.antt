-- The text of an error in an event.
use Rattle.std.specs.Prelude.{ℕ, List, Option, Some, None, codes}
use Rattle.rt_base.specs.declared.error.Error.{Error}
use Rattle.rt_base.specs.declared.error.Error.TheVariants.{Closed, BindFailed, ConnectionFailed, SendFailed, RecvFailed, PortsExhausted, ClockOverflow, UnknownToken, NoMemory}

-- A call that runs out of memory has no further event. The texts that an error carries aren't shown, so no text is long.
abbrev pub error_text : Error → Option (List ℕ)
error_text Closed = Some (codes "closed")
error_text BindFailed = Some (codes "bind failed")
error_text ConnectionFailed = Some (codes "connection failed")
error_text SendFailed = Some (codes "send failed")
error_text RecvFailed = Some (codes "recv failed")
error_text PortsExhausted = Some (codes "ports exhausted")
error_text ClockOverflow = Some (codes "clock overflow")
error_text UnknownToken = Some (codes "unknown token")
error_text NoMemory = None
error_text other = Some (codes "other")
