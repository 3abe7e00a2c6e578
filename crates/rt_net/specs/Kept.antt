-- What contracts see of a `Net`.
use Rattle.std.specs.Prelude.{ℕ, [], Result}
use Rattle.rt_base.specs.declared.error.Error.{Error}
use Rattle.rt_net.specs.Network.{NetworkState}
use Rattle.rt_base.specs.Counted.{counted}

-- the network, and how many calls were refused
pub record Kept : Type 0 where
  pub state : NetworkState
  pub refusals : ℕ

-- a network without channels and listeners, whose first dialer gets port 32,768
abbrev pub empty_net : Kept
empty_net = record { state = record { port = 32768; addresses = []; listeners = []; channels = []; woken = [] }; refusals = 0 }

-- the network is in this state after an answer, which is counted
abbrev pub answered : {A : Type 0} → Kept → NetworkState → Result A Error → Kept
answered v s r = record { state = s; refusals = counted v.refusals r }

-- the network is in this state after a call that can't be refused
abbrev pub moved_to : Kept → NetworkState → Kept
moved_to v s = record v { state = s }
