-- What contracts see of a `MemStore`.
use Rattle.std.specs.Prelude.{ℕ, ◌+◌, ◌-◌, ◌^◌, min, Result, Err}
use Rattle.rt_base.specs.declared.error.Error.{Error}
use Rattle.rt_base.specs.declared.error.Error.TheVariants.{Io}
use Rattle.rt_base.specs.Counted.{counted}
use Rattle.rt_store.specs.declared.faults.FaultConfig.{FaultConfig}
use Rattle.rt_store.specs.Draws.{if_ok}
use Rattle.rt_store.specs.Store.{StoreState, empty_state}

-- the store, its fault settings, and how many calls met a fault and how many were refused
pub record Kept : Type 0 where
  pub state : StoreState
  pub faults : FaultConfig
  pub injected : ℕ
  pub refusals : ℕ

-- one more for a fault, up to the type's end
abbrev pub injected_by : {A : Type 0} → ℕ → Result A Error → ℕ
injected_by n (Err (Io kind)) = min (n + 1) (2 ^ 64 - 1)
injected_by n r = n

-- the store is in this state after an answer of Ok, and as it was after any other; the answer is counted
abbrev pub answered : {A : Type 0} → Kept → StoreState → Result A Error → Kept
answered v s r = record v { state = if_ok r s v.state; injected = injected_by v.injected r; refusals = counted v.refusals r }

-- the store is in this state after a call that can't be refused
abbrev pub moved_to : Kept → StoreState → Kept
moved_to v s = record v { state = s }

-- an empty store
abbrev pub empty_store : FaultConfig → Kept
empty_store faults = record { state = empty_state; faults = faults; injected = 0; refusals = 0 }
