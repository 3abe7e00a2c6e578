-- How groups of signals are kept in memory.
use Rattle.std.specs.Prelude.{◌≡◌, ◌≤◌, ◌*◌, ℕ, false, List, [], ◌∷◌, IsSome, Ok}
use Rattle.std.specs.VecDeque.{deque_capacity}
use Rattle.rt_base.specs.declared.poll.Poll.TheVariants.{Pending}
use Rattle.rt_super.specs.Signals.{SignalState, SignalRecord, group_of, shown, completes}
use Rattle.rt_super.specs.declared.signal_token.SignalToken.{SignalToken}
use Rattle.rt_super.specs.declared.signals.Signals.TheInside.{Inside}

abbrev pub state_of : Inside → SignalState
state_of s = record {
  told = record { groups = s.groups.items; signals = s.signals.items; completions = s.completions.items; count = s.groups.next };
  woken = s.woken.items;
}

-- each by which somebody waits is of a group that has this
abbrev pub WaitFor : (ℕ → Type 0) → List (ℕ × SignalToken) → Type 0
WaitFor still [] = Unit {0}
WaitFor still (t ∷ ts) = (IsSome t.1.waits → still t.1.group) × WaitFor still ts

-- Nobody waits for what is there: who waits by a signal waits for a value that may come, and who waits by a completion, for one that
-- isn't met.
pub record ArePending (r : SignalRecord) : Type 0 where
  pub signals : WaitFor (λ group. shown (group_of r group) ≡ Ok Pending) r.signals
  pub completions : WaitFor (λ group. completes r group ≡ false) r.completions

-- The numbers are given together, and there is room for whom a call may meet: at most each signal once, and each completion twice.
pub record IsWhole (s : Inside) : Type 0 where
  pub signals : s.signals.next ≡ s.groups.next
  pub completions : s.completions.next ≡ s.groups.next
  pub room : 3 * s.groups.next ≤ deque_capacity s.woken
  pub pending : ArePending (state_of s).told
