-- What a walker keeps of a state.
use Rattle.std.specs.Prelude.{[]}
use Rattle.rt_model.specs.State.{State}

-- the state without its calls under way, and without all that was drawn: no rule asks for them
abbrev pub quiet : State → State
quiet s = record s { drawn = []; turns = [] }
