-- Several runs in one journal, one after another.
use Rattle.std.specs.Prelude.{List, [], ◌∷◌, Bool, true, false, if◌then◌else◌}
use Rattle.rt_audit.specs.declared.finish.FinishCause.TheVariants.{Completed}
use Rattle.rt_audit.specs.declared.entry.Entry.{Entry}
use Rattle.rt_audit.specs.declared.entry.Entry.TheVariants.{Start}
use Rattle.rt_model.specs.declared.begin.Begin.{Begin}
use Rattle.rt_model.specs.State.{Phase, Finished, State, begun}
use Rattle.rt_model.specs.Effects.{after}
use Rattle.rt_model.specs.Rules.{May}

-- how a run begins that goes on after another: at its last moment, with all that its start fixed but the first task number
abbrev pub next_begin : State → Begin
next_begin s = record s.clock.fixed { start = s.clock.time; first = 0 }

abbrev pub renews : Entry → Phase → Bool
renews (Start next now deadline cycle) (Finished Completed) = true
renews _ _ = false

-- after a completed run a start begins the next one
abbrev pub renewed : State → Entry → State
renewed s e = if renews e s.phase then begun (next_begin s) else s

abbrev pub run_after : State → Entry → State
run_after s e = after (renewed s e) e

abbrev pub runs_after : State → List Entry → State
runs_after s [] = s
runs_after s (e ∷ es) = runs_after (run_after s e) es

-- each of the entries may come at its place, in its run
abbrev pub AreLawful : State → List Entry → Type 0
AreLawful s [] = Unit {0}
AreLawful s (e ∷ es) = May (renewed s e) e × AreLawful (run_after s e) es
