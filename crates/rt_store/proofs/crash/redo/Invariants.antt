use Rattle.rt_store.proofs.Prelude.{◌≡◌, ◌+◌, ◌*◌, ◌≤◌, ◌++◌, List, length, All, vec_len, vec_capacity, Option, Choice, Noted, mutations, HasRoom, Chooses, replay}
use Rattle.rt_store.proofs.crash.redo.Given as goal

abbrev pub invariant-loop-change : goal.invariant-loop-change
invariant-loop-change g l =
    ((cs : List Choice) (new : Option (List Noted)) → Chooses l.faults (mutations l.rest) cs (g.E.Env.noted l.env) new →
    (all : List Choice) × Chooses l.fn.faults (mutations l.fn.later) all (g.E.Env.noted l.fn.env) new
    × (l.choices.items ++ cs ≡ l.fn.choices.items ++ all)
    × (replay (mutations l.rest) cs l.content.items ≡ replay (mutations l.fn.later) all l.fn.content.items))
    × All (HasRoom (vec_capacity l.fn.content)) l.rest
    × (vec_capacity l.fn.content ≤ vec_capacity l.content)
    × (g.E.Env.spare l.fn.env + 2 * length l.rest ≤ g.E.Env.spare l.env + 2 * length l.fn.later)
    × (vec_len l.choices + length l.rest ≡ vec_len l.fn.choices + length l.fn.later)
    × (vec_capacity l.choices ≡ vec_capacity l.fn.choices)
    × ((start : g.row.E.Denot) → g.E.Env.lasts start l.fn.env → g.E.Env.lasts start l.env)

abbrev pub decreases-loop-change : goal.decreases-loop-change
decreases-loop-change g l = length l.rest
