use Rattle.rt_store.proofs.Prelude.{◌≡◌, ◌+◌, ◌*◌, ◌≤◌, ◌++◌, List, vec_len, vec_capacity, Option, Choice, Noted, ChoosesAll, all_crashed, numbers, count_later}
use Rattle.rt_store.proofs.files.Files.crash.Given as goal

abbrev pub invariant-loop-place : goal.invariant-loop-place
invariant-loop-place g l =
    ((cs : List Choice) (new : Option (List Noted)) → ChoosesAll l.faults l.place-iterator l.self cs (g.E.Env.noted l.env) new →
    (all : List Choice) × ChoosesAll l.fn.faults (numbers l.fn.names) l.fn.self all (g.E.Env.noted l.fn.env) new
    × (l.choices.items ++ cs ≡ l.fn.choices.items ++ all)
    × (all_crashed l.place-iterator cs l.self ≡ all_crashed (numbers l.fn.names) all l.fn.self))
    × (count_later l.self + l.fewer ≡ count_later l.fn.self)
    × (g.E.Env.spare l.fn.env ≤ g.E.Env.spare l.env + 2 * l.fewer)
    × (vec_len l.choices ≡ vec_len l.fn.choices + l.fewer)
    × (vec_capacity l.choices ≡ vec_capacity l.fn.choices)
    × ((start : g.row.E.Denot) → g.E.Env.lasts start l.fn.env → g.E.Env.lasts start l.env)
