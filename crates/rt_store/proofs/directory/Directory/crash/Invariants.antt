use Rattle.rt_store.proofs.Prelude.{◌≡◌, ◌+◌, ◌*◌, ◌≤◌, ◌++◌, List, vec_len, vec_capacity, Option, Choice, Noted, ChoosesAll, all_crashed, all_numbers, named_numbers, count_later}
use Rattle.rt_store.proofs.directory.Directory.crash.Given as goal

abbrev pub invariant-loop-shelf : goal.invariant-loop-shelf
invariant-loop-shelf g l =
    ((cs : List Choice) (new : Option (List Noted)) → ChoosesAll l.faults (all_numbers l.self.shelves l.shelf-iterator) l.files cs (g.E.Env.noted l.env) new →
    (all : List Choice) × ChoosesAll l.fn.faults (named_numbers l.fn.self) l.fn.files all (g.E.Env.noted l.fn.env) new
    × (l.choices.items ++ cs ≡ l.fn.choices.items ++ all)
    × (all_crashed (all_numbers l.self.shelves l.shelf-iterator) cs l.files ≡ all_crashed (named_numbers l.fn.self) all l.fn.files))
    × (count_later l.files + l.fewer ≡ count_later l.fn.files)
    × (g.E.Env.spare l.fn.env ≤ g.E.Env.spare l.env + 2 * l.fewer)
    × (vec_len l.choices ≡ vec_len l.fn.choices + l.fewer)
    × (vec_capacity l.choices ≡ vec_capacity l.fn.choices)
    × ((start : g.row.E.Denot) → g.E.Env.lasts start l.fn.env → g.E.Env.lasts start l.env)
