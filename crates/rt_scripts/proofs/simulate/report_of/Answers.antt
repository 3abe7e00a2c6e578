use Rattle.rt_scripts.proofs.Prelude.{arith, ◌≡◌, ◌-◌, drop, sym, rounds_in}
use Rattle.rt_scripts.proofs.Runs.{reported-from, rounds_behind}
use Rattle.rt_scripts.proofs.simulate.report_of.Goals as goal

pub returns : goal.returns
returns c =
    let all = c.args.journal.now.entries in
    let left : c.rounds.result - c.args.rounds ≡ rounds_in (drop c.args.place all) =
    omega (arith, c.rounds.ensures, c.requires.rounds, rounds_behind c.args.place all) in
    rw (left, c.len.ensures, c.digest.ensures) (sym (reported-from c.args.root c.args.ended c.args.time c.args.place all c.requires.place))
