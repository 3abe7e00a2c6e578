use Rattle.rt_scripts.proofs.Prelude.{rules, true, ap, starting}
use Rattle.std.specs.Prelude.{not}
use Rattle.rt_scripts.proofs.Runs.{chain-is, chain-within}
use Rattle.rt_scripts.proofs.simulate.run_scenario.Goals as goal

pub report_runs-requires : goal.report_runs-requires
report_runs-requires g c =
    let s = c.args.scenario in
    let ran = c.run_lines-ran.result in
    chain-within true s.scripts (starting s.settings) s.runs ran.runs.items ran.journal.entries
    (chain-is (not ran.lacked) true c.in-Ok-new.program s.scripts c.first_runner-first.result (starting s.settings) c.as_slice-2.result.now s.runs ran.runs.items ran.journal.entries (ap not c.if-lacked.false) (search rules) c.first_runner-first.ensures c.as_slice-2.ensures c.run_lines-ran.ensures)
