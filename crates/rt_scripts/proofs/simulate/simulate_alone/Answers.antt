use Rattle.rt_scripts.proofs.Prelude.{rules, map, string_bytes, inl, inr, refl, scenario_of, NoCommand, TooLong, Reads}
use Rattle.rt_scripts.proofs.InOrder.{journal-rises}
use Rattle.rt_scripts.proofs.Ends.{some_asked, no_command, too_long}
use Rattle.rt_scripts.proofs.simulate.simulate_alone.Goals as goal

pub returns-then-not-is_run_command-clause-report : goal.returns-then-not-is_run_command-clause-report
returns-then-not-is_run_command-clause-report g c =
    (NoCommand, no_command (map string_bytes c.args.words.now) (g.S.Source.left c.args.source.now) (search rules), search rules)

pub returns-in-Err-Failed-clause-report : goal.returns-in-Err-Failed-clause-report
returns-in-Err-Failed-clause-report g c =
    let some = some_asked (map string_bytes c.args.words.now) (g.S.Source.left c.args.source.now) in
    (some.0, some.1, inl (inr (inr (inl (search rules), search rules, search rules, refl))))

pub returns-in-Err-NoMemory-clause-report : goal.returns-in-Err-NoMemory-clause-report
returns-in-Err-NoMemory-clause-report g c =
    let some = some_asked (map string_bytes c.args.words.now) (g.S.Source.left c.args.source.now) in
    (some.0, some.1, inl (inr (inr (inr (search rules), search rules, search rules, refl))))

pub returns-in-Err-TooLong-clause-report : goal.returns-in-Err-TooLong-clause-report
returns-in-Err-TooLong-clause-report g c =
    (TooLong, too_long (map string_bytes c.args.words.now) (g.S.Source.left c.args.source.now) (search rules) (search rules), search rules)

pub returns-then-not-is_run_command-clause-rises : goal.returns-then-not-is_run_command-clause-rises
returns-then-not-is_run_command-clause-rises g c = let r = returns-then-not-is_run_command-clause-report g c in journal-rises r.0 _ _ _ r.2

pub returns-in-Err-Failed-clause-rises : goal.returns-in-Err-Failed-clause-rises
returns-in-Err-Failed-clause-rises g c = let r = returns-in-Err-Failed-clause-report g c in journal-rises r.0 _ _ _ r.2

pub returns-in-Err-NoMemory-clause-rises : goal.returns-in-Err-NoMemory-clause-rises
returns-in-Err-NoMemory-clause-rises g c = let r = returns-in-Err-NoMemory-clause-report g c in journal-rises r.0 _ _ _ r.2

pub returns-in-Err-TooLong-clause-rises : goal.returns-in-Err-TooLong-clause-rises
returns-in-Err-TooLong-clause-rises g c = let r = returns-in-Err-TooLong-clause-report g c in journal-rises r.0 _ _ _ r.2

pub returns-in-Ok-clause-rises : goal.returns-in-Ok-clause-rises
returns-in-Ok-clause-rises g c = journal-rises (Reads (scenario_of c.as_slice.result.now)) c.run_bytes.result _ _ c.run_bytes.ensures.ends
