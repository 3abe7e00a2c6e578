use Rattle.rt_scenario.proofs.Prelude.{rules, ◌≡◌, codes, refl, arith, text_from_reads}
use Rattle.rt_scenario.proofs.word.Word.of.Goals as goal

pub returns-in-script : goal.returns-in-script
returns-in-script c =
    let text : c.args.text.now ≡ codes "script" = text_from_reads c.args.text.now (codes "script") (omega arith) (search rules) in
    rw text refl

pub returns-in-timeout : goal.returns-in-timeout
returns-in-timeout c =
    let text : c.args.text.now ≡ codes "timeout" = text_from_reads c.args.text.now (codes "timeout") (omega arith) (search rules) in
    rw text refl

pub returns-in-within : goal.returns-in-within
returns-in-within c =
    let text : c.args.text.now ≡ codes "within" = text_from_reads c.args.text.now (codes "within") (omega arith) (search rules) in
    rw text refl

pub returns-in-catch : goal.returns-in-catch
returns-in-catch c =
    let text : c.args.text.now ≡ codes "catch" = text_from_reads c.args.text.now (codes "catch") (omega arith) (search rules) in
    rw text refl

pub returns-in-sleep : goal.returns-in-sleep
returns-in-sleep c =
    let text : c.args.text.now ≡ codes "sleep" = text_from_reads c.args.text.now (codes "sleep") (omega arith) (search rules) in
    rw text refl

pub returns-in-spawn : goal.returns-in-spawn
returns-in-spawn c =
    let text : c.args.text.now ≡ codes "spawn" = text_from_reads c.args.text.now (codes "spawn") (omega arith) (search rules) in
    rw text refl

pub returns-in-until : goal.returns-in-until
returns-in-until c =
    let text : c.args.text.now ≡ codes "until" = text_from_reads c.args.text.now (codes "until") (omega arith) (search rules) in
    rw text refl

pub returns-in-yield : goal.returns-in-yield
returns-in-yield c =
    let text : c.args.text.now ≡ codes "yield" = text_from_reads c.args.text.now (codes "yield") (omega arith) (search rules) in
    rw text refl

pub returns-in-panic : goal.returns-in-panic
returns-in-panic c =
    let text : c.args.text.now ≡ codes "panic" = text_from_reads c.args.text.now (codes "panic") (omega arith) (search rules) in
    rw text refl

pub returns-in-abort : goal.returns-in-abort
returns-in-abort c =
    let text : c.args.text.now ≡ codes "abort" = text_from_reads c.args.text.now (codes "abort") (omega arith) (search rules) in
    rw text refl

pub returns-in-stopped : goal.returns-in-stopped
returns-in-stopped c =
    let text : c.args.text.now ≡ codes "stopped" = text_from_reads c.args.text.now (codes "stopped") (omega arith) (search rules) in
    rw text refl

pub returns-in-select : goal.returns-in-select
returns-in-select c =
    let text : c.args.text.now ≡ codes "select" = text_from_reads c.args.text.now (codes "select") (omega arith) (search rules) in
    rw text refl

pub returns-in-cycle : goal.returns-in-cycle
returns-in-cycle c =
    let text : c.args.text.now ≡ codes "cycle" = text_from_reads c.args.text.now (codes "cycle") (omega arith) (search rules) in
    rw text refl

pub returns-in-start : goal.returns-in-start
returns-in-start c =
    let text : c.args.text.now ≡ codes "start" = text_from_reads c.args.text.now (codes "start") (omega arith) (search rules) in
    rw text refl
