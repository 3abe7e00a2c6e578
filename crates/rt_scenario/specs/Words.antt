-- The first words of lines, one row for each; and the words of a setting that is on or off.
use Rattle.std.specs.Prelude.{ℕ, Bool, true, false, nat_eq, List, codes, if◌then◌else◌, Option, Some, None}
use Rattle.std.specs.Cmp.Lexicographic.{pointwise}
use Rattle.rt_scenario.specs.declared.word.Word.{Word}
use Rattle.rt_scenario.specs.declared.word.Word.TheVariants.{Seed, Next, Cycle, Start, Timeout, Catch, Script, Sleep, Until, Yield, Draw, Pend, End, Panic, Spawn, Abort, Drop, Join, Within, Select, Stopped, Wait, Stop, Done, Run}

abbrev pub is_text : List ℕ → List ℕ → Bool
is_text = pointwise nat_eq

abbrev pub word_of : List ℕ → Option Word
word_of text =
    if is_text text (codes "seed") then Some Seed
    else (if is_text text (codes "next") then Some Next
    else (if is_text text (codes "cycle") then Some Cycle
    else (if is_text text (codes "start") then Some Start
    else (if is_text text (codes "timeout") then Some Timeout
    else (if is_text text (codes "catch") then Some Catch
    else (if is_text text (codes "script") then Some Script
    else (if is_text text (codes "sleep") then Some Sleep
    else (if is_text text (codes "until") then Some Until
    else (if is_text text (codes "yield") then Some Yield
    else (if is_text text (codes "draw") then Some Draw
    else (if is_text text (codes "pend") then Some Pend
    else (if is_text text (codes "end") then Some End
    else (if is_text text (codes "panic") then Some Panic
    else (if is_text text (codes "spawn") then Some Spawn
    else (if is_text text (codes "abort") then Some Abort
    else (if is_text text (codes "drop") then Some Drop
    else (if is_text text (codes "join") then Some Join
    else (if is_text text (codes "within") then Some Within
    else (if is_text text (codes "select") then Some Select
    else (if is_text text (codes "stopped") then Some Stopped
    else (if is_text text (codes "wait") then Some Wait
    else (if is_text text (codes "stop") then Some Stop
    else (if is_text text (codes "done") then Some Done
    else (if is_text text (codes "run") then Some Run
    else None))))))))))))))))))))))))

abbrev pub switch_of : List ℕ → Option Bool
switch_of word =
    if is_text word (codes "on") then Some true
    else (if is_text word (codes "off") then Some false
    else None)
