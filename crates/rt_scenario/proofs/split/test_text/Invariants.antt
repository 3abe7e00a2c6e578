use Rattle.rt_scenario.proofs.Prelude.{◌≡◌, ◌&&◌, ◌||◌, drop, list_all, words_of, is_printable}
use Rattle.rt_scenario.proofs.Spaces.{has_empty, stray_from}
use Rattle.rt_scenario.proofs.split.test_text.Given as goal

-- what the bytes so far tell, and then those to come
abbrev pub invariant-loop-byte : goal.invariant-loop-byte
invariant-loop-byte l =
    (list_all is_printable l.text ≡ (l.printable && list_all is_printable (drop l.byte-index l.text)))
    × (has_empty (words_of l.text) ≡ (l.stray || stray_from l.behind_space (drop l.byte-index l.text)))
