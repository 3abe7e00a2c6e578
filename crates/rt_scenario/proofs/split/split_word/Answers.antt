use Rattle.rt_scenario.proofs.Prelude.{arith}
use Rattle.rt_scenario.proofs.Cuts.{word_before, whole_word}
use Rattle.rt_scenario.proofs.split.split_word.Goals as goal

pub returns-then-end-text-clause-words : goal.returns-then-end-text-clause-words
returns-then-end-text-clause-words c =
    word_before _ _ c.if-end-text.true c.front_len-end.ensures.before (c.front_len-end.ensures.found c.if-end-text.true)

pub returns-else-end-text-clause-words : goal.returns-else-end-text-clause-words
returns-else-end-text-clause-words c =
    whole_word _ (λ k inside. c.front_len-end.ensures.before k (omega arith))
