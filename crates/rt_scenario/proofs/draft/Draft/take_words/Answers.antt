use Rattle.rt_scenario.proofs.Prelude.{◌≡◌, true, subst, list_all, and_parts, is_printable}
use Rattle.rt_scenario.proofs.Cuts.{printable_words}
use Rattle.rt_scenario.proofs.draft.Draft.take_words.Goals as goal

pub take-requires-clause-printable : goal.take-requires-clause-printable
take-requires-clause-printable c =
    (and_parts _ _ (subst (λ words. list_all (list_all is_printable) words ≡ true) c.split_word.ensures.words (printable_words c.args.text.now c.requires))).1
