-- The runs with spawned tasks.
use Rattle.rt_laws.proofs.Prelude.{◌≡◌, refl, Completed, begun, after, after_all, IsLawful, nothing, IsTied, IsRun, small_begin, gave_beside, with_side, side_journal, aborting_root, aborting_journal, stopping_journal}
use Rattle.rt_model.specs.declared.answer.Answer.TheVariants.{Pending, Ready}
use Rattle.rt_laws.proofs.Decided.{lawful}
use Rattle.rt_laws.proofs.Followed.{tied}

side-lawful : IsLawful (begun small_begin) side_journal
unfolding begun after
side-lawful = lawful small_begin side_journal refl

side-tied : IsTied with_side (begun small_begin) nothing side_journal (gave_beside 0 1)
unfolding begun after
side-tied = tied with_side (begun small_begin) nothing (gave_beside 0 1) side_journal refl

pub side_run : IsRun with_side small_begin side_journal Completed (after_all (begun small_begin) side_journal) (gave_beside 0 1)
unfolding begun after
side_run = record { lawful = side-lawful; reaches = refl; ends = refl; caused = λ e. cc; tied = side-tied; whole = refl }

aborting-lawful : IsLawful (begun small_begin) aborting_journal
unfolding begun after
aborting-lawful = lawful small_begin aborting_journal refl

aborting-tied : IsTied (aborting_root (Ready 4)) (begun small_begin) nothing aborting_journal (gave_beside 1 4)
unfolding begun after
aborting-tied = tied (aborting_root (Ready 4)) (begun small_begin) nothing (gave_beside 1 4) aborting_journal refl

pub aborting_run : IsRun (aborting_root (Ready 4)) small_begin aborting_journal Completed (after_all (begun small_begin) aborting_journal) (gave_beside 1 4)
unfolding begun after
aborting_run = record { lawful = aborting-lawful; reaches = refl; ends = refl; caused = λ e. cc; tied = aborting-tied; whole = refl }

stopping-lawful : IsLawful (begun small_begin) stopping_journal
unfolding begun after
stopping-lawful = lawful small_begin stopping_journal refl

stopping-tied : IsTied (aborting_root Pending) (begun small_begin) nothing stopping_journal (gave_beside 1 2)
unfolding begun after
stopping-tied = tied (aborting_root Pending) (begun small_begin) nothing (gave_beside 1 2) stopping_journal refl

pub stopping_run : IsRun (aborting_root Pending) small_begin stopping_journal Completed (after_all (begun small_begin) stopping_journal) (gave_beside 1 2)
unfolding begun after
stopping_run = record { lawful = stopping-lawful; reaches = refl; ends = refl; caused = λ e. cc; tied = stopping-tied; whole = refl }

pub side_time : (after_all (begun small_begin) side_journal).clock.time ≡ 0
unfolding begun after
side_time = refl

pub aborting_time : (after_all (begun small_begin) aborting_journal).clock.time ≡ 2000000
unfolding begun after
aborting_time = refl

pub stopping_time : (after_all (begun small_begin) stopping_journal).clock.time ≡ 2000000
unfolding begun after
stopping_time = refl
