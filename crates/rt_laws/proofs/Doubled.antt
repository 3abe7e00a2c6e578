-- A task that is woken twice has its run, and what comes near to it is none.
use Rattle.rt_laws.proofs.Prelude.{ℕ, List, [], ◌∷◌, ◌++◌, map, refl, rules, arith, Completed, Entry, Wake, Draw, Round, Advance, State, begun, after, after_all, IsLawful, AreDrawn, nothing, IsTied, IsRun, small_begin, gave_beside, twice_root, twice_journal, ended_behind, passed_by, passed_in, drawn_for_two}
use Rattle.rt_laws.proofs.Decided.{lawful}
use Rattle.rt_laws.proofs.Followed.{tied}

twice-lawful : IsLawful (begun small_begin) twice_journal
unfolding begun after
twice-lawful = lawful small_begin twice_journal refl

twice-tied : IsTied twice_root (begun small_begin) nothing twice_journal (gave_beside 1 7)
unfolding begun after
twice-tied = tied twice_root (begun small_begin) nothing (gave_beside 1 7) twice_journal refl

pub twice_run : IsRun twice_root small_begin twice_journal Completed (after_all (begun small_begin) twice_journal) (gave_beside 1 7)
unfolding begun after
twice_run = record { lawful = twice-lawful; reaches = refl; ends = refl; caused = λ e. cc; tied = twice-tied; whole = refl }

pub twice_drawn : AreDrawn (begun small_begin) twice_journal
unfolding begun after
twice_drawn = search rules

drawn-tail : (s : State) (x y : List Entry) → AreDrawn s (x ++ y) → AreDrawn (after_all s x) y
drawn-tail s [] y d = d
drawn-tail s (e ∷ x) y d = drawn-tail (after s e) x y d.1

-- what is drawn of the round behind the number that is passed over
passed-tail : (draws order : List ℕ) → AreDrawn (begun small_begin) (passed_by draws order) → AreDrawn (after_all (begun small_begin) (ended_behind (Wake 1 ∷ Advance 3000000 ∷ []))) (map Draw draws ++ Round order ∷ [])
unfolding begun after
passed-tail draws order d = drawn-tail (begun small_begin) (ended_behind (Wake 1 ∷ Advance 3000000 ∷ [])) (map Draw draws ++ Round order ∷ []) d

pub no_other_place : AreDrawn (begun small_begin) (passed_in (1 ∷ 0 ∷ [])) → ⊥
unfolding begun after
no_other_place d = let h = (passed-tail (7 ∷ []) (1 ∷ 0 ∷ []) d).1.0.0 in cc

pub no_plain_order : AreDrawn (begun small_begin) (passed_by (6 ∷ []) (0 ∷ 1 ∷ [])) → ⊥
unfolding begun after
no_plain_order d = let h = (passed-tail (6 ∷ []) (0 ∷ 1 ∷ []) d).1.0.0 in cc

pub no_missing_draw : (order : List ℕ) → AreDrawn (begun small_begin) (passed_by [] order) → ⊥
unfolding begun after
no_missing_draw order d = let h = (passed-tail [] order d).0.1 in cc

pub no_second_draw : (one two : ℕ) (order : List ℕ) → AreDrawn (begun small_begin) (passed_by (one ∷ two ∷ []) order) → ⊥
unfolding begun after
no_second_draw one two order d = let h = (passed-tail (one ∷ two ∷ []) order d).1.1.0.1 in cc

pub no_draw_too_many : (one two : ℕ) → AreDrawn (begun small_begin) (drawn_for_two (one ∷ two ∷ [])) → ⊥
unfolding begun after
no_draw_too_many one two d =
    let h = (drawn-tail (begun small_begin) (ended_behind (Wake 1 ∷ Advance 3000000 ∷ [])) (map Draw (one ∷ two ∷ [])) d).1.0 in
    omega arith

-- what they come near to

pub its_place : AreDrawn (begun small_begin) (passed_in (0 ∷ 1 ∷ []))
unfolding begun after
its_place = search rules

pub its_turned_place : AreDrawn (begun small_begin) (passed_by (6 ∷ []) (1 ∷ 0 ∷ []))
unfolding begun after
its_turned_place = search rules

pub its_draw : (one : ℕ) → AreDrawn (begun small_begin) (drawn_for_two (one ∷ []))
unfolding begun after
its_draw one = search rules
