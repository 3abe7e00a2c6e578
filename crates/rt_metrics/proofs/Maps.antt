-- Entries of a map.
use Rattle.rt_metrics.proofs.Prelude.{◌≡◌, Bool, List, [], ◌∷◌, arith, refl, common_steps, set_value, remove_entry}

-- what is removed may have been written before
pub remove_entry-set_value : {K X : Type 0} (test : K → Bool) (es : List (K × X)) (w : X) → remove_entry test (set_value test es w) ≡ remove_entry test es
remove_entry-set_value test [] w = refl
remove_entry-set_value test (e ∷ es) w = grind (arith, common_steps, remove_entry-set_value test es w)

-- a value that is written over
pub set_value-set_value : {K X : Type 0} (test : K → Bool) (es : List (K × X)) (v w : X) → set_value test (set_value test es v) w ≡ set_value test es w
set_value-set_value test [] v w = refl
set_value-set_value test (e ∷ es) v w = grind (arith, common_steps, set_value-set_value test es v w)
