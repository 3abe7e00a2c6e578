-- A maker goes on script by script.
use Rattle.rt_scripts.proofs.Prelude.{◌≡◌, ℕ, ℤ, List, [], ◌∷◌, length, Result, Ok, Err, arith, World, Rooted, rooted-gives, Gives, Context, root_context, ScriptText, Making, Prepares, beside, besides, Script}
use Rattle.rt_base.specs.declared.no_memory.NoMemory.{NoMemory}

-- steps that lead to others, and these go on so
pub prepares-after : {G : Type 0} (step other next : Making) (old mid new : World Script ℤ G) (result : Result Context NoMemory) → ((end : World Script ℤ G) (root : Result Script NoMemory) → Rooted other mid end root → Rooted step old end root) → Prepares other next mid new result → Prepares step next old new result
prepares-after step other next old mid new (Ok context) first second = λ end root rooted. first end root (second end root rooted)
prepares-after step other next old mid new (Err lack) first second = first new (Err lack) second

-- whoever goes on from here has walked these steps
abbrev pub Leads : {G : Type 0} → Making → Making → World Script ℤ G → World Script ℤ G → Type 0
Leads {G = G} step next old new = (end : World Script ℤ G) (root : Result Script NoMemory) → Rooted next new end root → Rooted step old end root

module _ {G : Type 0} (program : List ScriptText) (places rest : List ℕ) (at : ℕ) (last step : Making) (old mid new : World Script ℤ G) (whole : places ≡ at ∷ rest) where
  -- a script more
  pub leads-beside : Leads step (besides root_context program places last) old mid → Leads (beside root_context program at (besides root_context program rest last)) (besides root_context program rest last) mid new → Leads step (besides root_context program rest last) old new
  unfolding besides
  leads-beside first second end root rooted = first end root (rw whole (second end root rooted))

  -- out of memory
  pub lacks-beside : (lack : NoMemory) → Leads step (besides root_context program places last) old mid → Rooted (beside root_context program at (besides root_context program rest last)) mid new (Err lack) → Rooted step old new (Err lack)
  unfolding besides
  lacks-beside lack first second = first new (Err lack) (rw whole second)

-- no script is left
pub leads-root : {G : Type 0} (program : List ScriptText) (places : List ℕ) (made root : Script) (step : Making) (old new : World Script ℤ G) → length places ≡ 0 → made ≡ root → Leads step (besides root_context program places (Gives tt made)) old new → Rooted step old new (Ok root)
unfolding besides
leads-root program [] made root step old new none same first = first new (Ok root) (rooted-gives new made root same)
leads-root program (at ∷ places) made root step old new none same first = absurd (omega (arith, none))
