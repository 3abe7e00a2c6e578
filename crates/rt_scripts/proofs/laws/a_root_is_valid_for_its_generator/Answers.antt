use Rattle.rt_laws.proofs.Moods.{valid_for}
use Rattle.rt_scripts.proofs.laws.a_root_is_valid_for_its_generator.Goals as goal

pub returns : goal.returns
returns g c stream s begin never x cause end value left run facts =
    valid_for (stream s.rng) left never x cause end value (rw begin at run) (rw begin at facts.draws)
