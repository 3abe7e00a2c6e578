use Rattle.rt_scripts.proofs.laws.input_that_is_always_valid_is_valid.Goals as goal

pub returns : goal.returns
returns g c stream p s valid x cause end value left run facts = valid x cause end value run
