-- What lasts over calls.
use Rattle.rt_world.proofs.Prelude.{Stream, World, Drew, Grows, Stays, Lasts}

module _ {A O G : Type 0} (stream : G → Stream) (a b : World A O G) where
  pub lasts-of : Grows a.told.state.phase a.told.state.running b.told.state.running → Stays a.lacked b.lacked → Drew stream a b → Lasts stream a b
  unfolding Lasts
  lasts-of grows stays drew = (grows, stays, drew)

  pub grows-of : Lasts stream a b → Grows a.told.state.phase a.told.state.running b.told.state.running
  unfolding Lasts
  grows-of l = l.0

  pub stays-of : Lasts stream a b → Stays a.lacked b.lacked
  unfolding Lasts
  stays-of l = l.1

  pub drawn-of : Lasts stream a b → Drew stream a b
  unfolding Lasts
  drawn-of l = l.2
