-- Pollers made of pollers.
use Rattle.rt_world.proofs.Prelude.{Step, Last, Gives, then, followed_by, World, Goes, MaySpend}
use Rattle.rt_world.proofs.Walked.{goes-on, spends-on, spent-followed, walked-followed, walked-gives, walked-then}

module _ {A O G : Type 0} (old mid new : World A O G) where
  -- one is polled, and then what follows from its answer
  pub goes-then : {L R M Q : Type 0} (first : Step A L O R) (more : R → L → Step A M O Q) (r : R) (a : L) (q : Q) (b : M) → Goes first old mid r a → Goes (more r a) mid new q b → Goes (then first more) old new q b
  goes-then first more r a q b one two =
      goes-on old new (then first more) q b (walked-then old mid new first more r a q b one.walked two.walked)

  -- one is given up, and then what comes next
  pub goes-followed : {M Q : Type 0} (first : Last A O) (next : Step A M O Q) (q : Q) (b : M) → MaySpend first old mid → Goes next mid new q b → Goes (followed_by first next) old new q b
  goes-followed first next q b one two =
      goes-on old new (followed_by first next) q b (walked-followed old mid new first next q b one.spent two.walked)

  -- one is given up, and then another
  pub spends-then : (first next : Last A O) → MaySpend first old mid → MaySpend next mid new → MaySpend (followed_by first next) old new
  spends-then first next one two =
      spends-on old new (followed_by first next) (spent-followed old mid new first next one.spent two.spent)

-- an answer without a call
pub goes-gives : {A L O R G : Type 0} (w : World A O G) (r : R) (a : L) → Goes (Gives r a) w w r a
goes-gives w r a = goes-on w w (Gives r a) r a (walked-gives w r a)

pub ruleset joined_laws = (goes-then, goes-followed, goes-gives, spends-then)
