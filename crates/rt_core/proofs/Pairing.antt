-- Two pollers are walked one after the other, up to the first that is ready.
use Rattle.rt_core.proofs.Prelude.{◌≡◌, Some, None, Result, Ok, Err, Left, Right, Error, Closed, NoMemory, Poll, Ready, Pending, Last, World, Goes, Spends, goes-followed, goes-gives, goes-then, Polls, FirstOf, both, neither, unless_lack, polls_second, either_polls, EitherOf}

module _ {A O V P W Q G : Type 0} (polls : Polls A O Q W) (spends : Q → Last A O) (first : P) (second after : Q) (old mid : World A O G) where
  pub second-pending : Goes (polls second) old mid Pending after → Goes (polls_second {V = V} polls spends first second) old mid Pending (both first after)
  unfolding polls_second
  second-pending one = goes-then old mid mid _ _ Pending after _ _ one (goes-gives mid _ _)

  pub second-lacks : (answer : Result W Error) → unless_lack answer ≡ None → Goes (polls second) old mid (Ready answer) after → Goes (polls_second {V = V} polls spends first second) old mid (Ready (Err NoMemory)) (both first after)
  unfolding polls_second
  second-lacks answer none one = goes-then old mid mid _ _ (Ready answer) after _ _ one (rw none (goes-gives mid _ _))

  pub second-ready : (answer told : Result W Error) (new : World A O G) → unless_lack answer ≡ Some told → Goes (polls second) old mid (Ready answer) after → Spends (spends after) mid new → Goes (polls_second {V = V} polls spends first second) old new (Ready (Ok (Right (told, first)))) neither
  unfolding polls_second
  second-ready answer told new some one two =
      goes-then old mid new _ _ (Ready answer) after _ _ one (rw some (goes-followed mid new new _ _ _ _ two (goes-gives new _ _)))

module _ {A O V P W Q G : Type 0} (first_polls : Polls A O P V) (second_polls : Polls A O Q W) (first_spends : P → Last A O) (second_spends : Q → Last A O) (e : EitherOf P Q) (old : World A O G) where
  pub none-ready : e.pair ≡ None → Goes (either_polls first_polls second_polls first_spends second_spends e) old old (Ready (Err Closed)) neither
  unfolding either_polls
  none-ready is = rw is (goes-gives old _ _)

  module _ (first after : P) (second : Q) (is : e.pair ≡ Some (first, second)) (mid : World A O G) where
    pub first-pending : (new : World A O G) (answer : Poll (Result (FirstOf V P W Q) Error)) (left : EitherOf P Q) → Goes (first_polls first) old mid Pending after → Goes (polls_second second_polls second_spends after second) mid new answer left → Goes (either_polls first_polls second_polls first_spends second_spends e) old new answer left
    unfolding either_polls
    first-pending new answer left one two = rw is (goes-then old mid new _ _ Pending after _ _ one two)

    pub first-lacks : (answer : Result V Error) → unless_lack answer ≡ None → Goes (first_polls first) old mid (Ready answer) after → Goes (either_polls first_polls second_polls first_spends second_spends e) old mid (Ready (Err NoMemory)) (both after second)
    unfolding either_polls
    first-lacks answer none one = rw is (goes-then old mid mid _ _ (Ready answer) after _ _ one (rw none (goes-gives mid _ _)))

    pub first-ready : (answer told : Result V Error) (new : World A O G) → unless_lack answer ≡ Some told → Goes (first_polls first) old mid (Ready answer) after → Spends (first_spends after) mid new → Goes (either_polls first_polls second_polls first_spends second_spends e) old new (Ready (Ok (Left (told, second)))) neither
    unfolding either_polls
    first-ready answer told new some one two =
        rw is (goes-then old mid new _ _ (Ready answer) after _ _ one (rw some (goes-followed mid new new _ _ _ _ two (goes-gives new _ _))))
