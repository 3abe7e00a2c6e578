-- A group of handles walks them in order, and after a failure those that are left, one round of them a poll.
use Rattle.rt_core.proofs.Prelude.{◌≡◌, ◌≤◌, ◌<◌, ◌-◌, ◌∷◌, ◌++◌, [], ℕ, zero, suc, true, false, List, Option, Some, None, Result, Ok, Err, refl, arith, take, drop, map, length, take-append-le, drop-append-le, take-append-drop, Error, NoMemory, Poll, Ready, Pending, Turn, Last, World, Walked, Goes, Spends, SaysLack, walked-then, walked-gives, walked-followed, goes-on, Polls, handle_polls, handle_aborts, handle_spends, aborted, each, Joins, answered, is_lack, lacks, turned, told, waits, gives_up, unless_lacking, drains, fails, joins, join_all_polls, Kind}
use Rattle.rt_core.proofs.Choosing.{long-unless}

-- a handle that answered something else lacked no memory
lack-told : {O : Type 0} (answer : Result O Error) → lacks answer ≡ false → Ready answer ≡ Ready (Err NoMemory) → ⊥
lack-told answer fine is = let e : answer ≡ Err NoMemory = cc in let k : lacks answer ≡ true = rw e refl in cc

pub long-drained : {A O G : Type 0} (old new : World A O G) (answer : Result O Error) → SaysLack old new (Ready answer) → lacks answer ≡ false → old.lacked ≡ None → new.lacked ≡ None
long-drained old new answer says fine = long-unless old new (Ready answer) says (lack-told answer fine)

module _ {A O V G : Type 0} (turns : O → Result V Error) (old mid : World A O G) (answer : Result O Error) where
  turned-told : (value : V) → turned turns answer ≡ Ok value → Ready answer ≡ Ready (Err NoMemory) → ⊥
  turned-told value fine is = let e : answer ≡ Err NoMemory = cc in let k = rw e at fine in cc

  pub long-joined : (value : V) → SaysLack old mid (Ready answer) → turned turns answer ≡ Ok value → old.lacked ≡ None → mid.lacked ≡ None
  long-joined value says fine = long-unless old mid (Ready answer) says (turned-told value fine)

  module _ {R : Type 0} (new : World A O G) (result : Poll (Result R Error)) (error : Error) (says : SaysLack old mid (Ready answer)) (fails : turned turns answer ≡ Err error) (after : SaysLack mid new result) (ends : is_lack error ≡ true → result ≡ Ready (Err NoMemory)) where
    lack-by : (there : Option (List Turn)) → mid.lacked ≡ there → SaysLack old new result
    lack-by None m o lacked = after m lacked
    lack-by (Some made) m o lacked =
        let told : Ready answer ≡ Ready (Err NoMemory) = says o (rw m refl) in
        let e : answer ≡ Err NoMemory = cc in
        let k : Err NoMemory ≡ Err error = rw e at fails in
        let same : error ≡ NoMemory = cc in
        ends (rw same refl)

    -- a failure is the lack of memory, where it lacked
    pub lack-failed : SaysLack old new result
    lack-failed = lack-by mid.lacked refl

take-first : {X : Type 0} (n : ℕ) (x : X) (xs : List X) → 0 < n → take n (x ∷ xs) ≡ x ∷ take (n - 1) xs
take-first zero x xs h = absurd (omega (arith, h))
take-first (suc m) x xs h = let e : suc m - 1 ≡ m = omega arith in rw e refl

drop-first : {X : Type 0} (n : ℕ) (x : X) (xs : List X) → 0 < n → drop n (x ∷ xs) ≡ drop (n - 1) xs
drop-first zero x xs h = absurd (omega (arith, h))
drop-first (suc m) x xs h = let e : suc m - 1 ≡ m = omega arith in rw e refl

-- what is left is given up
pub ends-goes : {A O P V F G : Type 0} (spends : P → Last A O) (convert : F) (handles : List (Kind O P)) (old new : World A O G) → Spends (each (handle_spends spends) handles) old new → Goes (gives_up {V = V} spends convert handles) old new (Ready (Err NoMemory)) (answered convert)
unfolding gives_up
ends-goes spends convert handles old new one = goes-on _ _ _ _ _ (walked-followed old new new _ _ _ _ one.spent (walked-gives new _ _))

-- all were polled
pub drains-none : {A O P F G : Type 0} (V : Type 0) (polls : Polls A O P O) (spends : P → Last A O) (convert : F) (failure : Error) (pending : List (Kind O P)) (w : World A O G) → Walked (drains {V = V} polls spends convert failure pending []) w w (told failure pending) (waits convert failure pending)
unfolding drains
drains-none V polls spends convert failure pending w = walked-gives w _ _

module _ {A O P V F G : Type 0} (polls : Polls A O P O) (spends : P → Last A O) (convert : F) where
  module _ (failure : Error) where
    module _ (old mid : World A O G) (pending rest : List (Kind O P)) (h after : Kind O P) (end : World A O G) (answer : Poll (Result (List V) Error)) (left : Joins O P V F) where
      drains-pending : Goes (handle_polls polls h) old mid Pending after → Walked (drains polls spends convert failure (pending ++ after ∷ []) rest) mid end answer left → Walked (drains polls spends convert failure pending (h ∷ rest)) old end answer left
      unfolding drains
      drains-pending one two = walked-then old mid end _ _ Pending after _ _ one.walked two

      module _ (next : World A O G) (heard : Result O Error) (one : Goes (handle_polls polls h) old mid (Ready heard) after) (gone : Spends (handle_spends spends after) mid next) where
        drains-next : lacks heard ≡ false → Walked (drains polls spends convert failure pending rest) next end answer left → Walked (drains polls spends convert failure pending (h ∷ rest)) old end answer left
        unfolding drains
        drains-next fine two = walked-then old mid end _ _ (Ready heard) after _ _ one.walked (walked-followed mid next end _ _ _ _ gone.spent (rw fine two))

        drains-lacks : lacks heard ≡ true → Walked (gives_up spends convert (rest ++ pending)) next end answer left → Walked (drains polls spends convert failure pending (h ∷ rest)) old end answer left
        unfolding drains
        drains-lacks lack two = walked-then old mid end _ _ (Ready heard) after _ _ one.walked (walked-followed mid next end _ _ _ _ gone.spent (rw lack two))

    -- a round: so many are to be polled yet, and those that are pending stand behind them
    module _ (all handles rest : List (Kind O P)) (h after : Kind O P) (start old mid : World A O G) (n : ℕ) (is : handles ≡ h ∷ rest) (some : 0 < n) (within : n ≤ length handles) (goes : (end : World A O G) (answer : Poll (Result (List V) Error)) (left : Joins O P V F) → Walked (drains polls spends convert failure (drop n handles) (take n handles)) old end answer left → Walked (drains polls spends convert failure [] all) start end answer left) where
      short : n - 1 ≤ length rest
      short = let most : n ≤ length (h ∷ rest) = rw is at within in omega (arith, most)

      first : (end : World A O G) (answer : Poll (Result (List V) Error)) (left : Joins O P V F) → Walked (drains polls spends convert failure (drop (n - 1) rest) (h ∷ take (n - 1) rest)) old end answer left → Walked (drains polls spends convert failure [] all) start end answer left
      first end answer left two = goes end answer left (rw (is, take-first n h rest some, drop-first n h rest some) two)

      pub round-pending : Goes (handle_polls polls h) old mid Pending after → (end : World A O G) (answer : Poll (Result (List V) Error)) (left : Joins O P V F) → Walked (drains polls spends convert failure (drop (n - 1) (rest ++ after ∷ [])) (take (n - 1) (rest ++ after ∷ []))) mid end answer left → Walked (drains polls spends convert failure [] all) start end answer left
      round-pending one end answer left two =
          first end answer left (drains-pending old mid (drop (n - 1) rest) (take (n - 1) rest) h after end answer left one (rw (take-append-le (n - 1) rest (after ∷ []) short, drop-append-le (n - 1) rest (after ∷ []) short) at two))

      module _ (next : World A O G) (heard : Result O Error) (one : Goes (handle_polls polls h) old mid (Ready heard) after) (gone : Spends (handle_spends spends after) mid next) where
        pub round-next : lacks heard ≡ false → (end : World A O G) (answer : Poll (Result (List V) Error)) (left : Joins O P V F) → Walked (drains polls spends convert failure (drop (n - 1) rest) (take (n - 1) rest)) next end answer left → Walked (drains polls spends convert failure [] all) start end answer left
        round-next fine end answer left two =
            first end answer left (drains-next old mid (drop (n - 1) rest) (take (n - 1) rest) h after end answer left next heard one gone fine two)

        pub round-lacks : lacks heard ≡ true → (end : World A O G) (answer : Poll (Result (List V) Error)) (left : Joins O P V F) → Goes (gives_up spends convert rest) next end answer left → Goes (drains polls spends convert failure [] all) start end answer left
        round-lacks lack end answer left two =
            goes-on _ _ _ _ _ (first end answer left (drains-lacks old mid (drop (n - 1) rest) (take (n - 1) rest) h after end answer left next heard one gone lack (rw (take-append-drop (n - 1) rest) two.walked)))

  -- a failure: the handle, which was aborted first, is given up behind the aborts of the others
  pub fails-goes : (error : Error) (h : Kind O P) (handles : List (Kind O P)) (old one two next end : World A O G) (answer : Poll (Result (List V) Error)) (left : Joins O P V F) → Spends (handle_aborts h) old one → Spends (each handle_aborts handles) one two → Spends (handle_spends spends (aborted h)) two next → Goes (unless_lacking spends convert (is_lack error) (map aborted handles) (drains polls spends convert error [] (map aborted handles))) next end answer left → Goes (fails polls spends convert error h handles) old end answer left
  unfolding fails each
  fails-goes error h handles old one two next end answer left flags others gone last =
      goes-on _ _ _ _ _ (walked-followed old two end _ _ _ _ (flags.ends _ two others.spent) (walked-followed two next end _ _ _ _ gone.spent last.walked))

  module _ (turns : O → Result V Error) (outputs : List V) where
    -- none is left
    pub joins-none : (w : World A O G) → Walked (joins polls spends turns convert outputs []) w w (Ready (Ok outputs)) (answered convert)
    unfolding joins
    joins-none w = walked-gives w _ _

    module _ (old mid : World A O G) (rest : List (Kind O P)) (h after : Kind O P) where
      -- the first of them is pending
      pub joins-pending : Goes (handle_polls polls h) old mid Pending after → Walked (joins polls spends turns convert outputs (h ∷ rest)) old mid Pending (record { handles = after ∷ rest; outputs = outputs; failure = None; convert = convert })
      unfolding joins
      joins-pending one = walked-then old mid mid _ _ Pending after _ _ one.walked (walked-gives mid _ _)

      module _ (heard : Result O Error) (one : Goes (handle_polls polls h) old mid (Ready heard) after) (end : World A O G) (answer : Poll (Result (List V) Error)) (left : Joins O P V F) where
        -- it was joined
        pub joins-more : (value : V) (next : World A O G) → turned turns heard ≡ Ok value → Spends (handle_spends spends after) mid next → Walked (joins polls spends turns convert (outputs ++ value ∷ []) rest) next end answer left → Walked (joins polls spends turns convert outputs (h ∷ rest)) old end answer left
        unfolding joins
        joins-more value next is gone two = walked-then old mid end _ _ (Ready heard) after _ _ one.walked (rw is (walked-followed mid next end _ _ _ _ gone.spent two))

        -- it failed
        pub joins-fails : (error : Error) → turned turns heard ≡ Err error → Goes (fails polls spends convert error after rest) mid end answer left → Walked (joins polls spends turns convert outputs (h ∷ rest)) old end answer left
        unfolding joins
        joins-fails error is two = walked-then old mid end _ _ (Ready heard) after _ _ one.walked (rw is two.walked)

-- a group goes on as it stands
module _ {A O P V F G : Type 0} (polls : Polls A O P O) (spends : P → Last A O) (converted : F → O → Result V Error) (old new : World A O G) (answer : Poll (Result (List V) Error)) (left j : Joins O P V F) where
  pub fine-goes : j.failure ≡ None → Goes (joins polls spends (converted j.convert) j.convert j.outputs j.handles) old new answer left → Goes (join_all_polls polls spends converted j) old new answer left
  unfolding join_all_polls
  fine-goes is one = rw is one

  pub failed-goes : (failure : Error) → j.failure ≡ Some failure → Goes (drains polls spends j.convert failure [] j.handles) old new answer left → Goes (join_all_polls polls spends converted j) old new answer left
  unfolding join_all_polls
  failed-goes failure is one = rw is one
