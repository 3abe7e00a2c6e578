-- A choice walks its handles one after another.
use Rattle.rt_core.proofs.Prelude.{◌≡◌, ◌≤◌, ◌<◌, ◌+◌, ◌∷◌, ◌++◌, [], ℕ, zero, suc, List, Option, Some, None, Result, Err, refl, ap, ◌∙◌, arith, add-one, get_or, take, drop, map, length, take_all, drop_all, take_more_set, take-append-le, drop-set-lt, set_split, set, drop-cons, Stream, Error, NoMemory, Poll, Ready, Pending, Turn, Last, World, IsPolling, Kept, Walked, Spent, Goes, Spends, SaysLack, walked-then, walked-gives, walked-followed, spent-nothing, spends-on, goes-on, calling-kept, Polls, handle_polls, handle_aborts, handle_spends, aborted, each, lets_go, polls_rest, undecided, select_polls, Kind}

-- a list whose first items were changed
pub changed : {X : Type 0} → (X → X) → ℕ → List X → List X
changed f n [] = []
changed f zero (x ∷ xs) = x ∷ xs
changed f (suc n) (x ∷ xs) = f x ∷ changed f n xs

pub changed-none : {X : Type 0} (f : X → X) (xs : List X) → changed f zero xs ≡ xs
unfolding changed
changed-none f [] = refl
changed-none f (x ∷ xs) = refl

pub changed-all : {X : Type 0} (f : X → X) (n : ℕ) (xs : List X) → length xs ≤ n → changed f n xs ≡ map f xs
unfolding changed
changed-all f n [] h = refl
changed-all f zero (x ∷ xs) h = absurd (omega (arith, h))
changed-all f (suc n) (x ∷ xs) h = ap (λ ys. f x ∷ ys) (changed-all f n xs (omega (arith, h)))

pub changed-length : {X : Type 0} (f : X → X) (n : ℕ) (xs : List X) → length (changed f n xs) ≡ length xs
unfolding changed
changed-length f n [] = refl
changed-length f zero (x ∷ xs) = refl
changed-length f (suc n) (x ∷ xs) = ap suc (changed-length f n xs)

pub changed-get : {X : Type 0} (f : X → X) (n : ℕ) (xs : List X) (d : X) → get_or (changed f n xs) n d ≡ get_or xs n d
unfolding changed
changed-get f n [] d = refl
changed-get f zero (x ∷ xs) d = refl
changed-get f (suc n) (x ∷ xs) d = changed-get f n xs d

set-changed : {X : Type 0} (f : X → X) (n : ℕ) (xs : List X) (x : X) → n < length xs → x ≡ get_or xs n x → set (changed f n xs) n (f x) ≡ changed f (suc n) xs
unfolding changed
set-changed f n [] x h e = absurd (omega (arith, h))
set-changed f zero (y ∷ ys) x h e = let k = changed-none f ys in cc
set-changed f (suc n) (y ∷ ys) x h e = ap (λ zs. f y ∷ zs) (set-changed f n ys x (omega (arith, h)) e)

-- the next one is changed
pub changed-next : {X : Type 0} (f : X → X) (n : ℕ) (xs : List X) (x y : X) → n < length xs → x ≡ get_or (changed f n xs) n x → y ≡ f x → set (changed f n xs) n y ≡ changed f (n + 1) xs
changed-next f n xs x y h e is = rw (is, add-one) (set-changed f n xs x h (e ∙ changed-get f n xs x))

-- and stands before those that are left
pub changed-rest : {X : Type 0} (f : X → X) (n : ℕ) (xs : List X) (x : X) → n < length xs → x ≡ get_or (changed f n xs) n x → drop n xs ≡ x ∷ drop (n + 1) xs
changed-rest f n xs x h e =
    let k = e ∙ changed-get f n xs x in
    drop-cons xs n x h ∙ rw (add-one, ← k) refl

-- a slice that was borrowed from a list is written back
pub written-back : {X : Type 0} (n : ℕ) (ws xs : List X) → n ≡ length ws → take n (ws ++ drop (length ws) xs) ≡ ws
written-back n ws xs e = take-append-le n ws (drop (length ws) xs) (omega (arith, e)) ∙ take_all n ws (omega (arith, e))

-- one more of them is done
module _ {A O H G : Type 0} (does : H → Last A O) (all : List H) (start : World A O G) where
  pub each-more : (hs rest : List H) (h : H) (old mid : World A O G) → hs ≡ h ∷ rest → Spends (does h) old mid → ((end : World A O G) → Spent (each does hs) old end → Spent (each does all) start end) → (end : World A O G) → Spent (each does rest) mid end → Spent (each does all) start end
  unfolding each
  each-more hs rest h old mid is one goes end two = goes end (rw is (one.ends _ end two))

  pub each-done : (hs : List H) (now : World A O G) → hs ≡ [] → ((end : World A O G) → Spent (each does hs) now end → Spent (each does all) start end) → Spends (each does all) start now
  unfolding each
  each-done hs now is goes = spends-on _ _ _ (goes now (rw is (spent-nothing now)))

-- all are aborted, and then given up
pub goes-all : {A O P G : Type 0} (spends : P → Last A O) (handles after : List (Kind O P)) (old mid new : World A O G) → after ≡ map aborted handles → Spends (each handle_aborts handles) old mid → Spends (each (handle_spends spends) after) mid new → Spends (lets_go spends handles) old new
unfolding lets_go
goes-all spends handles after old mid new is one two = spends-on _ _ _ (one.ends _ new (rw (← is) two.spent))

module _ {A O P G : Type 0} (polls : Polls A O P O) (spends : P → Last A O) (old mid : World A O G) (pending rest : List (Kind O P)) (h after : Kind O P) where
  -- one more handle is pending
  pub polls-pending : Goes (handle_polls polls h) old mid Pending after → (end : World A O G) (answer : Poll (Result O Error)) (left : List (Kind O P)) → Walked (polls_rest polls spends (pending ++ after ∷ []) rest) mid end answer left → Walked (polls_rest polls spends pending (h ∷ rest)) old end answer left
  unfolding polls_rest
  polls-pending one end answer left two = walked-then old mid end _ _ Pending after _ _ one.walked two

  -- a handle is ready
  pub polls-ready : (answer : Result O Error) (end : World A O G) → Goes (handle_polls polls h) old mid (Ready answer) after → Spends (lets_go spends (pending ++ after ∷ rest)) mid end → Walked (polls_rest polls spends pending (h ∷ rest)) old end (Ready answer) []
  unfolding polls_rest
  polls-ready answer end one two = walked-then old mid end _ _ (Ready answer) after _ _ one.walked (walked-followed mid end end _ _ _ _ two.spent (walked-gives end _ _))

-- none is left
pub polls-none : {A O P G : Type 0} (polls : Polls A O P O) (spends : P → Last A O) (w : World A O G) (pending : List (Kind O P)) → Walked (polls_rest polls spends pending []) w w (undecided pending) pending
unfolding polls_rest
polls-none polls spends w pending = walked-gives w _ _

-- no handle but those that are pending
pub undecided-some : {O P : Type 0} (pending : List (Kind O P)) → 0 < length pending → undecided pending ≡ Pending
undecided-some [] h = absurd (omega (arith, h))
undecided-some (k ∷ pending) h = refl

-- what answered anything but the lack of memory lacked none
lacks-none : {A O G V : Type 0} (old new : World A O G) (answer : Poll (Result V Error)) (there : Option (List Turn)) → new.lacked ≡ there → SaysLack old new answer → (answer ≡ Ready (Err NoMemory) → ⊥) → old.lacked ≡ None → new.lacked ≡ None
lacks-none old new answer None e says other o = e
lacks-none old new answer (Some made) e says other o = absurd (other (says o (rw e refl)))

pub long-unless : {A O G V : Type 0} (old new : World A O G) (answer : Poll (Result V Error)) → SaysLack old new answer → (answer ≡ Ready (Err NoMemory) → ⊥) → old.lacked ≡ None → new.lacked ≡ None
long-unless old new answer says other o = lacks-none old new answer new.lacked refl says other o

pub still-long : {A O G V : Type 0} (old new : World A O G) (answer : Poll (Result V Error)) → SaysLack old new answer → answer ≡ Pending → old.lacked ≡ None → new.lacked ≡ None
still-long old new answer says is o = long-unless old new answer says (λ lack. cc) o

-- who polls goes on polling
pub still-polling : {A O G : Type 0} {stream : G → Stream} (old new : World A O G) (task : ℕ) → Kept stream old new → IsPolling old task → IsPolling new task
still-polling old new task kept polling = record {
  out = kept.out ∙ polling.out;
  going = rw kept.phase polling.going;
  calling = calling-kept old new kept polling.calling;
}

-- a choice, from where the first of its handles are pending
module _ {A O P G : Type 0} (polls : Polls A O P O) (spends : P → Last A O) (all items : List (Kind O P)) (n : ℕ) (start old : World A O G) (goes : (end : World A O G) (answer : Poll (Result O Error)) (left : List (Kind O P)) → Walked (polls_rest polls spends (take n items) (drop n items)) old end answer left → Walked (select_polls polls spends all) start end answer left) where
  pub select-none : (answer : Poll (Result O Error)) → length items ≤ n → undecided items ≡ answer → Goes (select_polls polls spends all) start old answer items
  select-none answer past is =
      goes-on _ _ _ _ _ (goes old answer items (rw (take_all n items past, drop_all n items past, ← is) (polls-none polls spends old items)))

  module _ (mid : World A O G) (h after : Kind O P) (within : n < length items) (there : h ≡ get_or items n h) where
    first : drop n items ≡ h ∷ drop (n + 1) items
    first = drop-cons items n h within ∙ rw (add-one, ← there) refl

    pub select-more : Goes (handle_polls polls h) old mid Pending after → (end : World A O G) (answer : Poll (Result O Error)) (left : List (Kind O P)) → Walked (polls_rest polls spends (take (n + 1) (set items n after)) (drop (n + 1) (set items n after))) mid end answer left → Walked (select_polls polls spends all) start end answer left
    select-more one end answer left two =
        let same = take_more_set items n after within in
        let rest = drop-set-lt (n + 1) items n after (omega arith) in
        goes end answer left (rw first (polls-pending polls spends old mid (take n items) (drop (n + 1) items) h after one end answer left (rw (same, rest) at two)))

    pub select-ready : (answer : Result O Error) (end : World A O G) (taken : List (Kind O P)) → Goes (handle_polls polls h) old mid (Ready answer) after → taken ≡ set items n after → Spends (lets_go spends taken) mid end → Goes (select_polls polls spends all) start end (Ready answer) []
    select-ready answer end taken one is gone =
        let split : taken ≡ take n items ++ after ∷ drop (n + 1) items = is ∙ set_split items n after within ∙ rw add-one refl in
        goes-on _ _ _ _ _ (goes end (Ready answer) [] (rw first (polls-ready polls spends old mid (take n items) (drop (n + 1) items) h after answer end one (rw split at gone))))
