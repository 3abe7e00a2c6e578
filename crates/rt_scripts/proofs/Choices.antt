-- The names of a choice, and what is done with each.
use Rattle.rt_scripts.proofs.Prelude.{◌≡◌, ◌+◌, ◌-◌, ◌<◌, ◌≤◌, ℕ, suc, ℤ, Bool, true, false, eqb, List, [], ◌∷◌, refl, ap, arith, Option, Some, None, Result, Error, Poll, IsReady, IsPending, find, without, with_task, Step, Last, Gives, then, followed_by, TaskHandle, task_polls, World, Goes, Spends, goes-on, spends-on, spent-nothing, walked-followed, walked-gives, walked-then, ScriptText, choice_at, choices_in, some_choices, Choosing, Script, Tries, aborted_at, aborts_chosen, aborts_of, as_handle, bound, decides, handle_at, leaves_choice, loosed, polls_choice, polls_chosen, polls_name, unless_ready, put_back, releases, releases_chosen, tried, tried_by, unchosen, Held, Handle}

-- no name is left, or one more
pub choices-none : (text : ScriptText) (first past : ℕ) → past ≤ first → choices_in text first past ≡ []
choices-none text first past over = let none : past - first ≡ 0 = omega (arith, over) in ap (some_choices text first) none

pub choices-more : (text : ScriptText) (first past : ℕ) → first < past → choices_in text first past ≡ choice_at text first ∷ choices_in text (first + 1) past
choices-more text first past some =
    let count : past - first ≡ suc (past - (first + 1)) = omega (arith, some) in
    ap (some_choices text first) count

without-free : (k at : ℕ) (xs : List (ℕ × Held)) → find k xs ≡ None → find k (without at xs) ≡ None
without-free k at [] none = refl
without-free k at (x ∷ xs) none = grind (arith, without-free k at xs)

with-free : (k at : ℕ) (held : Held) (xs : List (ℕ × Held)) → eqb at k ≡ false → find k xs ≡ None → find k (with_task at held xs) ≡ None
with-free k at held [] other none = rw other refl
with-free k at held (x ∷ xs) other none = grind (arith, with-free k at held xs)

-- a name that holds a handle is another than one that holds nothing
other_name : (k at : ℕ) (handle : TaskHandle ℤ) (xs : List (ℕ × Held)) → find k xs ≡ None → as_handle (find at xs) ≡ Some handle → eqb at k ≡ false
other_name k at handle xs none own = by (eqb at k) refl
  where
    by : (b : Bool) → eqb at k ≡ b → b ≡ false
    by false e = refl
    by true e =
        let same : at ≡ k = grind (arith, e) in
        let empty : find at xs ≡ None = rw same none in
        absurd (cc)

-- a name that holds nothing holds nothing then
pub tried-free : (ats : List ℕ) (held : List (ℕ × Held)) (k : ℕ) → find k held ≡ None → find k (tried ats held).1 ≡ None
unfolding tried
tried-free [] held k none = none
tried-free (at ∷ ats) held k none = by (tried-free ats (without at held) k (without-free k at held none)) (as_handle (find at held)) refl
  where
    by : find k (tried ats (without at held)).1 ≡ None → (o : Option (TaskHandle ℤ)) → as_handle (find at held) ≡ o → find k (tried_by at o held (tried ats (without at held))).1 ≡ None
    by rest None e = none
    by rest (Some handle) e = with-free k at (Handle handle) (tried ats (without at held)).1 (other_name k at handle held none e) rest

-- no name is left
pub tries-none : (s : Script) → Tries [] s true s
unfolding tried
tries-none s = (refl, refl)

-- the next holds no handle
pub tries-missing : (at : ℕ) (ats : List ℕ) (s : Script) → handle_at s at ≡ None → Tries (at ∷ ats) s false s
unfolding tried
tries-missing at ats s none = rw none (refl, refl)

-- it holds one, and the others were tried
pub tries-more : (at : ℕ) (ats : List ℕ) (s mid : Script) (handle : TaskHandle ℤ) (all : Bool) → handle_at s at ≡ Some handle → Tries ats (loosed s at) all mid → Tries (at ∷ ats) s all (put_back mid at (Handle handle))
unfolding tried
tries-more at ats s mid handle all own rest = rw own (rest.0, ap (λ (t : Script). put_back t at (Handle handle)) rest.1)

-- what gives nothing, one behind another
pub spends-none : {G : Type 0} (w : World Script ℤ G) → Spends (Gives tt tt) w w
spends-none w = spends-on w w (Gives tt tt) (spent-nothing w)

pub spends-both : {G : Type 0} (first next : Last Script ℤ) (old mid new : World Script ℤ G) → Spends first old mid → Spends next mid new → Spends (followed_by first next) old new
spends-both first next old mid new one two = spends-on old new (followed_by first next) (one.ends next new two.spent)

-- a poll, and what follows from its answer
goes-both : {G L R : Type 0} (old mid new : World Script ℤ G) (first : Step Script L ℤ R) (more : R → L → Choosing) (r : R) (a : L) (told : Poll (Result ℤ Error)) (left : Script) → Goes first old mid r a → Goes (more r a) mid new told left → Goes (then first more) old new told left
goes-both old mid new first more r a told left one two = goes-on old new (then first more) told left (walked-then old mid new first more r a told left one.walked two.walked)

-- no name is left to be given up, or one more
pub releases-nobody : {G : Type 0} (held : List (ℕ × Held)) (w : World Script ℤ G) → Spends (releases_chosen [] held) w w
unfolding releases_chosen
releases-nobody held w = spends-none w

pub releases-one : {G : Type 0} (at : ℕ) (ats : List ℕ) (held : List (ℕ × Held)) (old mid new : World Script ℤ G) → Spends (releases (find at held)) old mid → Spends (releases_chosen ats (without at held)) mid new → Spends (releases_chosen (at ∷ ats) held) old new
unfolding releases_chosen
releases-one at ats held old mid new one two = spends-both (releases (find at held)) (releases_chosen ats (without at held)) old mid new one two

-- and to be aborted
pub aborts-nobody : {G : Type 0} (held : List (ℕ × Held)) (w : World Script ℤ G) → Spends (aborts_chosen [] held) w w
unfolding aborts_chosen
aborts-nobody held w = spends-none w

pub aborts-one : {G : Type 0} (at : ℕ) (ats : List ℕ) (held : List (ℕ × Held)) (old mid new : World Script ℤ G) → Spends (aborts_of (as_handle (find at held))) old mid → Spends (aborts_chosen ats (aborted_at at (as_handle (find at held)) held)) mid new → Spends (aborts_chosen (at ∷ ats) held) old new
unfolding aborts_chosen
aborts-one at ats held old mid new one two = spends-both (aborts_of (as_handle (find at held))) (aborts_chosen ats (aborted_at at (as_handle (find at held)) held)) old mid new one two

-- and to be polled
pub polls-nobody : {G : Type 0} (s : Script) (w : World Script ℤ G) → Goes (polls_chosen [] s) w w IsPending s
unfolding polls_chosen
polls-nobody s w = goes-on w w (Gives IsPending s) IsPending s (walked-gives w IsPending s)

pub polls-missing : {G : Type 0} (at : ℕ) (s : Script) (w : World Script ℤ G) → Goes (polls_name s at None) w w IsPending s
unfolding polls_name
polls-missing at s w = goes-on w w (Gives IsPending s) IsPending s (walked-gives w IsPending s)

pub polls-held : {G : Type 0} (at : ℕ) (s : Script) (handle after : TaskHandle ℤ) (told : Poll (Result ℤ Error)) (old new : World Script ℤ G) → Goes (task_polls handle) old new told after → Goes (polls_name s at (Some handle)) old new told (bound s at (Handle after))
unfolding polls_name
polls-held at s handle after told old new one =
    goes-both old new new (task_polls handle) (λ told handle. Gives told (bound s at (Handle handle))) told after told (bound s at (Handle after)) one
    (goes-on new new (Gives told (bound s at (Handle after))) told (bound s at (Handle after)) (walked-gives new told (bound s at (Handle after))))

module _ {G : Type 0} (at : ℕ) (ats : List ℕ) (s mid : Script) (old now new : World Script ℤ G) where
  pub polls-pending : (told : Poll (Result ℤ Error)) (left : Script) → Goes (polls_name s at (handle_at s at)) old now IsPending mid → Goes (polls_chosen ats mid) now new told left → Goes (polls_chosen (at ∷ ats) s) old new told left
  unfolding polls_chosen
  polls-pending told left one two = goes-both old now new (polls_name s at (handle_at s at)) (unless_ready (polls_chosen ats)) IsPending mid told left one two

-- the first that is ready gives the answer
pub polls-ready : {G : Type 0} (at : ℕ) (ats : List ℕ) (s left : Script) (old new : World Script ℤ G) (told : Poll (Result ℤ Error)) → (told ≡ IsPending → ⊥) → Goes (polls_name s at (handle_at s at)) old new told left → Goes (polls_chosen (at ∷ ats) s) old new told left
unfolding polls_chosen
polls-ready at ats s left old new told other one =
    goes-both old new new (polls_name s at (handle_at s at)) (unless_ready (polls_chosen ats)) told left told left one (given told other)
  where
    given : (told : Poll (Result ℤ Error)) → (told ≡ IsPending → ⊥) → Goes (unless_ready (polls_chosen ats) told left) new new told left
    given IsPending other = absurd (other refl)
    given (IsReady answer) other = goes-on new new (Gives (IsReady answer) left) (IsReady answer) left (walked-gives new (IsReady answer) left)

-- a choice is pending, or it is left where one of its handles is ready
module _ {G : Type 0} (ats : List ℕ) (s mid : Script) (old now new : World Script ℤ G) where
  pub choice-pending : Goes (polls_chosen ats s) old now IsPending mid → Goes (polls_choice ats s) old now IsPending mid
  unfolding polls_choice
  choice-pending one = goes-both old now now (polls_chosen ats s) (decides ats) IsPending mid IsPending mid one (goes-on now now (Gives IsPending mid) IsPending mid (walked-gives now IsPending mid))

  pub choice-ready : (answer : Result ℤ Error) → Goes (polls_chosen ats s) old now (IsReady answer) mid → Spends (leaves_choice ats mid.held) now new → Goes (polls_choice ats s) old new (IsReady answer) (unchosen ats mid)
  unfolding polls_choice
  choice-ready answer one two =
      goes-both old now new (polls_chosen ats s) (decides ats) (IsReady answer) mid (IsReady answer) (unchosen ats mid) one
      (goes-on now new (followed_by (leaves_choice ats mid.held) (Gives (IsReady answer) (unchosen ats mid))) (IsReady answer) (unchosen ats mid)
      (walked-followed now new new (leaves_choice ats mid.held) (Gives (IsReady answer) (unchosen ats mid)) (IsReady answer) (unchosen ats mid) two.spent (walked-gives new (IsReady answer) (unchosen ats mid))))
