-- What stays as it is while the parts of a run make their calls.
use Rattle.rt_machine.proofs.Prelude.{◌≡◌, ◌⊎◌, inl, inr, ◌∙◌, sym, ap, ℕ, List, [], ◌∷◌, refl, true, false, Option, Some, None, IfSome, Bool, arith, nat_eq, list_any, Error, Call, Child, Refused, FinishCause, NoMemory, Completed, has_number, with_number, State, Phase, Over, Closing, reached, after, is_closing, running_called, cause_of, CallsAt, MayCall, MayClose, IsEndedNext, Seen, IsRefused, StandsFor, Told, pushed_all, cleanup_by, cleanup_entries, is_ended}

pub list_any-number : (k : ℕ) (xs : List ℕ) → list_any (λ y. nat_eq y k) xs ≡ has_number k xs
list_any-number k [] = refl
list_any-number k (x ∷ xs) = rw (list_any-number k xs) refl

pub ruleset number_laws = (list_any-number)

has-with : (k j : ℕ) (ns : List ℕ) → has_number k ns ≡ true → has_number k (with_number j ns) ≡ true
has-with k j [] h = cc
has-with k j (n ∷ ns) h = grind (arith, has-with k j ns)

pub some-with : (by : Option ℕ) (j : ℕ) (ns : List ℕ) → IfSome by (λ k. has_number k ns ≡ true) → IfSome by (λ k. has_number k (with_number j ns) ≡ true)
some-with None j ns h = tt
some-with (Some k) j ns h = has-with k j ns h

-- the caller may go on, where nobody was added
pub calls-same : (s t : State) (by : Option ℕ) → t.phase ≡ s.phase → t.root ≡ s.root → t.running ≡ s.running → MayCall s by → MayCall t by
calls-same s t by p r n may = rw (p, r, n) may

calls-at : (p : Phase) (root next other by : Option ℕ) → is_closing p ≡ false → CallsAt p root next by → CallsAt p root other by
calls-at (Closing cause) root next other by before may = absurd (cc)
calls-at _ root next other by before may = may

-- or where no cleanup has begun
pub calls-open : (s t : State) (by : Option ℕ) → t.phase ≡ s.phase → t.root ≡ s.root → is_closing s.phase ≡ false → MayCall s by → MayCall t by
calls-open s t by p r before may = rw (p, r) (calls-at s.phase s.root _ _ by before may)

running-refused : (ns : List ℕ) (call : Call) (error : Error) → running_called ns call (Refused error) ≡ ns
running-refused ns (Child node label) error = refl
running-refused ns _ error = refl

module _ (by : Option ℕ) (old new : Seen) (call : Call) (error : Error) where
  pub refused-phase : IsRefused by old new call error → new.told.state.phase ≡ old.told.state.phase
  refused-phase (inl l) = rw l.1 refl
  refused-phase (inr n) = n.phase

  pub refused-root : IsRefused by old new call error → new.told.state.root ≡ old.told.state.root
  refused-root (inl l) = rw l.1 refl
  refused-root (inr n) = n.root

  pub refused-running : IsRefused by old new call error → new.told.state.running ≡ old.told.state.running
  refused-running (inl l) = rw l.1 refl
  refused-running (inr n) = n.running ∙ running-refused old.told.state.running call error

-- who is ended next goes on to be
pub ended-next : (root next : Option ℕ) (task : ℕ) → IsEndedNext root next (Some task) → next ≡ Some task
ended-next root None task h = let e = h.1 in absurd (cc)
ended-next root (Some k) task h = sym h

pub over-closes : (s : State) (cause : FinishCause) → s.phase ≡ Over cause → MayClose s.phase
over-closes s cause e = rw e tt

pub over-reached : (s : State) (cause : FinishCause) → s.phase ≡ Over cause → reached s ≡ Some cause
over-reached s cause e = rw e refl

pub stands-closes : (s : State) (cause : FinishCause) → StandsFor s cause → MayClose s.phase
stands-closes s NoMemory c = c.closes
stands-closes s Completed c = absurd c
stands-closes s _ c = c.0.closes

pub stands-reached : (s : State) (cause : FinishCause) → StandsFor s cause → (cause ≡ NoMemory) ⊎ (reached s ≡ Some cause)
stands-reached s NoMemory c = inl refl
stands-reached s Completed c = absurd c
stands-reached s _ c = inr c.1

-- nobody is ended next where nobody may call
pub ended-none : (root next : Option ℕ) → IsEndedNext root next None → next ≡ None
ended-none root None h = refl
ended-none root (Some k) h = absurd (cc)

-- a cleanup has begun, and node 0 has ended
pub cleaned : (t u : Told) → u ≡ pushed_all t (cleanup_entries t.state.stood.nodes) → u.state.phase ≡ Closing (reached t.state)
unfolding after
cleaned t u e = ap (λ (v : Told). v.state.phase) e ∙ by (is_ended t.state.stood.nodes 0) refl
  where
    by : (b : Bool) → is_ended t.state.stood.nodes 0 ≡ b → (pushed_all t (cleanup_by b)).state.phase ≡ Closing (reached t.state)
    by true h = rw h refl
    by false h = rw h refl

-- and the cause that was reached before is kept
pub caused : (t u : Told) (cause : FinishCause) → u ≡ pushed_all t (cleanup_entries t.state.stood.nodes) → (cause ≡ NoMemory) ⊎ (reached t.state ≡ Some cause) → (cause ≡ NoMemory) ⊎ (cause_of u.state.phase ≡ Some cause)
caused t u cause e (inl lacks) = inl lacks
caused t u cause e (inr is) = inr (ap cause_of (cleaned t u e) ∙ is)

pub ruleset replay_laws = (some-with, calls-same, calls-open, refused-phase, refused-root, refused-running, ended-next, ended-none, cleaned, over-closes, over-reached, stands-closes, stands-reached)
