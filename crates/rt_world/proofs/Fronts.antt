-- The entries so far stay a front.
use Rattle.rt_world.proofs.Prelude.{◌≡◌, ap, ℕ, List, [], ◌∷◌, ◌++◌, map, Some, refl, sym, append_assoc, append-nil, Stream, Entry, Draw, Round, taken, Drains, Calmly, cleanup_entries, Told, pushed, pushed_all, Quietly, own, World, IsFront, Kept}

own-pushed : (t : Told) (e : Entry) → own (pushed t e) ≡ own t ++ e ∷ []
own-pushed t e = append-nil (own t ++ e ∷ [])

own-all : (t : Told) (es : List Entry) → own (pushed_all t es) ≡ own t ++ es
own-all t [] = sym (append-nil (own t))
own-all t (e ∷ es) = rw (own-all (pushed t e) es, own-pushed t e) (append_assoc (own t) (e ∷ []) es)

-- nothing was added
pub front-same : (t u : Told) → u ≡ t → IsFront t u
unfolding IsFront
front-same t u e = record { more = []; are = rw e (sym (append-nil (own t))) }

pub front-front : (s t u : Told) → IsFront s t → IsFront t u → IsFront s u
unfolding IsFront
front-front s t u h k = record { more = h.more ++ k.more; are = rw (k.are, h.are) (append_assoc (own s) h.more k.more) }

-- entries were added
front-all : (t : Told) (es : List Entry) → IsFront t (pushed_all t es)
unfolding IsFront
front-all t es = record { more = es; are = own-all t es }

pub front-pushed : (t u : Told) (e : Entry) → u ≡ pushed t e → IsFront t u
front-pushed t u e is = rw is (front-all t (e ∷ []))

pub front-twice : (t u : Told) (e f : Entry) → u ≡ pushed (pushed t e) f → IsFront t u
front-twice t u e f is = rw is (front-all t (e ∷ f ∷ []))

pub front-calmly : (t u : Told) → Calmly t u → IsFront t u
front-calmly t u c = rw c.is (front-all t c.entries)

pub front-quietly : (t u : Told) → Quietly t u → IsFront t u
front-quietly t u q = rw q.is (front-all t q.entries)

pub front-cleaned : (t u : Told) → u ≡ pushed_all t (cleanup_entries t.state.stood.nodes) → IsFront t u
front-cleaned t u e = rw e (front-all t (cleanup_entries t.state.stood.nodes))

-- a round was drained
pub front-drained : (from left : Stream) (t u : Told) (order : List ℕ) → Drains from left t u order → IsFront t u
front-drained from left t u order d =
    front-front t (pushed_all t (map Draw d.orders.draws)) u (front-all t (map Draw d.orders.draws)) (front-pushed (pushed_all t (map Draw d.orders.draws)) u (Round order) d.told)

-- calls were made where none was under way
pub front-kept : {A O G : Type 0} (stream : G → Stream) (old new : World A O G) → old.told.calls ≡ [] → Kept stream old new → IsFront old.told new.told
unfolding IsFront
front-kept stream old new none kept = record { more = new.told.calls; are = rw (kept.past, none, append-nil old.told.past) refl }

-- the state of a task was taken out, and called
pub front-called : {A O G : Type 0} (stream : G → Stream) (w0 w1 w2 : World A O G) (task : ℕ) → w0.told.calls ≡ [] → w1 ≡ record w0 { held = taken task w0.held; out = Some task } → Kept stream w1 w2 → IsFront w0.told w2.told
front-called {A = A} {O = O} {G = G} stream w0 w1 w2 task none began kept =
    let same = ap (λ (w : World A O G). w.told) began in
    rw same at (front-kept stream w1 w2 (rw same none) kept)
