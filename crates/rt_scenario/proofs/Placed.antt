-- A handle in the lines of a script has a place among its handles.
use Rattle.rt_scenario.proofs.Prelude.{◌≡◌, ℕ, suc, ◌+◌, ◌≤◌, ◌<◌, Bool, true, false, cond, List, [], ◌∷◌, ◌++◌, length, fold, map, get_or, Option, Some, None, refl, sym, subst, arith, All, filter, IfSome, is_lt, ordering_reverse, match_ordering, Ordering, Less, Equal, Greater, insert_key, nat_list_cmp_total, length_push, length-append, length-map, All-cons, All-map, All-push, text_cmp, with_line, with_panic, with_select, Begun, closed_script, handle_of, handles_of, names_of, place_of, placed, with_handle, with_handles, IsWithin, HasPlaces, HavePlaces, IsClear, IsFree, IsNamed, IsBegun, Line, NamedLine, Plain, Spawn, Abort, Drop, Join, Within, Stopped, Wait, ScriptText}
use Rattle.rt_scenario.specs.declared.line.Line.TheVariants as step

abbrev Lies : List (List ℕ) → List ℕ → Type 0
Lies names name = place_of names name < length names

abbrev before : List ℕ → List ℕ → Bool
before name other = is_lt (text_cmp other name)

filter_short : (p : List ℕ → Bool) (xs : List (List ℕ)) → length (filter p xs) ≤ length xs
filter_short p [] = omega arith
filter_short p (x ∷ xs) = by (p x) (filter_short p xs)
  where
    by : (b : Bool) → length (filter p xs) ≤ length xs → length (cond b (x ∷ filter p xs) (filter p xs)) ≤ suc (length xs)
    by true h = omega (arith, h)
    by false h = omega (arith, h)

behind : (name x : List ℕ) (names : List (List ℕ)) → Lies names name → Lies (x ∷ names) name
behind name x names h = by (before name x)
  where
    by : (b : Bool) → length (cond b (x ∷ filter (before name) names) (filter (before name) names)) < suc (length names)
    by true = omega (arith, h)
    by false = omega (arith, h)

first : (name x : List ℕ) (names : List (List ℕ)) → before name x ≡ false → Lies (x ∷ names) name
first name x names e = rw e (omega (arith, filter_short (before name) names))

rest : (name x : List ℕ) (names : List (List ℕ)) → before name x ≡ true → Lies (x ∷ names) name → Lies names name
rest name x names e h = let more = rw e at h in omega (arith, more)

itself : (r : Ordering) → r ≡ ordering_reverse r → is_lt r ≡ false
itself Less e = absurd (cc)
itself Equal e = refl
itself Greater e = refl

not_before : (r q : Ordering) → q ≡ Equal → r ≡ ordering_reverse q → is_lt r ≡ false
not_before Less q e f = absurd (cc)
not_before Equal q e f = refl
not_before Greater q e f = refl

-- a name keeps its place where one more is taken in
kept : (name k : List ℕ) (names : List (List ℕ)) → Lies names name → Lies (insert_key text_cmp names k) name
kept name k [] h = absurd (omega (arith, h))
kept name k (x ∷ xs) h = by (text_cmp k x) (before name x) refl (kept name k xs)
  where
    by : (r : Ordering) (b : Bool) → before name x ≡ b → (Lies xs name → Lies (insert_key text_cmp xs k) name) → Lies (match_ordering r (k ∷ x ∷ xs) (x ∷ xs) (x ∷ insert_key text_cmp xs k)) name
    by Less b e more = behind name k (x ∷ xs) h
    by Equal b e more = h
    by Greater true e more = behind name x (insert_key text_cmp xs k) (more (rest name x xs e h))
    by Greater false e more = first name x (insert_key text_cmp xs k) e

-- a name that is taken in has a place
taken : (k : List ℕ) (names : List (List ℕ)) → Lies (insert_key text_cmp names k) k
taken k [] = first k k [] (itself (text_cmp k k) (nat_list_cmp_total.antisymm k k))
taken k (x ∷ xs) = by (text_cmp k x) refl (taken k xs)
  where
    by : (r : Ordering) → text_cmp k x ≡ r → Lies (insert_key text_cmp xs k) k → Lies (match_ordering r (k ∷ x ∷ xs) (x ∷ xs) (x ∷ insert_key text_cmp xs k)) k
    by Less e more = first k k (x ∷ xs) (itself (text_cmp k k) (nat_list_cmp_total.antisymm k k))
    by Equal e more = first k x xs (not_before (text_cmp x k) (text_cmp k x) e (nat_list_cmp_total.antisymm x k))
    by Greater e more = behind k x (insert_key text_cmp xs k) more

with_one : (names : List (List ℕ)) (name : List ℕ) (o : Option (List ℕ)) → Lies names name → Lies (with_handle names o) name
with_one names name None h = h
with_one names name (Some k) h = kept name k names h

with_more : (names : List (List ℕ)) (name : List ℕ) (lines : List (NamedLine (List ℕ))) → Lies names name → Lies (with_handles names lines) name
with_more names name [] h = h
with_more names name (line ∷ lines) h = with_more (with_handle names (handle_of line)) name lines (with_one names name (handle_of line) h)

own : (names : List (List ℕ)) (o : Option (List ℕ)) (lines : List (NamedLine (List ℕ))) → IfSome o (Lies (with_handles (with_handle names o) lines))
own names None lines = tt
own names (Some k) lines = with_more (insert_key text_cmp names k) k lines (taken k names)

-- each handle of the lines has a place
all_lie : (names : List (List ℕ)) (lines : List (NamedLine (List ℕ))) → All (λ line. IfSome (handle_of line) (Lies (with_handles names lines))) lines
all_lie names [] = λ k d inside. absurd (omega (arith, inside))
all_lie names (line ∷ lines) =
    All-cons (λ l. IfSome (handle_of l) (Lies (with_handles names (line ∷ lines)))) line lines (own names (handle_of line) lines) (all_lie (with_handle names (handle_of line)) lines)

-- a name keeps its place where more are taken in, and each of these has one
lies_more : (start names : List (List ℕ)) (name : List ℕ) → Lies start name → Lies (fold (insert_key text_cmp) start names) name
lies_more start [] name h = h
lies_more start (n ∷ ns) name h = lies_more (insert_key text_cmp start n) ns name (kept name n start h)

choices_lie : (start names : List (List ℕ)) → All (Lies (fold (insert_key text_cmp) start names)) names
choices_lie start [] = λ k d inside. absurd (omega (arith, inside))
choices_lie start (n ∷ ns) =
    All-cons (Lies (fold (insert_key text_cmp) (insert_key text_cmp start n) ns)) n ns (lies_more (insert_key text_cmp start n) ns n (taken n start)) (choices_lie (insert_key text_cmp start n) ns)

lies_if : (start names : List (List ℕ)) (o : Option (List ℕ)) → IfSome o (Lies start) → IfSome o (Lies (fold (insert_key text_cmp) start names))
lies_if start names None h = tt
lies_if start names (Some name) h = lies_more start names name h

placed_one : (scripts : ℕ) (s : ScriptText) (line : NamedLine (List ℕ)) → IsNamed scripts (length s.words) (length s.choices) line → IfSome (handle_of line) (Lies s.handles) → All (λ place. place < length s.handles) s.choices → IsWithin scripts s (placed s.handles line)
placed_one scripts s (Plain (step.Panic word)) named lies chosen = named
placed_one scripts s (Plain (step.Spawn handle script)) named lies chosen = absurd named
placed_one scripts s (Plain (step.Abort handle)) named lies chosen = absurd named
placed_one scripts s (Plain (step.Drop handle)) named lies chosen = absurd named
placed_one scripts s (Plain (step.Join handle)) named lies chosen = absurd named
placed_one scripts s (Plain (step.Within handle limit)) named lies chosen = absurd named
placed_one scripts s (Plain (step.Select start past)) named lies chosen = (named.0, named.1, chosen)
placed_one scripts s (Plain (step.Stopped signal)) named lies chosen = absurd named
placed_one scripts s (Plain (step.Wait signal)) named lies chosen = absurd named
placed_one scripts s (Spawn handle script) named lies chosen = (lies, named)
placed_one scripts s (Abort handle) named lies chosen = lies
placed_one scripts s (Drop handle) named lies chosen = lies
placed_one scripts s (Join handle) named lies chosen = lies
placed_one scripts s (Within handle limit) named lies chosen = lies
placed_one scripts s (Stopped signal) named lies chosen = lies
placed_one scripts s (Wait signal) named lies chosen = lies
placed_one scripts s _ named lies chosen = tt

-- a script that is closed has the places that its lines hold
pub closed_has : (scripts : ℕ) (s : Begun) → IsBegun scripts s → HasPlaces scripts (closed_script s)
closed_has scripts s begun =
    let names = names_of s in
    let chosen : All (λ place. place < length names) (map (place_of names) s.choices) =
    All-map (λ place. place < length names) (place_of names) s.choices (choices_lie (handles_of s.lines) s.choices) in
    let long : length (map (place_of names) s.choices) ≡ length s.choices = length-map s.choices (place_of names) in
    All-map (IsWithin scripts (closed_script s)) (placed names) s.lines
    (λ k d inside.
    placed_one scripts (closed_script s) (get_or s.lines k d)
    (subst (λ n. IsNamed scripts (length s.words) n (get_or s.lines k d)) (sym long) (begun k d inside))
    (lies_if (handles_of s.lines) s.choices (handle_of (get_or s.lines k d)) (all_lie [] s.lines k d inside)) chosen)

-- among more scripts the places lie as well
within_more : (n : ℕ) (s : ScriptText) (line : Line) → IsWithin n s line → IsWithin (n + 1) s line
within_more n s (step.Panic word) h = h
within_more n s (step.Spawn handle script) h = (h.0, omega (arith, h.1))
within_more n s (step.Abort handle) h = h
within_more n s (step.Drop handle) h = h
within_more n s (step.Join handle) h = h
within_more n s (step.Within handle limit) h = h
within_more n s (step.Select start past) h = h
within_more n s (step.Stopped signal) h = h
within_more n s (step.Wait signal) h = h
within_more n s _ h = tt

has_more : (n : ℕ) (s : ScriptText) → HasPlaces n s → HasPlaces (n + 1) s
has_more n s h k d inside = within_more n s (get_or s.lines k d) (h k d inside)

-- a script more has places, too
pub have_push : (ss : List ScriptText) (s : ScriptText) → HavePlaces ss → HasPlaces (length ss) s → HavePlaces (ss ++ s ∷ [])
have_push ss s have has k d inside =
    subst (λ n. HasPlaces n (get_or (ss ++ s ∷ []) k d)) (sym (length_push ss s))
    (All-push (HasPlaces (length ss + 1)) ss s (λ i e below. has_more (length ss) (get_or ss i e) (have i e below)) (has_more (length ss) s has) k d inside)

free_named : (scripts words choices : ℕ) (line : NamedLine (List ℕ)) → IsFree scripts line → IsNamed scripts words choices line
free_named scripts words choices (Plain (step.Panic word)) h = absurd h
free_named scripts words choices (Plain (step.Spawn handle script)) h = absurd h
free_named scripts words choices (Plain (step.Abort handle)) h = absurd h
free_named scripts words choices (Plain (step.Drop handle)) h = absurd h
free_named scripts words choices (Plain (step.Join handle)) h = absurd h
free_named scripts words choices (Plain (step.Within handle limit)) h = absurd h
free_named scripts words choices (Plain (step.Select start past)) h = absurd h
free_named scripts words choices (Plain (step.Stopped signal)) h = absurd h
free_named scripts words choices (Plain (step.Wait signal)) h = absurd h
free_named scripts words choices (Spawn handle script) h = h
free_named scripts words choices _ h = tt

-- a free line is clear
pub free_clear : (scripts : ℕ) (line : NamedLine (List ℕ)) → IsFree scripts line → IsClear line
free_clear scripts (Plain (step.Spawn handle script)) h = absurd h
free_clear scripts (Plain (step.Abort handle)) h = absurd h
free_clear scripts (Plain (step.Drop handle)) h = absurd h
free_clear scripts (Plain (step.Join handle)) h = absurd h
free_clear scripts (Plain (step.Within handle limit)) h = absurd h
free_clear scripts (Plain (step.Stopped signal)) h = absurd h
free_clear scripts (Plain (step.Wait signal)) h = absurd h
free_clear scripts _ h = tt

-- a line more
pub begun_line : (scripts : ℕ) (s : Begun) (line : NamedLine (List ℕ)) → IsBegun scripts s → IsFree scripts line → IsBegun scripts (with_line line s)
begun_line scripts s line begun free = All-push (IsNamed scripts (length s.words) (length s.choices)) s.lines line begun (free_named scripts (length s.words) (length s.choices) line free)

named_more : (scripts words choices : ℕ) (line : NamedLine (List ℕ)) → IsNamed scripts words choices line → IsNamed scripts (words + 1) choices line
named_more scripts words choices (Plain (step.Panic word)) h = omega (arith, h)
named_more scripts words choices (Plain (step.Spawn handle script)) h = absurd h
named_more scripts words choices (Plain (step.Abort handle)) h = absurd h
named_more scripts words choices (Plain (step.Drop handle)) h = absurd h
named_more scripts words choices (Plain (step.Join handle)) h = absurd h
named_more scripts words choices (Plain (step.Within handle limit)) h = absurd h
named_more scripts words choices (Plain (step.Select start past)) h = h
named_more scripts words choices (Plain (step.Stopped signal)) h = absurd h
named_more scripts words choices (Plain (step.Wait signal)) h = absurd h
named_more scripts words choices (Spawn handle script) h = h
named_more scripts words choices _ h = tt

-- a panic more, and its word
pub begun_panic : (scripts : ℕ) (s : Begun) (word : List ℕ) → IsBegun scripts s → IsBegun scripts (with_panic word s)
begun_panic scripts s word begun k d inside =
    subst (λ n. IsNamed scripts n (length s.choices) (get_or (with_panic word s).lines k d)) (sym (length_push s.words word))
    (All-push (IsNamed scripts (length s.words + 1) (length s.choices)) s.lines (Plain (step.Panic (length s.words))) (λ i e below. named_more scripts (length s.words) (length s.choices) (get_or s.lines i e) (begun i e below)) (omega arith) k d inside)

chosen_more : (scripts words choices more : ℕ) (line : NamedLine (List ℕ)) → IsNamed scripts words choices line → IsNamed scripts words (choices + more) line
chosen_more scripts words choices more (Plain (step.Panic word)) h = h
chosen_more scripts words choices more (Plain (step.Spawn handle script)) h = absurd h
chosen_more scripts words choices more (Plain (step.Abort handle)) h = absurd h
chosen_more scripts words choices more (Plain (step.Drop handle)) h = absurd h
chosen_more scripts words choices more (Plain (step.Join handle)) h = absurd h
chosen_more scripts words choices more (Plain (step.Within handle limit)) h = absurd h
chosen_more scripts words choices more (Plain (step.Select start past)) h = (h.0, omega (arith, h.1))
chosen_more scripts words choices more (Plain (step.Stopped signal)) h = absurd h
chosen_more scripts words choices more (Plain (step.Wait signal)) h = absurd h
chosen_more scripts words choices more (Spawn handle script) h = h
chosen_more scripts words choices more _ h = tt

-- a choice more, of one name at least
pub begun_select : (scripts : ℕ) (s : Begun) (names : List (List ℕ)) → 0 < length names → IsBegun scripts s → IsBegun scripts (with_select names s)
begun_select scripts s names some begun k d inside =
    subst (λ n. IsNamed scripts (length s.words) n (get_or (with_select names s).lines k d)) (sym (length-append s.choices names))
    (All-push (IsNamed scripts (length s.words) (length s.choices + length names)) s.lines (Plain (step.Select (length s.choices) (length s.choices + length names))) (λ i e below. chosen_more scripts (length s.words) (length s.choices) (length names) (get_or s.lines i e) (begun i e below)) ((omega (arith, some)), (omega arith)) k d inside)
