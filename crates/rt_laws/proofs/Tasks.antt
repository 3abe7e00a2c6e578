-- The numbers of tasks: none is given twice, and who runs or has a result was given one.
use Rattle.rt_laws.proofs.Prelude.{◌≡◌, ◌<◌, ◌+◌, ◌-◌, ◌^◌, ◌⊎◌, inl, inr, ℕ, List, [], ◌∷◌, ◌++◌, Option, Some, None, is_some, Bool, true, false, not, ◌&&◌, eqb, leb, drop, refl, arith, cases_Bool, Error, UnknownToken, TooManyTasks, Call, Spawn, Abort, AbortTask, Join, GiveUp, CallReply, Done, TaskAt, StillPending, IsReady, AnswerKind, Pending, Ready, Panicked, Stopped, NoMemory, Ended, FinishCause, Completed, TaskPanicked, Entry, Start, CallEntry, Event, Root, Round, Visit, Answer, NodeEnd, Advance, Cleanup, Crash, Finish, is_ended, is_known, Begin, Mark, Outcome, Open, There, Exited, IsClosed, TaskResult, new_result, find, has_number, with_number, without_number, without, replaced, is_some_number, new_mark, is_flagged, flagged, flag, flag_all, State, Phase, Entered, Polling, Ending, Leaving, Cleaning, Closing, begun, from_running, ends_next, reached, after, after_all, is_settled, numbers_called, running_called, running_answered, results_answered, marks_called, marks_answered, marks_ended, results_called, results_ended, results_left, flagged_by, leaving, unmarked, left_of, answered, entered, entered_by, node_ended, cleans, leaves, ended, left_pending, finished, May, MayEnd, MayAnswer, CallsAt, Answers, Unless, SpawnAnswers, is_free, IsLawful}

-- lists of numbers

abbrev pub AreOnce : List ℕ → Type 0
AreOnce [] = Unit {0}
AreOnce (k ∷ ks) = (has_number k ks ≡ false) × AreOnce ks

pub has-with : (k other : ℕ) (xs : List ℕ) → has_number k (with_number other xs) ≡ true → (k ≡ other) ⊎ (has_number k xs ≡ true)
has-with k other [] h = grind arith
has-with k other (x ∷ xs) h = grind (arith, has-with k other xs)

pub with-has : (k other : ℕ) (xs : List ℕ) → has_number k xs ≡ true → has_number k (with_number other xs) ≡ true
with-has k other [] h = absurd (cc)
with-has k other (x ∷ xs) h = grind (arith, with-has k other xs)

pub with-lacks : (k other : ℕ) (xs : List ℕ) → has_number k xs ≡ false → eqb other k ≡ false → has_number k (with_number other xs) ≡ false
with-lacks k other [] h e = grind arith
with-lacks k other (x ∷ xs) h e = grind (arith, with-lacks k other xs)

eqb-swap : (a b : ℕ) → eqb a b ≡ false → eqb b a ≡ false
eqb-swap a b h = grind arith

once-with : (k : ℕ) (xs : List ℕ) → has_number k xs ≡ false → AreOnce xs → AreOnce (with_number k xs)
once-with k [] h o = (refl, tt)
once-with k (x ∷ xs) h o = grind (arith, once-with k xs, with-lacks x k xs, eqb-swap)

pub without-has : (k other : ℕ) (xs : List ℕ) → has_number k (without_number other xs) ≡ true → has_number k xs ≡ true
without-has k other [] h = h
without-has k other (x ∷ xs) h = grind (arith, without-has k other xs)

pub without-lacks : (k other : ℕ) (xs : List ℕ) → has_number k xs ≡ false → has_number k (without_number other xs) ≡ false
without-lacks k other [] h = h
without-lacks k other (x ∷ xs) h = grind (arith, without-lacks k other xs)

once-without : (k : ℕ) (xs : List ℕ) → AreOnce xs → AreOnce (without_number k xs)
once-without k [] o = o
once-without k (x ∷ xs) o = elim (cases_Bool (eqb x k)) [
  | inl e ↦ rw e o.1
  | inr e ↦ rw e (without-lacks x k xs o.0, once-without k xs o.1)
]

pub gone-without : (k : ℕ) (xs : List ℕ) → AreOnce xs → has_number k (without_number k xs) ≡ false
gone-without k [] o = refl
gone-without k (x ∷ xs) o = elim (cases_Bool (eqb x k)) [
  | inl e ↦ (let same : x ≡ k = grind arith in let lacks : has_number k xs ≡ false = rw same at o.0 in rw e lacks)
  | inr e ↦ rw (e, e) (gone-without k xs o.1)
]

-- who has something

pub has-add : {A : Type 0} (k other : ℕ) (a : A) (xs : List (ℕ × A)) → is_some (find k (xs ++ (other, a) ∷ [])) ≡ true → (k ≡ other) ⊎ (is_some (find k xs) ≡ true)
has-add k other a [] h = grind arith
has-add k other a (x ∷ xs) h = grind (arith, has-add k other a xs)

pub has-replaced : {A : Type 0} (k other : ℕ) (f : A → A) (xs : List (ℕ × A)) → is_some (find k (replaced f other xs)) ≡ true → is_some (find k xs) ≡ true
has-replaced k other f [] h = h
has-replaced k other f (x ∷ xs) h = grind (arith, has-replaced k other f xs)

pub has-removed : {A : Type 0} (k other : ℕ) (xs : List (ℕ × A)) → is_some (find k (without other xs)) ≡ true → is_some (find k xs) ≡ true
has-removed k other [] h = h
has-removed k other (x ∷ xs) h = grind (arith, has-removed k other xs)

-- no number has two things
abbrev pub AreApart : {A : Type 0} → List (ℕ × A) → Type 0
AreApart [] = Unit {0}
AreApart (x ∷ xs) = (is_some (find x.0 xs) ≡ false) × AreApart xs

pub lacks-add : {A : Type 0} (k other : ℕ) (a : A) (xs : List (ℕ × A)) → is_some (find k xs) ≡ false → eqb other k ≡ false → is_some (find k (xs ++ (other, a) ∷ [])) ≡ false
lacks-add k other a [] h e = grind arith
lacks-add k other a (x ∷ xs) h e = grind (arith, lacks-add k other a xs)

pub apart-add : {A : Type 0} (k : ℕ) (a : A) (xs : List (ℕ × A)) → is_some (find k xs) ≡ false → AreApart xs → AreApart (xs ++ (k, a) ∷ [])
apart-add k a [] h p = (refl, tt)
apart-add k a (x ∷ xs) h p = grind (arith, apart-add k a xs, lacks-add x.0 k a xs, eqb-swap)

lacks-replaced : {A : Type 0} (k other : ℕ) (f : A → A) (xs : List (ℕ × A)) → is_some (find k xs) ≡ false → is_some (find k (replaced f other xs)) ≡ false
lacks-replaced k other f [] h = h
lacks-replaced k other f (x ∷ xs) h = grind (arith, lacks-replaced k other f xs)

pub apart-replaced : {A : Type 0} (other : ℕ) (f : A → A) (xs : List (ℕ × A)) → AreApart xs → AreApart (replaced f other xs)
apart-replaced other f [] p = p
apart-replaced other f (x ∷ xs) p = elim (cases_Bool (eqb x.0 other)) [
  | inl e ↦ (let same : x.0 ≡ other = grind arith in let lacks : is_some (find other xs) ≡ false = rw same at p.0 in rw e (lacks, p.1))
  | inr e ↦ rw e (lacks-replaced x.0 other f xs p.0, apart-replaced other f xs p.1)
]

pub lacks-removed : {A : Type 0} (k other : ℕ) (xs : List (ℕ × A)) → is_some (find k xs) ≡ false → is_some (find k (without other xs)) ≡ false
lacks-removed k other [] h = h
lacks-removed k other (x ∷ xs) h = grind (arith, lacks-removed k other xs)

pub apart-removed : {A : Type 0} (other : ℕ) (xs : List (ℕ × A)) → AreApart xs → AreApart (without other xs)
apart-removed other [] p = p
apart-removed other (x ∷ xs) p = elim (cases_Bool (eqb x.0 other)) [
  | inl e ↦ rw e p.1
  | inr e ↦ rw e (lacks-removed x.0 other xs p.0, apart-removed other xs p.1)
]

pub find-removed : {A : Type 0} (k : ℕ) (xs : List (ℕ × A)) → AreApart xs → is_some (find k (without k xs)) ≡ false
find-removed k [] p = refl
find-removed k (x ∷ xs) p = elim (cases_Bool (eqb x.0 k)) [
  | inl e ↦ (let same : x.0 ≡ k = grind arith in let lacks : is_some (find k xs) ≡ false = rw same at p.0 in rw e lacks)
  | inr e ↦ rw (e, e) (find-removed k xs p.1)
]

-- a task that is visited runs, and one that leaves doesn't
abbrev pub IsTaskAt : Phase → List ℕ → Type 0
IsTaskAt (Entered task left) running = has_number task running ≡ true
IsTaskAt (Polling task left) running = has_number task running ≡ true
IsTaskAt (Ending task result left) running = has_number task running ≡ true
IsTaskAt (Leaving task result left) running = has_number task running ≡ false
IsTaskAt _ running = Unit {0}

pub record AreTasks (s : State) : Type 0 where
  pub once : AreOnce s.running
  pub runs : (k : ℕ) → has_number k s.running ≡ true → k < s.numbers.next
  pub marked : (k : ℕ) → is_some (find k s.marks) ≡ true → k < s.numbers.next
  pub told : (k : ℕ) → is_some (find k s.stood.results) ≡ true → k < s.numbers.next
  pub marks : AreApart s.marks
  pub results : AreApart s.stood.results
  pub at : IsTaskAt s.phase s.running

-- the next number isn't one that runs
pub none-next : (s : State) → AreTasks s → has_number s.numbers.next s.running ≡ false
none-next s t = elim (cases_Bool (has_number s.numbers.next s.running)) [
  | inl h ↦ (let l = t.runs s.numbers.next h in absurd (omega arith))
  | inr h ↦ h
]

-- a spawn that was answered with a task

unless-not : (refuses : Bool) (error : Error) (otherwise : CallReply → Type 0) (task number : ℕ) → Unless refuses error otherwise (TaskAt task number) → (refuses ≡ false) × otherwise (TaskAt task number)
unless-not true error otherwise task number m = absurd m
unless-not false error otherwise task number m = (refl, m)

pub not-not : (b : Bool) → not b ≡ false → b ≡ true
not-not true h = refl
not-not false h = absurd (cc)

pub spawn-answers : (s : State) (node task number : ℕ) → Answers s (Spawn node) (TaskAt task number) → (is_free s.stood.nodes node ≡ true) × (task ≡ s.numbers.next) × (is_ended s.stood.nodes node ≡ false) × (is_known s.stood.nodes number ≡ false)
spawn-answers s node task number m =
    let first = unless-not (not (is_free s.stood.nodes node)) UnknownToken (λ reply. Unless (leb (2 ^ 64 - 1) s.numbers.next) TooManyTasks (SpawnAnswers s node) reply) task number m in
    let second = unless-not (leb (2 ^ 64 - 1) s.numbers.next) TooManyTasks (SpawnAnswers s node) task number first.1 in
    let free = not-not (is_free s.stood.nodes node) first.0 in
    (free, second.1.0, second.1.1, second.1.2)

-- calls

once-called : (s : State) (call : Call) (reply : CallReply) → Answers s call reply → AreTasks s → AreOnce (running_called s.running call reply)
once-called s (Spawn node) (TaskAt task number) m t =
    let e = (spawn-answers s node task number m).1 in
    once-with task s.running (rw e (none-next s t)) t.once
once-called s _ _ m t = t.once

runs-called : (s : State) (call : Call) (reply : CallReply) → Answers s call reply → AreTasks s → (k : ℕ) → has_number k (running_called s.running call reply) ≡ true → k < (numbers_called s.numbers call reply).next
runs-called s (Spawn node) (TaskAt task number) m t k h =
    let e = (spawn-answers s node task number m).1 in
    elim (has-with k task s.running h) [
      | inl same ↦ omega arith
      | inr old ↦ (let l = t.runs k old in omega arith)
    ]
runs-called s _ _ m t k h = t.runs k h

marked-called : (s : State) (call : Call) (reply : CallReply) → Answers s call reply → AreTasks s → (k : ℕ) → is_some (find k (marks_called s.marks call reply)) ≡ true → k < (numbers_called s.numbers call reply).next
marked-called s (Spawn node) (TaskAt task number) m t k h =
    let e = (spawn-answers s node task number m).1 in
    elim (has-add k task (new_mark node) s.marks h) [
      | inl same ↦ omega arith
      | inr old ↦ (let l = t.marked k old in omega arith)
    ]
marked-called s (Abort task) Done m t k h = t.marked k (has-replaced k task flagged s.marks h)
marked-called s (AbortTask task) Done m t k h = t.marked k (has-replaced k task flagged s.marks h)
marked-called s _ _ m t k h = t.marked k h

told-called : (s : State) (by : Option ℕ) (call : Call) (reply : CallReply) → Answers s call reply → AreTasks s → (k : ℕ) → is_some (find k (results_called s.stood.results by call reply)) ≡ true → k < (numbers_called s.numbers call reply).next
told-called s by (Spawn node) (TaskAt task number) m t k h =
    let e = (spawn-answers s node task number m).1 in
    elim (has-add k task new_result s.stood.results h) [
      | inl same ↦ omega arith
      | inr old ↦ (let l = t.told k old in omega arith)
    ]
told-called s by (Abort task) Done m t k h = t.told k (has-replaced k task (λ r. record r { aborted = true }) s.stood.results h)
told-called s by (Join task) StillPending m t k h = t.told k (has-replaced k task (λ r. record r { outcome = Open by }) s.stood.results h)
told-called s by (Join task) IsReady m t k h = t.told k (has-replaced k task (λ r. record r { outcome = IsClosed }) s.stood.results h)
told-called s by (GiveUp task) Done m t k h = t.told k (has-removed k task s.stood.results h)
told-called s by _ _ m t k h = t.told k h

pub has-called : (task : ℕ) (running : List ℕ) (call : Call) (reply : CallReply) → has_number task running ≡ true → has_number task (running_called running call reply) ≡ true
has-called task running (Spawn node) (TaskAt other number) h = with-has task other running h
has-called task running _ _ h = h

at-called : (p : Phase) (root next by : Option ℕ) (running : List ℕ) (call : Call) (reply : CallReply) → CallsAt p root next by → IsTaskAt p running → IsTaskAt p (running_called running call reply)
at-called (Polling task left) root next by running call reply m t = has-called task running call reply t
at-called (Ending task result left) root next by running call reply m t = has-called task running call reply t
at-called (Entered task left) root next by running call reply m t = absurd m
at-called (Leaving task result left) root next by running call reply m t = absurd m
at-called _ root next by running call reply m t = t

-- visits

pub from-runs : (running left rest : List ℕ) (task : ℕ) → from_running running left ≡ task ∷ rest → has_number task running ≡ true
from-runs running [] rest task h = absurd (cc)
from-runs running (k ∷ left) rest task h = grind (arith, from-runs running left rest task)

at-by : (stopped flagged : Bool) (task : ℕ) (left running : List ℕ) → has_number task running ≡ true → IsTaskAt (entered_by stopped flagged task left) running
at-by true flagged task left running t = tt
at-by false true task left running t = t
at-by false false task left running t = t

at-entered : (s : State) (p : Phase) (running : List ℕ) → IsTaskAt p running → IsTaskAt (entered s p) running
at-entered s (Entered task left) running t = at-by (is_some_number task s.root && s.panicked) (is_flagged (find task s.marks)) task left running t
at-entered s _ running t = t

at-node : (p : Phase) (running : List ℕ) → IsTaskAt p running → IsTaskAt (node_ended p) running
at-node (Leaving task result left) running t = tt
at-node (Cleaning cause) running t = tt
at-node _ running t = t

at-cleans : (over : Bool) (cause : Option FinishCause) (running : List ℕ) → IsTaskAt (cleans over cause) running
at-cleans true cause running = tt
at-cleans false cause running = tt

at-pending : (flagged : Bool) (task : ℕ) (left running : List ℕ) → has_number task running ≡ true → IsTaskAt (left_pending flagged task left) running
at-pending true task left running t = t
at-pending false task left running t = tt

at-finished : (is_root : Bool) (cause : FinishCause) (result : Outcome) (task : ℕ) (left running : List ℕ) → has_number task running ≡ true → IsTaskAt (finished is_root cause result task left) running
at-finished true cause result task left running t = tt
at-finished false cause result task left running t = t

at-leaves : (settles : Bool) (task : ℕ) (result : Option Outcome) (left running : List ℕ) → has_number task running ≡ false → IsTaskAt (leaves settles task result left) running
at-leaves true task result left running t = tt
at-leaves false task result left running t = t

at-ended : (settles : Bool) (p : Phase) (next : Option ℕ) (task : ℕ) (running : List ℕ) → AreOnce running → MayEnd p next task → IsTaskAt (ended settles p) (without_number task running)
at-ended settles (Ending other result left) next task running o m = at-leaves settles other result left (without_number task running) (rw (← m) (gone-without task running o))
at-ended settles (Closing cause) next task running o m = tt
at-ended settles _ next task running o m = absurd m

at-answered : (s : State) (task : ℕ) (kind : AnswerKind) → MayAnswer s task kind → AreTasks s → IsTaskAt (answered s task kind) (running_answered s.running task kind)
at-answered s task Pending m t = at-pending (is_flagged (find task s.marks)) task (left_of s.phase) s.running (let a = t.at in rw m at a)
at-answered s task Ready m t = at-finished (is_some_number task s.root) Completed There task (left_of s.phase) s.running (let a = t.at in rw m at a)
at-answered s task Panicked m t = at-finished (is_some_number task s.root) TaskPanicked Exited task (left_of s.phase) s.running (let a = t.at in rw m at a)
at-answered s task Stopped m t = tt
at-answered s task NoMemory m t = tt
at-answered s task Ended m t = at-ended (is_settled s task) s.phase (ends_next s.running s.root) task s.running t.once m

-- answers

once-answered : (running : List ℕ) (task : ℕ) (kind : AnswerKind) → AreOnce running → AreOnce (running_answered running task kind)
once-answered running task Ended o = once-without task running o
once-answered running task _ o = o

runs-answered : (running : List ℕ) (task : ℕ) (kind : AnswerKind) (k : ℕ) → has_number k (running_answered running task kind) ≡ true → has_number k running ≡ true
runs-answered running task Ended k h = without-has k task running h
runs-answered running task _ k h = h

has-ended : (settles : Bool) (task : ℕ) (ms : List (ℕ × Mark)) (k : ℕ) → is_some (find k (marks_ended settles task ms)) ≡ true → is_some (find k ms) ≡ true
has-ended true task ms k h = has-removed k task ms h
has-ended false task ms k h = h

has-answered : (s : State) (task : ℕ) (kind : AnswerKind) (k : ℕ) → is_some (find k (marks_answered s task kind)) ≡ true → is_some (find k s.marks) ≡ true
has-answered s task Pending k h = has-replaced k task (λ m. record m { left = true }) s.marks h
has-answered s task Ended k h = has-ended (is_settled s task) task s.marks k h
has-answered s task _ k h = h

told-ended : (p : Phase) (settles : Bool) (task : ℕ) (rs : List (ℕ × TaskResult)) (k : ℕ) → is_some (find k (results_ended p settles task rs)) ≡ true → is_some (find k rs) ≡ true
told-ended (Ending other (Some result) left) settles task rs k h = has-replaced k task (λ r. record r { outcome = result }) rs h
told-ended (Ending other None left) true task rs k h = has-replaced k task (λ r. record r { outcome = IsClosed }) rs h
told-ended (Ending other None left) false task rs k h = h
told-ended _ true task rs k h = has-replaced k task (λ r. record r { outcome = IsClosed }) rs h
told-ended _ false task rs k h = h

told-answered : (s : State) (task : ℕ) (kind : AnswerKind) (k : ℕ) → is_some (find k (results_answered s task kind)) ≡ true → is_some (find k s.stood.results) ≡ true
told-answered s task Ended k h = told-ended s.phase (is_settled s task) task s.stood.results k h
told-answered s task _ k h = h

-- ends of nodes

has-flagged : (ks : List ℕ) (ms : List (ℕ × Mark)) (k : ℕ) → is_some (find k (flag_all ks ms)) ≡ true → is_some (find k ms) ≡ true
has-flagged [] ms k h = h
has-flagged (other ∷ ks) ms k h = has-replaced k other flagged ms (has-flagged ks (flag other ms) k h)

has-unmarked : (who : Option ℕ) (ms : List (ℕ × Mark)) (k : ℕ) → is_some (find k (unmarked who ms)) ≡ true → is_some (find k ms) ≡ true
has-unmarked None ms k h = h
has-unmarked (Some task) ms k h = has-removed k task ms h

told-left : (p : Phase) (rs : List (ℕ × TaskResult)) (k : ℕ) → is_some (find k (results_left p rs)) ≡ true → is_some (find k rs) ≡ true
told-left (Leaving task None left) rs k h = has-replaced k task (λ r. record r { outcome = IsClosed }) rs h
told-left (Leaving task (Some result) left) rs k h = h
told-left _ rs k h = h

-- no number has two marks or results

none-marked : (s : State) → AreTasks s → is_some (find s.numbers.next s.marks) ≡ false
none-marked s t = elim (cases_Bool (is_some (find s.numbers.next s.marks))) [
  | inl h ↦ (let l = t.marked s.numbers.next h in absurd (omega arith))
  | inr h ↦ h
]

none-told : (s : State) → AreTasks s → is_some (find s.numbers.next s.stood.results) ≡ false
none-told s t = elim (cases_Bool (is_some (find s.numbers.next s.stood.results))) [
  | inl h ↦ (let l = t.told s.numbers.next h in absurd (omega arith))
  | inr h ↦ h
]

apart-called : (s : State) (call : Call) (reply : CallReply) → Answers s call reply → AreTasks s → AreApart (marks_called s.marks call reply)
apart-called s (Spawn node) (TaskAt task number) m t =
    let e = (spawn-answers s node task number m).1 in
    apart-add task (new_mark node) s.marks (rw e (none-marked s t)) t.marks
apart-called s (Abort task) Done m t = apart-replaced task flagged s.marks t.marks
apart-called s (AbortTask task) Done m t = apart-replaced task flagged s.marks t.marks
apart-called s _ _ m t = t.marks

results-called : (s : State) (by : Option ℕ) (call : Call) (reply : CallReply) → Answers s call reply → AreTasks s → AreApart (results_called s.stood.results by call reply)
results-called s by (Spawn node) (TaskAt task number) m t =
    let e = (spawn-answers s node task number m).1 in
    apart-add task new_result s.stood.results (rw e (none-told s t)) t.results
results-called s by (Abort task) Done m t = apart-replaced task (λ r. record r { aborted = true }) s.stood.results t.results
results-called s by (Join task) StillPending m t = apart-replaced task (λ r. record r { outcome = Open by }) s.stood.results t.results
results-called s by (Join task) IsReady m t = apart-replaced task (λ r. record r { outcome = IsClosed }) s.stood.results t.results
results-called s by (GiveUp task) Done m t = apart-removed task s.stood.results t.results
results-called s by _ _ m t = t.results

apart-ended : (settles : Bool) (task : ℕ) (ms : List (ℕ × Mark)) → AreApart ms → AreApart (marks_ended settles task ms)
apart-ended true task ms p = apart-removed task ms p
apart-ended false task ms p = p

apart-answered : (s : State) (task : ℕ) (kind : AnswerKind) → AreApart s.marks → AreApart (marks_answered s task kind)
apart-answered s task Pending p = apart-replaced task (λ m. record m { left = true }) s.marks p
apart-answered s task Ended p = apart-ended (is_settled s task) task s.marks p
apart-answered s task _ p = p

results-ended : (p : Phase) (settles : Bool) (task : ℕ) (rs : List (ℕ × TaskResult)) → AreApart rs → AreApart (results_ended p settles task rs)
results-ended (Ending other (Some result) left) settles task rs h = apart-replaced task (λ r. record r { outcome = result }) rs h
results-ended (Ending other None left) true task rs h = apart-replaced task (λ r. record r { outcome = IsClosed }) rs h
results-ended (Ending other None left) false task rs h = h
results-ended _ true task rs h = apart-replaced task (λ r. record r { outcome = IsClosed }) rs h
results-ended _ false task rs h = h

results-answered : (s : State) (task : ℕ) (kind : AnswerKind) → AreApart s.stood.results → AreApart (results_answered s task kind)
results-answered s task Ended h = results-ended s.phase (is_settled s task) task s.stood.results h
results-answered s task _ h = h

pub apart-flagged : (ks : List ℕ) (ms : List (ℕ × Mark)) → AreApart ms → AreApart (flag_all ks ms)
apart-flagged [] ms p = p
apart-flagged (other ∷ ks) ms p = apart-flagged ks (flag other ms) (apart-replaced other flagged ms p)

apart-unmarked : (who : Option ℕ) (ms : List (ℕ × Mark)) → AreApart ms → AreApart (unmarked who ms)
apart-unmarked None ms p = p
apart-unmarked (Some task) ms p = apart-removed task ms p

results-left : (p : Phase) (rs : List (ℕ × TaskResult)) → AreApart rs → AreApart (results_left p rs)
results-left (Leaving task None left) rs h = apart-replaced task (λ r. record r { outcome = IsClosed }) rs h
results-left (Leaving task (Some result) left) rs h = h
results-left _ rs h = h

-- the root is taken in

root-runs : (s : State) (task k : ℕ) → task ≡ s.numbers.next → AreTasks s → has_number k (with_number task s.running) ≡ true → k < task + 1
root-runs s task k e t h = elim (has-with k task s.running h) [
  | inl same ↦ omega arith
  | inr old ↦ (let l = t.runs k old in omega arith)
]

pub tasks-after : (s : State) (e : Entry) → May s e → AreTasks s → AreTasks (after s e)
unfolding after
tasks-after s (Start next now deadline cycle) m t = record { once = t.once; runs = t.runs; marked = t.marked; told = t.told; marks = t.marks; results = t.results; at = tt }
tasks-after s (CallEntry by call reply) m t = record {
  once = once-called s call reply m.1.1 t;
  runs = runs-called s call reply m.1.1 t;
  marked = marked-called s call reply m.1.1 t;
  told = told-called s by call reply m.1.1 t;
  marks = apart-called s call reply m.1.1 t;
  results = results-called s by call reply m.1.1 t;
  at = at-called s.phase s.root (ends_next s.running s.root) by s.running call reply m.1.0 t.at;
}
tasks-after s (Event label fields) m t = record { once = t.once; runs = t.runs; marked = t.marked; told = t.told; marks = t.marks; results = t.results; at = at-entered s s.phase s.running t.at }
tasks-after s (Root task) m t =
    let e = m.1.1 in
    record {
      once = once-with task s.running (rw e (none-next s t)) t.once;
      runs = λ k h. root-runs s task k e t h;
      marked = λ k h. (let l = t.marked k h in omega arith);
      told = λ k h. (let l = t.told k h in omega arith);
      marks = t.marks;
      results = t.results;
      at = tt;
    }
tasks-after s (Round order) m t = record { once = t.once; runs = t.runs; marked = t.marked; told = t.told; marks = t.marks; results = t.results; at = tt }
tasks-after s (Visit task) m t = record { once = t.once; runs = t.runs; marked = t.marked; told = t.told; marks = t.marks; results = t.results; at = from-runs s.running (left_of s.phase) (drop 1 (from_running s.running (left_of s.phase))) task m.1.1 }
tasks-after s (Answer task kind) m t = record {
  once = once-answered s.running task kind t.once;
  runs = λ k h. t.runs k (runs-answered s.running task kind k h);
  marked = λ k h. t.marked k (has-answered s task kind k h);
  told = λ k h. t.told k (told-answered s task kind k h);
  marks = apart-answered s task kind t.marks;
  results = results-answered s task kind t.results;
  at = at-answered s task kind m.1.0 t;
}
tasks-after s (NodeEnd node) m t = record {
  once = t.once;
  runs = t.runs;
  marked = λ k h. t.marked k (has-flagged (flagged_by s.stood.nodes node) s.marks k (has-unmarked (leaving s.phase) (flag_all (flagged_by s.stood.nodes node) s.marks) k h));
  told = λ k h. t.told k (told-left s.phase s.stood.results k h);
  marks = apart-unmarked (leaving s.phase) (flag_all (flagged_by s.stood.nodes node) s.marks) (apart-flagged (flagged_by s.stood.nodes node) s.marks t.marks);
  results = results-left s.phase s.stood.results t.results;
  at = at-node s.phase s.running t.at;
}
tasks-after s (Advance now) m t = record { once = t.once; runs = t.runs; marked = t.marked; told = t.told; marks = t.marks; results = t.results; at = tt }
tasks-after s Cleanup m t = record { once = t.once; runs = t.runs; marked = t.marked; told = t.told; marks = t.marks; results = t.results; at = at-cleans (is_ended s.stood.nodes 0) (reached s) s.running }
tasks-after s (Crash choices) m t = record { once = t.once; runs = t.runs; marked = t.marked; told = t.told; marks = t.marks; results = t.results; at = tt }
tasks-after s (Finish cause) m t = record { once = t.once; runs = t.runs; marked = t.marked; told = t.told; marks = t.marks; results = t.results; at = tt }
tasks-after s _ m t = record { once = t.once; runs = t.runs; marked = t.marked; told = t.told; marks = t.marks; results = t.results; at = t.at }

pub tasks-all : (s : State) (x : List Entry) → IsLawful s x → AreTasks s → AreTasks (after_all s x)
tasks-all s [] l t = t
tasks-all s (e ∷ x) l t = tasks-all (after s e) x l.1 (tasks-after s e l.0 t)

pub begun-tasks : (b : Begin) → AreTasks (begun b)
unfolding begun
begun-tasks b = record { once = tt; runs = λ k h. absurd (cc); marked = λ k h. absurd (cc); told = λ k h. absurd (cc); marks = tt; results = tt; at = tt }

pub run-tasks : (b : Begin) (x : List Entry) → IsLawful (begun b) x → AreTasks (after_all (begun b) x)
run-tasks b x l = tasks-all (begun b) x l (begun-tasks b)
