-- The nodes of a run, and whose task each is: a task on an ended node is flagged, and a flag has a cause.
use Rattle.rt_laws.proofs.Prelude.{◌≡◌, ◌<◌, ◌≤◌, ◌+◌, ◌⊎◌, inl, inr, ℕ, List, [], ◌∷◌, ◌++◌, filter, filter_map, Option, Some, None, is_some, Bool, true, false, not, ◌&&◌, ◌||◌, eqb, if◌then◌else◌, refl, sym, ap, ◌∙◌, arith, AllByRecursion, list_any, cases_Bool, Error, UnknownToken, Call, Child, CloseNode, Spawn, Abort, AbortTask, CallReply, Done, NodeAt, TaskAt, Closed, AnswerKind, Pending, Ended, Entry, CallEntry, Root, Answer, NodeEnd, NodeState, TreeRecord, first_record, is_known, is_live, is_ended, was_born_ended, task_on, links, subtree, stands_in, newly_ended, tasks_on, with_child, with_task, with_release, with_end, Begin, Mark, find, has_number, without, new_mark, flagged, flag, flag_all, leave, State, begun, after, after_all, is_settled, numbers_called, marks_called, marks_answered, marks_ended, nodes_called, nodes_answered, released, unflagged, flagged_by, leaving, unmarked, May, Answers, Unless, ChildAnswers, IsLawful, IsAbortOf}
use Rattle.rt_laws.proofs.Tasks.{AreTasks, AreApart, not-not, spawn-answers, find-removed, apart-flagged, tasks-after, begun-tasks}
use Rattle.rt_laws.proofs.Flags.{find-other}
use Rattle.rt_laws.proofs.Trees.{IsTree, unlike, known-live, known-on, known-new, ended-new, ended-changed, ended-end, ended-stays, flags-end, puts-keeps, release-keeps, task-new, task-put, task-other, task-release, tree-new, tree-changed, tree-same, ended-now, or-cases, or-left, or-right}

-- marks behind a change

-- a later mark of a task
abbrev pub IsLater : Mark → Mark → Type 0
IsLater m n = (n.node ≡ m.node) × (m.flagged ≡ true → n.flagged ≡ true)

abbrev pub Was : ℕ → List (ℕ × Mark) → Mark → Type 0
Was k ms n = (m : Mark) × (find k ms ≡ Some m) × IsLater m n

find-flag : (k other : ℕ) (ms : List (ℕ × Mark)) (n : Mark) → find k (flag other ms) ≡ Some n → Was k ms n
find-flag k other [] n h = absurd (cc)
find-flag k other (x ∷ ms) n h = elim (cases_Bool (eqb x.0 other)) [
  | inl e ↦ elim (cases_Bool (eqb x.0 k)) [
    | inl f ↦ (
        let same : x.0 ≡ other = grind arith in
        let g : eqb other k ≡ true = rw same at f in
        let z : Some (flagged x.1) ≡ Some n = rw (e, g) at h in
        let is : flagged x.1 ≡ n = cc in
        (x.1, rw f refl, (rw (← is) refl, λ y. rw (← is) refl)))
    | inr f ↦ (
        let same : x.0 ≡ other = grind arith in
        let g : eqb other k ≡ false = rw same at f in
        let z : find k ms ≡ Some n = rw (e, g) at h in
        (n, rw f z, (refl, λ y. y)))
  ]
  | inr e ↦ elim (cases_Bool (eqb x.0 k)) [
    | inl f ↦ (
        let z : Some x.1 ≡ Some n = rw (e, f) at h in
        (n, rw f z, (refl, λ y. y)))
    | inr f ↦ (let more = find-flag k other ms n (rw (e, f) at h) in (more.0, rw f more.1, more.2))
  ]
]

find-leave : (k other : ℕ) (ms : List (ℕ × Mark)) (n : Mark) → find k (leave other ms) ≡ Some n → (m : Mark) × (find k ms ≡ Some m) × (n.node ≡ m.node) × (n.flagged ≡ m.flagged)
find-leave k other [] n h = absurd (cc)
find-leave k other (x ∷ ms) n h = elim (cases_Bool (eqb x.0 other)) [
  | inl e ↦ elim (cases_Bool (eqb x.0 k)) [
    | inl f ↦ (
        let same : x.0 ≡ other = grind arith in
        let g : eqb other k ≡ true = rw same at f in
        let z : Some (record x.1 { left = true }) ≡ Some n = rw (e, g) at h in
        let is : record x.1 { left = true } ≡ n = cc in
        (x.1, rw f refl, rw (← is) refl, rw (← is) refl))
    | inr f ↦ (
        let same : x.0 ≡ other = grind arith in
        let g : eqb other k ≡ false = rw same at f in
        let z : find k ms ≡ Some n = rw (e, g) at h in
        (n, rw f z, refl, refl))
  ]
  | inr e ↦ elim (cases_Bool (eqb x.0 k)) [
    | inl f ↦ (
        let z : Some x.1 ≡ Some n = rw (e, f) at h in
        (n, rw f z, refl, refl))
    | inr f ↦ (let more = find-leave k other ms n (rw (e, f) at h) in (more.0, rw f more.1, more.2, more.3))
  ]
]

find-add : (k other : ℕ) (a : Mark) (ms : List (ℕ × Mark)) (n : Mark) → find k (ms ++ (other, a) ∷ []) ≡ Some n → (find k ms ≡ Some n) ⊎ ((k ≡ other) × (a ≡ n))
find-add k other a [] n h = elim (cases_Bool (eqb other k)) [
  | inl e ↦ (let z : Some a ≡ Some n = rw e at h in inr (grind arith, cc))
  | inr e ↦ (let z : None ≡ Some n = rw e at h in absurd (cc))
]
find-add k other a (x ∷ ms) n h = elim (cases_Bool (eqb x.0 k)) [
  | inl e ↦ inl (rw e (rw e at h))
  | inr e ↦ elim (find-add k other a ms n (rw e at h)) [ inl z ↦ inl (rw e z) | inr z ↦ inr z ]
]

find-without : (k other : ℕ) (ms : List (ℕ × Mark)) (n : Mark) → AreApart ms → find k (without other ms) ≡ Some n → find k ms ≡ Some n
find-without k other ms n p h = elim (cases_Bool (eqb other k)) [
  | inl e ↦ (
      let same : other ≡ k = grind arith in
      let gone : is_some (find k (without k ms)) ≡ false = find-removed k ms p in
      let found : find k (without k ms) ≡ Some n = rw same at h in
      absurd (cc))
  | inr e ↦ (let z : find k ms ≡ Some n = rw (find-other k other ms e) at h in z)
]

later : (a b c : Mark) → IsLater a b → IsLater b c → IsLater a c
later a b c h k = (k.0 ∙ h.0, λ f. k.1 (h.1 f))

pub find-all : (ks : List ℕ) (k : ℕ) (ms : List (ℕ × Mark)) (n : Mark) → find k (flag_all ks ms) ≡ Some n → Was k ms n
find-all [] k ms n h = (n, h, (refl, λ y. y))
find-all (other ∷ ks) k ms n h =
    let mid = find-all ks k (flag other ms) n h in
    let first = find-flag k other ms mid.0 mid.1 in
    (first.0, first.1, later first.0 mid.0 n first.2 mid.2)

-- those that are named are flagged
flag-here : (k : ℕ) (ms : List (ℕ × Mark)) (n : Mark) → find k (flag k ms) ≡ Some n → n.flagged ≡ true
flag-here k [] n h = absurd (cc)
flag-here k (x ∷ ms) n h = elim (cases_Bool (eqb x.0 k)) [
  | inl e ↦ (
      let self : eqb k k ≡ true = grind arith in
      let z : Some (flagged x.1) ≡ Some n = rw (e, self) at h in
      let is : flagged x.1 ≡ n = cc in
      rw (← is) refl)
  | inr e ↦ flag-here k ms n (rw (e, e) at h)
]

flag-at : (k other : ℕ) (ms : List (ℕ × Mark)) (n : Mark) → eqb other k ≡ true → find k (flag other ms) ≡ Some n → n.flagged ≡ true
flag-at k other ms n e h = let same : other ≡ k = grind arith in flag-here k ms n (rw same at h)

all-flagged : (ks : List ℕ) (k : ℕ) (ms : List (ℕ × Mark)) (n : Mark) → has_number k ks ≡ true → find k (flag_all ks ms) ≡ Some n → n.flagged ≡ true
all-flagged [] k ms n h f = absurd (cc)
all-flagged (other ∷ ks) k ms n h f = elim (cases_Bool (eqb other k)) [
  | inl e ↦ (
      let mid = find-all ks k (flag other ms) n f in
      mid.2.1 (flag-at k other ms mid.0 e mid.1))
  | inr e ↦ all-flagged ks k (flag other ms) n (rw e at h) f
]

-- and only those
flag-named : (k other : ℕ) (ms : List (ℕ × Mark)) (n : Mark) → find k (flag other ms) ≡ Some n → (k ≡ other) ⊎ (find k ms ≡ Some n)
flag-named k other [] n h = absurd (cc)
flag-named k other (x ∷ ms) n h = elim (cases_Bool (eqb x.0 other)) [
  | inl e ↦ elim (cases_Bool (eqb x.0 k)) [
    | inl f ↦ inl (grind arith)
    | inr f ↦ (
        let same : x.0 ≡ other = grind arith in
        let g : eqb other k ≡ false = rw same at f in
        inr (rw f (rw (e, g) at h)))
  ]
  | inr e ↦ elim (cases_Bool (eqb x.0 k)) [
    | inl f ↦ inr (rw f (rw (e, f) at h))
    | inr f ↦ elim (flag-named k other ms n (rw (e, f) at h)) [ inl z ↦ inl z | inr z ↦ inr (rw f z) ]
  ]
]

all-named : (ks : List ℕ) (k : ℕ) (ms : List (ℕ × Mark)) (n : Mark) → find k (flag_all ks ms) ≡ Some n → (has_number k ks ≡ true) ⊎ (find k ms ≡ Some n)
all-named [] k ms n h = inr h
all-named (other ∷ ks) k ms n h = elim (all-named ks k (flag other ms) n h) [
  | inl z ↦ inl (or-right (eqb other k) (has_number k ks) z)
  | inr z ↦ elim (flag-named k other ms n z) [
    | inl e ↦ inl (or-left (eqb other k) (has_number k ks) (grind arith))
    | inr f ↦ inr f
  ]
]

-- answers of calls that make nodes

unless-node : (refuses : Bool) (error : Error) (otherwise : CallReply → Type 0) (number : ℕ) (ended : Bool) → Unless refuses error otherwise (NodeAt number ended) → (refuses ≡ false) × otherwise (NodeAt number ended)
unless-node true error otherwise number ended m = absurd m
unless-node false error otherwise number ended m = (refl, m)

pub child-answers : (s : State) (node number : ℕ) (label : List ℕ) (ended : Bool) → Answers s (Child node label) (NodeAt number ended) → (is_live s.stood.nodes node ≡ true) × (is_known s.stood.nodes number ≡ false) × (ended ≡ is_ended s.stood.nodes node)
child-answers s node number label ended m =
    let k = unless-node (not (is_live s.stood.nodes node)) UnknownToken (ChildAnswers s node label) number ended m in
    (not-not (is_live s.stood.nodes node) k.0, k.1.1, k.1.2)

free-parts : (a b : Bool) → (a && not b) ≡ true → (a ≡ true) × (b ≡ false)
free-parts true false h = (refl, refl)
free-parts true true h = absurd (cc)
free-parts false b h = absurd (cc)

-- a child of a live node

or-none : (a b : Bool) → (a || b) ≡ false → a ≡ false
or-none true b h = absurd (cc)
or-none false b h = refl

parent-fits : (r : TreeRecord) (node p : ℕ) (ended : Bool) → is_ended r node ≡ ended → is_known r node ≡ true → (if ended then None else Some node) ≡ Some p → (is_known r p ≡ true) × (was_born_ended r p ≡ false)
parent-fits r node p true e k h = absurd (cc)
parent-fits r node p false e k h =
    let same : node ≡ p = cc in
    let born : was_born_ended r node ≡ false = or-none (was_born_ended r node) (list_any (λ e. stands_in (subtree (links r) e) node) r.ends) e in
    (rw same at k, rw same at born)

pub tree-child : (r : TreeRecord) (number node : ℕ) → is_known r number ≡ false → is_known r node ≡ true → IsTree r → IsTree (with_child r number node)
tree-child r number node u k t = tree-new r number (if is_ended r node then None else Some node) (is_ended r node) u t (λ p e. parent-fits r node p (is_ended r node) refl k e)

pub ended-child : (r : TreeRecord) (number node j : ℕ) → eqb number j ≡ false → is_ended (with_child r number node) j ≡ is_ended r j
ended-child r number node j e = ended-new r number (if is_ended r node then None else Some node) (is_ended r node) j e

task-child : (r : TreeRecord) (number node j : ℕ) → is_known r number ≡ false → task_on (with_child r number node) j ≡ task_on r j
task-child r number node j u = task-new r number (if is_ended r node then None else Some node) (is_ended r node) j u

pub ended-release : (r : TreeRecord) (node j : ℕ) → is_ended (with_release r node) j ≡ is_ended r j
ended-release r node j = ended-changed (λ (x : NodeState). record x { live = false }) release-keeps node r j

pub ended-put : (r : TreeRecord) (node task j : ℕ) → is_ended (with_task r node task) j ≡ is_ended r j
ended-put r node task j = ended-changed (λ (x : NodeState). record x { task = Some task }) (puts-keeps task) node r j

free-node : (r : TreeRecord) (node j k : ℕ) → task_on r node ≡ None → task_on r j ≡ Some k → eqb node j ≡ false
free-node r node j k n h = elim (cases_Bool (eqb node j)) [
  | inl e ↦ (let same : node ≡ j = grind arith in let z : task_on r j ≡ None = rw same at n in absurd (cc))
  | inr e ↦ e
]

put-below : (r : TreeRecord) (node next j i : ℕ) → is_known r node ≡ true → ((j k : ℕ) → task_on r j ≡ Some k → k < next) → task_on (with_task r node next) j ≡ Some i → i < next + 1
put-below r node next j i k below h = elim (cases_Bool (eqb node j)) [
  | inl e ↦ (
      let same : node ≡ j = grind arith in
      let here : task_on (with_task r node next) j ≡ Some next = ap (λ z. task_on (with_task r node next) z) (sym same) ∙ task-put r node next k in
      let is : next ≡ i = cc in
      omega arith)
  | inr e ↦ (let l = below j i (sym (task-other r node next j e) ∙ h) in omega arith)
]

put-own : (r : TreeRecord) (node next j i : ℕ) (m : Mark) → is_known r node ≡ true → eqb node m.node ≡ false → task_on (with_task r node next) j ≡ Some i → task_on r m.node ≡ Some i → (task_on r j ≡ Some i → m.node ≡ j) → ((j k : ℕ) → task_on r j ≡ Some k → k < next) → m.node ≡ j
put-own r node next j i m k apart h on own below = elim (cases_Bool (eqb node j)) [
  | inl e ↦ (
      let same : node ≡ j = grind arith in
      let here : task_on (with_task r node next) j ≡ Some next = ap (λ z. task_on (with_task r node next) z) (sym same) ∙ task-put r node next k in
      let is : next ≡ i = cc in
      let l = below m.node i on in
      absurd (omega arith))
  | inr e ↦ own (sym (task-other r node next j e) ∙ h)
]

put-new : (r : TreeRecord) (node next j i : ℕ) (m : Mark) → is_known r node ≡ true → i ≡ next → new_mark node ≡ m → task_on (with_task r node next) j ≡ Some i → ((j k : ℕ) → task_on r j ≡ Some k → k < next) → m.node ≡ j
put-new r node next j i m k is new h below = elim (cases_Bool (eqb node j)) [
  | inl e ↦ (let same : node ≡ j = grind arith in rw (← new) same)
  | inr e ↦ (let l = below j i (sym (task-other r node next j e) ∙ h) in absurd (omega arith))
]

-- the end of a node

pub end-nodes : (r : TreeRecord) (n : ℕ) → (unflagged (with_end r n)).nodes ≡ r.nodes
end-nodes r n = elim (cases_Bool (is_known r n)) [ inl k ↦ rw k refl | inr k ↦ rw k refl ]

task-end : (r : TreeRecord) (n j : ℕ) → task_on (unflagged (with_end r n)) j ≡ task_on r j
task-end r n j = rw (end-nodes r n) refl

if-flags : (b : Bool) (q r : TreeRecord) → b ≡ true → (if b then q else r).flags ≡ q.flags
if-flags true q r h = refl
if-flags false q r h = absurd (cc)

else-flags : (b : Bool) (q r : TreeRecord) → b ≡ false → (if b then q else r).flags ≡ r.flags
else-flags true q r h = absurd (cc)
else-flags false q r h = refl

pub ended-at : (r : TreeRecord) (i j : ℕ) → i ≡ j → is_ended r i ≡ true → is_ended r j ≡ true
ended-at r i j e h = sym (ap (is_ended r) e) ∙ h

end-flags : (r : TreeRecord) (n : ℕ) → r.flags ≡ [] → is_known r n ≡ true → flagged_by r n ≡ tasks_on r (newly_ended r n)
end-flags r n e k =
    if-flags (is_known r n) (record { nodes = r.nodes; ends = r.ends ++ n ∷ []; flags = r.flags ++ tasks_on r (newly_ended r n) }) r k
    ∙ ap (λ (flags : List ℕ). flags ++ tasks_on r (newly_ended r n)) e

no-end-flags : (r : TreeRecord) (n : ℕ) → r.flags ≡ [] → is_known r n ≡ false → flagged_by r n ≡ []
no-end-flags r n e k =
    else-flags (is_known r n) (record { nodes = r.nodes; ends = r.ends ++ n ∷ []; flags = r.flags ++ tasks_on r (newly_ended r n) }) r k ∙ e

-- whom a list of nodes names
abbrev Comes : (ℕ → Option ℕ) → List ℕ → ℕ → Type 0
Comes task xs k = (j : ℕ) × (stands_in xs j ≡ true) × (task j ≡ Some k)

comes-more : (task : ℕ → Option ℕ) (x : ℕ) (xs : List ℕ) (k : ℕ) → Comes task xs k → Comes task (x ∷ xs) k
comes-more task x xs k c = (c.0, or-right (eqb x c.0) (stands_in xs c.0) c.1, c.2)

comes-from : (task : ℕ → Option ℕ) (keep : ℕ → Bool) (xs : List ℕ) (k : ℕ) → has_number k (filter_map task (filter keep xs)) ≡ true → Comes task xs k
comes-from task keep [] k h = absurd (cc)
comes-from task keep (x ∷ xs) k h = by (keep x) refl (task x) refl (λ z. comes-from task keep xs k z)
  where
    by : (b : Bool) → keep x ≡ b → (o : Option ℕ) → task x ≡ o → (has_number k (filter_map task (filter keep xs)) ≡ true → Comes task xs k) → Comes task (x ∷ xs) k
    by false e o f more = comes-more task x xs k (more (rw e at h))
    by true e None f more = comes-more task x xs k (more (rw (e, f) at h))
    by true e (Some other) f more =
        let z : (eqb other k || has_number k (filter_map task (filter keep xs))) ≡ true = rw (e, f) at h in
        elim (or-cases (eqb other k) (has_number k (filter_map task (filter keep xs))) z) [
          | inl c ↦ (let same : other ≡ k = grind arith in (x, or-left (eqb x x) (stands_in xs x) (grind arith), rw (← same) f))
          | inr c ↦ comes-more task x xs k (more c)
        ]

-- the nodes of a state: whose each is, and why a task is flagged
module _ (N : ℕ → Type 0) where
  pub record AreNodes (nodes : TreeRecord) (ms : List (ℕ × Mark)) (next : ℕ) : Type 0 where
    pub tree : IsTree nodes
    pub flags : nodes.flags ≡ []
    pub on : (k : ℕ) (m : Mark) → find k ms ≡ Some m → task_on nodes m.node ≡ Some k
    pub below : (j k : ℕ) → task_on nodes j ≡ Some k → k < next
    pub own : (j k : ℕ) (m : Mark) → task_on nodes j ≡ Some k → find k ms ≡ Some m → m.node ≡ j
    pub ended : (k : ℕ) (m : Mark) → find k ms ≡ Some m → is_ended nodes m.node ≡ true → m.flagged ≡ true
    pub caused : (k : ℕ) (m : Mark) → find k ms ≡ Some m → m.flagged ≡ true → N k ⊎ (is_ended nodes m.node ≡ true)

  abbrev pub AreNodesOf : State → Type 0
  AreNodesOf s = AreNodes s.stood.nodes s.marks s.numbers.next

  -- a node more
  nodes-child : (r : TreeRecord) (ms : List (ℕ × Mark)) (next number node : ℕ) → is_known r number ≡ false → is_known r node ≡ true → AreNodes r ms next → AreNodes (with_child r number node) ms next
  nodes-child r ms next number node u k a =
      let known : (i : ℕ) (m : Mark) → find i ms ≡ Some m → eqb number m.node ≡ false = λ i m f. unlike r number m.node u (known-on r m.node i (a.on i m f)) in
      record {
        tree = tree-child r number node u k a.tree;
        flags = a.flags;
        on = λ i m f. task-child r number node m.node u ∙ a.on i m f;
        below = λ j i h. a.below j i (sym (task-child r number node j u) ∙ h);
        own = λ j i m h f. a.own j i m (sym (task-child r number node j u) ∙ h) f;
        ended = λ i m f e. a.ended i m f (sym (ended-child r number node m.node (known i m f)) ∙ e);
        caused = λ i m f g. elim (a.caused i m f g) [ inl n ↦ inl n | inr e ↦ inr (ended-child r number node m.node (known i m f) ∙ e) ];
      }

  -- a node released
  nodes-release : (r : TreeRecord) (ms : List (ℕ × Mark)) (next node : ℕ) → AreNodes r ms next → AreNodes (with_release r node) ms next
  nodes-release r ms next node a = record {
    tree = tree-changed (λ (x : NodeState). record x { live = false }) release-keeps node r a.tree;
    flags = a.flags;
    on = λ i m f. task-release r node m.node ∙ a.on i m f;
    below = λ j i h. a.below j i (sym (task-release r node j) ∙ h);
    own = λ j i m h f. a.own j i m (sym (task-release r node j) ∙ h) f;
    ended = λ i m f e. a.ended i m f (sym (ended-release r node m.node) ∙ e);
    caused = λ i m f g. elim (a.caused i m f g) [ inl n ↦ inl n | inr e ↦ inr (ended-release r node m.node ∙ e) ];
  }

  -- a task put on a node that has none
  nodes-task : (r : TreeRecord) (ms : List (ℕ × Mark)) (next node : ℕ) → is_known r node ≡ true → task_on r node ≡ None → is_ended r node ≡ false → AreNodes r ms next → AreNodes (with_task r node next) (ms ++ (next, new_mark node) ∷ []) (next + 1)
  nodes-task r ms next node k none live a =
      let apart : (i : ℕ) (m : Mark) → find i ms ≡ Some m → eqb node m.node ≡ false = λ i m f. free-node r node m.node i none (a.on i m f) in
      record {
        tree = tree-changed (λ (x : NodeState). record x { task = Some next }) (puts-keeps next) node r a.tree;
        flags = a.flags;
        on = λ i m f. elim (find-add i next (new_mark node) ms m f) [
          | inl old ↦ task-other r node next m.node (apart i m old) ∙ a.on i m old
          | inr new ↦ rw (← new.1, new.0) (task-put r node next k)
        ];
        below = λ j i h. put-below r node next j i k a.below h;
        own = λ j i m h f. elim (find-add i next (new_mark node) ms m f) [
          | inl old ↦ put-own r node next j i m k (apart i m old) h (a.on i m old) (λ g. a.own j i m g old) a.below
          | inr new ↦ put-new r node next j i m k new.0 new.1 h a.below
        ];
        ended = λ i m f e. elim (find-add i next (new_mark node) ms m f) [
          | inl old ↦ a.ended i m old (sym (ended-put r node next m.node) ∙ e)
          | inr new ↦ (let z : is_ended r node ≡ true = ap (λ (m : Mark). is_ended r m.node) new.1 ∙ (sym (ended-put r node next m.node) ∙ e) in absurd (cc))
        ];
        caused = λ i m f g. elim (find-add i next (new_mark node) ms m f) [
          | inl old ↦ elim (a.caused i m old g) [ inl n ↦ inl n | inr e ↦ inr (ended-put r node next m.node ∙ e) ]
          | inr new ↦ (let z : false ≡ true = rw (← new.1) at g in absurd (cc))
        ];
      }

  -- a task flagged
  nodes-flag : (r : TreeRecord) (ms : List (ℕ × Mark)) (next task : ℕ) → N task → AreNodes r ms next → AreNodes r (flag task ms) next
  nodes-flag r ms next task named a = record {
    tree = a.tree;
    flags = a.flags;
    on = λ i m f. (let w = find-flag i task ms m f in rw w.2.0 (a.on i w.0 w.1));
    below = a.below;
    own = λ j i m h f. (let w = find-flag i task ms m f in w.2.0 ∙ a.own j i w.0 h w.1);
    ended = λ i m f e. (let w = find-flag i task ms m f in w.2.1 (a.ended i w.0 w.1 (ended-at r m.node w.0.node w.2.0 e)));
    caused = λ i m f g. elim (flag-named i task ms m f) [ inl same ↦ inl (rw same named) | inr old ↦ a.caused i m old g ];
  }

  -- a task left
  nodes-leave : (r : TreeRecord) (ms : List (ℕ × Mark)) (next task : ℕ) → AreNodes r ms next → AreNodes r (leave task ms) next
  nodes-leave r ms next task a = record {
    tree = a.tree;
    flags = a.flags;
    on = λ i m f. (let w = find-leave i task ms m f in rw w.2 (a.on i w.0 w.1));
    below = a.below;
    own = λ j i m h f. (let w = find-leave i task ms m f in w.2 ∙ a.own j i w.0 h w.1);
    ended = λ i m f e. (let w = find-leave i task ms m f in w.3 ∙ a.ended i w.0 w.1 (ended-at r m.node w.0.node w.2 e));
    caused = λ i m f g. (let w = find-leave i task ms m f in elim (a.caused i w.0 w.1 (sym w.3 ∙ g)) [ inl n ↦ inl n | inr e ↦ inr (ended-at r w.0.node m.node (sym w.2) e) ]);
  }

  -- a mark taken away
  nodes-without : (r : TreeRecord) (ms : List (ℕ × Mark)) (next task : ℕ) → AreApart ms → AreNodes r ms next → AreNodes r (without task ms) next
  nodes-without r ms next task p a = record {
    tree = a.tree;
    flags = a.flags;
    on = λ i m f. a.on i m (find-without i task ms m p f);
    below = a.below;
    own = λ j i m h f. a.own j i m h (find-without i task ms m p f);
    ended = λ i m f e. a.ended i m (find-without i task ms m p f) e;
    caused = λ i m f g. a.caused i m (find-without i task ms m p f) g;
  }

  -- a number given
  nodes-next : (r : TreeRecord) (ms : List (ℕ × Mark)) (next later : ℕ) → next ≤ later → AreNodes r ms next → AreNodes r ms later
  nodes-next r ms next later l a = record {
    tree = a.tree;
    flags = a.flags;
    on = a.on;
    below = λ j i h. (let b = a.below j i h in omega arith);
    own = a.own;
    ended = a.ended;
    caused = a.caused;
  }

  -- a node ended
  end-flagged : (r : TreeRecord) (ms : List (ℕ × Mark)) (next n i : ℕ) (m w : Mark) → AreNodes r ms next → find i ms ≡ Some w → IsLater w m → find i (flag_all (flagged_by r n) ms) ≡ Some m → is_ended (with_end r n) m.node ≡ true → m.flagged ≡ true
  end-flagged r ms next n i m w a old l f e = elim (ended-end r n m.node e) [
    | inl z ↦ l.1 (a.ended i w old (ended-at r m.node w.node l.0 z))
    | inr z ↦ elim (cases_Bool (is_ended r m.node)) [
      | inl y ↦ l.1 (a.ended i w old (ended-at r m.node w.node l.0 y))
      | inr y ↦ (
          let on : task_on r m.node ≡ Some i = rw l.0 (a.on i w old) in
          let has = flags-end r n m.node i z.0 z.1 y on in
          all-flagged (flagged_by r n) i ms m (rw (end-flags r n a.flags z.0) has) f)
    ]
  ]

  end-caused : (r : TreeRecord) (ms : List (ℕ × Mark)) (next n i : ℕ) (m w : Mark) → AreNodes r ms next → find i ms ≡ Some w → IsLater w m → find i (flag_all (flagged_by r n) ms) ≡ Some m → m.flagged ≡ true → N i ⊎ (is_ended (with_end r n) m.node ≡ true)
  end-caused r ms next n i m w a old l f g = elim (all-named (flagged_by r n) i ms m f) [
    | inl has ↦ elim (cases_Bool (is_known r n)) [
      | inl k ↦ (
          let named : has_number i (tasks_on r (newly_ended r n)) ≡ true = rw (end-flags r n a.flags k) at has in
          let c = comes-from (task_on r) (λ m. not (is_ended r m)) (subtree (links r) n) i named in
          let at : w.node ≡ c.0 = a.own c.0 i w c.2 old in
          inr (ended-at (with_end r n) c.0 m.node (sym (l.0 ∙ at)) (ended-now r n c.0 k c.1)))
      | inr k ↦ (let none : has_number i [] ≡ true = rw (no-end-flags r n a.flags k) at has in absurd (cc))
    ]
    | inr same ↦ elim (a.caused i m same g) [ inl z ↦ inl z | inr z ↦ inr (ended-stays r n m.node z) ]
  ]

  pub nodes-end : (r : TreeRecord) (ms : List (ℕ × Mark)) (next n : ℕ) → AreNodes r ms next → AreNodes (unflagged (with_end r n)) (flag_all (flagged_by r n) ms) next
  nodes-end r ms next n a = record {
    tree = tree-same r (unflagged (with_end r n)) (end-nodes r n) a.tree;
    flags = refl;
    on = λ i m f. (let w = find-all (flagged_by r n) i ms m f in task-end r n m.node ∙ rw w.2.0 (a.on i w.0 w.1));
    below = λ j i h. a.below j i (sym (task-end r n j) ∙ h);
    own = λ j i m h f. (let w = find-all (flagged_by r n) i ms m f in w.2.0 ∙ a.own j i w.0 (sym (task-end r n j) ∙ h) w.1);
    ended = λ i m f e. (let w = find-all (flagged_by r n) i ms m f in end-flagged r ms next n i m w.0 a w.1 w.2 f e);
    caused = λ i m f g. (let w = find-all (flagged_by r n) i ms m f in end-caused r ms next n i m w.0 a w.1 w.2 f g);
  }

  -- entries

  no-task : (o : Option ℕ) → is_some o ≡ false → o ≡ None
  no-task None h = refl
  no-task (Some k) h = absurd (cc)

  nodes-spawn : (s : State) (node task number : ℕ) → Answers s (Spawn node) (TaskAt task number) → AreNodesOf s → AreNodes (with_task (with_child s.stood.nodes number node) node task) (s.marks ++ (task, new_mark node) ∷ []) (task + 1)
  nodes-spawn s node task number m a =
      let h = spawn-answers s node task number m in
      let free = free-parts (is_live s.stood.nodes node) (is_some (task_on s.stood.nodes node)) h.0 in
      let known = known-live s.stood.nodes node free.0 in
      let apart = unlike s.stood.nodes number node h.3 known in
      let q = with_child s.stood.nodes number node in
      let k : is_known q node ≡ true = known-new s.stood.nodes number (if is_ended s.stood.nodes node then None else Some node) (is_ended s.stood.nodes node) h.3 node known in
      let none : task_on q node ≡ None = task-child s.stood.nodes number node node h.3 ∙ no-task (task_on s.stood.nodes node) free.1 in
      let live : is_ended q node ≡ false = ended-child s.stood.nodes number node node apart ∙ h.2 in
      rw h.1 (nodes-task q s.marks s.numbers.next node k none live (nodes-child s.stood.nodes s.marks s.numbers.next number node h.3 known a))

  nodes-called-so : (s : State) (by : Option ℕ) (call : Call) (reply : CallReply) → Answers s call reply → ((k : ℕ) → IsAbortOf k (CallEntry by call reply) → N k) → AreNodesOf s → AreNodes (nodes_called s.stood.nodes call reply) (marks_called s.marks call reply) (numbers_called s.numbers call reply).next
  nodes-called-so s by (Child node label) (NodeAt number ended) m n a =
      let h = child-answers s node number label ended m in
      nodes-child s.stood.nodes s.marks s.numbers.next number node h.1 (known-live s.stood.nodes node h.0) a
  nodes-called-so s by (CloseNode node) Done m n a = nodes-release s.stood.nodes s.marks s.numbers.next node a
  nodes-called-so s by (Spawn node) (TaskAt task number) m n a = nodes-spawn s node task number m a
  nodes-called-so s by (Spawn node) Closed m n a = nodes-release s.stood.nodes s.marks s.numbers.next node a
  nodes-called-so s by (Abort task) Done m n a = nodes-flag s.stood.nodes s.marks s.numbers.next task (n task refl) a
  nodes-called-so s by (AbortTask task) Done m n a = nodes-flag s.stood.nodes s.marks s.numbers.next task (n task refl) a
  nodes-called-so s by _ _ m n a = a

  nodes-released : (r : TreeRecord) (ms : List (ℕ × Mark)) (next : ℕ) (m : Option Mark) → AreNodes r ms next → AreNodes (released m r) ms next
  nodes-released r ms next None a = a
  nodes-released r ms next (Some m) a = nodes-release r ms next m.node a

  nodes-ended : (r : TreeRecord) (ms : List (ℕ × Mark)) (next task : ℕ) (settles : Bool) → AreApart ms → AreNodes r ms next → AreNodes r (marks_ended settles task ms) next
  nodes-ended r ms next task true p a = nodes-without r ms next task p a
  nodes-ended r ms next task false p a = a

  nodes-answered-so : (s : State) (task : ℕ) (kind : AnswerKind) → AreTasks s → AreNodesOf s → AreNodes (nodes_answered s.stood.nodes (find task s.marks) kind) (marks_answered s task kind) s.numbers.next
  nodes-answered-so s task Pending t a = nodes-leave s.stood.nodes s.marks s.numbers.next task a
  nodes-answered-so s task Ended t a =
      nodes-ended (released (find task s.marks) s.stood.nodes) s.marks s.numbers.next task (is_settled s task) t.marks (nodes-released s.stood.nodes s.marks s.numbers.next (find task s.marks) a)
  nodes-answered-so s task _ t a = a

  nodes-unmarked : (r : TreeRecord) (ms : List (ℕ × Mark)) (next : ℕ) (who : Option ℕ) → AreApart ms → AreNodes r ms next → AreNodes r (unmarked who ms) next
  nodes-unmarked r ms next None p a = a
  nodes-unmarked r ms next (Some task) p a = nodes-without r ms next task p a

  pub nodes-after-entry : (s : State) (e : Entry) → May s e → AreTasks s → ((k : ℕ) → IsAbortOf k e → N k) → AreNodesOf s → AreNodesOf (after s e)
  unfolding after
  nodes-after-entry s (CallEntry by call reply) m t n a = nodes-called-so s by call reply m.1.1 n a
  nodes-after-entry s (Root task) m t n a = let e = m.1.1 in nodes-next s.stood.nodes s.marks s.numbers.next (task + 1) (omega arith) a
  nodes-after-entry s (Answer task kind) m t n a = nodes-answered-so s task kind t a
  nodes-after-entry s (NodeEnd node) m t n a =
      nodes-unmarked (unflagged (with_end s.stood.nodes node)) (flag_all (flagged_by s.stood.nodes node) s.marks) s.numbers.next (leaving s.phase) (apart-flagged (flagged_by s.stood.nodes node) s.marks t.marks) (nodes-end s.stood.nodes s.marks s.numbers.next node a)
  nodes-after-entry s _ m t n a = a

  abbrev pub AreNamed : List Entry → Type 0
  AreNamed x = AllByRecursion (λ (e : Entry). (k : ℕ) → IsAbortOf k e → N k) x

  pub nodes-all : (s : State) (x : List Entry) → IsLawful s x → AreTasks s → AreNamed x → AreNodesOf s → AreNodesOf (after_all s x)
  nodes-all s [] l t n a = a
  nodes-all s (e ∷ x) l t n a = nodes-all (after s e) x l.1 (tasks-after s e l.0 t) n.1 (nodes-after-entry s e l.0 t n.0 a)

  pub begun-nodes : (b : Begin) → AreNodesOf (begun b)
  unfolding begun
  begun-nodes b = record {
    tree = record { older = ((λ p e. absurd (cc)), tt); children = ((λ p e. absurd (cc)), tt) };
    flags = refl;
    on = λ k m f. absurd (cc);
    below = λ j k h. absurd (none-first j k h);
    own = λ j k m h f. absurd (cc);
    ended = λ k m f e. absurd (cc);
    caused = λ k m f g. absurd (cc);
  }
    where
      none-first : (j k : ℕ) → task_on first_record j ≡ Some k → ⊥
      none-first j k h = elim (cases_Bool (eqb 0 j)) [
        | inl e ↦ (let z : None ≡ Some k = rw e at h in cc)
        | inr e ↦ (let z : None ≡ Some k = rw e at h in cc)
      ]

  pub run-nodes : (b : Begin) (x : List Entry) → IsLawful (begun b) x → AreNamed x → AreNodesOf (after_all (begun b) x)
  run-nodes b x l n = nodes-all (begun b) x l (begun-tasks b) n (begun-nodes b)
