-- Below an ended node: nobody is polled there, and who is born there is ended.
use Rattle.rt_laws.proofs.Prelude.{◌≡◌, ◌⊎◌, inl, inr, ℕ, zero, suc, List, [], ◌∷◌, ◌++◌, Option, Some, None, is_some, option_map, Bool, true, false, ◌&&◌, eqb, if◌then◌else◌, refl, sym, ap, ◌∙◌, arith, Contains, Contains-append_right, Call, Child, CloseNode, Spawn, CallReply, Done, NodeAt, TaskAt, Closed, AnswerKind, Ended, FinishCause, Entry, CallEntry, Event, Wake, Answer, NodeEnd, NodeState, TreeRecord, is_known, is_ended, links, nodes_below, stands_in, with_child, with_task, with_release, with_end, Begin, Mark, Outcome, find, is_some_number, is_flagged, flagged, flag, flag_all, State, Phase, Entered, Ending, Leaving, Closing, begun, ends_next, after, after_all, is_settled, nodes_called, nodes_answered, released, unflagged, flagged_by, entered, entered_by, May, MayEnd, MayEndNode, Answers, IsLawful, after_all-append, IsAbortOf, BeginsPoll, PollsNone}
use Rattle.rt_laws.proofs.Clock.{lawful-front, lawful-tail}
use Rattle.rt_laws.proofs.Endings.{EndsFor, ends-entry}
use Rattle.rt_laws.proofs.Stands.{stands, may_stand}
use Rattle.rt_laws.proofs.Tasks.{AreTasks, spawn-answers, tasks-after, tasks-all, run-tasks}
use Rattle.rt_laws.proofs.Flags.{out-unmarked, out-all, some-flagged}
use Rattle.rt_laws.proofs.Trees.{unlike, known-on, known-new, known-changed, ended-below, ended-stays, ended-now, born-own, puts-keeps, release-keeps, or-left, or-right}
use Rattle.rt_laws.proofs.Nodes.{AreNodes, AreNodesOf, AreNamed, child-answers, ended-child, ended-release, ended-put, end-nodes, ended-at, find-all, nodes-end, nodes-after-entry, nodes-all, run-nodes}

-- where no cause of a flag is asked for
abbrev Any : ℕ → Type 0
Any k = Unit {0}

any-named : (x : List Entry) → AreNamed Any x
any-named [] = tt
any-named (e ∷ x) = ((λ k h. tt), any-named x)

run-any : (b : Begin) (x : List Entry) → IsLawful (begun b) x → AreNodesOf Any (after_all (begun b) x)
run-any b x l = run-nodes Any b x l (any-named x)

-- who has ended stays ended

module _ (j : ℕ) where
  abbrev IsOver : TreeRecord → Type 0
  IsOver r = (is_known r j ≡ true) × (is_ended r j ≡ true)

  over-child : (r : TreeRecord) (number node : ℕ) → is_known r number ≡ false → IsOver r → IsOver (with_child r number node)
  over-child r number node u o =
      (known-new r number (if is_ended r node then None else Some node) (is_ended r node) u j o.0, ended-child r number node j (unlike r number j u o.0) ∙ o.1)

  over-release : (r : TreeRecord) (node : ℕ) → IsOver r → IsOver (with_release r node)
  over-release r node o = (known-changed (λ (x : NodeState). record x { live = false }) release-keeps node r j ∙ o.0, ended-release r node j ∙ o.1)

  over-task : (r : TreeRecord) (node task : ℕ) → IsOver r → IsOver (with_task r node task)
  over-task r node task o = (known-changed (λ (x : NodeState). record x { task = Some task }) (puts-keeps task) node r j ∙ o.0, ended-put r node task j ∙ o.1)

  over-called : (s : State) (call : Call) (reply : CallReply) → Answers s call reply → IsOver s.stood.nodes → IsOver (nodes_called s.stood.nodes call reply)
  over-called s (Child node label) (NodeAt number ended) m o = over-child s.stood.nodes number node (child-answers s node number label ended m).1 o
  over-called s (CloseNode node) Done m o = over-release s.stood.nodes node o
  over-called s (Spawn node) (TaskAt task number) m o =
      over-task (with_child s.stood.nodes number node) node task (over-child s.stood.nodes number node (spawn-answers s node task number m).3 o)
  over-called s (Spawn node) Closed m o = over-release s.stood.nodes node o
  over-called s _ _ m o = o

  over-released : (r : TreeRecord) (m : Option Mark) → IsOver r → IsOver (released m r)
  over-released r None o = o
  over-released r (Some m) o = over-release r m.node o

  over-answered : (r : TreeRecord) (m : Option Mark) (kind : AnswerKind) → IsOver r → IsOver (nodes_answered r m kind)
  over-answered r m Ended o = over-released r m o
  over-answered r m _ o = o

  over-end : (r : TreeRecord) (n : ℕ) → is_known r j ≡ true → is_ended (with_end r n) j ≡ true → IsOver (unflagged (with_end r n))
  over-end r n k e = (rw (end-nodes r n) k, e)

  over-after : (s : State) (e : Entry) → May s e → IsOver s.stood.nodes → IsOver (after s e).stood.nodes
  unfolding after
  over-after s (CallEntry by call reply) m o = over-called s call reply m.1.1 o
  over-after s (Answer task kind) m o = over-answered s.stood.nodes (find task s.marks) kind o
  over-after s (NodeEnd node) m o = over-end s.stood.nodes node o.0 (ended-stays s.stood.nodes node j o.1)
  over-after s _ m o = o

  over-all : (s : State) (y : List Entry) → IsLawful s y → IsOver s.stood.nodes → IsOver (after_all s y).stood.nodes
  over-all s [] l o = o
  over-all s (e ∷ y) l o = over-all (after s e) y l.1 (over-after s e l.0 o)

-- a task on an ended node is polled no more

mark-flagged : (k : ℕ) (ms : List (ℕ × Mark)) (m : Mark) → find k ms ≡ Some m → m.flagged ≡ true → is_flagged (find k ms) ≡ true
mark-flagged k ms m f h = rw f h

ended-polls : (s : State) (z : List Entry) (task : ℕ) (m : Mark) → IsLawful s z → AreTasks s → AreNodesOf Any s → find task s.marks ≡ Some m → is_ended s.stood.nodes m.node ≡ true → PollsNone s z task
ended-polls s z task m l t a f e = out-all task s z l t (inl (mark-flagged task s.marks m f (a.ended task m f e)))

pub ended_unpolled : (b : Begin) (x y : List Entry) (task : ℕ) (m : Mark) → IsLawful (begun b) (x ++ y) → find task (after_all (begun b) x).marks ≡ Some m → is_ended (after_all (begun b) x).stood.nodes m.node ≡ true → PollsNone (after_all (begun b) x) y task
ended_unpolled b x y task m l f e =
    let front = lawful-front (begun b) x y l in
    ended-polls (after_all (begun b) x) y task m (lawful-tail (begun b) x y l) (run-tasks b x front) (run-any b x front) f e

-- nobody is polled below a node that has ended

contains-stands : (xs : List ℕ) (j : ℕ) → Contains xs j → stands_in xs j ≡ true
contains-stands [] j (i, l, e) = absurd (omega arith)
contains-stands (x ∷ xs) j (zero, l, e) = or-left (eqb x j) (stands_in xs j) (grind arith)
contains-stands (x ∷ xs) j (suc i, l, e) = or-right (eqb x j) (stands_in xs j) (contains-stands xs j (i, omega arith, e))

below-polls : (n : ℕ) (u : State) (y z : List Entry) (child : ℕ) (k : Mark) → IsLawful u (y ++ z) → AreTasks u → AreNodesOf Any u → IsOver n u.stood.nodes → find child (after_all u y).marks ≡ Some k → stands_in (nodes_below n (links (after_all u y).stood.nodes)) k.node ≡ true → PollsNone (after_all u y) z child
below-polls n u y z child k l t a o f h =
    let s = after_all u y in
    let front = lawful-front u y z l in
    let nodes = nodes-all Any u y front t (any-named y) a in
    let over = over-all n u y front o in
    ended-polls s z child k (lawful-tail u y z l) (tasks-all u y front t) nodes f (ended-below s.stood.nodes n k.node nodes.tree over.1 h)

flag-some : (k other : ℕ) (ms : List (ℕ × Mark)) → is_some (find k ms) ≡ true → is_some (find k (flag other ms)) ≡ true
flag-some k other [] h = h
flag-some k other (x ∷ ms) h = grind (arith, flag-some k other ms)

flagged-some : (ks : List ℕ) (k : ℕ) (ms : List (ℕ × Mark)) → is_some (find k ms) ≡ true → is_some (find k (flag_all ks ms)) ≡ true
flagged-some [] k ms h = h
flagged-some (other ∷ ks) k ms h = flagged-some ks k (flag other ms) (flag-some k other ms h)

-- where a task leaves, its node ends next
module _ (task : ℕ) (m : Mark) where
  the-node : (p : Phase) (ms : List (ℕ × Mark)) (result : Option Outcome) (left : List ℕ) (node : ℕ) → p ≡ Leaving task result left → find task ms ≡ Some m → MayEndNode p ms node → m.node ≡ node
  the-node p ms result left node e f n =
      let z : MayEndNode (Leaving task result left) ms node = rw e at n in
      let y : option_map (λ (m : Mark). m.node) (Some m) ≡ Some node = rw f at z in
      cc

some-mark : (o : Option Mark) → is_some o ≡ true → (w : Mark) × (o ≡ Some w)
some-mark (Some w) h = (w, refl)
some-mark None h = absurd (cc)

flagged-below : (r : TreeRecord) (ms : List (ℕ × Mark)) (next n child : ℕ) (k : Mark) → AreNodes Any r ms next → find child ms ≡ Some k → is_known r n ≡ true → stands_in (nodes_below n (links r)) k.node ≡ true → is_flagged (find child (flag_all (flagged_by r n) ms)) ≡ true
flagged-below r ms next n child k a f known h =
    let now = nodes-end Any r ms next n a in
    let w = some-mark (find child (flag_all (flagged_by r n) ms)) (flagged-some (flagged_by r n) child ms (rw f refl)) in
    let v = find-all (flagged_by r n) child ms w.0 w.1 in
    let same : v.0 ≡ k = let z : Some v.0 ≡ Some k = sym v.1 ∙ f in cc in
    let node : k.node ≡ w.0.node = sym (v.2.0 ∙ ap (λ (m : Mark). m.node) same) in
    let over = ended-now r n k.node known (or-right (eqb n k.node) (stands_in (nodes_below n (links r)) k.node) h) in
    mark-flagged child (flag_all (flagged_by r n) ms) w.0 w.1 (now.ended child w.0 w.1 (ended-at (with_end r n) k.node w.0.node node over))

module _ (task : ℕ) (m : Mark) (result : Option Outcome) (left : List ℕ) (child : ℕ) (k : Mark) where
  abbrev IsBelow : State → Type 0
  IsBelow s = stands_in (nodes_below m.node (links s.stood.nodes)) k.node ≡ true

  leaving-polls : (u : State) (z : List Entry) → u.phase ≡ Leaving task result left → find task u.marks ≡ Some m → IsLawful u z → AreTasks u → AreNodesOf Any u → find child u.marks ≡ Some k → IsBelow u → PollsNone u z child
  unfolding after
  leaving-polls u [] p f l t a g h = tt
  leaving-polls u (Wake other ∷ z) p f l t a g h =
      ((λ x. x), leaving-polls (after u (Wake other)) z p f l.1 (tasks-after u (Wake other) l.0 t) (nodes-after-entry Any u (Wake other) l.0 t (λ i x. tt) a) g h)
  leaving-polls u (NodeEnd node ∷ z) p f l t a g h =
      let is : m.node ≡ node = the-node task m u.phase u.marks result left node p f l.0.1 in
      let known : is_known u.stood.nodes node ≡ true = rw (← is) (known-on u.stood.nodes m.node task (a.on task m f)) in
      let below : stands_in (nodes_below node (links u.stood.nodes)) k.node ≡ true = ap (λ i. stands_in (nodes_below i (links u.stood.nodes)) k.node) (sym is) ∙ h in
      let flags = flagged-below u.stood.nodes u.marks u.numbers.next node child k a g known below in
      let given = t.marked child (rw g refl) in
      ((λ x. x), out-all child (after u (NodeEnd node)) z l.1 (tasks-after u (NodeEnd node) l.0 t) (out-unmarked child u.phase (flag_all (flagged_by u.stood.nodes node) u.marks) u.running u.numbers t.at given flags))
  leaving-polls u (e ∷ z) p f l t a g h = let s : stands (Leaving task result left) e ≡ true = rw p at (may_stand u e l.0) in absurd (cc)

  leaving-all : (u : State) (y z : List Entry) → u.phase ≡ Leaving task result left → find task u.marks ≡ Some m → IsLawful u (y ++ z) → AreTasks u → AreNodesOf Any u → find child (after_all u y).marks ≡ Some k → IsBelow (after_all u y) → PollsNone (after_all u y) z child
  unfolding after
  leaving-all u [] z p f l t a g h = leaving-polls u z p f l t a g h
  leaving-all u (Wake other ∷ y) z p f l t a g h =
      leaving-all (after u (Wake other)) y z p f l.1 (tasks-after u (Wake other) l.0 t) (nodes-after-entry Any u (Wake other) l.0 t (λ i x. tt) a) g h
  leaving-all u (NodeEnd node ∷ y) z p f l t a g h =
      let is : m.node ≡ node = the-node task m u.phase u.marks result left node p f l.0.1 in
      let known = known-on u.stood.nodes m.node task (a.on task m f) in
      let knows : is_known u.stood.nodes node ≡ true = ap (is_known u.stood.nodes) (sym is) ∙ known in
      let over = ended-now u.stood.nodes node m.node knows (or-left (eqb node m.node) (stands_in (nodes_below node (links u.stood.nodes)) m.node) (grind arith)) in
      below-polls m.node (after u (NodeEnd node)) y z child k l.1 (tasks-after u (NodeEnd node) l.0 t) (nodes-after-entry Any u (NodeEnd node) l.0 t (λ i x. tt) a) (over-end m.node u.stood.nodes node known over) g h
  leaving-all u (e ∷ y) z p f l t a g h = let s : stands (Leaving task result left) e ≡ true = rw p at (may_stand u e l.0) in absurd (cc)

-- behind a cleanup nobody is polled

cleaned-polls : (cause : Option FinishCause) (s : State) (z : List Entry) (task : ℕ) → s.owed ≡ [] → EndsFor cause s.phase → IsLawful s z → PollsNone s z task
cleaned-polls cause s [] task o h l = tt
cleaned-polls cause s (e ∷ z) task o h l =
    let k = ends-entry cause s e o h l.0 in
    (none-cleaned s e task h, cleaned-polls cause (after s e) z task k.1 k.2 l.1)
  where
    none-cleaned : (s : State) (e : Entry) (task : ℕ) → EndsFor cause s.phase → BeginsPoll s e task → ⊥
    none-cleaned s (Event label fields) task h p = rw p.1 at h
    none-cleaned s _ task h p = p

polls-append : (s : State) (y z : List Entry) (task : ℕ) → PollsNone s (y ++ z) task → PollsNone (after_all s y) z task
polls-append s [] z task h = h
polls-append s (e ∷ y) z task h = polls-append (after s e) y z task h.1

-- from the visit that ends a task
module _ (task : ℕ) (m : Mark) (child : ℕ) (k : Mark) where
  from-ending : (s : State) (y z : List Entry) (result : Option Outcome) (left : List ℕ) (settles : Bool) → is_ended s.stood.nodes m.node ≡ settles → s.phase ≡ Ending task result left → find task s.marks ≡ Some m → IsLawful s (Answer task Ended ∷ (y ++ z)) → AreTasks s → AreNodesOf Any s → find child (after_all (after s (Answer task Ended)) y).marks ≡ Some k → stands_in (nodes_below m.node (links (after_all (after s (Answer task Ended)) y).stood.nodes)) k.node ≡ true → PollsNone (after_all (after s (Answer task Ended)) y) z child
  unfolding after
  from-ending s y z result left true settles p f l t a g h =
      let u = after s (Answer task Ended) in
      let known = known-on s.stood.nodes m.node task (a.on task m f) in
      below-polls m.node u y z child k l.1 (tasks-after s (Answer task Ended) l.0 t) (nodes-after-entry Any s (Answer task Ended) l.0 t (λ i x. tt) a) (over-after m.node s (Answer task Ended) l.0 (known, settles)) g h
  from-ending s y z result left false settles p f l t a g h =
      let u = after s (Answer task Ended) in
      let unsettled : is_settled s task ≡ false = rw (p, f, settles) refl in
      let phase : u.phase ≡ Leaving task result left = rw (unsettled, p) refl in
      let mark : find task u.marks ≡ Some m = rw unsettled f in
      leaving-all task m result left child k u y z phase mark l.1 (tasks-after s (Answer task Ended) l.0 t) (nodes-after-entry Any s (Answer task Ended) l.0 t (λ i x. tt) a) g h

  from-end : (s : State) (y z : List Entry) (p : Phase) → s.phase ≡ p → MayEnd p (ends_next s.running s.root) task → find task s.marks ≡ Some m → IsLawful s (Answer task Ended ∷ (y ++ z)) → AreTasks s → AreNodesOf Any s → find child (after_all (after s (Answer task Ended)) y).marks ≡ Some k → stands_in (nodes_below m.node (links (after_all (after s (Answer task Ended)) y).stood.nodes)) k.node ≡ true → PollsNone (after_all (after s (Answer task Ended)) y) z child
  from-end s y z (Ending other result left) e n f l t a g h = from-ending s y z result left (is_ended s.stood.nodes m.node) refl (e ∙ ap (λ i. Ending i result left) (sym n)) f l t a g h
  from-end s y z (Closing cause) e n f l t a g h =
      let ends : EndsFor cause s.phase = rw e refl in
      let all = ends-entry cause s (Answer task Ended) l.0.0 ends l.0 in
      polls-append (after s (Answer task Ended)) y z child (cleaned-polls cause (after s (Answer task Ended)) (y ++ z) child all.1 all.2 l.1)
  from-end s y z _ e n f l t a g h = absurd n

pub ended_visit : (b : Begin) (x y z : List Entry) (task child : ℕ) (m k : Mark) → IsLawful (begun b) (x ++ Answer task Ended ∷ (y ++ z)) → find task (after_all (begun b) x).marks ≡ Some m → find child (after_all (begun b) (x ++ Answer task Ended ∷ y)).marks ≡ Some k → Contains (nodes_below m.node (links (after_all (begun b) (x ++ Answer task Ended ∷ y)).stood.nodes)) k.node → PollsNone (after_all (begun b) (x ++ Answer task Ended ∷ y)) z child
ended_visit b x y z task child m k l f g c =
    let s = after_all (begun b) x in
    let e = after_all-append (begun b) x (Answer task Ended ∷ y) in
    let front = lawful-front (begun b) x (Answer task Ended ∷ (y ++ z)) l in
    let r = lawful-tail (begun b) x (Answer task Ended ∷ (y ++ z)) l in
    let mark : find child (after_all s (Answer task Ended ∷ y)).marks ≡ Some k = rw e at g in
    let below : Contains (nodes_below m.node (links (after_all s (Answer task Ended ∷ y)).stood.nodes)) k.node = rw e at c in
    let polls = from-end task m child k s y z s.phase refl r.0.1.0 f r (run-tasks b x front) (run-any b x front) mark (contains-stands (nodes_below m.node (links (after_all s (Answer task Ended ∷ y)).stood.nodes)) k.node below) in
    rw e polls

-- an end goes down the tree, and stays

pub born_ended : (b : Begin) (x y : List Entry) (by : Option ℕ) (node number : ℕ) (label : List ℕ) (ended : Bool) → IsLawful (begun b) (x ++ CallEntry by (Child node label) (NodeAt number ended) ∷ y) → is_ended (after_all (begun b) x).stood.nodes node ≡ true → (ended ≡ true) × (is_ended (after (after_all (begun b) x) (CallEntry by (Child node label) (NodeAt number ended))).stood.nodes number ≡ true)
unfolding after
born_ended b x y by node number label ended l h =
    let s = after_all (begun b) x in
    let m = (lawful-tail (begun b) x (CallEntry by (Child node label) (NodeAt number ended) ∷ y) l).0.1.1 in
    let k = child-answers s node number label ended m in
    (k.2 ∙ h, born-own s.stood.nodes number (if is_ended s.stood.nodes node then None else Some node) (is_ended s.stood.nodes node) k.1 h)

pub ends_below : (b : Begin) (x : List Entry) (n j : ℕ) → IsLawful (begun b) x → is_ended (after_all (begun b) x).stood.nodes n ≡ true → Contains (nodes_below n (links (after_all (begun b) x).stood.nodes)) j → is_ended (after_all (begun b) x).stood.nodes j ≡ true
ends_below b x n j l h c =
    let s = after_all (begun b) x in
    ended-below s.stood.nodes n j (run-any b x l).tree h (contains-stands (nodes_below n (links s.stood.nodes)) j c)

pub end_stays : (b : Begin) (x y : List Entry) (n : ℕ) → IsLawful (begun b) (x ++ y) → is_known (after_all (begun b) x).stood.nodes n ≡ true → is_ended (after_all (begun b) x).stood.nodes n ≡ true → is_ended (after_all (begun b) (x ++ y)).stood.nodes n ≡ true
end_stays b x y n l k h = rw (after_all-append (begun b) x y) (over-all n (after_all (begun b) x) y (lawful-tail (begun b) x y l) (k, h)).1

-- who ends unpolled was named by an abort, or stands on an ended node

ends-by : (stopped flagged : Bool) (other task : ℕ) (left rest : List ℕ) → entered_by stopped flagged other left ≡ Ending task None rest → (other ≡ task) × (flagged ≡ true)
ends-by true flagged other task left rest h = absurd (cc)
ends-by false true other task left rest h = (cc, refl)
ends-by false false other task left rest h = absurd (cc)

ends-entered : (s : State) (task : ℕ) (left rest : List ℕ) → entered s (Entered task left) ≡ Ending task None rest → is_flagged (find task s.marks) ≡ true
ends-entered s task left rest h = (ends-by (is_some_number task s.root && s.panicked) (is_flagged (find task s.marks)) task task left rest h).1

abbrev IsNamed : List Entry → ℕ → Type 0
IsNamed x task = (e : Entry) × Contains x e × IsAbortOf task e

names-all : (whole x : List Entry) → ((e : Entry) → Contains x e → Contains whole e) → AreNamed (IsNamed whole) x
names-all whole [] h = tt
names-all whole (e ∷ x) h =
    ((λ k a. (e, h e (0, omega arith, refl), a)), names-all whole x (λ f c. h f (Contains-append_right (e ∷ []) x f c)))

pub unpolled : (b : Begin) (x y : List Entry) (label : List ℕ) (fields : List (List ℕ)) (task : ℕ) (left : List ℕ) → IsLawful (begun b) (x ++ Event label fields ∷ y) → (after_all (begun b) x).phase ≡ Entered task left → (after (after_all (begun b) x) (Event label fields)).phase ≡ Ending task None left → IsNamed x task ⊎ ((m : Mark) × (find task (after_all (begun b) x).marks ≡ Some m) × (is_ended (after_all (begun b) x).stood.nodes m.node ≡ true))
unfolding after
unpolled b x y label fields task left l e h =
    let s = after_all (begun b) x in
    let front = lawful-front (begun b) x (Event label fields ∷ y) l in
    let ends : entered s (Entered task left) ≡ Ending task None left = rw e at h in
    let flags = ends-entered s task left left ends in
    let m = some-mark (find task s.marks) (some-flagged (find task s.marks) flags) in
    let set : m.0.flagged ≡ true = rw m.1 at flags in
    let a = run-nodes (IsNamed x) b x front (names-all x x (λ e c. c)) in
    elim (a.caused task m.0 m.1 set) [ inl n ↦ inl n | inr e ↦ inr (m.0, m.1, e) ]
