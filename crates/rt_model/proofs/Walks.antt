-- Walks, one after another.
use Rattle.std.proofs.Common.{◌≡◌, ℕ, List, [], ◌∷◌, ◌++◌, ℤ, refl, ◌∙◌, Result}
use Rattle.rt_base.specs.declared.error.Error.{Error}
use Rattle.rt_base.specs.declared.execution.Execution.{Execution}
use Rattle.rt_audit.specs.declared.call.Call.{Call}
use Rattle.rt_audit.specs.declared.call.Call.TheVariants.{Spawn, Slots}
use Rattle.rt_audit.specs.declared.reply.CallReply.{CallReply}
use Rattle.rt_audit.specs.declared.slot_call.SlotCall.TheVariants.{Send, Poll}
use Rattle.rt_audit.specs.declared.reply.CallReply.TheVariants.{Done, TaskAt}
use Rattle.rt_model.specs.State.{Stood, Turn}
use Rattle.rt_model.specs.Turns.{Ask, Plainly, Sleeping, Sending, Spawning, Held, IsCounted, counted, Asks, IsPlain, IsPlainly, call_of, Frees, FreesOne, freed_by, heard_of, moved, moved_by}
use Rattle.rt_model.specs.Walk.{Step, Does, Spends, Counts, Gives, Gave, Goes, Walks, Fronts, Lacks, Stops, then, stood_before}

-- a call that spends a token, of which nothing is told
abbrev pub IsSpending : {A O : Type 0} → Ask A O → Type 0
IsSpending (Plainly call) = IsPlain call
IsSpending (Sending slot sent) = Unit {0}
IsSpending _ = ⊥

-- what is said of a step and of what follows from it is said, behind the next turn, of both
goes-then : {A L O R M Q : Type 0} (more : R → L → Step A M O Q) (on : Held A O → Step A L O R → Type 0) (end : Held A O → Step A M O Q → Type 0) → ((held : Held A O) (step : Step A L O R) → on held step → end held (then step more)) → (held : Held A O) (step : Step A L O R) (t : Turn) → Goes on held step t → Goes end held (then step more) t
unfolding then
goes-then more on end lift held (Does ask step) t w = (w.0, lift (moved held ask t) (step (heard_of held t)) w.1)
goes-then more on end lift held (Spends ask next) t w = (
  λ there. ((w.0 there).0, (w.0 there).1, lift (moved held ask t) next (w.0 there).2),
  λ gone. goes-then more on end lift held next t (w.1 gone),
)
goes-then more on end lift held (Counts change next) t w = goes-then more on end lift (counted change held) next t w
goes-then more on end lift held (Gives given state) t w = absurd w

-- an answer moves nothing but metrics
pub gave-end : {A L O R : Type 0} (stood : Stood) (answer : R) (left : L) (end held : Held A O) (step : Step A L O R) → Gave stood held step answer left end → IsCounted held end
gave-end stood answer left end held (Does ask on) g = absurd g
gave-end stood answer left end held (Spends ask next) g = gave-end stood answer left end held next g.1
gave-end stood answer left end held (Counts change next) g =
    let more = gave-end stood answer left end (counted change held) next g in
    (more.0, more.1)
gave-end stood answer left end held (Gives given state) g = (held.counts, g.2)

-- the one after the other
counted-counted : {A O : Type 0} (held mid end : Held A O) → IsCounted held mid → IsCounted mid end → IsCounted held end
counted-counted held mid end h k = (k.0, k.1 ∙ rw h.1 refl)

module _ {A L O R M Q : Type 0} (more : R → L → Step A M O Q) (s1 : Stood) (r : R) (a : L) (mid : Held A O) where
  -- the first has made all its calls
  gave-goes : (end : Held A O → Step A M O Q → Type 0) (u : Turn) (held : Held A O) (step : Step A L O R) → u.stood ≡ s1 → Gave s1 held step r a mid → Goes end mid (more r a) u → Goes end held (then step more) u
  unfolding then
  gave-goes end u held (Does ask on) e g w = absurd g
  gave-goes end u held (Spends ask next) e g w = (λ there. cc (g.0), λ gone. gave-goes end u held next e g.1 w)
  gave-goes end u held (Counts change next) e g w = gave-goes end u (counted change held) next e g w
  gave-goes end u held (Gives given state) e g w = rw (g.0, g.1, ← g.2) w

  gave-gave : (q : Q) (b : M) (end held : Held A O) (step : Step A L O R) → Gave s1 held step r a mid → Gave s1 mid (more r a) q b end → Gave s1 held (then step more) q b end
  unfolding then
  gave-gave q b end held (Does ask on) g w = absurd g
  gave-gave q b end held (Spends ask next) g w = (g.0, gave-gave q b end held next g.1 w)
  gave-gave q b end held (Counts change next) g w = gave-gave q b end (counted change held) next g w
  gave-gave q b end held (Gives given state) g w = rw (g.0, g.1, ← g.2) w

  -- one after the other
  pub walks-then : (s2 : Stood) (q : Q) (b : M) (end : Held A O) (ts us : List Turn) (held : Held A O) (step : Step A L O R) → stood_before us s2 ≡ s1 → Walks step held ts s1 r a mid → Walks (more r a) mid us s2 q b end → Walks (then step more) held (ts ++ us) s2 q b end
  walks-then s2 q b end [] [] held step e w k = rw e (gave-gave q b end held step w (rw e at k))
  walks-then s2 q b end [] (u ∷ us) held step e w k = gave-goes (λ held step. Walks step held us s2 q b end) u held step e w k
  walks-then s2 q b end (t ∷ ts) us held step e w k =
      goes-then more (λ held step. Walks step held ts s1 r a mid) (λ held step. Walks step held (ts ++ us) s2 q b end) (λ held step w. walks-then s2 q b end ts us held step e w k) held step t w

  -- a front of the second is one of both
  pub fronts-then : (s2 : Stood) (end : Held A O) (ts us : List Turn) (held : Held A O) (step : Step A L O R) → stood_before us s2 ≡ s1 → Walks step held ts s1 r a mid → Fronts (more r a) mid us end → Fronts (then step more) held (ts ++ us) end
  fronts-then s2 end [] [] held step e w k = counted-counted held mid end (gave-end s1 r a mid held step w) k
  fronts-then s2 end [] (u ∷ us) held step e w k = gave-goes (λ held step. Fronts step held us end) u held step e w k
  fronts-then s2 end (t ∷ ts) us held step e w k =
      goes-then more (λ held step. Walks step held ts s1 r a mid) (λ held step. Fronts step held (ts ++ us) end) (λ held step w. fronts-then s2 end ts us held step e w k) held step t w

-- what follows from a step that lacks memory isn't reached
lacks-then : {A L O R M Q : Type 0} (more : R → L → Step A M O Q) (stood : Stood) (step : Step A L O R) → Lacks stood step → Lacks stood (then step more)
unfolding then
lacks-then more stood (Does ask on) w = tt
lacks-then more stood (Spends ask next) w = (w.0, lacks-then more stood next w.1)
lacks-then more stood (Counts change next) w = lacks-then more stood next w
lacks-then more stood (Gives answer left) w = absurd w

pub stops-first : {A L O R M Q : Type 0} (more : R → L → Step A M O Q) (stood : Stood) (end : Held A O) (ts : List Turn) (held : Held A O) (step : Step A L O R) → Stops step held ts stood end → Stops (then step more) held ts stood end
stops-first more stood end [] held step w = (lacks-then more stood step w.0, w.1)
stops-first more stood end (t ∷ ts) held step w =
    goes-then more (λ held step. Stops step held ts stood end) (λ held step. Stops step held ts stood end) (λ held step w. stops-first more stood end ts held step w) held step t w

module _ {A L O R M Q : Type 0} (more : R → L → Step A M O Q) (s1 : Stood) (r : R) (a : L) (mid : Held A O) where
  gave-lacks : (held : Held A O) (step : Step A L O R) → Gave s1 held step r a mid → Lacks s1 (more r a) → Lacks s1 (then step more)
  unfolding then
  gave-lacks held (Does ask on) g w = absurd g
  gave-lacks held (Spends ask next) g w = (g.0, gave-lacks held next g.1 w)
  gave-lacks held (Counts change next) g w = gave-lacks (counted change held) next g w
  gave-lacks held (Gives given state) g w = rw (g.0, g.1) w

  pub stops-then : (s2 : Stood) (end : Held A O) (ts us : List Turn) (held : Held A O) (step : Step A L O R) → stood_before us s2 ≡ s1 → Walks step held ts s1 r a mid → Stops (more r a) mid us s2 end → Stops (then step more) held (ts ++ us) s2 end
  stops-then s2 end [] [] held step e w k = (rw e (gave-lacks held step w (rw e at k.0)), counted-counted held mid end (gave-end s1 r a mid held step w) k.1)
  stops-then s2 end [] (u ∷ us) held step e w k = gave-goes more s1 r a mid (λ held step. Stops step held us s2 end) u held step e w k
  stops-then s2 end (t ∷ ts) us held step e w k =
      goes-then more (λ held step. Walks step held ts s1 r a mid) (λ held step. Stops step held (ts ++ us) s2 end) (λ held step w. stops-then s2 end ts us held step e w k) held step t w

-- the values of metrics are free before each call
pub frees-counted : {A O : Type 0} (us : List Turn) (held end : Held A O) (counts : List (ℕ × ℤ)) → Frees (record held { counts = counts }) us end → Frees held us end
frees-counted [] held end counts h = (h.0, h.1)
frees-counted (u ∷ us) held end counts h = (h.0, h.1, h.2, h.3)

-- what is freed by calls, one after another
pub frees-append : {A O : Type 0} (ts us : List Turn) (held mid end : Held A O) → Frees held ts mid → Frees mid us end → Frees held (ts ++ us) end
frees-append [] us held mid end h k = frees-counted us held end h.0 (rw h.1 at k)
frees-append (t ∷ ts) us held mid end h k = (h.0, h.1, h.2, frees-append ts us h.1 mid end h.3 k)

frees-plain : {A O : Type 0} (stood : Stood) (held : Held A O) (call : Call) (reply : CallReply) → IsPlain call → FreesOne stood held call reply (freed_by held call reply)
frees-plain stood held (Spawn node) reply h = absurd h
frees-plain stood held (Slots (Send slot)) reply h = absurd h
frees-plain stood held _ reply h = refl

frees-spawn : {A O : Type 0} (stood : Stood) (held : Held A O) (node : ℕ) (execution : Execution) (made : ℕ → A) (reply : CallReply) → FreesOne stood held (Spawn node) reply (moved_by stood held (Spawning node execution made) (Spawn node) reply)
frees-spawn stood held node execution made (TaskAt task number) = (execution, made number, refl)
frees-spawn stood held node execution made _ = refl

frees-sending : {A O : Type 0} (stood : Stood) (held : Held A O) (slot : ℕ) (sent : Result O Error) (reply : CallReply) → FreesOne stood held (Slots (Send slot)) reply (moved_by stood held (Sending slot sent) (Slots (Send slot)) reply)
frees-sending stood held slot sent Done = (sent, refl)
frees-sending stood held slot sent _ = refl

plainly : {A O : Type 0} (held : Held A O) (stood : Stood) (call : Call) (reply : CallReply) → IsPlainly held stood call reply → IsPlain call
plainly held stood (Slots (Poll slot)) reply h = tt
plainly held stood call reply h = h

pub frees-spent : {A O : Type 0} (stood : Stood) (held : Held A O) (ask : Ask A O) → IsSpending ask → FreesOne stood held (call_of ask) Done (moved_by stood held ask (call_of ask) Done)
frees-spent stood held (Plainly call) h = frees-plain stood held call Done h
frees-spent stood held (Sending slot sent) h = frees-sending stood held slot sent Done
frees-spent stood held (Sleeping due alarm) h = absurd h
frees-spent stood held (Spawning node execution made) h = absurd h

-- what a turn that was asked moves, its call may move
pub frees-moved : {A O : Type 0} (held : Held A O) (ask : Ask A O) (t : Turn) → Asks held ask t → FreesOne t.stood held t.call t.reply (moved held ask t)
frees-moved held (Plainly call) t h = rw h.0 (frees-plain t.stood held call t.reply (plainly held t.stood call t.reply h.1))
frees-moved held (Sleeping due alarm) t h = rw h.0 refl
frees-moved held (Sending slot sent) t h = rw h.0 (frees-sending t.stood held slot sent t.reply)
frees-moved held (Spawning node execution made) t h = rw h.0 (frees-spawn t.stood held node execution made t.reply)
