-- The rule by which a poll completes whose next call comes behind an event of its own, and what is replied to calls that draw.
use Rattle.rt_laws.proofs.Prelude.{◌≡◌, ◌<◌, ◌^◌, ℕ, List, [], ◌∷◌, length, Option, Some, refl, ap, Call, WakeCall, NextU64, FillBytes, Auditor, CallReply, Done, Number, Bytes, Refused, CallEntry, Event, State, Announced, Polling, Stood, announced_by, IsOfCall, after, find, WasGiven, Answers, Held, Ask, Plainly, Heard, Fits, call_of, Step, Does, Value, taken}
use Rattle.rt_model.specs.declared.answer.Answer.{Answer}
use Rattle.rt_laws.proofs.Completing.{Course, Completes, polling_asks}
use Rattle.rt_laws.proofs.Fronts.{LeadsTo}
use Rattle.rt_laws.proofs.Supervising.{Replied}

abbrev pub event : List ℕ → List (List ℕ) → Announced
event label fields = record { label = label; fields = fields }

-- no call announces two events
no-second : (stood : Stood) (call : Call) (reply : CallReply) (first second : Announced) → announced_by stood call reply ≡ first ∷ second ∷ [] → ⊥
no-second stood NextU64 reply first second e = cc
no-second stood _ reply first second e = cc

module _ {A O : Type 0} (p : Course A O) where
  module _ (s : State) (v : Value A O) (owes : s.owed ≡ []) (silent : s.announced ≡ []) (task : ℕ) (left : List ℕ) (a : A) (is : s.phase ≡ Polling task left) (there : find task v.held.tasks ≡ Some a) (now : Held A O) where
    -- behind an event comes the call that is asked for, and so the event is that of this call
    pub polling_announces : (ask : Ask A O) (on : Heard O → Step A A O (Answer O)) (label : List ℕ) (fields : List (List ℕ)) → LeadsTo (p.steps.task.next a s.clock.time task) (taken task v.held) s.turns (Does ask on) now → ((stood : Stood) (reply : CallReply) → announced_by stood (call_of ask) reply ≡ event label fields ∷ []) → Replied p (after s (Event label fields)) v (Some task) ask → Completes p s v
    unfolding after
    polling_announces ask on label fields l says more = polling_asks p s v owes task left a is there now ask on l announced unannounced
      where
        unannounced : (reply : CallReply) → s.announced ≡ announced_by s.stood (call_of ask) reply → Answers s (call_of ask) reply → (held : Held A O) → Fits held ask (record { by = Some task; call = call_of ask; reply = reply; stood = s.stood }) → Completes p (after s (CallEntry (Some task) (call_of ask) reply)) v
        unannounced reply n m held f = let k = says s.stood reply in absurd (cc)

        told : (other : List ℕ) (others : List (List ℕ)) (reply : CallReply) → event other others ∷ [] ≡ announced_by s.stood (call_of ask) reply → Replied p (after s (Event other others)) v (Some task) ask
        told other others reply n =
            let k = says s.stood reply in
            let same : event other others ≡ event label fields = cc in
            let first : other ≡ label = ap (λ (e : Announced). e.label) same in
            let second : others ≡ fields = ap (λ (e : Announced). e.fields) same in
            rw (first, second) more

        announced : (other : List ℕ) (others : List (List ℕ)) (u : Value A O) → IsOfCall s.stood s.announced other others → u ≡ v → Completes p (after s (Event other others)) u
        announced other others u m k =
            let t = after s (Event other others) in
            let one : t.announced ≡ event other others ∷ [] = rw (is, silent) refl in
            rw k
            (polling_asks p t v refl task left a (rw is refl) there now ask on l
            (λ label fields u m. absurd (no-second s.stood m.0 m.1 (event other others) (event label fields) (rw one at m.2)))
            (λ reply n. told other others reply (rw one at n) reply))

  -- what is replied to a wake, to calls that draw, and to an auditor's

  module _ (s : State) (v : Value A O) (by : Option ℕ) where
    pub wake_told : (task : ℕ) → WasGiven s.numbers task → Completes p (after s (CallEntry by (WakeCall task) Done)) v → Replied p s v by (Plainly (WakeCall task))
    wake_told task given more Done m held f = more
    wake_told task given more (Refused error) m held f = absurd (m.1 given)
    wake_told task given more _ m held f = absurd m

    pub number_told : ((number : ℕ) → number < 2 ^ 64 → Completes p (after s (CallEntry by NextU64 (Number number))) v) → Replied p s v by (Plainly NextU64)
    number_told more (Number number) m held f = more number m
    number_told more _ m held f = absurd m

    pub bytes_told : (len : ℕ) → ((bytes : List ℕ) → length bytes ≡ len → Completes p (after s (CallEntry by (FillBytes len) (Bytes bytes))) v) → Replied p s v by (Plainly (FillBytes len))
    bytes_told len more (Bytes bytes) m held f = more bytes m
    bytes_told len more _ m held f = absurd m

    pub digest_told : ((digest : List ℕ) → length digest ≡ 4 → Completes p (after s (CallEntry by Auditor (Bytes digest))) v) → Replied p s v by (Plainly Auditor)
    digest_told more (Bytes digest) m held f = more digest m
    digest_told more _ m held f = absurd m
