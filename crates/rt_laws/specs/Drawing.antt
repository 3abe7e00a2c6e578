-- Roots that draw, and what comes near to the run of one that draws a number and then bytes.
use Rattle.std.specs.Prelude.{◌≢◌, ℕ, List, [], ◌∷◌, ◌++◌, ◌==◌, if◌then◌else◌, map, Some, codes}
use Rattle.rand_core.specs.Stream.{Stream, Call as Drawing}
use Rattle.rt_audit.specs.declared.call.Call.{Call as CallOf}
use Rattle.rt_audit.specs.declared.call.Call.TheVariants.{Wake as WakeCall, NextU64, FillBytes, Auditor}
use Rattle.rt_audit.specs.declared.reply.CallReply.{CallReply}
use Rattle.rt_audit.specs.declared.reply.CallReply.TheVariants.{Done, Number, Bytes}
use Rattle.rt_audit.specs.declared.answer.AnswerKind.TheVariants.{Pending as AnswersPending, Ready as AnswersReady}
use Rattle.rt_audit.specs.declared.finish.FinishCause.TheVariants.{Completed, Stalled}
use Rattle.rt_audit.specs.declared.entry.Entry.{Entry}
use Rattle.rt_audit.specs.declared.entry.Entry.TheVariants.{Call, Event, Wake, Draw, Round, Answer as Answered, Advance}
use Rattle.rt_model.specs.declared.answer.Answer.{Answer}
use Rattle.rt_model.specs.declared.answer.Answer.TheVariants.{Pending, Ready}
use Rattle.rt_model.specs.State.{Announced}
use Rattle.rt_model.specs.Turns.{Plainly, Heard, Plain}
use Rattle.rt_model.specs.Walk.{Step, Does, Gives}
use Rattle.rt_model.specs.Tied.{Steps, with_first}
use Rattle.rt_laws.specs.Examples.{opening, visiting_root, closes_node, root_ends, finishing}

pub data Drawer : Type 0 where
  -- before its first poll, in which it wakes itself twice
  Early : Drawer
  -- behind that
  Late : Drawer

abbrev pub number_of : Heard ℕ → ℕ
number_of (Plain (Number number)) = number
number_of heard = 0

-- in its second poll it draws a number and then four bytes, and gives the number
abbrev pub draws : Drawer → ℕ → Step Drawer Drawer ℕ (Answer ℕ)
draws Early own = Does (Plainly (WakeCall own)) (λ first. Does (Plainly (WakeCall own)) (λ second. Gives Pending Late))
draws Late own = Does (Plainly NextU64) (λ drawn. Does (Plainly (FillBytes 4)) (λ filled. Gives (Ready (number_of drawn)) Late))

abbrev pub drawing_root : Steps Drawer ℕ
drawing_root = with_first (record { next = λ drawer now own. draws drawer own; last = λ drawer now own. closes_node }) (λ now. Gives tt Early)

-- a root that draws so many bytes in its first poll, asks an auditor there, and gives their count
abbrev pub asking_root : ℕ → Steps (Unit {0}) ℕ
asking_root len =
    with_first
    (record {
      next = λ state now own. Does (Plainly (FillBytes len)) (λ filled. Does (Plainly Auditor) (λ told. Gives (Ready len) state));
      last = λ state now own. closes_node;
    })
    (λ now. Gives tt tt)

-- a root that draws a number in its first poll, and is ready unless that is 1
abbrev pub moody_root : Steps (Unit {0}) ℕ
moody_root =
    with_first
    (record {
      next = λ state now own. Does (Plainly NextU64) (λ drawn. Gives (if number_of drawn == 1 then Pending else Ready 0) state);
      last = λ state now own. closes_node;
    })
    (λ now. Gives tt tt)

-- a generator that never gives this number of 64 bits, whatever was drawn of it before
abbrev pub NeverGives : ℕ → Stream → Type 0
NeverGives number stream = (calls : List Drawing) → stream.u64_after calls ≢ number

-- one that gives this number again and again
abbrev pub always : ℕ → Stream
always number = record { u32_after = λ calls. number; u64_after = λ calls. number; bytes_after = λ calls len. [] }

-- 6 was drawn for the round of its second visit, in which these entries come
abbrev pub visited_again : List Entry → List Entry
visited_again entries =
    opening
    ++ visiting_root
    ++ (Call (Some 0) (WakeCall 0) Done ∷ Wake 0 ∷ Call (Some 0) (WakeCall 0) Done ∷ Wake 0 ∷ Answered 0 AnswersPending ∷ Advance 1000000 ∷ [])
    ++ (Draw 6 ∷ Round (0 ∷ 0 ∷ []) ∷ [])
    ++ visiting_root
    ++ entries

-- a call behind the event that names one that draws so
abbrev pub draws_by : List ℕ → CallOf → CallReply → List Entry
draws_by name call reply = Event (codes "rand") (name ∷ []) ∷ Call (Some 0) call reply ∷ []

abbrev pub drawing_journal : ℕ → List ℕ → List Entry
drawing_journal number bytes =
    visited_again
    (draws_by (codes "next_u64") NextU64 (Number number)
    ++ draws_by (codes "fill_bytes") (FillBytes 4) (Bytes bytes)
    ++ (Answered 0 AnswersReady ∷ [])
    ++ root_ends
    ++ finishing Completed)

-- the journal of a root that draws four bytes and asks an auditor
abbrev pub asking_journal : List ℕ → List ℕ → List Entry
asking_journal bytes digest =
    opening
    ++ visiting_root
    ++ draws_by (codes "fill_bytes") (FillBytes 4) (Bytes bytes)
    ++ (Call (Some 0) Auditor (Bytes digest) ∷ Answered 0 AnswersReady ∷ [])
    ++ root_ends
    ++ finishing Completed

-- the journal of a root that draws 1, and pends
abbrev pub moody_journal : List Entry
moody_journal =
    opening
    ++ visiting_root
    ++ draws_by (codes "next_u64") NextU64 (Number 1)
    ++ (Answered 0 AnswersPending ∷ Advance 1000000 ∷ [])
    ++ root_ends
    ++ finishing Stalled

-- the entries of these events
abbrev pub events_of : List Announced → List Entry
events_of announced = map (λ (a : Announced). Event a.label a.fields) announced
