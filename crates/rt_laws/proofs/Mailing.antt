-- A root that receives what it sends by a slot, and what comes near to its run is none.
use Rattle.rt_laws.proofs.Prelude.{◌≡◌, ℕ, List, [], ◌∷◌, ◌++◌, Some, Result, Ok, Err, true, refl, Error, Slots, SlotGiveUp, CallReply, Done, IsReady, Refused, FinishCause, Completed, Entry, Answered, AnswersReady, State, begun, after, after_all, find, IsAnswerOf, Value, IsTied, nothing, IsRun, small_begin, gave, root_ends, finishing, without_value, Mailer, Waiting, mailing_root, slot_received, mailing_journal}
use Rattle.rt_base.specs.declared.error.Error.TheVariants.{Closed, Timeout}
use Rattle.rt_audit.specs.declared.entry.Entry.TheVariants.{Call}
use Rattle.rt_laws.proofs.Decided.{lawful}
use Rattle.rt_laws.proofs.Followed.{tied}
use Rattle.rt_laws.proofs.Misses.{tied-front, tied-tail}
use Rattle.rt_laws.proofs.Values.{all-whole, same_value, tied-same}

pub number_run : IsRun (mailing_root (Ok 7)) small_begin (mailing_journal IsReady) Completed (after_all (begun small_begin) (mailing_journal IsReady)) (gave 7)
unfolding begun after
number_run = record {
  lawful = lawful small_begin (mailing_journal IsReady) refl;
  reaches = refl;
  ends = refl;
  caused = λ e. cc;
  tied = tied (mailing_root (Ok 7)) (begun small_begin) nothing (gave 7) (mailing_journal IsReady) refl;
  whole = refl;
}

pub error_run : IsRun (mailing_root (Err Timeout)) small_begin (mailing_journal (Refused Timeout)) Completed (after_all (begun small_begin) (mailing_journal (Refused Timeout))) (gave without_value)
unfolding begun after
error_run = record {
  lawful = lawful small_begin (mailing_journal (Refused Timeout)) refl;
  reaches = refl;
  ends = refl;
  caused = λ e. cc;
  tied = tied (mailing_root (Err Timeout)) (begun small_begin) nothing (gave without_value) (mailing_journal (Refused Timeout)) refl;
  whole = refl;
}

pub its_number : (cause : FinishCause) (end : State) (value : Value Mailer ℕ) → IsRun (mailing_root (Ok 7)) small_begin (mailing_journal IsReady) cause end value → value.output ≡ Some 7
its_number cause end value run =
    let last = after_all (begun small_begin) (mailing_journal IsReady) in
    let e = same_value Mailer ℕ (mailing_root (Ok 7)) small_begin small_begin (mailing_journal IsReady) cause Completed end last value (gave 7) run number_run refl in
    rw e refl

-- the root is answered as what it sent says

-- the values behind its calls in its second visit
abbrev mailed : Result ℕ Error → Value Mailer ℕ
mailed sent = record nothing { held = record { tasks = (0, Waiting 0) ∷ []; results = []; sent = (0, sent) ∷ []; executions = []; counts = [] } }

abbrev given_up : CallReply → List Entry
given_up reply = slot_received reply ++ (Call (Some 0) (Slots (SlotGiveUp 0)) Done ∷ [])

up-to-its-answer : (sent : Result ℕ Error) (reply : CallReply) → IsTied (mailing_root sent) (begun small_begin) nothing (given_up reply) (mailed sent)
unfolding begun after
up-to-its-answer sent reply = tied (mailing_root sent) (begun small_begin) nothing (mailed sent) (given_up reply) refl

module _ (sent : Result ℕ Error) (reply : CallReply) (cause : FinishCause) (end : State) (value : Value Mailer ℕ) where
  its-answer : IsRun (mailing_root sent) small_begin (mailing_journal reply) cause end value → IsAnswerOf (Some sent) reply
  unfolding begun after
  its-answer r =
      let p = mailing_root sent in
      let rest : List Entry = Answered 0 AnswersReady ∷ root_ends ++ finishing Completed in
      let t = tied-tail p (begun small_begin) nothing value (given_up reply) rest r.tied in
      let u : Value Mailer ℕ = t.0 in
      let whole : u.whole ≡ true = all-whole p (after_all (begun small_begin) (given_up reply)) u value rest t.1 r.whole in
      let same : u ≡ mailed sent =
      tied-same p (begun small_begin) nothing u (mailed sent) (given_up reply) (tied-front p (begun small_begin) nothing value (given_up reply) rest r.tied) (up-to-its-answer sent reply) whole refl
      in
      let polls = t.1.1.2 in
      let there : find 0 (mailed sent).held.tasks ≡ Some polls.before = rw same at polls.there in
      let is : polls.before ≡ Waiting 0 = cc in
      let walks = rw (is, same) at polls.walks in
      walks.0.1

pub no_error_for_a_number : (cause : FinishCause) (end : State) (value : Value Mailer ℕ) → IsRun (mailing_root (Ok 7)) small_begin (mailing_journal (Refused Timeout)) cause end value → ⊥
no_error_for_a_number cause end value r = let h = its-answer (Ok 7) (Refused Timeout) cause end value r in cc

pub no_number_for_an_error : (cause : FinishCause) (end : State) (value : Value Mailer ℕ) → IsRun (mailing_root (Err Timeout)) small_begin (mailing_journal IsReady) cause end value → ⊥
no_number_for_an_error cause end value r = let h = its-answer (Err Timeout) IsReady cause end value r in cc

pub no_other_error : (cause : FinishCause) (end : State) (value : Value Mailer ℕ) → IsRun (mailing_root (Err Timeout)) small_begin (mailing_journal (Refused Closed)) cause end value → ⊥
no_other_error cause end value r = let h = its-answer (Err Timeout) (Refused Closed) cause end value r in cc
