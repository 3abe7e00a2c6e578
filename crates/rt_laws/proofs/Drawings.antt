-- A root that draws has its run, and what comes near to it is none.
use Rattle.rt_laws.proofs.Prelude.{◌≡◌, ◌≢◌, ◌≤◌, ◌<◌, ◌^◌, ℕ, List, [], ◌∷◌, ◌++◌, Some, length, slice_index, codes, refl, sym, ap, ◌∙◌, append_assoc, rules, arith, append-nil, Error, CallOf, NextU32, NextU64, FillBytes, Auditor, CallReply, Done, Number, Bytes, Refused, Ready, Pending, Completed, Stalled, Entry, Event, Draw, Answered, Advance, Drawn, Short, Long, Filled, Announced, State, begun, drawn_called, drawn_after, after, after_all, Answers, IsLawful, AreDrawn, nothing, IsRun, IsValidInput, after_all-append, IsLawful-append, small_begin, gave, opening, visiting_root, root_ends, finishing, drawing_root, asking_root, moody_root, visited_again, draws_by, drawing_journal, asking_journal, moody_journal}
use Rattle.rt_audit.specs.declared.entry.Entry.TheVariants.{Call}
use Rattle.rt_laws.proofs.Decided.{lawful}
use Rattle.rt_laws.proofs.Followed.{tied}
use Rattle.rt_laws.proofs.Signals.{apart}
use Rattle.rt_laws.proofs.Small.{tail}

drawing-lawful : (number : ℕ) (bytes : List ℕ) → number < 2 ^ 64 → length bytes ≡ 4 → IsLawful (begun small_begin) (drawing_journal number bytes)
unfolding begun after
drawing-lawful number bytes fits four =
    let behind = draws_by (codes "next_u64") NextU64 (Number number)
    ++ draws_by (codes "fill_bytes") (FillBytes 4) (Bytes bytes)
    ++ (Answered 0 Ready ∷ [])
    ++ root_ends
    ++ finishing Completed
    in
    IsLawful-append (begun small_begin) (visited_again []) behind (lawful small_begin (visited_again []) refl)
    ((refl, (Some 0, refl, (NextU64, Done, refl))), ((refl, (refl, fits, refl)), ((refl, (Some 0, refl, (FillBytes 4, Done, refl))), ((refl, (refl, four, refl)), search rules))))

pub drawing_run : (number : ℕ) (bytes : List ℕ) → number < 2 ^ 64 → length bytes ≡ 4 → IsRun drawing_root small_begin (drawing_journal number bytes) Completed (after_all (begun small_begin) (drawing_journal number bytes)) (gave number)
unfolding begun after
drawing_run number bytes fits four = record {
  lawful = drawing-lawful number bytes fits four;
  reaches = refl;
  ends = refl;
  caused = λ e. cc;
  tied = tied drawing_root (begun small_begin) nothing (gave number) (drawing_journal number bytes) refl;
  whole = refl;
}

pub drawing_order : (number : ℕ) (bytes : List ℕ) → AreDrawn (begun small_begin) (drawing_journal number bytes)
unfolding begun after
drawing_order number bytes = search rules

pub drawing_drawn : (number : ℕ) (bytes : List ℕ) → (after_all (begun small_begin) (drawing_journal number bytes)).drawn ≡ Long 6 ∷ Long number ∷ Filled bytes ∷ []
unfolding begun after
drawing_drawn number bytes = refl

-- and so has one that asks an auditor

asking-lawful : (bytes digest : List ℕ) → length bytes ≡ 4 → length digest ≡ 4 → IsLawful (begun small_begin) (asking_journal bytes digest)
unfolding begun after
asking-lawful bytes digest four exact =
    let behind = draws_by (codes "fill_bytes") (FillBytes 4) (Bytes bytes)
    ++ (Call (Some 0) Auditor (Bytes digest) ∷ Answered 0 Ready ∷ [])
    ++ root_ends
    ++ finishing Completed
    in
    IsLawful-append (begun small_begin) (opening ++ visiting_root) behind (lawful small_begin (opening ++ visiting_root) refl)
    ((refl, (Some 0, refl, (FillBytes 4, Done, refl))), ((refl, (refl, four, refl)), ((refl, (refl, exact, refl)), search rules)))

pub asking_run : (bytes digest : List ℕ) → length bytes ≡ 4 → length digest ≡ 4 → IsRun (asking_root 4) small_begin (asking_journal bytes digest) Completed (after_all (begun small_begin) (asking_journal bytes digest)) (gave 4)
unfolding begun after
asking_run bytes digest four exact = record {
  lawful = asking-lawful bytes digest four exact;
  reaches = refl;
  ends = refl;
  caused = λ e. cc;
  tied = tied (asking_root 4) (begun small_begin) nothing (gave 4) (asking_journal bytes digest) refl;
  whole = refl;
}

-- and one that pends by what is drawn

moody-lawful : IsLawful (begun small_begin) moody_journal
unfolding begun after
moody-lawful =
    let behind = draws_by (codes "next_u64") NextU64 (Number 1)
    ++ (Answered 0 Pending ∷ Advance 1000000 ∷ [])
    ++ root_ends
    ++ finishing Stalled
    in
    IsLawful-append (begun small_begin) (opening ++ visiting_root) behind (lawful small_begin (opening ++ visiting_root) refl)
    ((refl, (Some 0, refl, (NextU64, Done, refl))), ((refl, (refl, omega arith, refl)), search rules))

pub moody_run : IsRun moody_root small_begin moody_journal Stalled (after_all (begun small_begin) moody_journal) nothing
unfolding begun after
moody_run = record {
  lawful = moody-lawful;
  reaches = refl;
  ends = refl;
  caused = λ e. cc;
  tied = tied moody_root (begun small_begin) nothing nothing moody_journal refl;
  whole = refl;
}

pub moody_not_valid : IsValidInput moody_root small_begin → ⊥
unfolding begun after
moody_not_valid valid = let e = valid moody_journal Stalled (after_all (begun small_begin) moody_journal) nothing moody_run in cc

-- what an entry draws stands behind what was drawn

more-called : (drawn : List Drawn) (call : CallOf) (reply : CallReply) → (more : List Drawn) × (drawn_called drawn call reply ≡ drawn ++ more)
more-called drawn NextU32 (Number number) = (Short number ∷ [], refl)
more-called drawn NextU64 (Number number) = (Long number ∷ [], refl)
more-called drawn (FillBytes len) (Bytes bytes) = (Filled bytes ∷ [], refl)
more-called drawn _ _ = ([], sym (append-nil drawn))

more-after : (drawn : List Drawn) (e : Entry) → (more : List Drawn) × (drawn_after drawn e ≡ drawn ++ more)
more-after drawn (Draw value) = (Long value ∷ [], refl)
more-after drawn (Call by call reply) = more-called drawn call reply
more-after drawn _ = ([], sym (append-nil drawn))

more-all : (s : State) (x : List Entry) → (more : List Drawn) × ((after_all s x).drawn ≡ s.drawn ++ more)
unfolding after
more-all s [] = ([], sym (append-nil s.drawn))
more-all s (e ∷ x) =
    let a = more-after s.drawn e in
    let b = more-all (after s e) x in
    (a.0 ++ b.0, b.1 ∙ ap (λ (drawn : List Drawn). drawn ++ b.0) a.1 ∙ append_assoc s.drawn a.0 b.0)

pub drawn_stays : (s : State) (x y : List Entry) → (more : List Drawn) × ((after_all s (x ++ y)).drawn ≡ (after_all s x).drawn ++ more)
drawn_stays s x y = rw (after_all-append s x y) (more-all (after_all s x) y)

-- near misses

pub no_draw_unannounced : (number : ℕ) → IsLawful (begun small_begin) (visited_again (Call (Some 0) NextU64 (Number number) ∷ [])) → ⊥
unfolding begun after
no_draw_unannounced number l = let h = (tail (visited_again []) (Call (Some 0) NextU64 (Number number) ∷ []) l).0.1.2 in cc

-- the digit of its bits in the name of a call that draws
abbrev in_name : List (List ℕ) → ℕ
in_name [] = 0
in_name (name ∷ fields) = slice_index name 6

abbrev digit : List Announced → ℕ
digit [] = 0
digit (event ∷ events) = in_name event.fields

pub no_draw_announced_so : (number : ℕ) → IsLawful (begun small_begin) (visited_again (draws_by (codes "next_u32") NextU64 (Number number))) → ⊥
unfolding begun after
no_draw_announced_so number l =
    let h = (tail (visited_again (Event (codes "rand") (codes "next_u32" ∷ []) ∷ [])) (Call (Some 0) NextU64 (Number number) ∷ []) l).0.1.2 in
    apart 51 54 (omega arith) (ap digit h)

-- a call behind the event of one that draws is answered so
drew : (name : List ℕ) (call : CallOf) (reply : CallReply) → IsLawful (begun small_begin) (visited_again (draws_by name call reply)) → IsLawful (after_all (begun small_begin) (visited_again (Event (codes "rand") (name ∷ []) ∷ []))) (Call (Some 0) call reply ∷ [])
drew name call reply l = tail (visited_again (Event (codes "rand") (name ∷ []) ∷ [])) (Call (Some 0) call reply ∷ []) l

pub no_auditor_announced : (digest : List ℕ) → IsLawful (begun small_begin) (visited_again (draws_by (codes "fill_bytes") Auditor (Bytes digest))) → ⊥
unfolding begun after
no_auditor_announced digest l = let h = (drew (codes "fill_bytes") Auditor (Bytes digest) l).0.1.2 in cc

pub no_great_short : (number : ℕ) → 2 ^ 32 ≤ number → IsLawful (begun small_begin) (visited_again (draws_by (codes "next_u32") NextU32 (Number number))) → ⊥
unfolding begun after
no_great_short number great l = let h = (drew (codes "next_u32") NextU32 (Number number) l).0.1.1 in omega arith

pub no_great_long : (number : ℕ) → 2 ^ 64 ≤ number → IsLawful (begun small_begin) (visited_again (draws_by (codes "next_u64") NextU64 (Number number))) → ⊥
unfolding begun after
no_great_long number great l = let h = (drew (codes "next_u64") NextU64 (Number number) l).0.1.1 in omega arith

pub no_other_length : (bytes : List ℕ) → length bytes ≢ 4 → IsLawful (begun small_begin) (visited_again (draws_by (codes "fill_bytes") (FillBytes 4) (Bytes bytes))) → ⊥
unfolding begun after
no_other_length bytes other l = other (drew (codes "fill_bytes") (FillBytes 4) (Bytes bytes) l).0.1.1

-- what they come near to

pub short_draw : (number : ℕ) → number < 2 ^ 32 → IsLawful (begun small_begin) (visited_again (draws_by (codes "next_u32") NextU32 (Number number)))
unfolding begun after
short_draw number fits =
    IsLawful-append (begun small_begin) (visited_again []) (draws_by (codes "next_u32") NextU32 (Number number)) (lawful small_begin (visited_again []) refl)
    ((refl, (Some 0, refl, (NextU32, Done, refl))), ((refl, (refl, fits, refl)), tt))

-- what answers a call that draws, in every state

pub short_answers : (s : State) (reply : CallReply) → Answers s NextU32 reply → (number : ℕ) × (reply ≡ Number number) × (number < 2 ^ 32)
short_answers s (Number number) a = (number, refl, a)
short_answers s _ a = absurd a

pub long_answers : (s : State) (reply : CallReply) → Answers s NextU64 reply → (number : ℕ) × (reply ≡ Number number) × (number < 2 ^ 64)
long_answers s (Number number) a = (number, refl, a)
long_answers s _ a = absurd a

pub bytes_answer : (s : State) (len : ℕ) (reply : CallReply) → Answers s (FillBytes len) reply → (bytes : List ℕ) × (reply ≡ Bytes bytes) × (length bytes ≡ len)
bytes_answer s len (Bytes bytes) a = (bytes, refl, a)
bytes_answer s len _ a = absurd a

pub no_refused_short : (s : State) (error : Error) → Answers s NextU32 (Refused error) → ⊥
no_refused_short s error a = a

pub no_refused_long : (s : State) (error : Error) → Answers s NextU64 (Refused error) → ⊥
no_refused_long s error a = a

pub no_refused_bytes : (s : State) (len : ℕ) (error : Error) → Answers s (FillBytes len) (Refused error) → ⊥
no_refused_bytes s len error a = a

pub no_other_count : (s : State) (len : ℕ) (bytes : List ℕ) → length bytes ≢ len → Answers s (FillBytes len) (Bytes bytes) → ⊥
no_other_count s len bytes other a = other a
