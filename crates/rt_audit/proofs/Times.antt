-- The last time, the rounds and the digest of a journal with a further entry.
use Rattle.std.proofs.Common.{◌≡◌, ◌≤◌, ◌+◌, ℕ, List, [], ◌∷◌, ◌++◌, length, refl, arith}
use Rattle.rt_audit.specs.declared.entry.Entry.{Entry}
use Rattle.rt_audit.specs.Journal.{last_time_from, time_after, rounds_in, digest_from, digest_after}

pub last_time-more : (time : ℕ) (entries : List Entry) (entry : Entry) → last_time_from time (entries ++ entry ∷ []) ≡ time_after (last_time_from time entries) entry
last_time-more time [] entry = refl
last_time-more time (first ∷ entries) entry = last_time-more (time_after time first) entries entry

-- of an entry alone it is 1 for a round, and 0 for any other
rounds-first : (entry : Entry) (entries : List Entry) → rounds_in (entry ∷ entries) ≡ rounds_in (entry ∷ []) + rounds_in entries
rounds-first entry entries = grind arith

pub rounds-append : (x y : List Entry) → rounds_in (x ++ y) ≡ rounds_in x + rounds_in y
rounds-append [] y = omega arith
rounds-append (entry ∷ x) y =
    let first = rounds-first entry (x ++ y) in
    let front = rounds-first entry x in
    let rest = rounds-append x y in
    omega arith

pub rounds-most : (entries : List Entry) → rounds_in entries ≤ length entries
rounds-most [] = omega arith
rounds-most (entry ∷ entries) = let rest = rounds-most entries in grind arith

pub digest_from-more : (digest : List ℕ) (entries : List Entry) (entry : Entry) → digest_from digest (entries ++ entry ∷ []) ≡ digest_after (digest_from digest entries) entry
digest_from-more digest [] entry = refl
digest_from-more digest (first ∷ entries) entry = digest_from-more (digest_after digest first) entries entry
