-- Lines that are told by their bytes at once.
use Rattle.rt_scenario.proofs.Prelude.{◌≡◌, ℕ, ◌==◌, ◌≤◌, ◌++◌, true, false, List, [], ◌∷◌, length, drop, codes, refl, arith, nat_lt, Some, is_some, Bool, if◌then◌else◌, None, ◌^◌, Option, ℤ, sym, nat_le, suc, ap, ◌∙◌, Bor, IfSome, MatchOption, and_parts, nat_tests, HasBytesAt, is_ascii_alphabetic, is_ascii_digit, list_all, digits_value, same_text, is_label, is_word_byte, onto_first, words_of, below, is_decimal, minus, number_of, plus, value_of, Draft, after_text, is_between, is_name, is_printable, script_at, script_row, spawned_row, step_row, is_text, Plain, Join}
use Rattle.rt_scenario.specs.declared.line.Line.TheVariants as step

digit_printable : (d : ℕ) → is_ascii_digit d ≡ true → is_printable d ≡ true
digit_printable d h = grind (arith, nat_tests)

digit_apart : (d : ℕ) → is_ascii_digit d ≡ true → (d == 32) ≡ false
digit_apart d h = grind (arith, nat_tests)

digits_printable : (ds : List ℕ) → list_all is_ascii_digit ds ≡ true → list_all is_printable ds ≡ true
digits_printable [] h = refl
digits_printable (d ∷ ds) h = let parts = and_parts _ _ h in rw (digit_printable d parts.0, digits_printable ds parts.1) refl

digits_word : (ds : List ℕ) → list_all is_ascii_digit ds ≡ true → words_of ds ≡ ds ∷ []
digits_word [] h = refl
digits_word (d ∷ ds) h = let parts = and_parts _ _ h in rw (digit_apart d parts.0, digits_word ds parts.1) refl

not_empty : (x : ℕ) (xs : List ℕ) → (length (x ∷ xs) == 0) ≡ false
not_empty x xs = grind (arith, nat_tests)

-- what is a number has digits alone, and some
number_digits : (text : List ℕ) (n : ℕ) → number_of text ≡ Some n → (list_all is_ascii_digit text ≡ true) × ((length text == 0) ≡ false)
number_digits [] n h = absurd (cc)
number_digits (d ∷ ds) n h = by (is_decimal (d ∷ ds)) refl h
  where
    by : (b : Bool) → is_decimal (d ∷ ds) ≡ b → (if b then below (2 ^ 128) (digits_value 10 (d ∷ ds)) else None) ≡ Some n → (list_all is_ascii_digit (d ∷ ds) ≡ true) × ((length (d ∷ ds) == 0) ≡ false)
    by true e k = ((and_parts _ _ e).0, not_empty d ds)
    by false e k = absurd (cc)

shifted : (t : ℕ) (text : List ℕ) (i : ℕ) (ps : List ℕ) → HasBytesAt (t ∷ text) (suc i) ps → HasBytesAt text i ps
shifted t text i [] reads = tt
shifted t text i (p ∷ ps) reads = (reads.0, shifted t text (suc i) ps reads.1)

-- a text by its first bytes
begins : (front text : List ℕ) → length front ≤ length text → HasBytesAt text 0 front → text ≡ front ++ drop (length front) text
begins [] text long reads = refl
begins (p ∷ ps) [] long reads = absurd (omega (arith, long))
begins (p ∷ ps) (t ∷ text) long reads = ap (λ b. b ∷ text) reads.0 ∙ ap (λ l. p ∷ l) (begins ps text (omega (arith, long)) (shifted t text 0 ps reads.1))

sleeps : (number : List ℕ) (n : ℕ) (d : Draft) → length (codes "sleep " ++ number) ≤ 64 → number_of number ≡ Some n → is_some d.current ≡ true → after_text d (codes "sleep " ++ number) ≡ step_row d (Plain (step.Sleep n))
sleeps number n d short read script =
    let digits = number_digits number n read in
    let fits : nat_lt 4096 (length (codes "sleep " ++ number)) ≡ false = grind (arith, nat_tests) in
    let some : (length (codes "sleep " ++ number) == 0) ≡ false = grind (arith, nat_tests) in
    rw (fits, some, digits_printable number digits.0, digits_word number digits.0, digits.1, script, read) refl

pub sleeps_so : (text number : List ℕ) (n : ℕ) (d : Draft) → length text ≤ 64 → 6 ≤ length text → HasBytesAt text 0 (codes "sleep ") → number ≡ drop 6 text → number_of number ≡ Some n → is_some d.current ≡ true → after_text d text ≡ step_row d (Plain (step.Sleep n))
sleeps_so text number n d short long reads rest read script =
    let is : text ≡ codes "sleep " ++ number = rw rest (begins (codes "sleep ") text long reads) in
    rw is (sleeps number n d (rw is at short) read script)

not_space : (b : ℕ) → (b == 45) ≡ true → (is_printable b ≡ true) × ((b == 32) ≡ false)
not_space b e = ((grind (arith, nat_tests)), (grind (arith, nat_tests)))

-- a word that a line may hold alone
abbrev IsWord : List ℕ → Type 0
IsWord text = (list_all is_printable text ≡ true) × (words_of text ≡ text ∷ []) × ((length text == 0) ≡ false)

digits_are : (text : List ℕ) (n : ℕ) → number_of text ≡ Some n → IsWord text
digits_are text n h = let digits = number_digits text n h in (digits_printable text digits.0, digits_word text digits.0, digits.1)

-- what is a value has digits alone, behind a minus sign or none
value_is : (text : List ℕ) (v : ℤ) → value_of text ≡ Some v → IsWord text
value_is [] v h = absurd (cc)
value_is (b ∷ bs) v h = by (b == 45) refl h
  where
    below_minus : (b == 45) ≡ true → (o : Option ℕ) → number_of bs ≡ o → minus o ≡ Some v → IsWord (b ∷ bs)
    below_minus e None r k = absurd (cc)
    below_minus e (Some n) r k =
        let sign = not_space b e in
        let word = digits_are bs n r in
        ((rw (sign.0, word.0) refl), (rw (sign.1, word.1) refl), not_empty b bs)

    alone : (o : Option ℕ) → number_of (b ∷ bs) ≡ o → plus o ≡ Some v → IsWord (b ∷ bs)
    alone None r k = absurd (cc)
    alone (Some n) r k = digits_are (b ∷ bs) n r

    by : (t : Bool) → (b == 45) ≡ t → (if t then minus (number_of bs) else plus (number_of (b ∷ bs))) ≡ Some v → IsWord (b ∷ bs)
    by true e k = below_minus e (number_of bs) refl k
    by false e k = alone (number_of (b ∷ bs)) refl k

-- no value is the word `last`
not_last : (text : List ℕ) (v : ℤ) → value_of text ≡ Some v → is_text text (codes "last") ≡ false
not_last text v h = by (is_text text (codes "last")) refl
  where
    by : (t : Bool) → is_text text (codes "last") ≡ t → t ≡ false
    by true e = absurd (let none : value_of text ≡ None = rw (same_text text (codes "last") (sym e)) refl in cc)
    by false e = refl

ends : (value : List ℕ) (v : ℤ) (d : Draft) → length (codes "end " ++ value) ≤ 64 → value_of value ≡ Some v → is_some d.current ≡ true → after_text d (codes "end " ++ value) ≡ step_row d (Plain (step.End v))
ends value v d short read script =
    let word = value_is value v read in
    let fits : nat_lt 4096 (length (codes "end " ++ value)) ≡ false = grind (arith, nat_tests) in
    let some : (length (codes "end " ++ value) == 0) ≡ false = grind (arith, nat_tests) in
    rw (fits, some, word.0, word.1, word.2, script, not_last value v read, read) refl

pub ends_so : (text value : List ℕ) (v : ℤ) (d : Draft) → length text ≤ 64 → 4 ≤ length text → HasBytesAt text 0 (codes "end ") → value ≡ drop 4 text → value_of value ≡ Some v → is_some d.current ≡ true → after_text d text ≡ step_row d (Plain (step.End v))
ends_so text value v d short long reads rest read script =
    let is : text ≡ codes "end " ++ value = rw rest (begins (codes "end ") text long reads) in
    rw is (ends value v d (rw is at short) read script)

letter_is : (b : ℕ) → is_ascii_alphabetic b ≡ true → (is_printable b ≡ true) × ((b == 32) ≡ false)
letter_is b h = ((grind (arith, nat_tests)), (grind (arith, nat_tests)))

word_byte_is : (b : ℕ) → is_word_byte b ≡ true → (is_printable b ≡ true) × ((b == 32) ≡ false)
word_byte_is b h = ((grind (arith, nat_tests)), (grind (arith, nat_tests)))

word_bytes_are : (bs : List ℕ) → list_all is_word_byte bs ≡ true → (list_all is_printable bs ≡ true) × (words_of bs ≡ bs ∷ [])
word_bytes_are [] h = (refl, refl)
word_bytes_are (b ∷ bs) h =
    let parts = and_parts _ _ h in
    let one = word_byte_is b parts.0 in
    let rest = word_bytes_are bs parts.1 in
    ((rw (one.0, rest.0) refl), (rw (one.1, rest.1) refl))

label_is : (text : List ℕ) → is_label text ≡ true → IsWord text
label_is [] h = absurd (cc)
label_is (b ∷ bs) h =
    let parts = and_parts _ _ h in
    let one = letter_is b parts.0 in
    let rest = word_bytes_are bs parts.1 in
    ((rw (one.0, rest.0) refl), (rw (one.1, rest.1) refl), not_empty b bs)

joins : (name : List ℕ) (d : Draft) → is_name name ≡ true → is_some d.current ≡ true → after_text d (codes "join " ++ name) ≡ step_row d (Join name)
joins name d named script =
    let parts = and_parts _ _ named in
    let word = label_is name parts.0 in
    let short : nat_le (length name) 32 ≡ true = parts.1 in
    let fits : nat_lt 4096 (length (codes "join " ++ name)) ≡ false = grind (arith, nat_tests) in
    let some : (length (codes "join " ++ name) == 0) ≡ false = grind (arith, nat_tests) in
    rw (fits, some, word.0, word.1, word.2, script, named) refl

pub joins_so : (text name : List ℕ) (d : Draft) → 5 ≤ length text → HasBytesAt text 0 (codes "join ") → name ≡ drop 5 text → is_name name ≡ true → is_some d.current ≡ true → after_text d text ≡ step_row d (Join name)
joins_so text name d long reads rest named script =
    let is : text ≡ codes "join " ++ name = rw rest (begins (codes "join ") text long reads) in
    rw is (joins name d named script)

-- a text whose words have allowed bytes has them
printable_first : (b : ℕ) (words : List (List ℕ)) → list_all (list_all is_printable) (onto_first b words) ≡ true → (is_printable b ≡ true) × (list_all (list_all is_printable) words ≡ true)
printable_first b [] h = let parts = and_parts _ _ h in ((and_parts _ _ parts.0).0, refl)
printable_first b (word ∷ words) h =
    let parts = and_parts _ _ h in
    let one = and_parts _ _ parts.0 in
    (one.0, (rw (one.1, parts.1) refl))

is_space : (b : ℕ) → (b == 32) ≡ true → is_printable b ≡ true
is_space b e = grind (arith, nat_tests)

printable_text : (text : List ℕ) → list_all (list_all is_printable) (words_of text) ≡ true → list_all is_printable text ≡ true
printable_text [] h = refl
printable_text (b ∷ bs) h = by (b == 32) refl h (printable_text bs)
  where
    by : (t : Bool) → (b == 32) ≡ t → list_all (list_all is_printable) (if t then [] ∷ words_of bs else onto_first b (words_of bs)) ≡ true → (list_all (list_all is_printable) (words_of bs) ≡ true → list_all is_printable bs ≡ true) → list_all is_printable (b ∷ bs) ≡ true
    by true e k more = rw (is_space b e, more k) refl
    by false e k more =
        let parts = printable_first b (words_of bs) k in
        rw (parts.0, more parts.1) refl

spawns : (rest handle script : List ℕ) (d : Draft) → length (codes "spawn " ++ rest) ≤ 64 → words_of rest ≡ handle ∷ script ∷ [] → is_name handle ≡ true → is_name script ≡ true → is_some d.current ≡ true → after_text d (codes "spawn " ++ rest) ≡ spawned_row d handle (script_at d.scripts script)
spawns rest handle script d short words named known open_ =
    let first = label_is handle (and_parts _ _ named).0 in
    let second = label_is script (and_parts _ _ known).0 in
    let fits : nat_lt 4096 (length (codes "spawn " ++ rest)) ≡ false = grind (arith, nat_tests) in
    let some : (length (codes "spawn " ++ rest) == 0) ≡ false = grind (arith, nat_tests) in
    let all : list_all is_printable rest ≡ true = printable_text rest (rw (words, first.0, second.0) refl) in
    rw (fits, some, all, words, first.2, second.2, open_, named, known) refl

pub spawns_so : (text rest handle script : List ℕ) (d : Draft) → length text ≤ 64 → 6 ≤ length text → HasBytesAt text 0 (codes "spawn ") → rest ≡ drop 6 text → words_of rest ≡ handle ∷ script ∷ [] → is_name handle ≡ true → is_name script ≡ true → is_some d.current ≡ true → after_text d text ≡ spawned_row d handle (script_at d.scripts script)
spawns_so text rest handle script d short long reads cut words named known open_ =
    let is : text ≡ codes "spawn " ++ rest = rw cut (begins (codes "spawn ") text long reads) in
    rw is (spawns rest handle script d (rw is at short) words named known open_)

opens : (name : List ℕ) (d : Draft) → is_name name ≡ true → is_between d ≡ true → after_text d (codes "script " ++ name) ≡ script_row d name
opens name d named between =
    let parts = and_parts _ _ named in
    let word = label_is name parts.0 in
    let short : nat_le (length name) 32 ≡ true = parts.1 in
    let fits : nat_lt 4096 (length (codes "script " ++ name)) ≡ false = grind (arith, nat_tests) in
    let some : (length (codes "script " ++ name) == 0) ≡ false = grind (arith, nat_tests) in
    rw (fits, some, word.0, word.1, word.2, between) refl

pub opens_so : (text name : List ℕ) (d : Draft) → 7 ≤ length text → HasBytesAt text 0 (codes "script ") → name ≡ drop 7 text → is_name name ≡ true → is_between d ≡ true → after_text d text ≡ script_row d name
opens_so text name d long reads rest named between =
    let is : text ≡ codes "script " ++ name = rw rest (begins (codes "script ") text long reads) in
    rw is (opens name d named between)

pub where_some : (o : Option (Bor (List ℕ))) (none : Type 0) (P Q : Bor (List ℕ) → Type 0) → ((name : Bor (List ℕ)) → P name → Q name) → MatchOption o none P → IfSome o Q
where_some None none P Q more h = tt
where_some (Some name) none P Q more h = more name h
