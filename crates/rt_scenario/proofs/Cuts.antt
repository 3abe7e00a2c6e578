use Rattle.rt_scenario.proofs.Prelude.{◌≡◌, ℕ, zero, suc, ◌+◌, ◌<◌, List, [], ◌∷◌, true, false, ◌==◌, length, take, drop, get_or, refl, arith, add-one, ◌-◌, ◌≤◌, length-drop, if◌then◌else◌, Option, Some, None, is_some, codes, nat_lt, Bor, take_all, drop_all, nat_tests, and_parts, list_all, is_printable, names_run, is_text, lines_of, words_of, words_in, onto_first}

-- none of the first n bytes of the text is this one
abbrev pub LacksByte : ℕ → List ℕ → ℕ → Type 0
LacksByte b text n = (k : ℕ) → k < n → get_or text k 0 ≡ b → ⊥

differs : (a b : ℕ) → (a ≡ b → ⊥) → (a == b) ≡ false
differs a b h = grind (arith, nat_tests)

equals : (a b : ℕ) → a ≡ b → (a == b) ≡ true
equals a b h = grind (arith, nat_tests)

rest_lacks : (b x : ℕ) (text : List ℕ) (n : ℕ) → LacksByte b (x ∷ text) (suc n) → LacksByte b text n
rest_lacks b x text n h k inside = h (suc k) (omega arith)

pub whole_line : (x : ℕ) (text : List ℕ) → LacksByte 10 (x ∷ text) (length (x ∷ text)) → lines_of (x ∷ text) ≡ (x ∷ text) ∷ []
whole_line x [] h = rw (differs x 10 (h 0 (omega arith))) refl
whole_line x (y ∷ ys) h = rw (differs x 10 (h 0 (omega arith)), whole_line y ys (rest_lacks 10 x (y ∷ ys) _ h)) refl

pub cut_line : (text : List ℕ) (i : ℕ) → i < length text → LacksByte 10 text i → get_or text i 0 ≡ 10 → lines_of text ≡ take (suc i) text ∷ lines_of (drop (suc i) text)
cut_line [] i inside h e = absurd (omega arith)
cut_line (x ∷ xs) zero inside h e = rw (equals x 10 e, e) refl
cut_line (x ∷ xs) (suc i) inside h e = rw (differs x 10 (h 0 (omega arith)), cut_line xs i (omega arith) (rest_lacks 10 x xs i h) e) refl

pub whole_word : (text : List ℕ) → LacksByte 32 text (length text) → words_of text ≡ text ∷ []
whole_word [] h = refl
whole_word (x ∷ xs) h = rw (differs x 32 (h 0 (omega arith)), whole_word xs (rest_lacks 32 x xs _ h)) refl

pub cut_word : (text : List ℕ) (i : ℕ) → i < length text → LacksByte 32 text i → get_or text i 0 ≡ 32 → words_of text ≡ take i text ∷ words_of (drop (suc i) text)
cut_word [] i inside h e = absurd (omega arith)
cut_word (x ∷ xs) zero inside h e = rw (equals x 32 e) refl
cut_word (x ∷ xs) (suc i) inside h e = rw (differs x 32 (h 0 (omega arith)), cut_word xs i (omega arith) (rest_lacks 32 x xs i h) e) refl

some_onto : (x : ℕ) (ls : List (List ℕ)) → 0 < length (onto_first x ls)
some_onto x [] = omega arith
some_onto x (l ∷ ls) = omega arith

pub some_words : (text : List ℕ) → 0 < length (words_of text)
some_words [] = omega arith
some_words (x ∷ xs) = elim (x == 32) as (λ b. 0 < length (if b then [] ∷ words_of xs else onto_first x (words_of xs))) [ true ↦ omega arith | false ↦ some_onto x (words_of xs) ]

-- the same, in the forms that cut slices have
pub word_before : (text : List ℕ) (i : ℕ) → i < length text → LacksByte 32 text i → get_or text i 0 ≡ 32 → words_of text ≡ take i text ∷ words_of (take (length text - (i + 1)) (drop (i + 1) text))
word_before text i inside h e =
    let rest : length (drop (suc i) text) ≤ length text - suc i = omega (arith, length-drop (suc i) text) in
    rw (add-one, take_all (length text - suc i) (drop (suc i) text) rest) (cut_word text i inside h e)

pub last_line : (text : List ℕ) (i : ℕ) → 0 < length text → length text ≤ i → LacksByte 10 text i → lines_of text ≡ take i text ∷ lines_of (drop i text)
last_line [] i some all h = absurd (omega arith)
last_line (x ∷ xs) i some all h = rw (take_all i (x ∷ xs) all, drop_all i (x ∷ xs) all) (whole_line x xs (λ k inside. h k (omega arith)))

pub some_in : (text : Option (Bor (List ℕ))) → true ≡ is_some text → 0 < length (words_in text)
some_in None h = absurd (cc)
some_in (Some t) h = some_words t.now

-- how much of a text is left
abbrev pub left : Option (Bor (List ℕ)) → ℕ
left None = 0
left (Some text) = length text.now + 1

-- the words behind `with`, where there are some
pub run_named : (root word : List ℕ) (names all : List (List ℕ)) → all ≡ root ∷ word ∷ names → is_text word (codes "with") ≡ true → 0 < length names → names_run all ≡ Some (root ∷ names)
run_named root word [] all e w some = absurd (omega (arith, some))
run_named root word (n ∷ ns) all e w some =
    let counted : nat_lt 0 (length (n ∷ ns)) ≡ true = grind (arith, nat_tests) in
    rw (e, w, counted) refl

-- the words of a text of allowed bytes are of allowed bytes
printable_onto : (b : ℕ) (words : List (List ℕ)) → is_printable b ≡ true → list_all (list_all is_printable) words ≡ true → list_all (list_all is_printable) (onto_first b words) ≡ true
printable_onto b [] h all = rw h refl
printable_onto b (word ∷ words) h all = rw h all

pub printable_words : (text : List ℕ) → list_all is_printable text ≡ true → list_all (list_all is_printable) (words_of text) ≡ true
printable_words [] h = refl
printable_words (b ∷ bs) h =
    let rest = printable_words bs (and_parts _ _ h).1 in
    elim (b == 32) as (λ space. list_all (list_all is_printable) (if space then [] ∷ words_of bs else onto_first b (words_of bs)) ≡ true) [ true ↦ rest | false ↦ printable_onto b (words_of bs) (and_parts _ _ h).0 rest ]
