use Rattle.rt_scenario.proofs.Prelude.{◌≡◌, ℕ, zero, suc, ◌<◌, true, List, [], ◌∷◌, get_or, arith, and_parts, nat_tests, IsUtf8-from_ascii, is_ascii_alphabetic, list_all, IsUtf8, is_label, is_word_byte, is_printable}

word_byte_small : (b : ℕ) → is_word_byte b ≡ true → b < 128
word_byte_small b h = grind (arith, nat_tests)

letter_small : (b : ℕ) → is_ascii_alphabetic b ≡ true → b < 128
letter_small b h = grind (arith, nat_tests)

word_bytes_small : (bs : List ℕ) → list_all is_word_byte bs ≡ true → (i : ℕ) → get_or bs i 0 < 128
word_bytes_small [] h i = omega arith
word_bytes_small (b ∷ bs) h zero = word_byte_small b (and_parts _ _ h).0
word_bytes_small (b ∷ bs) h (suc i) = word_bytes_small bs (and_parts _ _ h).1 i

label_small : (bs : List ℕ) → is_label bs ≡ true → (i : ℕ) → get_or bs i 0 < 128
label_small [] h i = omega arith
label_small (b ∷ bs) h zero = letter_small b (and_parts _ _ h).0
label_small (b ∷ bs) h (suc i) = word_bytes_small bs (and_parts _ _ h).1 i

pub label_is_utf8 : (bs : List ℕ) → is_label bs ≡ true → IsUtf8 bs
label_is_utf8 bs h = IsUtf8-from_ascii bs (label_small bs h)

printable_byte : (b : ℕ) → is_printable b ≡ true → b < 128
printable_byte b h = grind (arith, nat_tests)

printable_small : (bs : List ℕ) → list_all is_printable bs ≡ true → (i : ℕ) → get_or bs i 0 < 128
printable_small [] h i = omega arith
printable_small (b ∷ bs) h zero = printable_byte b (and_parts _ _ h).0
printable_small (b ∷ bs) h (suc i) = printable_small bs (and_parts _ _ h).1 i

pub printable_is_utf8 : (bs : List ℕ) → list_all is_printable bs ≡ true → IsUtf8 bs
printable_is_utf8 bs h = IsUtf8-from_ascii bs (printable_small bs h)
