-- How calls end.
use Rattle.rt_scripts.proofs.Prelude.{◌≡◌, ◌<◌, ◌+◌, ℕ, zero, suc, List, [], ◌∷◌, length, Option, Some, None, IfSome, true, false, refl, ap, inl, inr, arith, nat_lt, nat_tests, Asked, NoCommand, TooLong, asked_of, says_run, IsAsked, EndsAs, Outcome}

-- what is so of the outcome under each status is so of its end
pub ends_as : (P Q : Outcome → Type 0) (text : List ℕ) (o : Outcome) (before after : Option (List ℕ)) → ((status : ℕ) → P (record o { status = status }) → Q (record o { status = status })) → EndsAs P text o before after → EndsAs Q text o before after
ends_as P Q text o before after keeps (inl done) = inl (keeps o.status done.0, done.1)
ends_as P Q text o before after keeps (inr (inl cut)) = inr (inl (cut.0, (cut.1.0, keeps cut.1.0 cut.1.1), cut.2))
ends_as P Q text o before after keeps (inr (inr bare)) = inr (inr bare)

-- an input, told or not
input_of : (told : Option (List ℕ)) → (bytes : List ℕ) × IfSome told (λ left. bytes ≡ left)
input_of None = ([], tt)
input_of (Some left) = (left, refl)

pub some_asked : (words : List (List ℕ)) (told : Option (List ℕ)) → (asked : Asked) × IsAsked words told asked
some_asked words told = let input = input_of told in (asked_of words input.0, (input.0, input.1, refl))

pub no_command : (words : List (List ℕ)) (told : Option (List ℕ)) → says_run words ≡ false → IsAsked words told NoCommand
no_command words told h = let input = input_of told in (input.0, input.1, (rw h refl))

zeros : (n : ℕ) → (bytes : List ℕ) × (length bytes ≡ n)
zeros zero = ([], refl)
zeros (suc n) = (0 ∷ (zeros n).0, ap suc (zeros n).1)

long_input : (limit : ℕ) (told : Option (List ℕ)) → IfSome told (λ left. limit < length left) → (bytes : List ℕ) × IfSome told (λ left. bytes ≡ left) × (limit < length bytes)
long_input limit None h = let long = zeros (limit + 1) in (long.0, tt, omega (arith, long.1))
long_input limit (Some left) h = (left, refl, h)

more : (limit n : ℕ) → limit < n → nat_lt limit n ≡ true
more limit n h = grind (arith, nat_tests)

pub too_long : (words : List (List ℕ)) (told : Option (List ℕ)) → says_run words ≡ true → IfSome told (λ left. 1048576 < length left) → IsAsked words told TooLong
too_long words told run h =
    let input = long_input 1048576 told h in
    (input.0, input.1, (rw (run, more 1048576 (length input.0) input.2) refl))
