-- What is noted in steps, one after the other.
use Rattle.rt_fixtures.proofs.Prelude.{◌≡◌, ℕ, zero, suc, ◌+◌, ◌≤◌, Bool, List, [], ◌∷◌, ◌++◌, length, take, Option, Some, None, arith, sym, ap, ◌∙◌, subst, concat, append-nil, append_assoc, length-append, Event, Noted, Adds, closing_event}

-- nothing
pub adds-none : (old new : Option (List Noted)) → new ≡ old → Adds old [] new
adds-none None new e = tt
adds-none (Some xs) new e = e ∙ ap (λ ys. let o : Option (List Noted) = Some ys in o) (sym (append-nil xs))

-- these and then those
pub adds-both : (old mid new : Option (List Noted)) (xs ys : List Noted) → Adds old xs mid → Adds mid ys new → Adds old (xs ++ ys) new
adds-both None mid new xs ys h k = tt
adds-both (Some zs) mid new xs ys h k =
    let P : Option (List Noted) → Type 0 = λ m. Adds m ys new in
    let there : new ≡ Some ((zs ++ xs) ++ ys) = subst P h k in
    there ∙ ap (λ ws. let o : Option (List Noted) = Some ws in o) (append_assoc zs xs ys)

-- one, these, and then those
pub adds-around : (old first mid new : Option (List Noted)) (a : Noted) (xs ys : List Noted) → Adds old (a ∷ []) first → Adds first xs mid → Adds mid ys new → Adds old (a ∷ (xs ++ ys)) new
adds-around old first mid new a xs ys f h k = adds-both old first new (a ∷ []) (xs ++ ys) f (adds-both first mid new xs ys h k)

-- equal events of an equal end
pub closing-same : (s t f g : Event) (o p : Option Bool) → s ≡ t → f ≡ g → o ≡ p → closing_event s f o ≡ closing_event t g p
closing-same s t f g o p e h k = ap (λ x. closing_event x f o) e ∙ ap (λ x. closing_event t x o) h ∙ ap (closing_event t g) k

-- What a list of chunks adds fits where all of them do.

taken-fits : (xs : List (List ℕ)) (k : ℕ) → length (concat (take k xs)) ≤ length (concat xs)
taken-fits [] zero = omega arith
taken-fits [] (suc k) = omega arith
taken-fits (x ∷ xs) zero = omega arith
taken-fits (x ∷ xs) (suc k) =
    let rest : length (concat (take k xs)) ≤ length (concat xs) = taken-fits xs k in
    let some : length (concat (take (suc k) (x ∷ xs))) ≡ length x + length (concat (take k xs)) = length-append x (concat (take k xs)) in
    let all : length (concat (x ∷ xs)) ≡ length x + length (concat xs) = length-append x (concat xs) in
    omega (arith, rest, some, all)

pub chunk-fits : (items old bytes chunk : List ℕ) (chunks : List (List ℕ)) (i room : ℕ) → items ≡ old ++ concat (take i chunks) → concat (take (i + 1) chunks) ≡ concat (take i chunks) ++ chunk → concat chunks ≡ bytes → length old + length bytes ≤ room → length items + length chunk ≤ room
chunk-fits items old bytes chunk chunks i room added next joined fits =
    let here : length items ≡ length old + length (concat (take i chunks)) = ap length added ∙ length-append old (concat (take i chunks)) in
    let more : length (concat (take (i + 1) chunks)) ≡ length (concat (take i chunks)) + length chunk = ap length next ∙ length-append (concat (take i chunks)) chunk in
    let within : length (concat (take (i + 1) chunks)) ≤ length (concat chunks) = taken-fits chunks (i + 1) in
    let all : length (concat chunks) ≡ length bytes = ap length joined in
    omega (arith, here, more, within, all, fits)
