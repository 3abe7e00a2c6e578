-- What a stream gives, draw by draw.
use Rattle.rt_laws.proofs.Prelude.{◌≡◌, ◌≢◌, ◌∙◌, ◌<◌, ◌+◌, ◌%◌, ◌↔◌, ℕ, List, [], ◌∷◌, ◌++◌, map, length, slice_index, length-append, append_assoc, None, Ok, refl, sym, subst, ap, arith, append-nil, append_cancel_left, length-replicate, IsPermutation, Stream, u32_call, u64_call, bytes_call, next_u32, next_u64, fill_bytes, Draw, Round, Drawn, Short, Long, Filled, shuffled, shuffled-permutes, Draws, Orders, Drains, Told, pushed, pushed_all, gave-gave, plain-drains, asked_for, Fills, counting}
use Rattle.rand_core.specs.Stream.{Call}
use Rattle.rt_machine.specs.Draws.{Gave}
use Rattle.rt_laws.proofs.Signals.{apart}

-- one stream is left

pub one_left : (from left other : Stream) (drawn : List Drawn) → Gave from drawn left → Gave from drawn other → left ≡ other
one_left from left other [] g h = sym g ∙ h
one_left from left other (Short number ∷ more) g h = one_left (next_u32 from).1 left other more g.1 h.1
one_left from left other (Long number ∷ more) g h = one_left (next_u64 from).1 left other more g.1 h.1
one_left from left other (Filled bytes ∷ more) g h = one_left (fill_bytes (length bytes) from).1 left other more g.1 h.1

pub one_drawn : (from left other : Stream) (old new : List Drawn) → Draws from left old new → Draws from other old new → left ≡ other
one_drawn from left other old new g h =
    let same : g.more ≡ h.more = append_cancel_left old g.more h.more (sym g.are ∙ h.are) in
    one_left from left other h.more (subst (λ (more : List Drawn). Gave from more left) same g.gave) h.gave

-- what was asked for decides what is given

pub one_given : (from left other : Stream) (one two : List Drawn) → map asked_for one ≡ map asked_for two → Gave from one left → Gave from two other → one ≡ two
one_given from left other [] [] e g h = refl
one_given from left other (Short a ∷ x) (Short b ∷ y) e g h =
    let same : a ≡ b = sym g.0 ∙ h.0 in
    let rest : map asked_for x ≡ map asked_for y = cc in
    rw (same, one_given (next_u32 from).1 left other x y rest g.1 h.1) refl
one_given from left other (Long a ∷ x) (Long b ∷ y) e g h =
    let same : a ≡ b = sym g.0 ∙ h.0 in
    let rest : map asked_for x ≡ map asked_for y = cc in
    rw (same, one_given (next_u64 from).1 left other x y rest g.1 h.1) refl
one_given from left other (Filled a ∷ x) (Filled b ∷ y) e g h =
    let long : length a ≡ length b = cc in
    let rest : map asked_for x ≡ map asked_for y = cc in
    let same : a ≡ b = sym g.0 ∙ ap (λ (n : ℕ). (fill_bytes n from).0) long ∙ h.0 in
    let gave : Gave (fill_bytes (length b) from).1 x left = subst (λ (n : ℕ). Gave (fill_bytes n from).1 x left) long g.1 in
    rw (same, one_given (fill_bytes (length b) from).1 left other x y rest gave h.1) refl
one_given from left other _ _ e g h = cc

-- as many numbers of 64 bits are asked for alike
all-long : (one two : List ℕ) → length one ≡ length two → map asked_for (map Long one) ≡ map asked_for (map Long two)
all-long [] [] e = refl
all-long (a ∷ x) (b ∷ y) e = let rest : length x ≡ length y = omega arith in rw (all-long x y rest) refl
all-long _ _ e = cc

long-same : (one two : List ℕ) → map Long one ≡ map Long two → one ≡ two
long-same [] [] e = refl
long-same (a ∷ x) (b ∷ y) e =
    let rest : map Long x ≡ map Long y = cc in
    let same : a ≡ b = cc in
    rw (same, long-same x y rest) refl
long-same _ _ e = cc

same-draws : (from left other : Stream) (numbers one two : List ℕ) (g : Orders from left numbers one) (h : Orders from other numbers two) → g.draws ≡ h.draws
same-draws from left other numbers one two g h =
    long-same g.draws h.draws
    (one_given from left other (map Long g.draws) (map Long h.draws) (all-long g.draws h.draws (g.count ∙ sym h.count)) g.gave h.gave)

pub one_order : (from left other : Stream) (numbers one two : List ℕ) → Orders from left numbers one → Orders from other numbers two → one ≡ two
one_order from left other numbers one two g h =
    g.is ∙ ap (λ (draws : List ℕ). shuffled numbers draws) (same-draws from left other numbers one two g h) ∙ sym h.is

pub one_left_of_order : (from left other : Stream) (numbers one two : List ℕ) → Orders from left numbers one → Orders from other numbers two → left ≡ other
one_left_of_order from left other numbers one two g h =
    let same = same-draws from left other numbers one two g h in
    one_left from left other (map Long h.draws) (subst (λ (draws : List ℕ). Gave from (map Long draws) left) same g.gave) h.gave

pub order_permutes : (from left : Stream) (numbers order : List ℕ) → Orders from left numbers order → IsPermutation numbers order
order_permutes from left numbers order o = rw o.is (shuffled-permutes numbers o.draws)

pub one_round : (from left other : Stream) (old new last : Told) (one two : List ℕ) → Drains from left old new one → Drains from other old last two → (new ≡ last) × (one ≡ two) × (left ≡ other)
one_round from left other old new last one two g h =
    let draws = same-draws from left other old.state.ready one two g.orders h.orders in
    let order = one_order from left other old.state.ready one two g.orders h.orders in (
      g.told
          ∙ ap (λ (draws : List ℕ). pushed (pushed_all old (map Draw draws)) (Round one)) draws
          ∙ ap (λ (order : List ℕ). pushed (pushed_all old (map Draw h.orders.draws)) (Round order)) order
          ∙ sym h.told,
      order,
      one_left_of_order from left other old.state.ready one two g.orders h.orders,
    )

-- small orders

pub single_order : (from : Stream) (one : ℕ) → Orders from from (one ∷ []) (one ∷ [])
single_order from one = record { draws = []; count = refl; gave = refl; is = refl }

pub single_round : (from : Stream) (old : Told) (one : ℕ) → old.state.ready ≡ one ∷ [] → old.state.draws ≡ [] → Drains from from old (pushed old (Round (one ∷ []))) (one ∷ [])
single_round from old one ready none =
    plain-drains from (record { told = old; lacked = None }) (record { told = pushed old (Round (one ∷ [])); lacked = None }) (one ∷ []) (Ok tt) none (sym ready) (omega arith) refl

pub even_order : (from : Stream) (one two : ℕ) → (next_u64 from).0 % 2 ≡ 0 → Orders from (next_u64 from).1 (one ∷ two ∷ []) (two ∷ one ∷ [])
even_order from one two even = record { draws = (next_u64 from).0 ∷ []; count = refl; gave = (refl, refl); is = rw even refl }

pub odd_order : (from : Stream) (one two : ℕ) → (next_u64 from).0 % 2 ≡ 1 → Orders from (next_u64 from).1 (one ∷ two ∷ []) (one ∷ two ∷ [])
odd_order from one two odd = record { draws = (next_u64 from).0 ∷ []; count = refl; gave = (refl, refl); is = rw odd refl }

pub even_not_kept : (from left : Stream) (one two : ℕ) → one ≢ two → (next_u64 from).0 % 2 ≡ 0 → Orders from left (one ∷ two ∷ []) (one ∷ two ∷ []) → ⊥
even_not_kept from left one two differ even o =
    let same = one_order from left (next_u64 from).1 (one ∷ two ∷ []) (one ∷ two ∷ []) (two ∷ one ∷ []) o (even_order from one two even) in
    let first : one ≡ two = cc in
    differ first

pub odd_not_turned : (from left : Stream) (one two : ℕ) → one ≢ two → (next_u64 from).0 % 2 ≡ 1 → Orders from left (one ∷ two ∷ []) (two ∷ one ∷ []) → ⊥
odd_not_turned from left one two differ odd o =
    let same = one_order from left (next_u64 from).1 (one ∷ two ∷ []) (two ∷ one ∷ []) (one ∷ two ∷ []) o (odd_order from one two odd) in
    let first : two ≡ one = cc in
    differ (sym first)

-- what is given

pub gives_numbers : (from : Stream) → Gave from (Short (next_u32 from).0 ∷ Long (next_u64 (next_u32 from).1).0 ∷ []) (next_u64 (next_u32 from).1).1
gives_numbers from = (refl, (refl, refl))

pub gives_bytes : (from : Stream) (count : ℕ) → length (fill_bytes count from).0 ≡ count → Gave from (Filled (fill_bytes count from).0 ∷ []) (fill_bytes count from).1
gives_bytes from count long = (ap (λ (n : ℕ). (fill_bytes n from).0) long, ap (λ (n : ℕ). (fill_bytes n from).1) long)

pub gives_nothing : (from left : Stream) → Gave from [] left ↔ (left ≡ from)
gives_nothing from left = (λ g. sym g, λ e. sym e)

pub draws_nothing : (from left : Stream) (old : List Drawn) → Draws from left old old ↔ (left ≡ from)
draws_nothing from left old =
    let kept : Draws from from old old = record { more = []; are = sym (append-nil old); gave = refl } in
    (λ d. one_drawn from left from old old d kept, λ e. subst (λ (s : Stream). Draws from s old old) (sym e) kept)

-- each call is answered

filled-given : (from left : Stream) (count : ℕ) (bytes : List ℕ) (more : List Drawn) → length bytes ≡ count → (fill_bytes count from).0 ≡ bytes → Gave (fill_bytes count from).1 more left → Gave from (Filled bytes ∷ more) left
filled-given from left count bytes more long is gave =
    (ap (λ (n : ℕ). (fill_bytes n from).0) long ∙ is, subst (λ (n : ℕ). Gave (fill_bytes n from).1 more left) (sym long) gave)

pub all_answered : (from : Stream) → Fills from → (calls : List Call) → (drawn : List Drawn) × (left : Stream) × (map asked_for drawn ≡ calls) × Gave from drawn left
unfolding next_u32 next_u64 fill_bytes
all_answered from fills [] = ([], from, refl, refl)
all_answered from fills (u32_call ∷ calls) =
    let rest = all_answered (next_u32 from).1 (λ before count. fills (u32_call ∷ before) count) calls in
    (Short (next_u32 from).0 ∷ rest.0, rest.1, ap (λ (calls : List Call). u32_call ∷ calls) rest.2, (refl, rest.3))
all_answered from fills (u64_call ∷ calls) =
    let rest = all_answered (next_u64 from).1 (λ before count. fills (u64_call ∷ before) count) calls in
    (Long (next_u64 from).0 ∷ rest.0, rest.1, ap (λ (calls : List Call). u64_call ∷ calls) rest.2, (refl, rest.3))
all_answered from fills (bytes_call count ∷ calls) =
    let rest = all_answered (fill_bytes count from).1 (λ before other. fills (bytes_call count ∷ before) other) calls in
    let bytes : List ℕ = (fill_bytes count from).0 in
    let long : length bytes ≡ count = fills [] count in
    (Filled bytes ∷ rest.0, rest.1, rw (long, rest.2) refl, filled-given from rest.1 count bytes rest.0 long refl rest.3)

-- a stream that counts its calls

pub counts : (left : Stream) × Gave counting (Short 0 ∷ Long 1 ∷ Filled (2 ∷ 2 ∷ []) ∷ Long 3 ∷ []) left
unfolding next_u32 next_u64 fill_bytes
counts = ((next_u64 (fill_bytes 2 (next_u64 (next_u32 counting).1).1).1).1, (refl, (refl, (refl, (refl, refl)))))

pub counts_not_turned : (left : Stream) → Gave counting (Long 1 ∷ Short 0 ∷ []) left → ⊥
unfolding next_u32 next_u64
counts_not_turned left g = apart 0 1 (omega arith) g.0

pub counts_not_twice : (left : Stream) → Gave counting (Short 0 ∷ Short 0 ∷ []) left → ⊥
unfolding next_u32
counts_not_twice left g = apart 0 1 (omega arith) (sym g.1.0)

pub counts_not_late : (left : Stream) → Gave counting (Long 1 ∷ []) left → ⊥
unfolding next_u64
counts_not_late left g = apart 0 1 (omega arith) g.0

pub counts_no_other_byte : (left : Stream) → Gave counting (Filled (0 ∷ 1 ∷ []) ∷ []) left → ⊥
unfolding fill_bytes
counts_no_other_byte left g = apart 0 1 (omega arith) (ap (λ (bytes : List ℕ). slice_index bytes 1) g.0)

pub counting_fills : Fills counting
counting_fills before count = length-replicate count (length before)

-- what is given in parts

parted : (from left : Stream) (one two : List Drawn) → Gave from (one ++ two) left → (middle : Stream) × Gave from one middle × Gave middle two left
parted from left [] two g = (from, refl, g)
parted from left (Short number ∷ more) two g =
    let rest = parted (next_u32 from).1 left more two g.1 in
    (rest.0, (g.0, rest.1), rest.2)
parted from left (Long number ∷ more) two g =
    let rest = parted (next_u64 from).1 left more two g.1 in
    (rest.0, (g.0, rest.1), rest.2)
parted from left (Filled bytes ∷ more) two g =
    let rest = parted (fill_bytes (length bytes) from).1 left more two g.1 in
    (rest.0, (g.0, rest.1), rest.2)

pub in_parts : (from left : Stream) (one two : List Drawn) → Gave from (one ++ two) left ↔ ((middle : Stream) × Gave from one middle × Gave middle two left)
in_parts from left one two = (λ g. parted from left one two g, λ p. gave-gave from p.0 left one two p.1 p.2)

-- near misses

pub no_other_short : (from left : Stream) (number : ℕ) (more : List Drawn) → number ≢ (next_u32 from).0 → Gave from (Short number ∷ more) left → ⊥
no_other_short from left number more other g = other (sym g.0)

pub no_other_long : (from left : Stream) (number : ℕ) (more : List Drawn) → number ≢ (next_u64 from).0 → Gave from (Long number ∷ more) left → ⊥
no_other_long from left number more other g = other (sym g.0)

pub no_other_bytes : (from left : Stream) (bytes : List ℕ) (more : List Drawn) → bytes ≢ (fill_bytes (length bytes) from).0 → Gave from (Filled bytes ∷ more) left → ⊥
no_other_bytes from left bytes more other g = other (sym g.0)

pub in_order : (from left : Stream) (one two : ℕ) → Gave from (Long one ∷ Long two ∷ []) left → (one ≡ (next_u64 from).0) × (two ≡ (next_u64 (next_u64 from).1).0)
in_order from left one two g = (sym g.0, sym g.1.0)

pub not_turned : (from left other : Stream) (one two : ℕ) → one ≢ two → Gave from (Long one ∷ Long two ∷ []) left → Gave from (Long two ∷ Long one ∷ []) other → ⊥
not_turned from left other one two differ g h = differ (sym g.0 ∙ h.0)

pub not_left_out : (from left other : Stream) (one two : ℕ) → one ≢ two → Gave from (Long one ∷ Long two ∷ []) left → Gave from (Long two ∷ []) other → ⊥
not_left_out from left other one two differ g h = differ (sym g.0 ∙ h.0)

pub nothing_lost : (from left : Stream) (old new : List Drawn) → length new < length old → Draws from left old new → ⊥
nothing_lost from left old new less d =
    let long : length new ≡ length old + length d.more = ap (λ (drawn : List Drawn). length drawn) d.are ∙ length-append old d.more in
    omega arith

pub nothing_changed : (from left : Stream) (one two : Drawn) (front old new : List Drawn) → one ≢ two → Draws from left (front ++ one ∷ old) (front ++ two ∷ new) → ⊥
nothing_changed from left one two front old new differ d =
    let behind : two ∷ new ≡ one ∷ (old ++ d.more) = append_cancel_left front (two ∷ new) (one ∷ (old ++ d.more)) (d.are ∙ append_assoc front (one ∷ old) d.more) in
    let same : two ≡ one = cc in
    differ (sym same)
