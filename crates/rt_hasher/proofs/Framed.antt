-- Fields that are framed: one more of them, and that equal bytes are of equal fields.
use Rattle.std.proofs.Common.{◌≡◌, ◌<◌, ◌^◌, ℕ, List, [], ◌∷◌, ◌++◌, length, take, drop, refl, sym, ap, ◌∙◌, append-nil}
use Rattle.std.proofs.Math.Seq.{take-append_seam, drop-append_seam}
use Rattle.std.proofs.lemmas.Grind.{flat_map-append}
use Rattle.std.proofs.lemmas.List.Elements.{All-head, All-tail}
use Rattle.std.proofs.lemmas.Nat.{from_be_bytes-to_be_bytes_8}
use Rattle.std.specs.Int.{w64, to_be_bytes, from_be_bytes}
use Rattle.rt_hasher.specs.Crc32c.{all_ones, byte_steps, register_of}
use Rattle.rt_hasher.specs.Framing.{framed_field, framed, IsFramedOneWay}
use Rattle.rt_hasher.proofs.Linear.{byte_steps-append}

-- a field's length, and then its bytes
pub framed_field-steps : (r : ℕ) (field : List ℕ) → byte_steps (byte_steps r (to_be_bytes w64 (length field))) field ≡ byte_steps r (framed_field field)
unfolding framed_field
framed_field-steps r field = sym (byte_steps-append r (to_be_bytes w64 (length field)) field)

-- one more field
pub register-field : (fields : List (List ℕ)) (field : List ℕ) → register_of (framed (fields ++ field ∷ [])) ≡ byte_steps (register_of (framed fields)) (framed_field field)
register-field fields field =
    ap register_of (flat_map-append framed_field fields (field ∷ []) ∙ ap (λ (z : List ℕ). framed fields ++ z) (append-nil (framed_field field)))
    ∙ byte_steps-append all_ones (framed fields) (framed_field field)

-- the first field and the others
apart : (a b x y : List ℕ) → length a < 2 ^ 64 → length b < 2 ^ 64 → framed_field a ++ x ≡ framed_field b ++ y → (a ≡ b) × (x ≡ y)
unfolding framed_field
apart a b x y short little e =
    let lengths : to_be_bytes w64 (length a) ≡ to_be_bytes w64 (length b) = ap (take 8) e in
    let same : length a ≡ length b =
    sym (from_be_bytes-to_be_bytes_8 (length a) short) ∙ ap (from_be_bytes w64) lengths ∙ from_be_bytes-to_be_bytes_8 (length b) little in
    let rest : a ++ x ≡ b ++ y = ap (drop 8) e in (
      sym (take-append_seam a x) ∙ ap (take (length a)) rest ∙ ap (λ (n : ℕ). take n (b ++ y)) same ∙ take-append_seam b y,
      sym (drop-append_seam a x) ∙ ap (drop (length a)) rest ∙ ap (λ (n : ℕ). drop n (b ++ y)) same ∙ drop-append_seam b y,
    )

abbrev IsShort : List ℕ → Type 0
IsShort field = length field < 2 ^ 64

pub framed_one_way : IsFramedOneWay
unfolding framed_field
framed_one_way [] [] _ _ _ = refl
framed_one_way [] (b ∷ others) _ _ e = cc
framed_one_way (a ∷ fields) [] _ _ e = cc
framed_one_way (a ∷ fields) (b ∷ others) short little e =
    let parts : (a ≡ b) × (framed fields ≡ framed others) =
    apart a b (framed fields) (framed others) (All-head IsShort a fields short) (All-head IsShort b others little) e in
    let rest : fields ≡ others =
    framed_one_way fields others (All-tail IsShort a fields short) (All-tail IsShort b others little) parts.1 in
    ap (λ (z : List ℕ). z ∷ fields) parts.0 ∙ ap (λ (z : List (List ℕ)). b ∷ z) rest
