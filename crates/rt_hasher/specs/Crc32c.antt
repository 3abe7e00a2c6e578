-- CRC-32C, the checksum of Castagnoli's polynomial (RFC 3720, section 12.1, with examples in its appendix B.4), bit by bit.
-- It is reflected: a byte goes in with its lowest bit first, and the register moves towards its low end.
use Rattle.std.specs.Prelude.{ℕ, zero, suc, ◌/◌, ◌%◌, ◌*◌, List, [], ◌∷◌, bit_xor}

-- x^28 + x^27 + x^26 + x^25 + x^23 + x^22 + x^20 + x^19 + x^18 + x^14 + x^13 + x^11 + x^10 + x^9 + x^8 + x^6 + 1, besides
-- x^32, with the highest power as the lowest bit
abbrev pub polynomial : ℕ
polynomial = 0x82F6_3B78

-- the register at the start, and what turns all its bits over at the end
abbrev pub all_ones : ℕ
all_ones = 0xFFFF_FFFF

-- the register after a bit: it moves by one, and where a one falls out, the polynomial is added without carries
unfoldable pub bit_step : ℕ → ℕ
bit_step register = bit_xor (register / 2) (register % 2 * polynomial)

-- the register after so many bits
unfoldable pub bit_steps : ℕ → ℕ → ℕ
bit_steps zero register = register
bit_steps (suc n) register = bit_steps n (bit_step register)

-- the register after a byte
abbrev pub byte_step : ℕ → ℕ → ℕ
byte_step register byte = bit_steps 8 (bit_xor register byte)

-- the register after further bytes
abbrev pub byte_steps : ℕ → List ℕ → ℕ
byte_steps register [] = register
byte_steps register (byte ∷ bytes) = byte_steps (byte_step register byte) bytes

-- the register after all bytes
abbrev pub register_of : List ℕ → ℕ
register_of bytes = byte_steps all_ones bytes

-- the checksum of bytes
abbrev pub crc32c : List ℕ → ℕ
crc32c bytes = bit_xor (register_of bytes) all_ones
