-- The text of an address: four decimal bytes with dots, or eight groups of lower-case hex in
-- brackets, none of them left out; then a colon and the port.
use Rattle.std.specs.Prelude.{ℕ, List, ◌++◌, codes, false, slice_index}
use Rattle.std.specs.Fmt.{decimal, digits}
use Rattle.rt_base.specs.declared.addr.Addr.{Addr}
use Rattle.rt_base.specs.declared.addr.Ip.{Ip}
use Rattle.rt_base.specs.declared.addr.Ip.TheVariants.{V4, V6}

-- lower-case hex without leading zeros
abbrev pub hex_text : ℕ → List ℕ
hex_text n = digits 16 false n

-- four groups with colons
abbrev pub groups_text : ℕ → ℕ → ℕ → ℕ → List ℕ
groups_text a b c d = hex_text a ++ codes ":" ++ hex_text b ++ codes ":" ++ hex_text c ++ codes ":" ++ hex_text d

abbrev pub ip_text : Ip → List ℕ
ip_text (V4 bytes) =
    decimal (slice_index bytes 0) ++ codes "." ++ decimal (slice_index bytes 1) ++ codes "."
    ++ decimal (slice_index bytes 2) ++ codes "." ++ decimal (slice_index bytes 3)
ip_text (V6 groups) =
    codes "["
    ++ groups_text (slice_index groups 0) (slice_index groups 1) (slice_index groups 2) (slice_index groups 3)
    ++ codes ":"
    ++ groups_text (slice_index groups 4) (slice_index groups 5) (slice_index groups 6) (slice_index groups 7)
    ++ codes "]"

abbrev pub address_text : Addr → List ℕ
address_text a = ip_text a.ip ++ codes ":" ++ decimal a.port
