-- Labels: a letter and then letters, digits and underscores, as metric names of the Prometheus
-- text format without colons.
use Rattle.std.specs.Prelude.{ℕ, Bool, false, ◌||◌, ◌&&◌, ◌==◌, List, [], ◌∷◌, ◌++◌, codes, nat_eq}
use Rattle.std.specs.Char.{is_ascii_alphabetic, is_ascii_alphanumeric}
use Rattle.std.specs.List.{list_all, starts_with}

-- a letter, a digit or an underscore
abbrev pub is_word_byte : ℕ → Bool
is_word_byte b = is_ascii_alphanumeric b || (b == 95)

abbrev pub is_label : List ℕ → Bool
is_label [] = false
is_label (b ∷ bs) = is_ascii_alphabetic b && list_all is_word_byte bs

-- the name, after the prefix and an underscore where there is a prefix
abbrev pub prefixed : List ℕ → List ℕ → List ℕ
prefixed [] name = name
prefixed (b ∷ bs) name = (b ∷ bs) ++ codes "_" ++ name

-- the names of the runtime's own metrics
abbrev pub is_reserved : List ℕ → Bool
is_reserved name = starts_with nat_eq name (codes "runtime")
