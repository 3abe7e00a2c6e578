-- How many bytes a range has.
use Rattle.rt_store.proofs.Prelude.{◌≡◌, ◌+◌, ◌≤◌, ℕ, List, length, take, drop, arith, length-drop, length-take-le}

pub range_len : (offset len : ℕ) (content : List ℕ) → offset + len ≤ length content → length (take len (drop offset content)) ≡ len
range_len offset len content within = length-take-le len (drop offset content) (omega (arith, within, length-drop offset content))
