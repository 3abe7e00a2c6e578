-- Each entry of the tables at a task's number, computed.
use Rattle.std.proofs.Common.{◌≡◌, ◌<◌, ℕ, ◌+◌, ◌*◌, List, [], map, refl, get_or, ◌∙◌, ap, arith}
use Rattle.std.specs.List.{range_with_len}
use Rattle.std.proofs.lemmas.List.FromFn.{get_or-map-range_with_len}
use Rattle.rt_hasher.specs.Crc32c.{bit_step, bit_steps}
use Rattle.rt_hasher.specs.declared.task_tables.TheConstants.{TASK_TABLES}

abbrev entries : ℕ → List ℕ
entries bits = map (bit_steps bits) (range_with_len 0 256)

task_tables_are : TASK_TABLES ≡ map (λ (k : ℕ). entries (8 * (k + 37))) (range_with_len 0 4)
unfolding bit_step bit_steps
task_tables_are = refl

pub task_entry_is : (k b : ℕ) → k < 4 → b < 256 → get_or (get_or TASK_TABLES k []) b 0 ≡ bit_steps (8 * (k + 37)) b
task_entry_is k b small below =
    ap (λ (t : List (List ℕ)). get_or (get_or t k []) b 0) task_tables_are
    ∙ ap (λ (t : List ℕ). get_or t b 0) (get_or-map-range_with_len (λ (k : ℕ). entries (8 * (k + 37))) 0 4 k k [] small (omega arith))
    ∙ get_or-map-range_with_len (bit_steps (8 * (k + 37))) 0 256 b b 0 below (omega arith)
