use Rattle.rt_store.proofs.Prelude.{◌≡◌, ◌++◌, map, take, drop, closed}
use Rattle.rt_store.proofs.files.close_each.Given as goal

abbrev pub invariant-loop-file : goal.invariant-loop-file
invariant-loop-file l = l.files ≡ map closed (take l.file-index l.fn.files) ++ drop l.file-index l.fn.files
