use Rattle.std.proofs.Common.{◌≡◌, ℕ, List, ◌++◌, take}
use Rattle.rt_hasher.specs.Crc32c.{register_of}
use Rattle.rt_hasher.specs.Framing.{framed}
use Rattle.rt_audit.proofs.auditor.digest_with.Given as goal

abbrev pub invariant-loop-field : goal.invariant-loop-field
invariant-loop-field l = (before : List (List ℕ)) → l.fn.hasher ≡ register_of (framed before) → l.hasher ≡ register_of (framed (before ++ take l.field-index l.fields))
