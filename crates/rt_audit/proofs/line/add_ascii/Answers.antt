use Rattle.std.proofs.lemmas.Str.{IsUtf8-from_ascii}
use Rattle.rt_audit.proofs.line.add_ascii.Goals as goal

pub from_utf8_unchecked-word-requires : goal.from_utf8_unchecked-word-requires
from_utf8_unchecked-word-requires c = IsUtf8-from_ascii _ c.requires
