use Rattle.std.proofs.Common.{◌≡◌, ◌++◌}
use Rattle.rt_hasher.specs.Crc32c.{all_ones, byte_steps}
use Rattle.rt_hasher.proofs.Linear.{byte_steps-append}
use Rattle.rt_hasher.proofs.crc32c.Crc32c.update.Goals as goal

pub returns-clause-taken : goal.returns-clause-taken
returns-clause-taken c = λ taken is.
    let e : byte_steps all_ones (taken ++ c.args.bytes.now) ≡ byte_steps (byte_steps all_ones taken) c.args.bytes.now =
    byte_steps-append all_ones taken c.args.bytes.now in
    cc
