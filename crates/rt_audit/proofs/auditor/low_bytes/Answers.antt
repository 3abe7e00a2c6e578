use Rattle.std.proofs.Common.{◌≡◌, ◌+◌, length, take, drop, arith, rules}
use Rattle.std.specs.Int.{w64, from_le_bytes}
use Rattle.rt_hasher.proofs.Fronted.{number_is}
use Rattle.rt_audit.proofs.auditor.low_bytes.Goals as goal

pub returns-then-from_le_bytes-eq0 : goal.returns-then-from_le_bytes-eq0
returns-then-from_le_bytes-eq0 c =
    let first : c.in_ok-high.high.now ≡ take 8 c.args.number.now = search rules in
    let second : c.in_ok-high.rest.now ≡ drop 8 c.args.number.now = search rules in
    let long : length c.in_ok-high.rest.now + 8 ≡ length c.args.number.now = search rules in
    let third : c.in_ok-low.low.now ≡ take 8 c.in_ok-high.rest.now = search rules in
    let left : length c.in_ok-low.rest.now + 8 ≡ length c.in_ok-high.rest.now = search rules in
    let none : length c.in_ok-low.rest.now ≡ 0 = search rules in
    let eight : length c.in_ok-high.rest.now ≡ 8 = omega (arith, left, none) in
    let zero_is : from_le_bytes w64 c.in_ok-high.high.now ≡ 0 = search rules in
    number_is c.args.number.now c.in_ok-high.high.now c.in_ok-high.rest.now c.in_ok-low.low.now first second long third eight zero_is
