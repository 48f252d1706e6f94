use Rattle.std.proofs.Common.{◌≡◌, drop}
use Rattle.mad_keys.specs.Digits.{scan, numbers_at}
use Rattle.mad_keys.proofs.numbers.numbers_of.Given as goal

abbrev pub invariant-loop-b : goal.invariant-loop-b
invariant-loop-b l = numbers_at l.fn.bytes ≡ scan (drop l.b-index l.fn.bytes) l.numbers l.number
