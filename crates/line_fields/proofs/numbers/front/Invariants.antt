use Rattle.std.proofs.Common.{◌≡◌, take}
use Rattle.std.specs.Str.Parse.{AllDigits, digits_value}
use Rattle.line_fields.proofs.numbers.front.Given as goal

abbrev pub invariant-loop-i : goal.invariant-loop-i
invariant-loop-i l = (l.n ≡ digits_value 10 (take l.i l.bytes)) × AllDigits 10 (take l.i l.bytes)
