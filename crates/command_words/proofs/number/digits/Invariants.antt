use Rattle.std.proofs.Common.{◌≡◌, ◌<◌, ◌^◌, take}
use Rattle.std.specs.Str.Parse.{digits_value, AllDigits}
use Rattle.command_words.proofs.number.digits.Given as goal

-- The number of the digits so far.
abbrev pub invariant-loop-byte : goal.invariant-loop-byte
invariant-loop-byte l = record {
  value : l.number ≡ digits_value 10 (take l.byte-index l.bytes);
  digits : AllDigits 10 (take l.byte-index l.bytes);
  small : l.number < 10 ^ l.byte-index;
}
