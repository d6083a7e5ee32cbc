use Rattle.cap_text.proofs.Prelude.{◌≡◌, ◌^◌, ◌<◌, take, decimal}
use Rattle.cap_text.proofs.number.decimal.Given as goal

-- the number of the digits so far
abbrev pub invariant-loop-digit : goal.invariant-loop-digit
invariant-loop-digit l = record {
  is : l.number ≡ decimal (take l.digit-index l.digits);
  small : l.number < 10 ^ l.digit-index;
}
