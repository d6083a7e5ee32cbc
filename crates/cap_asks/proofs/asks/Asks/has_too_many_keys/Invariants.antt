use Rattle.cap_asks.proofs.Prelude.{◌≡◌, length, take}
use Rattle.cap_asks.proofs.Keeping.{AreTaken, put_all}
use Rattle.cap_asks.proofs.asks.Asks.has_too_many_keys.Given as goal

-- as many as stand after the asks so far, whose slots are taken
abbrev pub invariant-loop-i : goal.invariant-loop-i
invariant-loop-i g l = record {
  count : l.count ≡ length (put_all l.self.asks (take l.i l.asks));
  slots : length l.is_taken ≡ 4096;
  taken : AreTaken l.is_taken (take l.i l.asks);
}
