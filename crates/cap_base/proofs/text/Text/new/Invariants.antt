use Rattle.std.proofs.Common.{◌≡◌, length}
use Rattle.cap_base.proofs.lists.Padding.{IsCopied}
use Rattle.cap_base.proofs.text.Text.new.Given as goal

abbrev pub invariant-loop-i : goal.invariant-loop-i
invariant-loop-i g l = record {
  long : length l.held ≡ g.row.MAX;
  is : IsCopied l.i l.bytes l.held;
}
