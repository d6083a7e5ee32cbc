use Rattle.cap_audit.proofs.Prelude.{◌≡◌, List, ℕ, true, lacks, state_of, IsPlayed, IsRead}
use Rattle.cap_audit.proofs.player.play_all.Given as goal

-- what was read was played but for what is begun, and no read has failed or found the end
abbrev pub invariant-loop-reads : goal.invariant-loop-reads
invariant-loop-reads g l = record {
  text : (text : List ℕ) × IsRead g.R.Read.remaining l.fn.reader l.reader text × IsPlayed text l.begun.items l.auditor;
  clean : lacks 10 l.begun.items ≡ true;
  failures : (state_of l.reader).failures ≡ (state_of l.fn.reader).failures;
  quiets : (state_of l.reader).quiets ≡ (state_of l.fn.reader).quiets;
  ends : (state_of l.reader).ends ≡ (state_of l.fn.reader).ends;
}
