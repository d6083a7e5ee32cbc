use Rattle.cap_audit.proofs.Prelude.{rules, ◌≡◌, ◌<◌, ◌++◌, [], ◌∙◌, length, arith, ap, refl, StreamState, state_of, nat_tests, IsFalseInput}
use Rattle.cap_audit.proofs.Pieces.{starts, as_now, on_ok, read_nothing, read_more, read_none, ended_since, false_input, false_piece, still_counts}
use Rattle.cap_audit.proofs.Onwards.{if_false, on_err, unread}
use Rattle.cap_audit.proofs.player.play_all.Goals as goal

pub returns-then-is_empty : goal.returns-then-is_empty
returns-then-is_empty g c =
    let empty = c.if-is_empty.ensures in
    let none : length c.in-Ok.piece.now ≡ 0 = grind (arith, nat_tests, empty) in
    let before = c.loop-reads.invariant.text in
    let played = as_now before.0 c.loop-reads.begun.items c.deref.result.now c.loop-reads.auditor before.2 c.deref.ensures.value in
    let read = read_none g.R.Read.remaining c.args.reader.now c.loop-reads.reader c.read_piece.new.reader before.0 c.in-Ok.piece.now none before.1 c.in-Ok.ensures.read in
    let ended = ended_since g.R.Read.remaining c.args.reader.now c.loop-reads.reader c.read_piece.new.reader c.loop-reads.invariant.ends (c.in-Ok.ensures.ended none) in
    record {
      good = on_ok c.play_last.result c.play_last.ensures.good (λ good. (before.0, read, ended, good before.0 played));
      bad = on_err c.play_last.result c.play_last.ensures.bad (λ bad. false_input g.R.Read.remaining c.args.reader.now c.read_piece.new.reader before.0 read ended (bad before.0 played));
    }

pub returns-in-Err-clause-bad : goal.returns-in-Err-clause-bad
returns-in-Err-clause-bad g c = unread c.in-Err.stop (IsFalseInput g.R.Read.remaining c.args.reader.now) c.in-Err.ensures.failed

pub returns-in-Err-play_piece-clause-bad : goal.returns-in-Err-play_piece-clause-bad
returns-in-Err-play_piece-clause-bad g c = if_false c.in-Err-play_piece.stop c.in-Err-play_piece.ensures.bad (λ bad.
    let before = c.loop-reads.invariant.text in
    let read = read_more g.R.Read.remaining c.args.reader.now c.loop-reads.reader c.read_piece.new.reader before.0 c.in-Ok.piece.now before.1 c.in-Ok.ensures.read in
    false_piece g.R.Read.remaining c.args.reader.now c.read_piece.new.reader (before.0 ++ c.in-Ok.piece.now) read (bad before.0 before.2))

pub loop-reads-preserved : goal.loop-reads-preserved
loop-reads-preserved g c =
    let before = c.loop-reads.invariant.text in
    let i = c.loop-reads.invariant in
    let empty = c.if-is_empty.ensures in
    let some : 0 < length c.in-Ok.piece.now = grind (arith, nat_tests, empty) in
    let goes = c.in-Ok.ensures.more some in
    record {
      text = (
        before.0 ++ c.in-Ok.piece.now,
        read_more g.R.Read.remaining c.args.reader.now c.loop-reads.reader c.read_piece.new.reader before.0 c.in-Ok.piece.now before.1 c.in-Ok.ensures.read,
        c.in-Ok-play_piece.ensures.good before.0 before.2,
      );
      clean = c.in-Ok-play_piece.ensures.begun;
      failures = ap (λ (x : StreamState). x.failures) goes ∙ i.failures;
      quiets = ap (λ (x : StreamState). x.quiets) goes ∙ i.quiets;
      ends = ap (λ (x : StreamState). x.ends) goes ∙ i.ends;
    }

pub loop-reads-init : goal.loop-reads-init
loop-reads-init g c = record {
  text = ([], read_nothing g.R.Read.remaining c.args.reader.now, rw c.new-begun.ensures.items (starts c.args.auditor.now c.requires.anew));
  clean = search rules;
  failures = refl;
  quiets = refl;
  ends = refl;
}

pub read_piece-requires : goal.read_piece-requires
read_piece-requires g c =
    let i = c.loop-reads.invariant in
    still_counts (state_of c.args.reader.now) (state_of c.loop-reads.reader) c.requires.reader i.failures i.quiets i.ends

pub play_last-requires : goal.play_last-requires
play_last-requires g c = rw c.deref.ensures.value c.loop-reads.invariant.clean

pub play_piece-requires : goal.play_piece-requires
play_piece-requires g c = c.loop-reads.invariant.clean
