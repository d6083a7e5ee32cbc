use Rattle.cap_replay.proofs.Prelude.{rules, ◌≡◌, ◌<◌, ◌++◌, [], ◌∙◌, Err, inl, inr, length, arith, ap, refl, StreamState, state_of, HasEnded, nat_tests}
use Rattle.cap_replay.proofs.Results.{on_ok, reads_of_script, writes_of_script, output_of_script, still_counts}
use Rattle.cap_replay.proofs.Lines.{starts, as_now, fault_when}
use Rattle.cap_replay.proofs.Reading.{read_nothing, read_more, read_none, ended_since}
use Rattle.cap_replay.proofs.player.play_all.Goals as goal

pub returns-then-is_empty-clause-done : goal.returns-then-is_empty-clause-done
returns-then-is_empty-clause-done g c =
    let empty = c.if-is_empty.ensures in
    let none : length c.in-Ok-read_piece.piece.now ≡ 0 = grind (arith, nat_tests, empty) in
    let before = c.loop-reads.invariant.text in
    let played = as_now before.0 c.loop-reads.begun.items c.deref.result.now c.loop-reads.script.simulation c.write_out.new.self.simulation before.2 c.deref.ensures.value c.in-Ok.ensures.same in
    on_ok c.play_last.result c.play_last.ensures.good (λ good. (
      before.0,
      read_none g.R.Read.remaining c.args.reader.now c.loop-reads.reader c.read_piece.new.reader before.0 c.in-Ok-read_piece.piece.now none before.1 c.in-Ok-read_piece.ensures.read,
      ended_since g.R.Read.remaining c.args.reader.now c.loop-reads.reader c.read_piece.new.reader c.loop-reads.invariant.ends (c.in-Ok-read_piece.ensures.ended none),
      good before.0 played,
    ))

pub returns-then-is_empty-clause-bad : goal.returns-then-is_empty-clause-bad
returns-then-is_empty-clause-bad g c =
    let empty = c.if-is_empty.ensures in
    let none : length c.in-Ok-read_piece.piece.now ≡ 0 = grind (arith, nat_tests, empty) in
    let before = c.loop-reads.invariant.text in
    let played = as_now before.0 c.loop-reads.begun.items c.deref.result.now c.loop-reads.script.simulation c.write_out.new.self.simulation before.2 c.deref.ensures.value c.in-Ok.ensures.same in
    λ n e. (
      before.0,
      read_none g.R.Read.remaining c.args.reader.now c.loop-reads.reader c.read_piece.new.reader before.0 c.in-Ok-read_piece.piece.now none before.1 c.in-Ok-read_piece.ensures.read,
      c.play_last.ensures.bad n e before.0 played,
    )

pub returns-then-is_empty-clause-fault : goal.returns-then-is_empty-clause-fault
returns-then-is_empty-clause-fault g c =
    let empty = c.if-is_empty.ensures in
    let none : length c.in-Ok-read_piece.piece.now ≡ 0 = grind (arith, nat_tests, empty) in
    let before = c.loop-reads.invariant.text in
    let played = as_now before.0 c.loop-reads.begun.items c.deref.result.now c.loop-reads.script.simulation c.write_out.new.self.simulation before.2 c.deref.ensures.value c.in-Ok.ensures.same in
    λ fault e. (
      before.0,
      read_none g.R.Read.remaining c.args.reader.now c.loop-reads.reader c.read_piece.new.reader before.0 c.in-Ok-read_piece.piece.now none before.1 c.in-Ok-read_piece.ensures.read,
      fault_when before.0 (Unit {0}) (HasEnded g.R.Read.remaining c.args.reader.now c.read_piece.new.reader) fault (λ u. ended_since g.R.Read.remaining c.args.reader.now c.loop-reads.reader c.read_piece.new.reader c.loop-reads.invariant.ends (c.in-Ok-read_piece.ensures.ended none)) (c.play_last.ensures.fault fault e before.0 played),
    )

pub returns-in-Err-play_lines-clause-bad : goal.returns-in-Err-play_lines-clause-bad
returns-in-Err-play_lines-clause-bad g c =
    let before = c.loop-reads.invariant.text in
    let played = as_now before.0 c.loop-reads.begun.items c.loop-reads.begun.items c.loop-reads.script.simulation c.write_out.new.self.simulation before.2 refl c.in-Ok.ensures.same in
    λ n e. (
      before.0 ++ c.in-Ok-read_piece.piece.now,
      read_more g.R.Read.remaining c.args.reader.now c.loop-reads.reader c.read_piece.new.reader before.0 c.in-Ok-read_piece.piece.now before.1 c.in-Ok-read_piece.ensures.read,
      c.in-Err-play_lines.ensures.bad n e before.0 played,
    )

pub returns-in-Err-play_lines-clause-fault : goal.returns-in-Err-play_lines-clause-fault
returns-in-Err-play_lines-clause-fault g c =
    let before = c.loop-reads.invariant.text in
    let played = as_now before.0 c.loop-reads.begun.items c.loop-reads.begun.items c.loop-reads.script.simulation c.write_out.new.self.simulation before.2 refl c.in-Ok.ensures.same in
    λ fault e. (
      before.0 ++ c.in-Ok-read_piece.piece.now,
      read_more g.R.Read.remaining c.args.reader.now c.loop-reads.reader c.read_piece.new.reader before.0 c.in-Ok-read_piece.piece.now before.1 c.in-Ok-read_piece.ensures.read,
      fault_when (before.0 ++ c.in-Ok-read_piece.piece.now) ⊥ (HasEnded g.R.Read.remaining c.args.reader.now c.read_piece.new.reader) fault (λ none. absurd none) (c.in-Err-play_lines.ensures.fault fault e before.0 played),
    )

pub loop-reads-preserved : goal.loop-reads-preserved
loop-reads-preserved g c =
    let before = c.loop-reads.invariant.text in
    let played = as_now before.0 c.loop-reads.begun.items c.loop-reads.begun.items c.loop-reads.script.simulation c.write_out.new.self.simulation before.2 refl c.in-Ok.ensures.same in
    let i = c.loop-reads.invariant in
    let empty = c.if-is_empty.ensures in
    let some : 0 < length c.in-Ok-read_piece.piece.now = grind (arith, nat_tests, empty) in
    let goes = c.in-Ok-read_piece.ensures.more some in
    record {
      text = (
        before.0 ++ c.in-Ok-read_piece.piece.now,
        read_more g.R.Read.remaining c.args.reader.now c.loop-reads.reader c.read_piece.new.reader before.0 c.in-Ok-read_piece.piece.now before.1 c.in-Ok-read_piece.ensures.read,
        c.in-Ok-play_lines.ensures.good before.0 played,
      );
      clean = c.in-Ok-play_lines.ensures.begun;
      failures = ap (λ (x : StreamState). x.failures) goes ∙ i.failures;
      quiets = ap (λ (x : StreamState). x.quiets) goes ∙ i.quiets;
      ends = ap (λ (x : StreamState). x.ends) goes ∙ i.ends;
      many = omega (arith, ap (λ (x : StreamState). x.reads) goes, i.many);
      writes = c.in-Ok.ensures.counts.failures ∙ i.writes;
      may_write = still_counts (state_of c.loop-reads.writer) (state_of c.write_out.new.writer) i.may_write c.in-Ok.ensures.counts.failures c.in-Ok.ensures.counts.quiets c.in-Ok.ensures.counts.ends;
    }

pub loop-reads-init : goal.loop-reads-init
loop-reads-init g c = record {
  text = ([], read_nothing g.R.Read.remaining c.args.reader.now, rw c.new-begun.ensures.items (starts c.args.script.now.simulation c.requires.settings c.requires.world));
  clean = search rules;
  failures = refl;
  quiets = refl;
  ends = refl;
  many = omega arith;
  writes = refl;
  may_write = c.requires.writer;
}

pub write_out-requires : goal.write_out-requires
write_out-requires g c = c.loop-reads.invariant.may_write

pub read_piece-requires : goal.read_piece-requires
read_piece-requires g c =
    let i = c.loop-reads.invariant in
    still_counts (state_of c.args.reader.now) (state_of c.loop-reads.reader) c.requires.reader i.failures i.quiets i.ends

pub play_last-requires : goal.play_last-requires
play_last-requires g c = rw c.deref.ensures.value c.loop-reads.invariant.clean

pub play_lines-requires : goal.play_lines-requires
play_lines-requires g c = c.loop-reads.invariant.clean

-- a write failed

pub returns-in-Err-clause-reads : goal.returns-in-Err-clause-reads
returns-in-Err-clause-reads g c = rw c.in-Err.ensures.stop (omega (arith, c.loop-reads.invariant.failures, c.loop-reads.invariant.quiets))

pub returns-in-Err-clause-writes : goal.returns-in-Err-clause-writes
returns-in-Err-clause-writes g c = rw c.in-Err.ensures.stop (omega (arith, c.in-Err.ensures.counts.failures, c.loop-reads.invariant.writes))

-- a read failed

pub returns-in-Err-read_piece-clause-reads : goal.returns-in-Err-read_piece-clause-reads
returns-in-Err-read_piece-clause-reads g c =
    let missed = rw c.in-Err-read_piece.ensures.failed at c.in-Err-read_piece.ensures.reads in
    rw c.in-Err-read_piece.ensures.failed (inl (omega (arith, missed, c.loop-reads.invariant.failures, c.loop-reads.invariant.quiets)))

pub returns-in-Err-read_piece-clause-writes : goal.returns-in-Err-read_piece-clause-writes
returns-in-Err-read_piece-clause-writes g c = rw c.in-Err-read_piece.ensures.failed (omega (arith, c.in-Ok.ensures.counts.failures, c.loop-reads.invariant.writes))

pub returns-in-Err-read_piece-clause-counts : goal.returns-in-Err-read_piece-clause-counts
returns-in-Err-read_piece-clause-counts g c =
    rw c.in-Err-read_piece.ensures.failed
    (still_counts (state_of c.loop-reads.writer) (state_of c.write_out.new.writer) c.loop-reads.invariant.may_write c.in-Ok.ensures.counts.failures c.in-Ok.ensures.counts.quiets c.in-Ok.ensures.counts.ends)

-- the input has ended

pub returns-then-is_empty-clause-reads : goal.returns-then-is_empty-clause-reads
returns-then-is_empty-clause-reads g c =
    reads_of_script c.play_last.result (state_of c.args.reader.now) (state_of c.read_piece.new.reader) c.play_last.ensures.only (omega (arith, c.in-Ok-read_piece.ensures.reads, c.loop-reads.invariant.failures, c.loop-reads.invariant.quiets))

pub returns-then-is_empty-clause-writes : goal.returns-then-is_empty-clause-writes
returns-then-is_empty-clause-writes g c = omega (arith, c.in-Ok.ensures.counts.failures, c.loop-reads.invariant.writes, output_of_script c.play_last.result c.play_last.ensures.only)

pub returns-then-is_empty-clause-counts : goal.returns-then-is_empty-clause-counts
returns-then-is_empty-clause-counts g c =
    writes_of_script c.play_last.result (state_of c.write_out.new.writer) c.play_last.ensures.only
    (still_counts (state_of c.loop-reads.writer) (state_of c.write_out.new.writer) c.loop-reads.invariant.may_write c.in-Ok.ensures.counts.failures c.in-Ok.ensures.counts.quiets c.in-Ok.ensures.counts.ends)

-- a line may not stand there

pub returns-in-Err-play_lines-clause-reads : goal.returns-in-Err-play_lines-clause-reads
returns-in-Err-play_lines-clause-reads g c =
    reads_of_script {X = Unit {0}} (Err c.in-Err-play_lines.stop) (state_of c.args.reader.now) (state_of c.read_piece.new.reader) c.in-Err-play_lines.ensures.only (omega (arith, c.in-Ok-read_piece.ensures.reads, c.loop-reads.invariant.failures, c.loop-reads.invariant.quiets))

pub returns-in-Err-play_lines-clause-writes : goal.returns-in-Err-play_lines-clause-writes
returns-in-Err-play_lines-clause-writes g c =
    let none = output_of_script {X = Unit {0}} (Err c.in-Err-play_lines.stop) c.in-Err-play_lines.ensures.only in
    omega (arith, c.in-Ok.ensures.counts.failures, c.loop-reads.invariant.writes, none)

pub returns-in-Err-play_lines-clause-counts : goal.returns-in-Err-play_lines-clause-counts
returns-in-Err-play_lines-clause-counts g c =
    writes_of_script {X = Unit {0}} (Err c.in-Err-play_lines.stop) (state_of c.write_out.new.writer) c.in-Err-play_lines.ensures.only
    (still_counts (state_of c.loop-reads.writer) (state_of c.write_out.new.writer) c.loop-reads.invariant.may_write c.in-Ok.ensures.counts.failures c.in-Ok.ensures.counts.quiets c.in-Ok.ensures.counts.ends)

-- too many reads were made

pub returns-clause-reads : goal.returns-clause-reads
returns-clause-reads g c =
    let i = c.loop-reads.invariant in
    inr (record {
      reads = omega (arith, i.many, c.loop-reads-test.false);
      misses = omega (arith, i.failures, i.quiets);
      ends = i.ends;
    })

pub returns-clause-writes : goal.returns-clause-writes
returns-clause-writes g c = omega (arith, c.loop-reads.invariant.writes)

pub returns-clause-counts : goal.returns-clause-counts
returns-clause-counts g c = c.loop-reads.invariant.may_write
