use Rattle.cap_replay.proofs.Prelude.{inl, inr, arith, state_of}
use Rattle.cap_replay.proofs.Results.{from_ok, by_refusal, input_stopped, stopped_input}
use Rattle.cap_replay.proofs.player.replay_with_words.Goals as goal

pub returns : goal.returns
returns g c = record {
  range = c.finish.ensures.status;
  done = λ e.
      let seen = from_ok c.play_all-played.result (c.finish.ensures.done e) c.play_all-played.ensures.done in
      (seen.0, seen.1, seen.2, seen.3.done);
  refused = λ e.
      by_refusal c.play_all-played.result (c.finish.ensures.refused e)
      (λ n is. let seen = c.play_all-played.ensures.bad n is in (seen.0, seen.1, inl seen.2))
      (λ fault is. let seen = c.play_all-played.ensures.fault fault is in (seen.0, seen.1, inr (fault, seen.2)));
  failed = λ some. c.finish.ensures.failed.1 (elim some [
    | inl missed ↦ omega (arith, c.finish.ensures.counted, input_stopped c.play_all-played.result (state_of c.args.reader.now) (state_of c.play_all-played.new.reader) c.play_all-played.ensures.reads missed)
    | inr failed ↦ omega (arith, c.play_all-played.ensures.writes, failed)
  ]);
  only = λ one.
      let more = c.finish.ensures.failed.0 one in
      elim (stopped_input c.play_all-played.result (state_of c.args.reader.now) (state_of c.play_all-played.new.reader) c.play_all-played.ensures.reads) [
        | inl none ↦ inr (inl (omega (arith, more, none, c.play_all-played.ensures.writes)))
        | inr x ↦ elim x [ inl missed ↦ inl missed | inr many ↦ inr (inr many) ]
      ];
}
