use Rattle.cap_serving.proofs.Prelude.{refl, ap, subst, [], ◌++◌, None, Option, state_of, inner_of, IsRead, IsRound, IsWritten, open_requests, EndCause}
use Rattle.cap_serving.proofs.Receipts.{serves_none, serves_then}
use Rattle.cap_serving.proofs.Rounds.{served_then}
use Rattle.cap_serving.proofs.Streams.{reads_none, writes_none, read_then, written_then, can_still_read, can_still_write, sum_saturates}
use Rattle.cap_serving.proofs.sessions.serve_session.Goals as goal

pub loop-init : goal.loop-init
loop-init g c = record {
  serves = serves_none c.args.session c.args.seat.now;
  pending = c.requires.pending;
  goes_on = c.requires.goes_on;
  read = reads_none None (state_of c.args.reader.now) (g.R.Read.remaining (inner_of c.args.reader.now)) c.args.session.fed c.args.session.fed refl refl;
  written = ([], writes_none None (state_of c.args.writer.now) (g.W.Write.contents (inner_of c.args.writer.now)) c.args.session.sent c.args.session.sent refl refl, refl);
}

pub serve_once-served-requires-clause-goes_on : goal.serve_once-served-requires-clause-goes_on
serve_once-served-requires-clause-goes_on g c = c.loop.invariant.goes_on

pub serve_once-served-requires-clause-pending : goal.serve_once-served-requires-clause-pending
serve_once-served-requires-clause-pending g c = c.loop.invariant.pending

pub serve_once-served-requires-clause-reader : goal.serve_once-served-requires-clause-reader
serve_once-served-requires-clause-reader g c = can_still_read c.loop.invariant.read c.requires.reader

pub serve_once-served-requires-clause-writer : goal.serve_once-served-requires-clause-writer
serve_once-served-requires-clause-writer g c = can_still_write c.loop.invariant.written.1 c.requires.writer

pub returns-in-Some-end-clause-served : goal.returns-in-Some-end-clause-served
returns-in-Some-end-clause-served g c =
    let round = subst (λ (e : Option EndCause). IsRound g.J.Naming.limit c.loop.session c.serve_once-served.result.session c.loop.seat c.serve_once-served.new.seat e) c.in-Some-end.is c.serve_once-served.ensures.round in
    served_then c.serve_once-served.result.session c.serve_once-served.new.seat g.J.Naming.limit c.in-Some-end.cause c.loop.invariant.serves round

pub returns-in-Some-end-clause-read : goal.returns-in-Some-end-clause-read
returns-in-Some-end-clause-read g c =
    read_then c.loop.invariant.read
    (subst (λ (e : Option EndCause). IsRead e (state_of c.loop.reader) (state_of c.serve_once-served.new.reader) (g.R.Read.remaining (inner_of c.loop.reader)) (g.R.Read.remaining (inner_of c.serve_once-served.new.reader)) c.loop.session.fed c.serve_once-served.result.session.fed) c.in-Some-end.is c.serve_once-served.ensures.read)

pub returns-in-Some-end-clause-written : goal.returns-in-Some-end-clause-written
returns-in-Some-end-clause-written g c =
    let i = c.loop.invariant.written in
    let wrote = c.serve_once-served.ensures.written in
    let last = subst (λ (e : Option EndCause). IsWritten e (state_of c.loop.writer) (state_of c.serve_once-served.new.writer) (g.W.Write.contents (inner_of c.loop.writer)) (g.W.Write.contents (inner_of c.serve_once-served.new.writer)) c.loop.session.sent c.serve_once-served.result.session.sent wrote.0) c.in-Some-end.is wrote.1 in
    (i.0 ++ wrote.0, written_then i.1 last, sum_saturates i.0 wrote.0 c.loop.sent c.serve_once-served.result.sent c.saturating_add-sent.result i.2 wrote.2 c.saturating_add-sent.ensures)

pub loop-preserved : goal.loop-preserved
loop-preserved g c =
    let i = c.loop.invariant in
    let wrote = c.serve_once-served.ensures.written in
    let round = subst (λ (e : Option EndCause). IsRound g.J.Naming.limit c.loop.session c.serve_once-served.result.session c.loop.seat c.serve_once-served.new.seat e) c.in_default.is c.serve_once-served.ensures.round in
    let read = subst (λ (e : Option EndCause). IsRead e (state_of c.loop.reader) (state_of c.serve_once-served.new.reader) (g.R.Read.remaining (inner_of c.loop.reader)) (g.R.Read.remaining (inner_of c.serve_once-served.new.reader)) c.loop.session.fed c.serve_once-served.result.session.fed) c.in_default.is c.serve_once-served.ensures.read in
    let more = subst (λ (e : Option EndCause). IsWritten e (state_of c.loop.writer) (state_of c.serve_once-served.new.writer) (g.W.Write.contents (inner_of c.loop.writer)) (g.W.Write.contents (inner_of c.serve_once-served.new.writer)) c.loop.session.sent c.serve_once-served.result.session.sent wrote.0) c.in_default.is wrote.1 in
    record {
      serves = serves_then i.serves round.0;
      pending = ap open_requests round.1;
      goes_on = round.2;
      read = read_then i.read read;
      written = (i.written.0 ++ wrote.0, written_then i.written.1 more, sum_saturates i.written.0 wrote.0 c.loop.sent c.serve_once-served.result.sent c.saturating_add-sent.result i.written.2 wrote.2 c.saturating_add-sent.ensures);
    }
