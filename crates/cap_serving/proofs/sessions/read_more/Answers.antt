use Rattle.cap_serving.proofs.Prelude.{sym, ap, ◌∙◌, [], take, append-nil, SessionState}
use Rattle.cap_serving.proofs.Rounds.{fed_none}
use Rattle.cap_serving.proofs.sessions.read_more.Goals as goal

pub returns-in-Ended-clause-step : goal.returns-in-Ended-clause-step
returns-in-Ended-clause-step g c = fed_none (take c.in-Bytes.count c.read.new.buf) c.args.session.now c.feed.new.self c.in-Ended.field-0 c.requires.goes_on c.in-Ended.ensures.gives

pub returns-in-Ended-clause-read : goal.returns-in-Ended-clause-read
returns-in-Ended-clause-read g c =
    let now = fed_none (take c.in-Bytes.count c.read.new.buf) c.args.session.now c.feed.new.self c.in-Ended.field-0 c.requires.goes_on c.in-Ended.ensures.gives in
    record {
      reads = 1;
      more = [];
      lost = take c.in-Bytes.count c.read.new.buf;
      state = c.in-Bytes.ensures.state;
      consumes = c.in-Bytes.ensures.bytes.2;
      fed = ap (λ (t : SessionState). t.fed) now ∙ sym (append-nil c.args.session.now.fed);
      is_lost = tt;
    }

pub returns-in-Ended-clause-sent : goal.returns-in-Ended-clause-sent
returns-in-Ended-clause-sent g c =
    ap (λ (t : SessionState). t.sent) (fed_none (take c.in-Bytes.count c.read.new.buf) c.args.session.now c.feed.new.self c.in-Ended.field-0 c.requires.goes_on c.in-Ended.ensures.gives)
