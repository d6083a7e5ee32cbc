use Rattle.cap_session.proofs.Prelude.{refl, sym, ap, ap₂, ◌∙◌, subst, [], ◌++◌, arith, List, All-nil, IsRead, History, IsReading, OpenRequest, open_payloads, rooms, nothing, answered_in, AnswerLog}
use Rattle.cap_session.proofs.Reading.{nothing_read}
use Rattle.cap_session.proofs.SessionSteps.{opens_are}
use Rattle.cap_session.proofs.session.Session.open.Goals as goal

pub invariant_of-result : goal.invariant_of-result
invariant_of-result c =
    let opens = opens_are c.new-2.result.items [] [] c.new-3.result.items c.new-2.ensures.items c.new-3.ensures.items in
    record {
      later = [];
      asked = c.new-2.ensures.items ∙ ap (λ (x : List OpenRequest). x ++ []) (sym opens);
      ahead = c.new-3.ensures.items;
      read = All-nil IsRead;
      lost = [];
      given = ap (λ (h : History). h.given) c.in-Ok.ensures ∙ sym (ap₂ (λ (log : AnswerLog) (x : List OpenRequest). answered_in log ++ (open_payloads x ++ [])) c.new-5.ensures c.new-2.ensures.items);
      reading = subst IsReading (sym c.in-Ok.ensures) nothing_read;
      none_lost = λ _. refl;
      room = omega (arith, ap rooms c.new-2.ensures.items);
      answers = rw (c.new-4.ensures.items, c.new-5.ensures, c.new-6.ensures) nothing;
      none_open = λ _. c.new-2.ensures.items;
    }
