use Rattle.cap_session.proofs.Prelude.{◌++◌, ◌∙◌, ℕ, Some, ap, take, drop, sent_in}
use Rattle.cap_session.specs.declared.session.SessionCause.TheVariants as causes
use Rattle.cap_session.proofs.Logs.{sent_more}
use Rattle.cap_session.proofs.SessionSteps.{sends, as_ended, still_ended, ends_by_fault}
use Rattle.cap_session.proofs.session.Session.write_out.Goals as goal

pub invariant_of-self-else-is_none : goal.invariant_of-self-else-is_none
invariant_of-self-else-is_none g c =
    let s = c.self.inside in
    let n = c.count-count.ensures in
    sends s c.advance.new.self c.and-self-inside.result s.ended c.write_all-sent.result c.self.invariant (c.advance.ensures.items ∙ ap (λ (k : ℕ). drop k s.unsent.items) n) c.advance.ensures.spare
    (ap sent_in c.and-self-inside.ensures ∙ sent_more s.sent.items s.unsent c.count-count.result ∙ ap (λ (k : ℕ). sent_in s.sent.items ++ take k s.unsent.items) n) (still_ended s.ended c.write_all-sent.result _ c.in-Fault.is c.if-is_none.ensures)

pub invariant_of-self-2 : goal.invariant_of-self-2
invariant_of-self-2 g c =
    let s = c.self.inside in
    let n = c.count-count.ensures in
    sends s c.advance.new.self c.and-self-inside.result (Some causes.WriteFault) c.write_all-sent.result c.self.invariant (c.advance.ensures.items ∙ ap (λ (k : ℕ). drop k s.unsent.items) n) c.advance.ensures.spare
    (ap sent_in c.and-self-inside.ensures ∙ sent_more s.sent.items s.unsent c.count-count.result ∙ ap (λ (k : ℕ). sent_in s.sent.items ++ take k s.unsent.items) n) (ends_by_fault s.ended c.write_all-sent.result _ c.in-Fault.is c.if-is_none.ensures)

pub invariant_of-self : goal.invariant_of-self
invariant_of-self g c =
    let s = c.self.inside in
    let n = c.count-count.ensures in
    sends s c.advance.new.self c.and-self-inside.result s.ended c.write_all-sent.result c.self.invariant (c.advance.ensures.items ∙ ap (λ (k : ℕ). drop k s.unsent.items) n) c.advance.ensures.spare
    (ap sent_in c.and-self-inside.ensures ∙ sent_more s.sent.items s.unsent c.count-count.result ∙ ap (λ (k : ℕ). sent_in s.sent.items ++ take k s.unsent.items) n) (as_ended s.ended c.write_all-sent.result _ c.enum_told-in-All-1.given.1)
