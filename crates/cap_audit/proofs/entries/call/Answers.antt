use Rattle.std.proofs.Common.{◌∙◌, sym}
use Rattle.cap_audit.proofs.Prelude.{◌≡◌, false, FitsCall, Replies, Reply, ap, is_no_memory, resources, subst, call_words}
use Rattle.cap_audit.proofs.Onwards.{none_made}
use Rattle.cap_audit.proofs.Steps.{call_again, call_of, makes_call, written}
use Rattle.cap_audit.proofs.entries.call.Goals as goal

pub returns-in-Err-clause-only : goal.returns-in-Err-clause-only
returns-in-Err-clause-only c = none_made c.in-Err.stop c.args.line.now c.args.cluster.now.flat (λ after makes.
    let of = call_of c.args.line.now c.args.rest.now makes.0 c.requires makes.1 in
    c.in-Err.ensures.found of.by of.request of.text)

pub returns-then-not-are_same-clause-only : goal.returns-then-not-are_same-clause-only
returns-then-not-are_same-clause-only c = λ after makes.
    let old = c.args.cluster.now.flat in
    let new = c.dispatch-given.new.cluster.flat in
    let view = c.view.ensures in
    let replies = subst (λ (r : Reply resources). Replies old c.in-Ok.call.1 r new) (sym view) c.dispatch-given.ensures.replies in
    let answered : is_no_memory c.view.result ≡ false = ap is_no_memory view ∙ c.is_want_of_memory.ensures new ∙ c.if-is_want_of_memory.false in
    let again = call_again c.args.line.now c.args.rest.now old new after c.in-Ok.call.0 c.in-Ok.call.1 c.view.result c.requires c.in-Ok.ensures.found replies answered makes in
    let words = written c.new-words.result.items c.deref.result.now (call_words c.in-Ok.call.0 c.in-Ok.call.1 c.view.result) c.new-words.ensures.items (c.deref.ensures.value ∙ c.in-Ok-put_call.ensures.put) in
    let same = c.are_same.ensures.1 (again.line_is ∙ sym words) in
    cc (same, c.if-not-are_same.true)

pub returns : goal.returns
returns c =
    let old = c.args.cluster.now.flat in
    let new = c.dispatch-given.new.cluster.flat in
    let view = c.view.ensures in
    let replies = subst (λ (r : Reply resources). Replies old c.in-Ok.call.1 r new) (sym view) c.dispatch-given.ensures.replies in
    let answered : is_no_memory c.view.result ≡ false = ap is_no_memory view ∙ c.is_want_of_memory.ensures new ∙ c.if-is_want_of_memory.false in
    let fits : FitsCall c.in-Ok.call.0 c.in-Ok.call.1 c.view.result = record { by_fits = c.in-Ok.ensures.fits.0; request_fits = c.in-Ok.ensures.fits.1; answered = answered } in
    record {
      makes = makes_call old new c.in-Ok.call.0 c.in-Ok.call.1 c.view.result c.args.line.now c.new-words.result.items c.put_call.new.line.items
          replies c.new-words.ensures.items c.in-Ok-put_call.ensures.put (c.are_same.ensures.0 c.if-not-are_same.false ∙ c.deref.ensures.value) fits;
      only = λ after makes. (call_again c.args.line.now c.args.rest.now old new after c.in-Ok.call.0 c.in-Ok.call.1 c.view.result c.requires c.in-Ok.ensures.found replies answered makes).cluster;
    }
