use Rattle.cap_config.proofs.Prelude.{◌≡◌, ◌+◌, ◌++◌, ◌∷◌, [], refl, sym, ◌∙◌, ap, true, false, List, arith, lines, err_from_is_err_and, nat_tests, Entry, read_after, entry_of, is_passed_over, key_of, key_text, read_lines, line_detail, detail_at}
use Rattle.cap_config.proofs.LineDetails.{placed}
use Rattle.cap_config.proofs.NextLine.{after_passed, after_entry, after_fault, after_all, lines_none, fails_after, one_read, rest_read}
use Rattle.cap_config.proofs.first_pass.read_lines.Goals as goal

pub returns-in_err-entry : goal.returns-in_err-entry
returns-in_err-entry c =
    let p = err_from_is_err_and c.from_residual.result c.from_residual.ensures.1 in
    let found = c.in_err-entry.field-0.0 in
    let keys = c.loop-rest.invariant.so_far.0 in
    let line = c.split_line.result.0.now in
    let more = lines c.split_line.result.1.now in
    let text = lines c.args.text.now in
    let here : is_passed_over line ≡ false = sym c.is_passed_over.ensures ∙ c.if-not-is_passed_over.true in
    let fails = c.in_err-entry.ensures.entry keys c.loop-rest.invariant.so_far.1 in
    rw (p.1, p.2)
    (record {
      entries =
          fails_after found.fault.kind found.fault (entry_of keys (c.loop-rest.line + 1) line) (read_lines text)
          (λ is. rest_read text _ c.loop-rest.line keys c.loop-rest.entries.items c.loop-rest.invariant.so_far.2 ∙ ap (read_after c.loop-rest.line keys c.loop-rest.entries.items) c.split_line.ensures.lines ∙ after_fault c.loop-rest.line keys c.loop-rest.entries.items line more found.fault here is)
          fails;
      detail =
          c.in_err-entry.ensures.detail
          ∙ ap (λ (es : List Entry). line_detail es found.fault.kind (key_of (key_text line))) c.deref.ensures.value
          ∙ placed text _ more line c.loop-rest.line keys c.loop-rest.entries.items found.fault c.split_line.ensures.lines c.loop-rest.invariant.so_far.2 fails;
    })

pub returns-in_err-push-clause-detail : goal.returns-in_err-push-clause-detail
unfolding detail_at
returns-in_err-push-clause-detail c =
    let p = err_from_is_err_and c.from_residual-in_err-push.result c.from_residual-in_err-push.ensures.1 in
    rw (p.1, p.2) refl

pub loop-rest-preserved-in_ok-push : goal.loop-rest-preserved-in_ok-push
loop-rest-preserved-in_ok-push c =
    let keys = c.loop-rest.invariant.so_far.0 in
    let line = c.split_line.result.0.now in
    let here : is_passed_over line ≡ false = sym c.is_passed_over.ensures ∙ c.if-not-is_passed_over.true in
    let is : entry_of keys (c.loop-rest.line + 1) line ≡ _ = c.in_ok-entry.ensures.entry keys c.loop-rest.invariant.so_far.1 in
    record {
      small = omega (arith, c.loop-rest.invariant.small, c.split_line.ensures.shorter);
      so_far = (
        keys ++ key_text line ∷ [],
        c.in_ok-entry.ensures.keys keys c.loop-rest.invariant.so_far.1,
        one_read _ _ _ line c.loop-rest.line keys _ c.loop-rest.entries.items _ c.split_line.ensures.lines c.loop-rest.invariant.so_far.2
            (λ more.
            after_entry c.loop-rest.line keys c.loop-rest.entries.items line more c.in_ok-entry.entry here is
            ∙ ap (λ (es : List Entry). read_after (c.loop-rest.line + 1) (keys ++ key_text line ∷ []) es more) (sym c.in_ok-push.ensures.items)),
      );
    }

pub loop-rest-preserved : goal.loop-rest-preserved
loop-rest-preserved c =
    let keys = c.loop-rest.invariant.so_far.0 in
    let line = c.split_line.result.0.now in
    let here : is_passed_over line ≡ true = sym c.is_passed_over.ensures ∙ c.if-not-is_passed_over.false in
    record {
      small = omega (arith, c.loop-rest.invariant.small, c.split_line.ensures.shorter);
      so_far = (
        keys,
        c.loop-rest.invariant.so_far.1,
        one_read _ _ _ line c.loop-rest.line keys keys _ _ c.split_line.ensures.lines c.loop-rest.invariant.so_far.2
            (λ more. after_passed c.loop-rest.line keys c.loop-rest.entries.items line more here),
      );
    }

pub returns : goal.returns
returns c =
    let keys = c.loop-rest.invariant.so_far.0 in
    let entries = c.loop-rest.entries.items in
    record {
      entries =
          rest_read _ _ c.loop-rest.line keys entries c.loop-rest.invariant.so_far.2
          ∙ ap (read_after c.loop-rest.line keys entries) (lines_none c.loop-rest.rest.now (grind (arith, nat_tests)))
          ∙ after_all c.loop-rest.line keys entries;
      detail = tt;
    }
