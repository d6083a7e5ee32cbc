use Rattle.cap_config.proofs.Prelude.{◌∙◌, ap, refl, sym, subst, Ok, Option, lines, IfOk-weaker, IfErr-weaker, err_from_is_err_and, ConfigFault, are_bounded, read_lines, AnswersFault, first_fault, settings_after, whole_fault, fault_alone, detail_in, detail_after, whole_detail}
use Rattle.cap_config.proofs.FaultLines.{lines_kept}
use Rattle.cap_config.proofs.Firsts.{early_by_line, early_by_shape, line_fault, settings_are}
use Rattle.cap_config.proofs.LineDetails.{detail_of_line}
use Rattle.cap_config.proofs.reading.read_detailed.Goals as goal

pub returns-in_err-entries-clause-fault : goal.returns-in_err-entries-clause-fault
returns-in_err-entries-clause-fault c =
    let p = err_from_is_err_and c.from_residual.result c.from_residual.ensures.1 in
    let text = c.args.text.now in
    let fault = c.in_err-entries.field-0.0.fault in
    rw (p.1, p.2) (line_fault _ (first_fault text) (read_lines (lines text)) fault (early_by_line text fault) c.in_err-entries.ensures.entries)

pub returns-in_err-entries-clause-detail : goal.returns-in_err-entries-clause-detail
unfolding detail_in
returns-in_err-entries-clause-detail c =
    let p = err_from_is_err_and c.from_residual.result c.from_residual.ensures.1 in
    let lines = lines c.args.text.now in
    let fault = c.in_err-entries.field-0.0.fault in
    rw (p.1, p.2) (c.in_err-entries.ensures.detail ∙ sym (detail_of_line lines fault fault.kind (read_lines lines) refl c.in_err-entries.ensures.entries))

pub returns-in_err-index-clause-detail : goal.returns-in_err-index-clause-detail
unfolding detail_in
returns-in_err-index-clause-detail c =
    let p = err_from_is_err_and c.from_residual-in_err-index.result c.from_residual-in_err-index.ensures.1 in
    rw (p.1, p.2, c.in_ok-entries.ensures.entries) refl

pub settings_of-requires : goal.settings_of-requires
settings_of-requires c = record {
  index = c.in_ok-index.ensures.0;
  bounded = ap are_bounded (c.in_ok-index.ensures.1 ∙ c.deref.ensures.value) ∙ lines_kept (lines c.args.text.now) c.in_ok-entries.entries.items c.in_ok-entries.ensures.entries;
}

pub returns-clause-fault : goal.returns-clause-fault
returns-clause-fault c =
    let text = c.args.text.now in
    let all = c.in_ok-index.ensures.1 ∙ c.deref.ensures.value in
    let early = ap whole_fault all ∙ sym (early_by_shape text c.in_ok-entries.entries.items c.in_ok-entries.ensures.entries) in
    subst (λ (o : Option ConfigFault). AnswersFault o (fault_alone c.settings_of.result)) early c.settings_of.ensures.fault

pub returns-clause-detail : goal.returns-clause-detail
unfolding detail_in
returns-clause-detail c =
    let lines = lines c.args.text.now in
    let all = c.in_ok-index.ensures.1 ∙ c.deref.ensures.value in
    IfErr-weaker c.settings_of.result _ _
    (λ found e. e ∙ ap (λ es. whole_detail es found.fault.kind) all ∙ sym (ap (detail_after lines found.fault) c.in_ok-entries.ensures.entries))
    c.settings_of.ensures.detail

pub returns-clause-settings : goal.returns-clause-settings
returns-clause-settings c =
    let text = c.args.text.now in
    let all = c.in_ok-index.ensures.1 ∙ c.deref.ensures.value in
    IfOk-weaker c.settings_of.result _ _
    (λ config e. settings_are text c.in_ok-entries.entries.items c.in_ok-entries.ensures.entries ∙ ap (λ es. settings_after (Ok es)) (sym all) ∙ e)
    c.settings_of.ensures.settings
