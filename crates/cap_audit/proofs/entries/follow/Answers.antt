use Rattle.std.proofs.Common.{◌∙◌, inl, inr, refl, sym}
use Rattle.cap_audit.proofs.Pieces.{on_ok}
use Rattle.cap_audit.proofs.Onwards.{if_false, tells}
use Rattle.cap_audit.proofs.Steps.{BeginsNoEpoch, close_alone, close_never, closed_word, entry_alone, entry_never, epoch_alone, epoch_never, epoch_word, outside_never, word_first}
use Rattle.std.proofs.Common.{drop}
use Rattle.cap_audit.proofs.entries.follow.Goals as goal

pub returns-then-starts_with : goal.returns-then-starts_with
returns-then-starts_with c =
    let line = c.args.line.now in
    let begins = word_first line epoch_word (sym c.starts_with.ensures.value ∙ c.if-starts_with.true) in
    record {
      plays = on_ok c.open_epoch.result c.open_epoch.ensures.opens (λ opens. inl (inl opens, refl));
      only = tells c.open_epoch.result c.open_epoch.ensures.opens c.open_epoch.ensures.none
          (λ opens. epoch_alone line (drop 6 line) c.args.place.now c.open_epoch.new.place c.args.cluster.now.flat begins opens)
          (λ none. epoch_never line (drop 6 line) c.args.place.now c.args.cluster.now.flat begins none);
    }

pub returns-then-starts_with-2 : goal.returns-then-starts_with-2
returns-then-starts_with-2 c =
    let line = c.args.line.now in
    let begins = word_first line closed_word (sym c.starts_with-2.ensures.value ∙ c.if-starts_with-2.true) in
    record {
      plays = on_ok c.close_epoch.result c.close_epoch.ensures.closes (λ closes. inl (inr closes, refl));
      only = tells c.close_epoch.result c.close_epoch.ensures.closes c.close_epoch.ensures.none
          (λ closes. close_alone line (drop 7 line) c.args.place.now c.close_epoch.new.place c.args.cluster.now.flat begins closes)
          (λ none. close_never line (drop 7 line) c.args.place.now c.args.cluster.now.flat begins none);
    }

pub returns-in-Err-clause-only : goal.returns-in-Err-clause-only
returns-in-Err-clause-only c =
    let none : BeginsNoEpoch c.args.line.now = record { no_opening = sym c.starts_with.ensures.value ∙ c.if-starts_with.false; no_closing = sym c.starts_with-2.ensures.value ∙ c.if-starts_with-2.false } in
    if_false c.in-Err.stop c.in-Err.ensures.none (λ outside. outside_never c.args.line.now c.args.place.now c.args.cluster.now.flat none outside)

pub returns-in-Ok-enter : goal.returns-in-Ok-enter
returns-in-Ok-enter c =
    let none : BeginsNoEpoch c.args.line.now = record { no_opening = sym c.starts_with.ensures.value ∙ c.if-starts_with.false; no_closing = sym c.starts_with-2.ensures.value ∙ c.if-starts_with-2.false } in
    record {
      plays = inr (c.in-Ok.ensures.enters, c.in-Ok-enter.ensures.makes);
      only = entry_alone c.args.line.now c.args.place.now c.in-Ok.after c.args.cluster.now.flat c.enter.new.cluster.flat none c.in-Ok.ensures.enters c.in-Ok-enter.ensures.only;
    }

pub returns-in-Err-enter-clause-only : goal.returns-in-Err-enter-clause-only
returns-in-Err-enter-clause-only c =
    let none : BeginsNoEpoch c.args.line.now = record { no_opening = sym c.starts_with.ensures.value ∙ c.if-starts_with.false; no_closing = sym c.starts_with-2.ensures.value ∙ c.if-starts_with-2.false } in
    if_false c.in-Err-enter.stop c.in-Err-enter.ensures.only (λ never. entry_never c.args.line.now c.args.place.now c.args.cluster.now.flat none never)
