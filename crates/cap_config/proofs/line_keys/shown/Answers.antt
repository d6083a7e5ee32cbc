use Rattle.std.proofs.Common.{sym, ◌∙◌}
use Rattle.cap_config.proofs.Printable.{printable_is_text}
use Rattle.cap_config.proofs.line_keys.shown.Goals as goal

pub unreachable-requires : goal.unreachable-requires
unreachable-requires c = c.in_default.ensures.cases.0 (printable_is_text c.args.bytes.now (sym c.all_printable.ensures ∙ c.if-not-all_printable.false))
