use Rattle.cap_words.proofs.Paths.{path_is_text}
use Rattle.cap_words.proofs.text.text_of.Goals as goal

pub unreachable-requires : goal.unreachable-requires
unreachable-requires c = c.in_default.ensures.cases.0 (rw c.as_bytes.ensures.value (path_is_text c.args.path.now c.as_bytes.ensures.text))
