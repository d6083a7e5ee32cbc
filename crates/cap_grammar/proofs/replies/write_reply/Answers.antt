use Rattle.std.proofs.Common.{refl}
use Rattle.cap_grammar.proofs.replies.write_reply.Goals as goal

pub returns-clause-spells : goal.returns-clause-spells
returns-clause-spells c = record {
  spelled = refl;
  version_fits = c.requires.version;
  id_fits = c.put_head.ensures.fits;
  is_kind = c.requires.table;
  of_kind = c.requires.kind;
  fits = c.put_reply_body.ensures.fits;
}
