-- What the bytes of a reply say.
use Rattle.std.specs.Prelude.{◌≡◌, ℕ, List, true}
use Rattle.cap_grammar.specs.declared.answers.Answer.{Answer}
use Rattle.cap_grammar.specs.Shown.{shown}
use Rattle.cap_grammar.specs.Spelling.{IsReply, IsKind, IsOfKind, IsFaultStatus, fault_reply}
use Rattle.cap_grammar.specs.Versions.{amounts_in, is_version}
use Rattle.cap_base.specs.Limits.{resources}
use Rattle.cap_model.specs.News.{Reply}

-- the amounts that the version does not spell are 0
abbrev pub IsShown : ℕ → Reply resources → Type 0
IsShown version reply = shown (amounts_in version) reply ≡ reply

-- a reply of this kind that is read in this version
abbrev pub IsReadAs : ℕ → ℕ → Reply resources → Type 0
IsReadAs version kind reply = IsOfKind kind reply × IsShown version reply

-- the bytes spell the answer
abbrev pub Says : List ℕ → Answer → Type 0
Says bytes (Answer.Reply head kind reply) = IsReply bytes head kind reply × IsShown head.version reply
Says bytes (Answer.Fault status) = IsFaultStatus status × (bytes ≡ fault_reply status)

-- a fault of a status that faults have, or a reply of its version and kind
abbrev pub IsKindly : Answer → Type 0
IsKindly (Answer.Reply head kind reply) = (is_version resources head.version ≡ true) × IsKind kind × IsReadAs head.version kind reply
IsKindly (Answer.Fault status) = IsFaultStatus status
