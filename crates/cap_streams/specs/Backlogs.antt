-- What was handed over for a client: what its stream has taken, and what is kept.
use Rattle.std.specs.Prelude.{ℕ, List, ◌++◌, drop}
use Rattle.cap_session.specs.Counted.{bytes_in}
use Rattle.cap_streams.specs.declared.backlog.Backlog.{Backlog}

-- the bytes that the stream has taken
abbrev pub sent_bytes : Backlog → List ℕ
sent_bytes b = bytes_in b.sent.log.items

-- the bytes that the client has not taken yet
abbrev pub kept_bytes : Backlog → List ℕ
kept_bytes b = drop b.taken b.bytes.items

-- all bytes that were handed over, in order: those that the stream has taken, and then those that are kept
abbrev pub handed_bytes : Backlog → List ℕ
handed_bytes b = sent_bytes b ++ kept_bytes b
