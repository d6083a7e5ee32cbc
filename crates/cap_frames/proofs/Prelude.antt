-- What the proofs here take from elsewhere.
pub use Rattle.std.proofs.Common.{All, Bool, List, Ok, Some, [], ap, append-nil, append_assoc, ap₂, arith, drop, drop_at, false, get_or, inl, inr, length, length-append, length-drop, length-take, lit<, nat_le, refl, subst, suc, sym, take, take-append-drop, take_at, true, zero, ℕ, ◌%◌, ◌++◌, ◌+◌, ◌-◌, ◌/◌, ◌<◌, ◌^◌, ◌↔◌, ◌∙◌, ◌∷◌, ◌≡◌, ◌≤◌, ◌⊎◌}
pub use Rattle.std.proofs.lemmas.Bool.{cases_eq, cases_lt, cond-true, le-leb}
pub use Rattle.std.proofs.lemmas.Grind.{flat_map-append}
pub use Rattle.std.proofs.lemmas.List.{append_cancel_left, flat_map_more, get_or-take, get_or_past, length-take-le, map_push, take-append-le}
pub use Rattle.std.proofs.lemmas.List.Elements.{All-append, All-cons, All-drop, All-from_get_or, All-head, All-nil, All-push, All-tail}
pub use Rattle.std.proofs.lemmas.Nat.{be_bytes_4, from_be_bytes-to_be_bytes_4, mod_below}
pub use Rattle.std.specs.Int.{from_be_bytes, to_be_bytes, w32}
pub use Rattle.std.specs.Int.Digits.{number_from_digits}
pub use Rattle.bytes.specs.Filled.{Filled}
pub use Rattle.cap_frames.specs.Codec.{frame_layout}
pub use Rattle.cap_frames.specs.History.{FaultIsLast, GivenIsFirst, History, IsAtFault, IsAtRest, IsReading, after_gift}
pub use Rattle.cap_frames.specs.Stream.{FaultStays, HasOneReading, HasReading, IsBytes, IsFault, IsPayload, IsRest, IsStream, IsTail, StreamGoesOn, Tail, WrittenIsRead, fault, frame_of, frames_of, payload_max, rest, said_length, tail_bytes}
pub use Rattle.cap_frames.specs.Waiting.{Accounts, AccountsUnless, BeginsWithFrame, IsKept, fed_of, given_of, history_of, last_bytes}
pub use Rattle.cap_frames.specs.declared.framer.Framer.TheInside.{Inside}
pub use Rattle.tokio_util.proofs.CodecLemmas.Next.{Resumes_now}
pub use Rattle.tokio_util.proofs.CodecLemmas.Theorems.{length_delimited_round_trip}
pub use Rattle.tokio_util.specs.Codec.LengthDelimited.{Answers, Cut, IsAtHead, IsUnfinished, codec_layout, cut, cut_in, frame, gives_frames}
pub use Rattle.tokio_util.specs.Codec.LengthField.{IsFrameOf}
pub use Rattle.tokio_util.specs.Codec.Next.{decoded, partial}
pub use Rattle.tokio_util.specs.declared.codec.length_delimited.LengthDelimitedCodec.{LengthDelimitedCodec}
