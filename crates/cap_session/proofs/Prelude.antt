-- What the proofs here take from elsewhere.
pub use Rattle.std.proofs.Common.{All, Bool, Err, IfOk, IsErrOf, List, None, Ok, OnOk, Option, Result, Some, [], ap, append-nil, append_assoc, ap₂, arith, drop, false, inl, inr, is_err, is_some, length, length-append, length-drop, refl, rules, subst, sym, take, true, ℕ, ◌++◌, ◌*◌, ◌+◌, ◌-◌, ◌↔◌, ◌∙◌, ◌∷◌, ◌≡◌, ◌≤◌}
pub use Rattle.std.proofs.Math.Seq.{take-add, take-append_seam}
pub use Rattle.std.proofs.lemmas.List.{append_cancel_left, flat_map_more, length-map, map-append, nil_from_length, take-append-drop, take_all}
pub use Rattle.std.proofs.lemmas.List.Concat.{flat_map-append}
pub use Rattle.std.proofs.lemmas.List.Elements.{All-append, All-cons, All-head, All-nil, All-tail}
pub use Rattle.std.specs.Io.KnownBytes.{Appends}
pub use Rattle.std.specs.Option.{option_to_list}
pub use Rattle.bytes.specs.Filled.{Filled}
pub use Rattle.cap_base.specs.Limits.{resources}
pub use Rattle.cap_frames.proofs.Streams.{one_reading}
pub use Rattle.cap_frames.specs.History.{History, IsAtFault, IsAtRest, IsReading, after_gift, bytes_to_come}
pub use Rattle.cap_frames.specs.Stream.{IsStream, fault, frame_of, frames_of, rest}
pub use Rattle.cap_frames.specs.declared.fault.FrameFault.{FrameFault}
pub use Rattle.cap_frames.specs.declared.fault.FrameFault.TheVariants.{BadLength}
pub use Rattle.cap_grammar.specs.Spelling.{IsNoRequest, IsOfKind, IsRequest, fault_reply, kind_of, reply_bytes}
pub use Rattle.cap_grammar.specs.declared.fault.MessageFault.{MessageFault}
pub use Rattle.cap_grammar.specs.declared.fault.MessageFault.TheVariants.{Bad, NoMemory}
pub use Rattle.cap_grammar.specs.declared.head.Head.{Head}
pub use Rattle.cap_model.specs.News.{Reply}
pub use Rattle.cap_model.specs.declared.request.Request.{Request}
pub use Rattle.cap_session.specs.Answers.{Answers, Call, nothing, refused, replied}
pub use Rattle.cap_session.specs.Asked.{IsOpened, IsReadFrom, PayloadLog, ReadResult, first_open, payloads_in}
pub use Rattle.cap_session.specs.Counted.{StreamState, bytes_in, inner_of, sent_count, state_of}
pub use Rattle.cap_session.specs.Kept.{AnswerLog, IsKept, IsRead, answered_in, calls_in, calls_of, opens_in, sent_in, state_inside}
pub use Rattle.cap_session.specs.Reading.{AnswersAllBad, AnswersBad, EndsWith, Finds, ReadsAhead, ended_by}
pub use Rattle.cap_session.specs.Rooms.{kind_room, open_room, read_room, rooms}
pub use Rattle.cap_session.specs.Session.{AnswersBy, Continues, EndsNow, FeedGives, FollowsStream, HasAnswered, IsSession, MayAnswer, NextGives, OpenRequest, OpensNext, SessionState, SpellsAnswer, after_sent, all_answers, answer_bytes, bytes_unanswered, ended_after, open_payloads, open_requests, with_answer}
pub use Rattle.cap_session.specs.declared.counted.Sent.{Sent}
pub use Rattle.cap_session.specs.declared.session.Next.{Next}
pub use Rattle.cap_session.specs.declared.session.Session.TheInside.{Inside}
pub use Rattle.cap_session.specs.declared.session.SessionCause.{SessionCause}
pub use Rattle.http_server.specs.declared.log.Log.{Log}
