-- What the proofs here take from elsewhere.
pub use Rattle.std.proofs.Common.{List, None, Option, Some, [], ap, append-nil, append_assoc, ap₂, arith, drop, inl, inr, length, length-append, map, min, refl, slice_index_or, subst, suc, sym, take, zero, ℕ, ◌++◌, ◌+◌, ◌-◌, ◌<◌, ◌^◌, ◌∙◌, ◌∷◌, ◌≡◌, ◌≤◌}
pub use Rattle.std.proofs.Math.Seq.{drop-append_seam, drop-length, take-length}
pub use Rattle.std.proofs.lemmas.List.{length-map, length-drop, map-append, take-append-drop}
pub use Rattle.std.specs.Io.KnownBytes.{Appends, Consumes}
pub use Rattle.std.specs.Option.{option_to_list}
pub use Rattle.cap_base.specs.Limits.{resources}
pub use Rattle.cap_frames.specs.Stream.{frame_of, frames_of, tail_bytes}
pub use Rattle.cap_grammar.specs.Spelling.{IsOfKind, fault_reply, kind_of}
pub use Rattle.cap_model.specs.News.{Reply}
pub use Rattle.cap_model.specs.declared.request.Request.{Request}
pub use Rattle.cap_session.proofs.Continuing.{continues_answer, continues_bad, continues_fed, continues_none, continues_then}
pub use Rattle.cap_session.specs.Answers.{Answers, Call}
pub use Rattle.cap_session.specs.Counted.{CanCount, StreamState, inner_of, sent_count, state_of}
pub use Rattle.cap_session.specs.Session.{Continues, EndsNow, FeedGives, IsSession, MayAnswer, NextGives, OpenRequest, OpensNext, SessionState, SpellsAnswer, after_answer, after_sent, all_answers, open_payloads, open_requests, with_answer}
pub use Rattle.cap_session.specs.declared.counted.Sent.{Sent}
pub use Rattle.cap_session.specs.declared.session.Next.{Next}
pub use Rattle.cap_session.specs.declared.session.SessionCause.{SessionCause}
pub use Rattle.cap_shared.specs.Calls.{HasMore, IsCalled}
pub use Rattle.cap_shared.specs.Journal.{receipts_in}
pub use Rattle.cap_shared.specs.WordRule.{sitting}
pub use Rattle.cap_shared.specs.declared.entry.Receipt.{Receipt}
pub use Rattle.cap_shared.specs.declared.history.Moment.{Moment}
pub use Rattle.cap_shared.specs.declared.history.Moment.TheVariants.{Entered, Noted}
pub use Rattle.cap_shared.specs.declared.history.Sitting.{Sitting}
pub use Rattle.cap_serving.specs.Batches.{AnsweredAll, AreReceiptsOf, CallsAll, CallsMade, IsAnsweredBy, IsBatchMade, called_one, none_called, requests_of}
pub use Rattle.cap_serving.specs.Sessions.{GoesOn, HaveReceipts, IsAtRest, IsLost, IsPause, IsRead, IsRound, IsSealed, IsServed, IsWritten, IsWrittenOut, ReadsOn, Serves, ServesAll, ServesToFault, after_reads, end_of, made, none_made, reader_at, starved, writer_at}
pub use Rattle.cap_serving.specs.declared.batches.Called.{Called}
pub use Rattle.cap_serving.specs.declared.sessions.EndCause.{EndCause}
pub use Rattle.cap_serving.specs.declared.sessions.Pause.{Pause}
