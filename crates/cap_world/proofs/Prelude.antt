-- What the proofs here take from elsewhere.
pub use Rattle.std.proofs.Common.{Bool, Err, IsSome, List, None, Ok, Option, Result, Some, [], ap, append-nil, append_assoc, arith, drop, drop_at, false, get_or, inl, inr, is_err, length, nat_eq, refl, subst, sym, take, true, ℕ, ◌++◌, ◌+◌, ◌<◌, ◌∙◌, ◌∷◌, ◌≡◌, ◌≢◌, ◌≤◌, ◌⊎◌}
pub use Rattle.std.proofs.lemmas.Bool.{cases_Bool, eq-eqb, eqb-true}
pub use Rattle.std.proofs.lemmas.List.{map-append, take_more}
pub use Rattle.std.proofs.lemmas.List.Concat.{flat_map-append}
pub use Rattle.std.proofs.lemmas.List.Elements.{All-from_get_or, All-nil, filter_map-append}
pub use Rattle.std.proofs.lemmas.Option.{slice_get-get_or, slice_get_past}
pub use Rattle.std.proofs.lemmas.Result.{err_from_is_err_and}
pub use Rattle.std.specs.Global.{Vec}
pub use Rattle.std.specs.List.{AllByRecursion}
pub use Rattle.std.specs.Map.{lookup, set_value}
pub use Rattle.std.specs.Prelude.{MatchBool, if◌then◌else◌, ◌==◌}
pub use Rattle.cap_base.specs.Limits.{resources}
pub use Rattle.cap_base.specs.Listing.{IsListing}
pub use Rattle.cap_base.specs.Settings.{Settings}
pub use Rattle.cap_base.specs.declared.no_memory.NoMemory.{NoMemory}
pub use Rattle.cap_config.proofs.Listing.{settings_listed}
pub use Rattle.cap_copy.specs.Snapshot.{Seen, sight_in}
pub use Rattle.cap_frames.proofs.Streams.{stream_goes_on, written_is_read}
pub use Rattle.cap_frames.specs.Stream.{IsBytes, IsPayload, IsStream, fault, frame_of, rest}
pub use Rattle.cap_grammar.specs.Spelling.{fault_reply}
pub use Rattle.cap_laws.proofs.bounds.BoundedRuns.{opened_is_bounded, opened_meets_limits}
pub use Rattle.cap_laws.proofs.bounds.Risen.{states_of_runs}
pub use Rattle.cap_laws.proofs.choice.Choosing.{choice_from_is_computed}
pub use Rattle.cap_laws.proofs.choice.Reasons.{rejected_exactly}
pub use Rattle.cap_laws.proofs.numbers.Balance.{ended_once, live_is_what_was_not_ended}
pub use Rattle.cap_laws.proofs.numbers.ContainerNumbers.{granted_once}
pub use Rattle.cap_laws.proofs.telling.ToldRuns.{ends_are_told_over_runs, grants_are_told_over_runs}
pub use Rattle.cap_model.specs.Admission.{IsAdmissible, NodeProposal, reason_of}
pub use Rattle.cap_model.specs.Bounds.{IsBounded}
pub use Rattle.cap_model.specs.Candidates.{choice_from}
pub use Rattle.cap_model.specs.Choice.{IsFirstChoice, ring_from}
pub use Rattle.cap_model.specs.Events.{Run}
pub use Rattle.cap_model.specs.Flat.{Flat, opened_cluster}
pub use Rattle.cap_model.specs.News.{Reply}
pub use Rattle.cap_model.specs.Replies.{Replies}
pub use Rattle.cap_model.specs.Reporting.{full_reply}
pub use Rattle.cap_model.specs.Sight.{NodeSight, Sight, sight_of}
pub use Rattle.cap_model.specs.Verdicts.{IsOf, IsVerdict}
pub use Rattle.cap_model.specs.declared.event.Event.{Event}
pub use Rattle.cap_model.specs.declared.proposal.Verdict.{Verdict}
pub use Rattle.cap_model.specs.declared.request.Request.{Request}
pub use Rattle.cap_session.proofs.Answering.{answers_open, answers_unless}
pub use Rattle.cap_session.proofs.Continuing.{continues_answer, continues_bad, continues_fed, continues_none, continues_then}
pub use Rattle.cap_session.specs.Answers.{Answers, Call, IsAnswered, nothing}
pub use Rattle.cap_session.specs.Session.{AnswersBy, Continues, EndsNow, FeedGives, IsSession, NextGives, OpenRequest, SessionState, SpellsAnswer, after_answer, all_answers, bytes_unanswered, open_payloads, with_answer}
pub use Rattle.cap_session.specs.declared.session.SessionCause.{SessionCause}
pub use Rattle.cap_sights.proofs.Alike.{same_choice}
pub use Rattle.cap_world.specs.Answers.{AnswersSome, as_events, call_by, call_event, calls_by}
pub use Rattle.cap_world.specs.Connection.{AnswersAs, Connection, HasAnswers, is_open_standing, new_connection}
pub use Rattle.cap_world.specs.Hearing.{Attempt, Hearing, Hears, HearsAttempt, HearsPiece, HearsStep, IsHeard, after_starved, all_performed, attempts_of, cut, cut_short, ended, live, opened, over, performed, starved, unopened}
pub use Rattle.cap_world.specs.Laws.{KeepsPromises}
pub use Rattle.cap_world.specs.Making.{ComesTo, MadeStepsHaveTheHeadline, Makes}
pub use Rattle.cap_world.specs.Once.{HappensOnce, StaysBounded}
pub use Rattle.cap_world.specs.Serving.{Feeds, IsServed, Serves, StandsAfter, standing_of}
pub use Rattle.cap_world.specs.Steps.{Fed, StepOutcome}
pub use Rattle.cap_world.specs.Worker.{WorkerState, with_copy, with_verdict, workers_max}
pub use Rattle.cap_world.specs.WorkerLaws.{CommitsAreExact, CopiedChoicesAreMade, IsExact, IsLeftOf, IsMadeOf, IsNoCopy, ProposalsAreOfCopies, QuietStepsMakeNoEvent, turn_of}
pub use Rattle.cap_world.specs.Working.{Copied, WouldBeMade, made_by}
pub use Rattle.cap_world.specs.World.{Adds, Changes, HasAnswersAt, IsLawful, Known, WorldState, choice_in, choice_of, connection_at, events_of, is_open, is_open_connection, opening_of, output_from, start, verdict_in, verdict_of, worker_at}
pub use Rattle.cap_world.specs.declared.connection.Standing.{Standing}
pub use Rattle.cap_world.specs.declared.step.Did.{Did}
pub use Rattle.cap_world.specs.declared.step.Step.{Step}
