-- What the proofs here take from elsewhere.
pub use Rattle.std.proofs.Common.{Bool, Err, List, None, Ok, Option, Result, Some, [], ap, arith, cond, drop, eqb, false, get_or, inl, inr, length, refl, rules, subst, sym, take, take-append-drop, true, ℕ, ◌++◌, ◌+◌, ◌<◌, ◌∙◌, ◌∷◌, ◌≡◌, ◌⊎◌}
pub use Rattle.std.proofs.Math.Seq.{take-append_seam}
pub use Rattle.std.proofs.lemmas.Bool.{and_parts, eq-eqb}
pub use Rattle.std.proofs.lemmas.Bool.Decides.{nat_tests}
pub use Rattle.std.proofs.lemmas.List.{append-nil, append_assoc, append_cancel_left, nil_from_length}
pub use Rattle.std.proofs.lemmas.List.Elements.{All-cons, All-head, All-nil, All-push, All-same, All-tail, filter_map-append}
pub use Rattle.std.proofs.lemmas.List.Folds.{list_all-append}
pub use Rattle.std.proofs.lemmas.List.Sums.{fold-append}
pub use Rattle.std.specs.Cmp.Lexicographic.{pointwise, same_text}
pub use Rattle.std.specs.Io.KnownBytes.{Consumes}
pub use Rattle.std.specs.List.{All, filter_map, fold, list_all}
pub use Rattle.std.specs.Prelude.{IfErr, IfNone, IfOk, IfSome, IsOk, IsSome, OnOk, nat_eq, ◌||◌}
pub use Rattle.std.specs.Str.Lines.{lines, strip_carriage_return}
pub use Rattle.cap_base.specs.Limits.{resources}
pub use Rattle.cap_base.specs.declared.properties.fault.ConfigFault.{ConfigFault}
pub use Rattle.cap_base.specs.properties.First.{AnswersFault, first_fault, settings_in}
pub use Rattle.cap_model.specs.Flat.{Flat, opened_cluster}
pub use Rattle.cap_model.specs.declared.event.Event.{Event}
pub use Rattle.cap_replay.specs.Print.{blanked}
pub use Rattle.cap_replay.specs.Progress.{FailsAtStep, IsPlayed, IsPlayedOut, MayNotFollow, Reads, Stands, StopsAtStep, whole_line}
pub use Rattle.cap_replay.specs.Script.{HasBadLine, IsCommand, IsLaterLine, IsNumber, IsOpeningLine, IsPiece, IsScript, IsStep, IsStepOrComment, MayOpen, MayStep}
pub use Rattle.cap_replay.specs.Settings.{AreReadBefore, HasSettingsFault, properties, property_of, settings_fault, settings_text, with_line}
pub use Rattle.cap_replay.specs.Streams.{CountsReads, GivesNoEnd, HasEnded, IsOfScript, IsRead, IsRefused, MayWrite, input_failures, misses, output_failures}
pub use Rattle.cap_replay.specs.World.{Advances, Begins, BringSteps, Brings, FailsToBegin, HasPlayed, HasPlayedAll, IsOpened, IsStepFor, IsStepOf, IsWorldOf, MakesStep, Performs, at_start, brought, passed}
pub use Rattle.cap_replay.specs.declared.command.Command.{Command}
pub use Rattle.cap_replay.specs.declared.command.Command.TheVariants.{Bytes, Commit, Conf, Copy, End, Nothing, Open, Propose}
pub use Rattle.cap_replay.specs.declared.simulation.Simulation.{Simulation}
pub use Rattle.cap_replay.specs.declared.stop.Stop.{Stop}
pub use Rattle.cap_replay.specs.declared.stop.Stop.TheVariants.{BadLine, Config, Input, NoMemory, Output}
pub use Rattle.cap_session.specs.Counted.{CanCount, StreamState, inner_of, state_of}
pub use Rattle.cap_session.specs.declared.counted.Counted.{Counted}
pub use Rattle.cap_text.proofs.Cuts.{first_line, last_line, one_cut}
pub use Rattle.cap_text.proofs.Digits.{number_digits}
pub use Rattle.cap_text.specs.Numbers.{is_digit}
pub use Rattle.cap_text.specs.Pieces.{IsCut, lacks}
pub use Rattle.cap_world.proofs.Running.{performs_more}
pub use Rattle.cap_world.specs.Answers.{as_events}
pub use Rattle.cap_world.specs.Connection.{Connection}
pub use Rattle.cap_world.specs.Serving.{Feeds}
pub use Rattle.cap_world.specs.Steps.{StepOutcome}
pub use Rattle.cap_world.specs.Working.{Tried, made_by}
pub use Rattle.cap_world.specs.World.{Adds, Known, WorldState, start}
pub use Rattle.cap_world.specs.declared.step.Did.{Did}
pub use Rattle.cap_world.specs.declared.step.Step.{Step}
