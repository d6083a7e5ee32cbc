-- What the proofs here take from elsewhere.
pub use Rattle.std.proofs.Common.{Err, List, None, Ok, Option, Some, [], ap, append_assoc, arith, false, get_or, inl, inr, length, map, refl, rules, set, take, drop, take-append-drop, subst, suc, sym, true, ℕ, ◌+◌, ◌-◌, ◌%◌, ◌++◌, ◌/◌, ◌<◌, ◌^◌, ◌∙◌, ◌∷◌, ◌≡◌, ◌==◌}
pub use Rattle.std.proofs.Math.Seq.{drop-append_seam}
pub use Rattle.std.proofs.lemmas.Bool.{and_parts, cases_eq, cases_lt}
pub use Rattle.std.proofs.lemmas.Fmt.{IsAscii-decimal, decimal_by_steps, parse-decimal}
pub use Rattle.std.proofs.lemmas.List.{drop_more, get_or_past, take_more, take_more_set}
pub use Rattle.std.proofs.lemmas.Str.{IsUtf8-from_ascii}
pub use Rattle.hex.proofs.HexLemmas.{IsDigits-lower_digits, decode_of-encode_lower}
pub use Rattle.hex.specs.Hex.{IsBytes, decode_of, encode_lower, hex_digit_value, lower_digits}
pub use Rattle.std.proofs.lemmas.Bool.Decides.{nat_tests}
pub use Rattle.std.proofs.lemmas.List.{append-nil, map-append, nil_from_length}
pub use Rattle.std.proofs.lemmas.List.Folds.{list_all-append}
pub use Rattle.std.proofs.lemmas.Grind.{flat_map-append}
pub use Rattle.std.specs.Io.KnownBytes.{Consumes, IsAtEnd}
pub use Rattle.std.specs.Prelude.{IfErr, IsOk, OnOk, Result, codes, decimal, is_some, nat_eq, not, slice_index}
pub use Rattle.std.specs.Cmp.Lexicographic.{pointwise, same_text}
pub use Rattle.std.specs.Str.Lines.{lines, strip_carriage_return}
pub use Rattle.cap_base.specs.Limits.{resources}
pub use Rattle.cap_model.specs.Admission.{NodeProposal}
pub use Rattle.cap_model.specs.Verdicts.{IsOf}
pub use Rattle.cap_model.specs.Events.{Run, Step, grant_proposal, is_no_memory, reserve_proposal}
pub use Rattle.cap_model.specs.Flat.{Container, Flat, Reservation}
pub use Rattle.cap_model.specs.News.{Reply}
pub use Rattle.cap_model.specs.Replies.{Replies, RepliesAlways, after_request, reply_to}
pub use Rattle.cap_model.specs.declared.request.Request.{Request}
pub use Rattle.cap_model.specs.declared.event.Event.{Event}
pub use Rattle.cap_commit.specs.ClusterState.{ClusterState}
pub use Rattle.cap_grammar.proofs.RequestLaws.{request_is_bytes}
pub use Rattle.cap_grammar.specs.Spelling.{FitsRequest, IsRequest, kind_of, reply_bytes, request_bytes}
pub use Rattle.cap_journal.specs.Lines.{blanked, call_words, closed_words, ended, epoch_words, event_words, grant_words, head, property_words, reserve_words}
pub use Rattle.cap_session.specs.Counted.{CanCount, StreamState, inner_of, state_of}
pub use Rattle.cap_session.specs.declared.counted.Counted.{Counted}
pub use Rattle.cap_text.proofs.Cuts.{first_line, last_line, one_cut, rest_all}
pub use Rattle.cap_text.specs.Pieces.{IsCut, lacks}
pub use Rattle.cap_audit.specs.Audit.{Adds, AreTrue, Begins, Closes, Enters, FitsCall, FitsProposal, Goes, IsLineOf, IsNoWay, IsOnlyWay, IsOpened, IsOpenedBy, IsTrueFile, Makes, Opens, Passes, PlaysLine, PlaysOn, Spells, StandsAt, StandsOn, StartsAnew, settings_text, start}
pub use Rattle.cap_audit.specs.Onward.{GoesOn, GoesOnFrom, IfFalse, IsFalseBeginning, IsFalseText, IsFoundFalse, IsNoWayFrom, LeadsNowhere, LeadsOn, MakesNone, MakesOnly, MayGoOn, OpensNone, Starts, Tells}
pub use Rattle.cap_audit.specs.Reading.{AreNumbers, IsBlankOrEnd, IsCallText, IsWord, proposal_numbers}
pub use Rattle.cap_audit.specs.Input.{HasEnded, IsFalseInput, IsPlayed, IsRead, Reads, whole_line}
pub use Rattle.cap_audit.specs.declared.auditor.Auditor.{Auditor}
pub use Rattle.cap_audit.specs.declared.place.Place.{Place}
