-- What the proofs here take from elsewhere.
pub use Rattle.std.proofs.Common.{Bool, Err, List, None, Option, Some, [], ap, append_assoc, arith, cond, drop, false, get_or, inl, inr, length, length-append, map, refl, subst, suc, sym, take, true, zero, ℕ, ◌%◌, ◌*◌, ◌++◌, ◌+◌, ◌-◌, ◌<◌, ◌^◌, ◌∙◌, ◌∷◌, ◌≡◌, ◌≤◌, ◌⊎◌}
pub use Rattle.std.proofs.Math.Seq.{drop-drop}
pub use Rattle.std.proofs.lemmas.Bool.{and_parts, cases_lt, eqb-true, le-ltb, leb-true, lt-ltb, ltb-false, or_cases}
pub use Rattle.std.proofs.lemmas.Bool.Decides.{nat_tests}
pub use Rattle.std.proofs.lemmas.List.{append-nil, drop_all, drop_at, get_or-append-add, get_or-take, get_or_past, length-replicate, length-take, nil_from_length, replicate-append-replicate, take-append-drop, take-replicate, take_all, take_at}
pub use Rattle.std.proofs.lemmas.List.Elements.{All-append, All-cons, All-from_get_or, All-from_recursion, All-nil, recursion_from_All}
pub use Rattle.std.proofs.lemmas.Nat.{be_bytes_2, be_bytes_4, be_bytes_8, from_be_bytes-to_be_bytes_2, from_be_bytes-to_be_bytes_4, from_be_bytes-to_be_bytes_8}
pub use Rattle.std.proofs.lemmas.Result.{err_from_is_err_and}
pub use Rattle.std.specs.Int.{Width, byte_len, from_be_bytes, to_be_bytes, w16, w32, w64}
pub use Rattle.std.specs.List.{AllByRecursion, flat_map, list_all}
pub use Rattle.std.specs.Prelude.{IfOk, IfSome, IsErrOf, Ok, Result, if◌then◌else◌, is_some, nat_le, nat_lt, option_map, slice_index, unwrap_or, ◌&&◌, ◌==◌, ◌||◌}
pub use Rattle.cap_base.specs.Cascade.{holds_of}
pub use Rattle.cap_base.specs.Limits.{asks_max, news_max, numbers_max, resources, text_max}
pub use Rattle.cap_base.specs.Texts.{is_graphic, is_text}
pub use Rattle.cap_frames.specs.Stream.{IsBytes}
pub use Rattle.cap_grammar.specs.Answers.{Says}
pub use Rattle.cap_grammar.specs.Bodies.{HasItemsAt, ListsItems, ask_of, lines, numbers, wish_of}
unfoldable pub use Rattle.cap_grammar.specs.Bodies.{an_ask, body_at, node_report, queue_state, registration, submission, wishes}
pub use Rattle.cap_grammar.specs.Descriptions.{Field, bool, counted, made, nothing, number, pair, text_that, u16, u32, u64, u8, vector}
pub use Rattle.cap_grammar.specs.Fields.{all_at, byte_at, flag_at, flag_of_byte, made_at, number_at, pair_at, passing_at, text_at, times_at, ◌>>=◌}
unfoldable pub use Rattle.cap_grammar.specs.Fields.{amount_at, amounts_at, counted_at}
pub use Rattle.cap_grammar.specs.Laws.{node_with_two_amounts}
pub use Rattle.cap_grammar.specs.Reading.{CarriesItems, GivesInMemory}
unfoldable pub use Rattle.cap_grammar.specs.Reading.{a_head, request_at}
pub use Rattle.cap_grammar.specs.Shown.{IsShownVector, shown, shown_amounts, shown_grant, shown_news}
pub use Rattle.cap_grammar.specs.Spelling.{FitsAsk, FitsByte, FitsEnd, FitsGrant, FitsListed, FitsNumber, FitsRefusal, FitsReply, FitsRequest, IsKind, IsNoRequest, IsOfKind, IsReply, IsRequest, byte, fault_reply, flag, kind_of, limit, refusal_bytes, reply_body, reply_bytes, request_body, request_bytes, text}
unfoldable pub use Rattle.cap_grammar.specs.Spelling.{allocate_bytes, ask, beat, cluster_report, end, grant, list_bytes, queue_report, resource}
pub use Rattle.cap_grammar.specs.Texts.{is_host, is_path, is_place, is_rack, is_user}
pub use Rattle.cap_grammar.specs.Versions.{amounts_in, is_version}
pub use Rattle.cap_grammar.specs.declared.fault.MessageFault.{MessageFault}
pub use Rattle.cap_grammar.specs.declared.fault.MessageFault.TheVariants.{NoMemory}
pub use Rattle.cap_grammar.specs.declared.head.Head.{Head}
pub use Rattle.cap_model.specs.News.{AllocateReply, Grant, Reply, cause_number}
pub use Rattle.cap_model.specs.Refusals.{status_of}
pub use Rattle.cap_model.specs.declared.ask.Key.{Key}
pub use Rattle.cap_model.specs.declared.news.Cause.{Cause}
pub use Rattle.cap_model.specs.declared.news.End.{End}
pub use Rattle.cap_model.specs.declared.refusal.Refusal.{Refusal}
pub use Rattle.cap_model.specs.declared.refusal.Refusal.TheVariants.{AlreadyRegistered, AskTooLarge, BadResponseId, BadSettings, HostTaken, NotLeaf, NotRegistered, NumbersSpent, OtherQueues, QueueStopped, TooManyApplications, TooManyAsks, TooManyNodes, TotalTooLarge, UnknownApplication, UnknownNode, UnknownQueue, ZeroResource}
pub use Rattle.cap_model.specs.declared.request.Request.{Request}
pub use Rattle.cap_vector.specs.Vector.{IsResource, IsSum, IsVector, IsWithin, amount_max, sum_max, zeros}
