-- What the proofs here take from elsewhere.
pub use Rattle.std.proofs.Common.{Bool, List, None, Option, Some, [], ap, arith, false, inl, inr, refl, subst, suc, sym, take, true, zero, ℕ, ◌++◌, ◌∙◌, ◌∷◌, ◌≡◌, ◌≤◌}
pub use Rattle.std.proofs.lemmas.Bool.{and_parts, cases_Bool, eq-eqb, eqb-true}
pub use Rattle.std.proofs.lemmas.List.{length-map}
pub use Rattle.std.proofs.lemmas.List.Elements.{All-cons, All-head, All-nil, All-tail}
pub use Rattle.std.specs.Int.{to_be_bytes, w16, w32}
pub use Rattle.std.specs.List.{All, AllByRecursion, cons_option, flat_map}
pub use Rattle.std.specs.Prelude.{IfSome, if◌then◌else◌, map, option_map, ◌==◌, ◌||◌}
pub use Rattle.cap_base.specs.Limits.{asks_max, news_max, resources}
pub use Rattle.cap_frames.specs.Stream.{Tail}
pub use Rattle.cap_grammar.specs.Shown.{IsShownVector}
pub use Rattle.cap_grammar.specs.Spelling.{FitsAsk, FitsGrant, FitsReply, FitsRequest, IsNoRequest, IsOfKind, IsReply, IsRequest, kind_of, limit, reply_body, request_body}
unfoldable pub use Rattle.cap_grammar.specs.Spelling.{allocate_bytes, ask, cluster_report, grant, list_bytes, queue_report, resource}
pub use Rattle.cap_grammar.specs.Versions.{is_version}
pub use Rattle.cap_grammar.specs.declared.head.Head.{Head}
pub use Rattle.cap_model.specs.Asks.{Ask}
pub use Rattle.cap_model.specs.Candidates.{choice_from}
pub use Rattle.cap_model.specs.News.{AllocateReply, Grant, Reply}
pub use Rattle.cap_model.specs.Sight.{sight_of}
pub use Rattle.cap_model.specs.declared.event.Event.{Event}
pub use Rattle.cap_model.specs.declared.request.Request.{Request}
pub use Rattle.cap_narrow.proofs.Choices.{choices_narrow}
pub use Rattle.cap_narrow.proofs.Gpus.{refreshes_ask_none}
pub use Rattle.cap_narrow.proofs.Sights.{sights_narrow, sights_show_none}
pub use Rattle.cap_narrow.proofs.Steps.{runs_narrow}
pub use Rattle.cap_narrow.specs.Clusters.{WantNone, narrow_allocate_reply, narrow_ask, narrow_grant, narrow_proposal}
pub use Rattle.cap_narrow.specs.Narrowing.{EndsInNone}
pub use Rattle.cap_narrow.specs.Steps.{AsksNone, CallsAskNone, EventAsksNone, narrow_event, narrow_reply, narrow_request}
pub use Rattle.cap_narrow_worlds.specs.Laws.{ProposalsAreOfTwoResources, TwoResourcesAreKept}
pub use Rattle.cap_narrow_worlds.specs.Worlds.{HaveNoVersion2, HeardNoVersion2, IsNoRaise, IsNotOfVersion2, RaisesNone}
pub use Rattle.cap_session.specs.Answers.{Answers, Call, nothing, refused, replied}
pub use Rattle.cap_vector.specs.Vector.{IsResource, IsVector, amount, amount_max, sum_max}
pub use Rattle.cap_world.proofs.Running.{made_steps_have_the_headline}
pub use Rattle.cap_world.specs.Answers.{AnswersAll, AnswersSome, calls_by}
pub use Rattle.cap_world.specs.Hearing.{Hearing, IsHeard, cut, live, over, unopened}
pub use Rattle.cap_world.specs.WorkerLaws.{ProposalsAreOfCopies}
pub use Rattle.cap_world.specs.World.{is_open, output_of}
