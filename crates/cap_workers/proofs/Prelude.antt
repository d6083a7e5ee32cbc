-- What the proofs here take from elsewhere.
pub use Rattle.std.proofs.Common.{Err, List, None, Ok, Option, Result, Some, [], ap, append-nil, append_assoc, arith, drop, inl, inr, length, length-append, map, refl, set, subst, suc, sym, take, zero, ℕ, ◌++◌, ◌+◌, ◌<◌, ◌∙◌, ◌∷◌, ◌≡◌}
pub use Rattle.std.proofs.Math.Seq.{drop-append_seam, take-append_seam}
pub use Rattle.std.proofs.lemmas.List.{map-append}
pub use Rattle.std.specs.Prelude.{MatchResult}
pub use Rattle.cap_base.specs.Limits.{resources}
pub use Rattle.cap_copy.specs.Snapshot.{Seen, sight_in}
pub use Rattle.cap_copy.specs.Sources.{Parts, sight_of_copy}
pub use Rattle.cap_model.specs.Admission.{NodeProposal}
pub use Rattle.cap_model.specs.Candidates.{choice_from}
pub use Rattle.cap_model.specs.Flat.{Flat}
pub use Rattle.cap_model.specs.Sight.{Sight}
pub use Rattle.cap_model.specs.declared.proposal.Verdict.{Verdict}
pub use Rattle.cap_shared.specs.Calls.{CommitAnswers, CommitsBack, CopyIs, HasMore}
pub use Rattle.cap_shared.specs.WordRule.{sitting}
pub use Rattle.cap_shared.specs.declared.entry.Entry.{Entry}
pub use Rattle.cap_shared.specs.declared.faults.CommitFault.{CommitFault}
pub use Rattle.cap_shared.specs.declared.history.Moment.{Moment}
pub use Rattle.cap_shared.specs.declared.history.Moment.TheVariants.{Noted}
pub use Rattle.cap_shared.specs.declared.history.Sitting.{Sitting}
pub use Rattle.cap_sights.proofs.Alike.{same_choice}
pub use Rattle.cap_workers.specs.Worker.{Chooses, IsCommitted, end_by}
