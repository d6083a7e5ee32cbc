-- What the proofs here take from elsewhere.
pub use Rattle.std.proofs.Common.{List, [], ap, inl, refl, sym, true, ℕ, ◌∙◌, ◌≡◌}
pub use Rattle.std.specs.Option.{option_map_or}
pub use Rattle.std.specs.Prelude.{None, Some}
pub use Rattle.cap_base.specs.properties.First.{first_fault, settings_in}
pub use Rattle.cap_examples.specs.ExampleRefresh.{lowered, lowered_queues, six_held}
pub use Rattle.cap_model.specs.Refresh.{after_refresh, first_of_settings, has_its_queues, lines_refusal, refreshed_settings}
pub use Rattle.cap_model.specs.Replies.{Replies, refusal_of, refused_or}
pub use Rattle.cap_model.specs.declared.request.Request.{Request}
unfoldable pub use Rattle.cap_vector.specs.Vector.{less, plus}
