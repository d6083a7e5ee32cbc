-- What is read of a request before it is made.
use Rattle.std.specs.Prelude.{ℕ, List, Option, Some, None}
use Rattle.cap_base.specs.Limits.{resources}
use Rattle.cap_model.specs.declared.request.Request.{Request}
use Rattle.cap_model.specs.declared.request.Request.TheVariants.{Refresh}

-- the property lines that a request brings
abbrev pub lines_of : Request resources → Option (List ℕ)
lines_of (Refresh text) = Some text
lines_of other = None

-- a request, unless it brings property lines
abbrev pub unless_refresh : Request resources → Option (Request resources)
unless_refresh (Refresh text) = None
unless_refresh other = Some other
