-- Tests in their order.
use Rattle.std.specs.Prelude.{Bool, false, List, [], ◌∷◌, Option, Some, None, if◌then◌else◌}

-- of a list of tests, each with what it means, the meaning of the first that holds, where one does
abbrev pub earliest : {A : Type 0} → List (Bool × A) → Option A
earliest [] = None
earliest (test ∷ tests) = if test.0 then Some test.1 else earliest tests

-- whether there is a value, and the test holds of it
abbrev pub holds_of : {A : Type 0} → (A → Bool) → Option A → Bool
holds_of test None = false
holds_of test (Some x) = test x
