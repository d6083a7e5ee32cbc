-- How amounts are written.
use Rattle.std.specs.Prelude.{ℕ, List, [], ◌++◌, ◌==◌, codes, decimal, nat_lt, if◌then◌else◌}
use Rattle.cap_vector.specs.Vector.{amount}

-- GPUs, where they are not as many as go without saying
unfoldable pub gpus_words : ℕ → ℕ → List ℕ
gpus_words unsaid gpus = if gpus == unsaid then [] else codes ",yarn.io/gpu=" ++ decimal gpus

-- MiB, vcores and GPUs, as property lines have them
unfoldable pub amounts_words : ℕ → List ℕ → List ℕ
amounts_words unsaid amounts =
    codes "memory=" ++ decimal (amount amounts 0) ++ codes ",vcores=" ++ decimal (amount amounts 1) ++ gpus_words unsaid (amount amounts 2)

-- an amount of a resource that is over its limit
unfoldable pub over_words : List ℕ → ℕ → ℕ → List ℕ
over_words resource amount most = if nat_lt most amount then resource ++ decimal amount ++ codes " over " ++ decimal most else []
