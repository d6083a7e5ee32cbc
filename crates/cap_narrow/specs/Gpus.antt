-- Property lines by which no ask is raised to any of the third resource, `yarn.io/gpu`.
use Rattle.std.specs.Prelude.{◌≡◌, ℕ, Bool, false, ◌||◌, List, [], ◌∷◌, Some, nat_eq, codes}
use Rattle.std.specs.List.{starts_with}
use Rattle.cap_vector.specs.Vector.{amount}
use Rattle.cap_base.specs.Settings.{Settings}
use Rattle.cap_base.specs.properties.First.{settings_in}
use Rattle.cap_model.specs.declared.request.Request.{Request}
use Rattle.cap_model.specs.Flat.{opened_cluster}
use Rattle.cap_narrow.specs.Clusters.{HasNone}
use Rattle.cap_narrow.specs.Steps.{AsksNone}

-- whether a word stands in a text, anywhere
abbrev pub stands_in : List ℕ → List ℕ → Bool
stands_in word [] = false
stands_in word (b ∷ text) = starts_with nat_eq (b ∷ text) word || stands_in word text

-- The settings that property lines make, where they make some, raise no ask to any GPU: the least GPUs of a container are 0. Queues may have
-- GPUs, and containers may be allowed some.
abbrev pub RaisesToNoGpu : List ℕ → Type 0
RaisesToNoGpu text = (settings : Settings) → settings_in text ≡ Some settings → amount settings.minimum_allocation 2 ≡ 0

-- they raise none where the key that sets the least GPUs does not stand in the text
abbrev pub TextsWithoutLeastGpus : Type 0
TextsWithoutLeastGpus = (text : List ℕ) → stands_in (codes "yarn.resource-types.yarn.io/gpu.minimum-allocation") text ≡ false → RaisesToNoGpu text

-- and so where the name of the resource does not
abbrev pub TextsWithoutGpus : Type 0
TextsWithoutGpus = (text : List ℕ) → stands_in (codes "yarn.io/gpu") text ≡ false → RaisesToNoGpu text

-- a Refresh with such lines asks for none
abbrev pub RefreshesAskNone : Type 0
RefreshesAskNone = (text : List ℕ) → RaisesToNoGpu text → AsksNone {K = 2} (Request.Refresh text)

-- and a cluster that was opened with such settings has none
abbrev pub OpeningsHaveNone : Type 0
OpeningsHaveNone = (text : List ℕ) (settings : Settings) → RaisesToNoGpu text → settings_in text ≡ Some settings → HasNone {K = 2} (opened_cluster settings)
