-- The settings of a text as a tree of queues.
use Rattle.std.specs.Prelude.{◌≡◌, ℕ, List, Some}
use Rattle.cap_base.specs.Settings.{Settings}
use Rattle.cap_base.specs.Listing.{IsListing}
use Rattle.cap_base.specs.properties.First.{settings_in}

-- the queues of a text's settings are a tree of at most 16 levels, listed from the root
abbrev pub SettingsAreListed : Type 0
SettingsAreListed = (text : List ℕ) (settings : Settings) → settings_in text ≡ Some settings → IsListing settings.queues
