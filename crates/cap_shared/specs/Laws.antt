-- Laws of journals.
use Rattle.std.specs.Prelude.{◌≡◌, List, ◌++◌}
use Rattle.cap_base.specs.Limits.{resources}
use Rattle.cap_base.specs.Settings.{Settings}
use Rattle.cap_base.specs.Listing.{IsListing}
use Rattle.cap_model.specs.Flat.{Flat, opened_cluster}
use Rattle.cap_model.specs.Bounds.{IsBounded}
use Rattle.cap_model.specs.Risen.{LimitsAreMetOrNotRisen}
use Rattle.cap_shared.specs.declared.entry.Entry.{Entry}
use Rattle.cap_shared.specs.Journal.{events_in, Replays, state_after}

-- Where a journal leads from a bounded cluster to another, the state after each beginning of it is bounded, and there each queue's use is
-- within its maximum and each user's within the user limit, or not risen since it was; and so is the last.
abbrev pub JournalsStayBounded : Type 0
JournalsStayBounded =
    (opening closing : Flat resources) (first rest : List Entry) → IsBounded opening → Replays opening (first ++ rest) closing →
    (mid : Flat resources) × Replays opening first mid × Replays mid rest closing × IsBounded mid × LimitsAreMetOrNotRisen opening (events_in first) mid
    × IsBounded closing × LimitsAreMetOrNotRisen opening (events_in (first ++ rest)) closing

-- so it is of the first journal of a daemon, whose opening has the queues of its settings and nothing else
abbrev pub FirstJournalsStayBounded : Type 0
FirstJournalsStayBounded =
    (settings : Settings) (closing : Flat resources) (first rest : List Entry) → IsListing settings.queues → Replays (opened_cluster settings) (first ++ rest) closing →
    (mid : Flat resources) × Replays (opened_cluster settings) first mid × Replays mid rest closing × IsBounded mid × LimitsAreMetOrNotRisen (opened_cluster settings) (events_in first) mid
    × IsBounded closing × LimitsAreMetOrNotRisen (opened_cluster settings) (events_in (first ++ rest)) closing

-- where a journal leads from a cluster to another, each beginning of it leads to the state after its entries, and the whole to the last
abbrev pub JournalsLeadToStates : Type 0
JournalsLeadToStates =
    (opening closing : Flat resources) (first rest : List Entry) → Replays opening (first ++ rest) closing →
    Replays opening first (state_after opening first) × Replays (state_after opening first) rest closing × (closing ≡ state_after opening (first ++ rest))
