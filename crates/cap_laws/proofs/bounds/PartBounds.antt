-- A part of a call keeps the bounds: it only takes away from what is used.
use Rattle.cap_laws.proofs.Prelude.{◌≡◌, ℕ, false, refl, not, Flat, is_for, with_app, after_ask, is_among, with_ends, after_ends, after_telling, IsReservationBounded, IsBounded, EndsStayBounded, AskStaysBounded, ReportStaysBounded, of_each}
use Rattle.cap_laws.proofs.lists.Parts.{part_itself, part_keep_first}
use Rattle.cap_laws.proofs.calls.Moves.{apps_change, nodes_same, one_change, ask_change, ends_change}
use Rattle.cap_laws.proofs.numbers.ContainerNumbers.{thinned_same, thinned_numbers}
use Rattle.cap_laws.proofs.calls.Lessening.{IsLessened}
use Rattle.cap_laws.proofs.bounds.CallBounds.{places_stay, nodes_stay, apart_part}
use Rattle.cap_laws.proofs.bounds.Reserving.{AreBounded, ask_keeps}
use Rattle.cap_laws.proofs.bounds.StepBounds.{asks_same, asking_at, asking_one, each_bounded}
use Rattle.cap_laws.proofs.bounds.Formed.{formed, same_queues, places_of}
use Rattle.cap_laws.proofs.uses.TreeSums.{trees_add_up}

module _ {K : ℕ} where
  -- what a part of a call leaves: the settings, of containers and reservations some, and reservations that are wanted
  part_bounded : (old new : Flat K) → IsBounded old → new.settings ≡ old.settings → IsLessened old new → AreBounded new → IsBounded new
  part_bounded old new b settings less wanted =
      let h = places_of old b.formed in
      let w = formed old new b.formed (same_queues {refreshed = false} old new settings) less.apps less.nodes (places_stay old new less h) in
      record {
        formed = w;
        parents = trees_add_up K new w;
        nodes = nodes_stay old new less h b.formed.nodes b.nodes;
        reservations = of_each (IsReservationBounded new) new.nodes.reserved wanted;
        apart = apart_part old.nodes.reserved new.nodes.reserved less.reserved b.apart;
        numbers = thinned_numbers old new less.live b.numbers;
      }

pub ends_stay_bounded : EndsStayBounded
ends_stay_bounded K old cause gone b =
    let new = after_ends cause gone old in
    let less : IsLessened old new = record {
      live = record { test = λ c. not (is_among gone c); live = refl; next = refl };
      reserved = part_itself old.nodes.reserved;
      apps = apps_change old new (ends_change cause gone old new refl refl);
      nodes = nodes_same old new refl refl;
    } in
    part_bounded old new b refl less (asks_same old new less (places_of old b.formed) (λ app node s. asking_at (with_ends cause gone) (λ a. refl) (λ a. refl) app old.apps.active) (each_bounded old b))

pub ask_stays_bounded : AskStaysBounded
ask_stays_bounded K old n ask b =
    let new = after_ask n old ask in
    part_bounded old new b refl
    (record {
      live = thinned_same old new (record { live = refl; next = refl });
      reserved = part_keep_first (is_for n ask.key) _ old.nodes.reserved;
      apps = apps_change old new (ask_change n ask old);
      nodes = nodes_same old new refl refl;
    })
    (ask_keeps n old ask (each_bounded old b))

pub report_stays_bounded : ReportStaysBounded
report_stays_bounded K old n id ignored b =
    let tell = after_telling id ignored in
    let new = with_app n tell old in
    let less : IsLessened old new = record {
      live = thinned_same old new (record { live = refl; next = refl });
      reserved = part_itself old.nodes.reserved;
      apps = apps_change old new (one_change n tell (record { number = λ a. refl; leaf = λ a. refl; user = λ a. refl }) old);
      nodes = nodes_same old new refl refl;
    } in
    part_bounded old new b refl less (asks_same old new less (places_of old b.formed) (λ app node s. asking_one n tell (λ a. refl) (λ a. refl) app old.apps.active) (each_bounded old b))
