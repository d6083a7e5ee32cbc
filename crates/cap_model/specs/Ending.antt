-- How containers end.
use Rattle.std.specs.Prelude.{ℕ, Bool, List, [], ◌∷◌, ◌++◌, map, find, filter, not, ◌==◌}
use Rattle.std.specs.List.{list_any, cons_option}
use Rattle.cap_model.specs.declared.news.Cause.{Cause}
use Rattle.cap_model.specs.Flat.{Flat, App, Container, NodeTable}

-- whether a container is among these
abbrev pub is_among : List Container → Container → Bool
is_among containers c = list_any (λ d. d.number == c.number) containers

-- the containers of a list that some numbers name, one after the other: each once, in the order of the numbers
abbrev pub named_among : List ℕ → List Container → List Container
named_among [] live = []
named_among (n ∷ ns) live = cons_option (find (λ c. c.number == n) live) (named_among ns (filter (λ c. not (c.number == n)) live))

-- an application with an end to tell for each of its containers among these
abbrev pub with_ends : Cause → List Container → App → App
with_ends cause gone app = record app { ends = app.ends ++ map (λ c. record { container = c.number; cause = cause }) (filter (λ c. c.app == app.number) gone) }

-- the table without these live containers
abbrev pub complete : List Container → NodeTable → NodeTable
complete gone table = record table { live = filter (λ c. not (is_among gone c)) table.live }

module _ {K : ℕ} where
  -- the cluster without these live containers
  abbrev pub without_containers : List Container → Flat K → Flat K
  without_containers gone cluster = record cluster { nodes = complete gone cluster.nodes }

  -- the same, where each application is to be told of the end of its own, in this order
  abbrev pub after_ends : Cause → List Container → Flat K → Flat K
  after_ends cause gone cluster = without_containers gone (record cluster { apps = record cluster.apps { active = map (with_ends cause gone) cluster.apps.active } })
