-- Worked examples: fullness, rounding, and the order of two children.
use Rattle.std.specs.Prelude.{◌≡◌, ℕ, [], ◌∷◌, Some}
use Rattle.std.specs.declared.cmp.Ordering.TheVariants.{Less, Greater}
use Rattle.cap_vector.specs.Rounding.{round_up}
use Rattle.cap_vector.specs.declared.fullness.Share.{Share}
use Rattle.cap_vector.specs.Fullness.{shares, shares_cmp}
use Rattle.cap_model.specs.Sight.{sight_of}
use Rattle.cap_model.specs.Candidates.{choice_on}
use Rattle.cap_examples.specs.ExampleClusters.{mb_and_vcores, key, ask_anywhere, small, after_calls, asks_of, after_grants, grant_of}
use Rattle.cap_model.specs.Flat.{Flat}

abbrev pub share : ℕ → ℕ → Share
share used guaranteed = record { used = used; guaranteed = guaranteed }

-- (1024, 2) of (4096, 4) has the shares 1/2, 1/4, and (1024, 1) of (2048, 8) has 1/2, 1/8: the second is less full
abbrev pub DominantShares : Type 0
DominantShares =
    (shares (mb_and_vcores 1024 2) (mb_and_vcores 4096 4) ≡ share 2 4 ∷ share 1024 4096 ∷ [])
    × (shares (mb_and_vcores 1024 1) (mb_and_vcores 2048 8) ≡ share 1024 2048 ∷ share 1 8 ∷ [])
    × (shares_cmp (shares (mb_and_vcores 1024 2) (mb_and_vcores 4096 4)) (shares (mb_and_vcores 1024 1) (mb_and_vcores 2048 8)) ≡ Greater)

-- a guarantee of 0 counts as 1: of (1024, 0), a use of nothing has the shares 0, 0, and one vcore has 1, 0
abbrev pub ShareOfNothing : Type 0
ShareOfNothing = shares_cmp (shares (mb_and_vcores 0 0) (mb_and_vcores 1024 0)) (shares (mb_and_vcores 0 1) (mb_and_vcores 1024 0)) ≡ Less

-- three resources: 1/2, 1/4, 1/4 is fuller than 1/2, 1/8, 0
abbrev pub ThreeShares : Type 0
ThreeShares =
    (shares (1024 ∷ 1 ∷ 1 ∷ []) (4096 ∷ 4 ∷ 2 ∷ []) ≡ share 1 2 ∷ share 1024 4096 ∷ share 1 4 ∷ [])
    × (shares_cmp (shares (1024 ∷ 1 ∷ 0 ∷ []) (2048 ∷ 8 ∷ 0 ∷ [])) (shares (1024 ∷ 1 ∷ 1 ∷ []) (4096 ∷ 4 ∷ 2 ∷ [])) ≡ Less)

-- root.a uses (1024, 2) and root.b uses (1024, 1), and both applications ask for more
abbrev pub both_ask : Flat 2
both_ask =
    after_grants 1 2 (key 2 0) 1 (mb_and_vcores 1024 1) (after_grants 1 1 (key 2 0) 1 (mb_and_vcores 1024 2)
    (after_calls small (
    asks_of 1 0 (ask_anywhere (key 1 0) 1 (mb_and_vcores 1024 1) ∷ ask_anywhere (key 2 0) 1 (mb_and_vcores 1024 2) ∷ [])
    ∷ asks_of 2 0 (ask_anywhere (key 5 0) 1 (mb_and_vcores 1024 1) ∷ ask_anywhere (key 2 0) 1 (mb_and_vcores 1024 1) ∷ [])
    ∷ [])))

-- the less full queue is served first, whatever the numbers of its applications and the priorities of their asks
abbrev pub LessFullQueueFirst : Type 0
LessFullQueueFirst = choice_on (sight_of both_ask) 1 ≡ Some (grant_of 2 (key 5 0) 1 (mb_and_vcores 1024 1))

-- with nothing used, both queues are as full, and the name decides
abbrev pub EqualQueuesByName : Type 0
EqualQueuesByName =
    choice_on (sight_of (after_calls small (asks_of 2 0 (ask_anywhere (key 1 0) 1 (mb_and_vcores 1024 1) ∷ []) ∷ asks_of 1 0 (ask_anywhere (key 1 0) 1 (mb_and_vcores 1024 1) ∷ []) ∷ []))) 1
    ≡ Some (grant_of 1 (key 1 0) 1 (mb_and_vcores 1024 1))

-- one application's asks are served by priority, the smaller number first, then by request id
abbrev pub AsksByPriority : Type 0
AsksByPriority =
    choice_on (sight_of (after_calls small (asks_of 1 0 (ask_anywhere (key 3 0) 1 (mb_and_vcores 1024 1) ∷ ask_anywhere (key 1 7) 1 (mb_and_vcores 1024 1) ∷ ask_anywhere (key 1 2) 1 (mb_and_vcores 2048 1) ∷ []) ∷ []))) 1
    ≡ Some (grant_of 1 (key 1 2) 1 (mb_and_vcores 2048 1))

-- an ask of 1500 MiB is kept as 2048, and one of 7900 under a maximum of 8000 as 8000
abbrev pub AsksAreRounded : Type 0
AsksAreRounded =
    (round_up 2 (mb_and_vcores 1500 1) (mb_and_vcores 1024 1) (mb_and_vcores 8192 4) ≡ mb_and_vcores 2048 1)
    × (round_up 2 (mb_and_vcores 7900 1) (mb_and_vcores 1024 1) (mb_and_vcores 8000 4) ≡ mb_and_vcores 8000 1)
    × (round_up 2 (mb_and_vcores 0 0) (mb_and_vcores 1024 1) (mb_and_vcores 8192 4) ≡ mb_and_vcores 1024 1)
    × (round_up 3 (1025 ∷ 1 ∷ 3 ∷ []) (1024 ∷ 1 ∷ 0 ∷ []) (8192 ∷ 4 ∷ 8 ∷ []) ≡ 2048 ∷ 1 ∷ 3 ∷ [])
