-- Worked examples: a Refresh that lowers a maximum below what is used.
use Rattle.std.specs.Prelude.{◌≡◌, ℕ, List, [], ◌∷◌, Some, None, codes}
use Rattle.cap_base.specs.Settings.{Settings}
use Rattle.cap_base.specs.properties.First.{first_fault, settings_in}
use Rattle.cap_model.specs.declared.request.Request.{Request}
use Rattle.cap_model.specs.declared.reply.ReplyWith.TheVariants as Reply
use Rattle.cap_model.specs.declared.event.Event.{Event}
use Rattle.cap_model.specs.Flat.{Flat}
use Rattle.cap_model.specs.Uses.{queue_use}
use Rattle.cap_model.specs.Sight.{sight_of}
use Rattle.cap_model.specs.Admission.{reason_of}
use Rattle.cap_model.specs.declared.proposal.Reason.{Reason}
use Rattle.cap_model.specs.Candidates.{choice_from}
use Rattle.cap_model.specs.Refresh.{with_settings}
use Rattle.cap_model.specs.Replies.{Replies}
use Rattle.cap_model.specs.Risen.{in_queue, MeetsMaximum, NotRisen}
use Rattle.cap_examples.specs.ExampleClusters.{mb_and_vcores, key, ask_anywhere, queue, with_queues, after_calls, small, asks_of, grant_of, after_grants}

-- the two queues of the examples, in another order and with a maximum of (4096, 4) for root.a
abbrev pub lowered_queues : Settings
lowered_queues = with_queues (
    queue (codes "root") (mb_and_vcores 0 0) None 1
    ∷ queue (codes "root.b") (mb_and_vcores 2048 8) None 1
    ∷ queue (codes "root.a") (mb_and_vcores 4096 4) (Some (mb_and_vcores 4096 4)) 4
    ∷ [])

-- application 1 holds six containers of (1024, 1) in root.a, and then the settings become these
abbrev pub six_held : Flat 2
six_held = after_grants 6 1 (key 0 0) 1 (mb_and_vcores 1024 1) small

abbrev pub lowered : Flat 2
lowered = with_settings lowered_queues six_held

-- A Refresh by property lines of these settings leads there. Nothing ends: the maximum was met before and is not met after, and the use has
-- not risen since it was met.
abbrev pub MaximumIsLowered : Type 0
MaximumIsLowered =
    (lines : List ℕ) → first_fault lines ≡ None → settings_in lines ≡ Some lowered_queues →
    Replies six_held (Request.Refresh lines) Reply.Refresh lowered
    × (queue_use lowered (codes "root.a") ≡ mb_and_vcores 6144 6)
    × MeetsMaximum (codes "root.a") six_held
    × ¬ MeetsMaximum (codes "root.a") lowered
    × NotRisen (MeetsMaximum (codes "root.a")) (in_queue (codes "root.a")) six_held (Event.Call 1 (Request.Refresh lines) Reply.Refresh ∷ []) lowered

-- Application 1 asks for one of (1024, 1): it gets none while six are held, nor while four are, and one once three are.
abbrev pub RoomUnderLoweredMaximum : Type 0
RoomUnderLoweredMaximum =
    let one = grant_of 1 (key 1 0) 1 (mb_and_vcores 1024 1) in
    let six = after_calls lowered (asks_of 1 0 (ask_anywhere (key 1 0) 1 (mb_and_vcores 1024 1) ∷ []) ∷ []) in
    let four = after_calls six (Request.Allocate 1 1 [] (1 ∷ 2 ∷ []) ∷ []) in
    let three = after_calls four (Request.Allocate 1 2 [] (3 ∷ []) ∷ []) in
    (choice_from (sight_of six) 0 ≡ None)
    × (reason_of (sight_of six) one ≡ Some (Reason.OverMaximum 1))
    × (queue_use four (codes "root.a") ≡ mb_and_vcores 4096 4)
    × (reason_of (sight_of four) one ≡ Some (Reason.OverMaximum 1))
    × (choice_from (sight_of three) 0 ≡ Some one)
