-- The refusals of calls, and their numbers.
use Rattle.std.specs.Prelude.{ℕ}
use Rattle.cap_model.specs.declared.refusal.Refusal.{Refusal}

-- the number of a refusal, which is the status of its reply; where several hold, the smallest is answered
abbrev pub status_of : Refusal → ℕ
status_of Refusal.UnknownQueue = 1
status_of Refusal.NotLeaf = 2
status_of Refusal.QueueStopped = 3
status_of Refusal.TooManyApplications = 4
status_of Refusal.UnknownApplication = 5
status_of Refusal.AlreadyRegistered = 6
status_of Refusal.NotRegistered = 7
status_of Refusal.BadResponseId = 8
status_of Refusal.AskTooLarge = 9
status_of Refusal.TooManyAsks = 10
status_of Refusal.UnknownNode = 11
status_of Refusal.HostTaken = 12
status_of Refusal.TotalTooLarge = 13
status_of Refusal.TooManyNodes = 14
status_of Refusal.ZeroResource = 15
status_of Refusal.NumbersSpent = 16
status_of (Refusal.BadSettings line number) = 17
status_of Refusal.OtherQueues = 18
status_of Refusal.NoMemory = 20
