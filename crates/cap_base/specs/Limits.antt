-- The limits of a cluster, of its settings and of its messages.
use Rattle.std.specs.Prelude.{ℕ}

-- node, application and container numbers stay below this
abbrev pub number_end : ℕ
number_end = 4611686018427387904

-- response ids stay below 2^31, and begin again at 0
abbrev pub response_end : ℕ
response_end = 2147483648

-- the greatest number of nodes that are present at once, and of containers that are live at once
abbrev pub nodes_max : ℕ
nodes_max = 4096

abbrev pub live_max : ℕ
live_max = 65536

-- the greatest number of keys of one application, and of grants and of ends in one reply
abbrev pub keys_max : ℕ
keys_max = 256

abbrev pub news_max : ℕ
news_max = 64

-- the greatest number of asks in one request, and of releases or ended containers
abbrev pub asks_max : ℕ
asks_max = 256

abbrev pub numbers_max : ℕ
numbers_max = 1024

-- the greatest number of bytes of property lines in one request: a frame's payload without the kind, the call id and their length
abbrev pub text_max : ℕ
text_max = 65526

-- the greatest number of bytes of a host, a rack, a place or a user, and of the path of a queue
abbrev pub name_max : ℕ
name_max = 64

abbrev pub path_max : ℕ
path_max = 255

-- the greatest number of queues that settings may have, root among them
abbrev pub queues_max : ℕ
queues_max = 1024

-- the greatest number of applications that settings may allow to be active, of levels below the root, and the greatest user limit factor
abbrev pub applications_max : ℕ
applications_max = 1000000

abbrev pub depth_max : ℕ
depth_max = 15

abbrev pub factor_max : ℕ
factor_max = 1000

-- the greatest number of kinds of resource
abbrev pub resources_max : ℕ
resources_max = 1000

-- how many kinds of resource the engine has: memory, vcores and yarn.io/gpu
abbrev pub resources : ℕ
resources = 3
