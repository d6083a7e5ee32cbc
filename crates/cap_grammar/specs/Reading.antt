-- Reading a request from left to right.
use Rattle.std.specs.Prelude.{◌≡◌, ◌⊎◌, ℕ, List, Option, Some, None, Result, Ok, Err, if◌then◌else◌, drop, slice_index}
use Rattle.cap_model.specs.declared.request.Request.{Request}
use Rattle.cap_grammar.specs.declared.fault.MessageFault.{MessageFault}
use Rattle.cap_grammar.specs.declared.fault.MessageFault.TheVariants as faults
use Rattle.cap_grammar.specs.Descriptions.{Field, u8, u32, pair}
use Rattle.cap_grammar.specs.Fields.{◌>>=◌, all_at}
use Rattle.cap_grammar.specs.Bodies.{ListsItems, body_at}
use Rattle.cap_grammar.specs.declared.head.Head.{Head}
use Rattle.cap_grammar.specs.Versions.{is_version}

-- nothing is known of a reading for which memory ran out
abbrev pub FailsInMemory : {Y : Type 0} → MessageFault → Option Y → Type 0
FailsInMemory faults.Bad read = read ≡ None
FailsInMemory faults.NoMemory read = Unit {0}

-- what a function returned, seen by view, is what reading gives, unless memory ran out
abbrev pub GivesInMemory : {X Y : Type 0} → (X → Y) → Result X MessageFault → Option Y → Type 0
GivesInMemory view (Ok x) read = read ≡ Some (view x)
GivesInMemory view (Err e) read = FailsInMemory e read

-- a payload of version 1 or 2 with such a list, whatever follows: where a list begins does not depend on the version
abbrev pub CarriesItems : List ℕ → Type 0
CarriesItems bytes = ((slice_index bytes 0 ≡ 1) ⊎ (slice_index bytes 0 ≡ 2)) × ListsItems (slice_index bytes 1) (drop 6 bytes)

-- version, kind and call id
unfoldable pub a_head : Field (ℕ × (ℕ × ℕ))
a_head = pair u8 (pair u8 u32)

-- the head and the request, all of the bytes
unfoldable pub request_at : (K : ℕ) → List ℕ → Option (Head × Request K)
request_at K bytes = do
  h ← a_head.read bytes
  if is_version K h.0.0 then (all_at (body_at K h.0.0 h.0.1.0) h.1 >>= λ request. Some (record { version = h.0.0; call_id = h.0.1.1 }, request)) else None
