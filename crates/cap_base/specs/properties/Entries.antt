-- What the lines of a text set, line by line, and the first line with a fault of its own.
use Rattle.std.specs.Prelude.{ℕ, ◌+◌, List, [], ◌∷◌, ◌++◌, Option, Some, None, Result, Ok, Err, Bool, true, ◌&&◌, ◌==◌, nat_le, if◌then◌else◌}
use Rattle.std.specs.List.{list_all}
use Rattle.cap_base.specs.declared.properties.entry.Entry.{Entry}
use Rattle.cap_base.specs.declared.properties.key.Key.{Key}
use Rattle.cap_base.specs.declared.properties.value.Value.{Value}
use Rattle.cap_base.specs.declared.properties.fault.ConfigFault.{ConfigFault}
use Rattle.cap_base.specs.declared.properties.fault.ConfigFaultKind.TheVariants.{BadLine, UnknownKey, Repeated, BadValue}
use Rattle.cap_base.specs.properties.Fault.{fault_at}
use Rattle.cap_text.specs.Pieces.{parts_at, trimmed_bytes}
use Rattle.cap_base.specs.properties.Keys.{key_of}
use Rattle.cap_base.specs.properties.Seen.{contains_bytes}
use Rattle.cap_base.specs.properties.Values.{value_of}

-- whether a line says nothing: it is empty, or begins with `#`
abbrev pub is_passed_over : List ℕ → Bool
is_passed_over [] = true
is_passed_over (b ∷ line) = b == 35

-- a byte that a line may have
abbrev pub is_printable : ℕ → Bool
is_printable b = nat_le 32 b && nat_le b 126

abbrev pub both_trimmed : Option (List ℕ × List ℕ) → Option (List ℕ × List ℕ)
both_trimmed (Some parts) = Some (trimmed_bytes parts.0, trimmed_bytes parts.1)
both_trimmed None = None

-- the key and the value of a line: printable bytes, cut at the first `=`
unfoldable pub line_parts : List ℕ → Option (List ℕ × List ℕ)
line_parts line = if list_all is_printable line then both_trimmed (parts_at 61 line) else None

-- the bytes of a line's key
abbrev pub first_or_none : Option (List ℕ × List ℕ) → List ℕ
first_or_none (Some parts) = parts.0
first_or_none None = []

abbrev pub key_text : List ℕ → List ℕ
key_text line = first_or_none (line_parts line)

-- The tests of a line, in their order. The value has another form or range:
abbrev pub with_value : ℕ → Key → Option Value → Result Entry ConfigFault
with_value n key (Some value) = Ok (record { line = n; queue = key.queue; setting = key.setting; value = value })
with_value n key None = Err (fault_at n BadValue)

-- the key stood in an earlier line:
abbrev pub with_key : List (List ℕ) → ℕ → List ℕ → List ℕ → Option Key → Result Entry ConfigFault
with_key keys n name value (Some key) = if contains_bytes keys name then Err (fault_at n Repeated) else with_value n key (value_of key value)
with_key keys n name value None = Err (fault_at n UnknownKey)

-- there is no key and value:
abbrev pub with_parts : List (List ℕ) → ℕ → Option (List ℕ × List ℕ) → Result Entry ConfigFault
with_parts keys n (Some parts) = with_key keys n parts.0 parts.1 (key_of parts.0)
with_parts keys n None = Err (fault_at n BadLine)

-- what line n sets, where the keys stood in earlier lines
unfoldable pub entry_of : List (List ℕ) → ℕ → List ℕ → Result Entry ConfigFault
entry_of keys n line = with_parts keys n (line_parts line)

-- what comes after a line
abbrev pub and_then : {X Y : Type 0} → Result X ConfigFault → (X → Result Y ConfigFault) → Result Y ConfigFault
and_then (Ok x) next = next x
and_then (Err fault) next = Err fault

-- what lines set after n lines, which had these keys and set these properties
unfoldable pub read_after : ℕ → List (List ℕ) → List Entry → List (List ℕ) → Result (List Entry) ConfigFault
read_after n keys entries [] = Ok entries
read_after n keys entries (line ∷ lines) =
    if is_passed_over line
    then read_after (n + 1) keys entries lines
    else and_then (entry_of keys (n + 1) line) (λ entry. read_after (n + 1) (keys ++ key_text line ∷ []) (entries ++ entry ∷ []) lines)

-- what the lines of a text set
abbrev pub read_lines : List (List ℕ) → Result (List Entry) ConfigFault
read_lines lines = read_after 0 [] [] lines
