-- An optional value that is present if a test passes, and the test whether a value is present.
use Rattle.std.specs.Prelude.{Bool, true, false, Option, Some, None, if◌then◌else◌}

-- the value, if the test passes
abbrev pub value_if : {V : Type 0} → V → Bool → Option V
value_if value among = if among then Some value else None

abbrev pub is_marked : {V : Type 0} → Option V → Bool
is_marked None = false
is_marked (Some value) = true
