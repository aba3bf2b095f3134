-- Names that are compared piece by piece.
use Rattle.std.specs.Prelude.{ℕ, Bool, false, List, Option, Some, None}
use Rattle.aadl_tree.specs.Names.{same_name}
use denote.Ref.{Bor}

-- whether a name's further letters are the rest of a text
abbrev pub goes_on : List ℕ → Option (Bor (List ℕ)) → Bool
goes_on more None = false
goes_on more (Some rest) = same_name more rest.now
