-- The words of a line that are not read yet.
use Rattle.std.specs.Prelude.{ℕ, nat_eq, Bool, List, [], ◌∷◌, Option, Some, None}
use denote.Ref.{Bor}
use Rattle.run_laws.specs.LineForms.{words_of}

abbrev pub words_in : Option (Bor (List ℕ)) → List (List ℕ)
words_in None = []
words_in (Some rest) = words_of rest.now

-- the words before one was read
abbrev pub put_back : Option (Bor (List ℕ)) → List (List ℕ) → List (List ℕ)
put_back None rest = []
put_back (Some word) rest = word.now ∷ rest

abbrev pub is_space : ℕ → Bool
is_space byte = nat_eq byte 32
