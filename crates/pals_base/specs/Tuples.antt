-- Tuples of values: cutting, padding and columns.
use Rattle.std.specs.Prelude.{ℕ, ◌-◌, List, [], ◌∷◌, ◌++◌, length, take, map, replicate, slice_index_or, slice_set}
use Rattle.pals_base.specs.declared.basic_types.PortValue.{PortValue}
use Rattle.pals_base.specs.declared.basic_types.PortValue.TheVariants.{Absent}
use Rattle.pals_base.specs.UpwardNumbers.{upwards}

-- the value at index n of each list
abbrev pub column : ℕ → List (List PortValue) → List PortValue
column n lists = map (λ list. slice_index_or list n Absent) lists

-- the first n columns: the transposed rows
abbrev pub columns : ℕ → List (List PortValue) → List (List PortValue)
columns n lists = map (λ at. column at lists) (upwards 0 n)

-- a tuple in which all values after the first n are absent
abbrev pub cut : ℕ → List PortValue → List PortValue
cut n tuple = take n tuple ++ replicate (length tuple - n) Absent

-- the tuples of a round of k steps after its first steps with these outputs: their places, and absent places up to k
abbrev pub so_far : ℕ → ℕ → List (List PortValue) → List (List PortValue)
so_far ports k outs = map (λ tuple. tuple ++ replicate (k - length outs) Absent) (columns ports outs)

-- the tuples with these values at an index
abbrev pub with_places : ℕ → List PortValue → List (List PortValue) → List (List PortValue)
with_places at [] tuples = tuples
with_places at (value ∷ values) [] = []
with_places at (value ∷ values) (tuple ∷ tuples) = slice_set tuple at value ∷ with_places at values tuples
