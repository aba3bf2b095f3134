-- How a target of rate q reads a tuple of a source of rate p.
use Rattle.std.specs.Prelude.{ℕ, ◌-◌, ◌/◌, zero, suc, nat_lt, ℤ, pos, ◌+ℤ◌, int_div, if◌then◌else◌, List, [], ◌∷◌}
use Rattle.std.specs.Prelude.{length, take, drop, map, fold, flat_map, replicate, Option, Some, None, slice_index_or}
use Rattle.std.specs.Prelude.{slice_set}
use Rattle.std.specs.Int.{int_min, int_max}
use Rattle.pals_base.specs.declared.basic_types.PortValue.{PortValue}
use Rattle.pals_base.specs.declared.basic_types.PortValue.TheVariants.{Absent, Present}
use Rattle.pals_base.specs.declared.allowed_adaptors.Adaptor.{Adaptor}
use Rattle.pals_base.specs.declared.allowed_adaptors.Adaptor.TheVariants.{Repeat, First, Last, At, Latest, Max, Min}
use Rattle.pals_base.specs.declared.allowed_adaptors.Adaptor.TheVariants.{Average}

-- ---- groups
-- a list cut into `count` groups of m
abbrev pub groups : ℕ → ℕ → List PortValue → List (List PortValue)
groups zero m list = []
groups (suc count) m list = take m list ∷ groups count m (drop m list)

-- the present numbers of a group
abbrev pub present : List PortValue → List ℤ
present [] = []
present (Absent ∷ list) = present list
present (Present v ∷ list) = v ∷ present list

-- ---- to a higher rate: one value over m places
-- the value in place n, from 1, and absent in the others
abbrev pub placed : ℕ → ℕ → PortValue → List PortValue
placed n m value = slice_set (replicate m Absent) (n - 1) value

abbrev pub spread : Adaptor → ℕ → PortValue → List PortValue
spread Repeat m value = replicate m value
spread First m value = placed 1 m value
spread Last m value = placed m m value
spread (At n) m value = placed n m value
spread other m value = replicate m Absent

-- ---- to a lower rate: one place from a group
-- a value computed from the present numbers, or absent if there are none
abbrev pub of_present : (ℤ → List ℤ → ℤ) → List ℤ → PortValue
of_present f [] = Absent
of_present f (v ∷ vs) = Present (f v vs)

abbrev pub latest_of : ℤ → List ℤ → ℤ
latest_of v vs = fold (λ _ w. w) v vs

abbrev pub greatest_of : ℤ → List ℤ → ℤ
greatest_of v vs = fold int_max v vs

abbrev pub least_of : ℤ → List ℤ → ℤ
least_of v vs = fold int_min v vs

-- the sum divided by the count, rounded towards zero
abbrev pub average_of : ℤ → List ℤ → ℤ
average_of v vs = int_div (fold (λ a b. a +ℤ b) v vs) (pos (suc (length vs)))

abbrev pub joined : Adaptor → List PortValue → PortValue
joined First group = slice_index_or group 0 Absent
joined Last group = slice_index_or group (length group - 1) Absent
joined (At n) group = slice_index_or group (n - 1) Absent
joined Latest group = of_present latest_of (present group)
joined Max group = of_present greatest_of (present group)
joined Min group = of_present least_of (present group)
joined Average group = of_present average_of (present group)
joined Repeat group = Absent

-- ---- the whole
abbrev pub adapt : Option Adaptor → ℕ → ℕ → List PortValue → List PortValue
adapt None p q tuple = tuple
adapt (Some a) p q tuple =
    if nat_lt p q then flat_map (spread a (q / p)) tuple else map (joined a) (groups q (p / q) tuple)
