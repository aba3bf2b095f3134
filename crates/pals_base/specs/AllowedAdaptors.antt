-- Which adaptors are allowed between two rates, and for which types.
use Rattle.std.specs.Prelude.{ℕ, ◌/◌, ◌%◌, nat_eq, nat_lt, nat_le, Bool, true, false, ◌&&◌, ◌||◌, if◌then◌else◌, Option}
use Rattle.std.specs.Prelude.{Some, None}
use Rattle.pals_base.specs.declared.allowed_adaptors.Adaptor.{Adaptor}
use Rattle.pals_base.specs.declared.allowed_adaptors.Adaptor.TheVariants.{Repeat, First, Last, At, Latest, Max, Min}
use Rattle.pals_base.specs.declared.allowed_adaptors.Adaptor.TheVariants.{Average}
use Rattle.pals_base.specs.declared.behaviour.Kind.{Kind}
use Rattle.pals_base.specs.declared.behaviour.Kind.TheVariants.{Boolean}

-- one of the rates divides the other
abbrev pub divides_or_divided : ℕ → ℕ → Bool
divides_or_divided p q = nat_eq (q % p) 0 || nat_eq (p % q) 0

-- to a higher rate, if each value fills m places
abbrev pub may_spread : Adaptor → ℕ → Bool
may_spread Repeat m = true
may_spread First m = true
may_spread Last m = true
may_spread (At n) m = nat_le 1 n && nat_le n m
may_spread Latest m = false
may_spread Max m = false
may_spread Min m = false
may_spread Average m = false

-- to a lower rate, if each group of m fills one place
abbrev pub may_join : Adaptor → ℕ → Bool
may_join Repeat m = false
may_join First m = true
may_join Last m = true
may_join (At n) m = nat_le 1 n && nat_le n m
may_join Latest m = true
may_join Max m = true
may_join Min m = true
may_join Average m = true

-- a link has an adaptor if and only if the rates differ
abbrev pub is_allowed : Option Adaptor → ℕ → ℕ → Bool
is_allowed None p q = nat_eq p q
is_allowed (Some a) p q = if nat_lt p q then may_spread a (q / p) else nat_lt q p && may_join a (p / q)

-- `Max`, `Min` and `Average` require numbers
abbrev pub suits_kind : Option Adaptor → Kind → Bool
suits_kind (Some Max) Boolean = false
suits_kind (Some Min) Boolean = false
suits_kind (Some Average) Boolean = false
suits_kind a kind = true
