-- A port value as a number that may be missing, the port value of such a number, and the mean as one.
use Rattle.std.specs.Prelude.{ℕ, zero, suc, ℤ, pos, int_div, Option, Some, None}
use Rattle.pals_base.specs.declared.basic_types.PortValue.{PortValue}
use Rattle.pals_base.specs.declared.basic_types.PortValue.TheVariants.{Absent, Present}

-- the number of a port, if it has one
abbrev pub number_of : PortValue → Option ℤ
number_of Absent = None
number_of (Present v) = Some v

-- a port with the number, if there is one
abbrev pub port_of : Option ℤ → PortValue
port_of None = Absent
port_of (Some v) = Present v

-- a sum divided by a count, towards zero; absent if the count is 0
abbrev pub mean_of : ℤ → ℕ → PortValue
mean_of sum zero = Absent
mean_of sum (suc n) = Present (int_div sum (pos (suc n)))
