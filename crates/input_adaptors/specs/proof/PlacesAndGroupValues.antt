-- The terms of the laws: which places a value takes, which group gives a place, and the group's minimum, maximum and
-- latest number.
use Rattle.std.specs.Prelude.{◌≡◌, ◌≢◌, ℕ, ◌+◌, ◌*◌, ◌/◌, ◌<◌, ℤ, ◌≤ℤ◌, List, take, drop, Some, slice_get, Contains}
use Rattle.pals_base.specs.declared.allowed_adaptors.Adaptor.{Adaptor}
use Rattle.pals_base.specs.declared.allowed_adaptors.Adaptor.TheVariants.{Repeat, First, Last, At, Latest, Max, Min}
use Rattle.pals_base.specs.declared.allowed_adaptors.Adaptor.TheVariants.{Average}
use Rattle.pals_base.specs.declared.basic_types.PortValue.{PortValue}
use Rattle.pals_base.specs.declared.basic_types.PortValue.TheVariants.{Present}

-- the group of the source's places, of rate p, that place k of a target of a lower rate q is made of
abbrev pub group_at : ℕ → ℕ → ℕ → List PortValue → List PortValue
group_at p q k tuple = take (p / q) (drop (k * (p / q)) tuple)

-- a spread value is in place j, from 0, of its m places
abbrev pub TakesPlace : Adaptor → ℕ → ℕ → Type 0
TakesPlace Repeat m j = Unit {0}
TakesPlace First m j = j ≡ 0
TakesPlace Last m j = j + 1 ≡ m
TakesPlace (At n) m j = j + 1 ≡ n
TakesPlace Latest m j = ⊥
TakesPlace Max m j = ⊥
TakesPlace Min m j = ⊥
TakesPlace Average m j = ⊥

-- the adaptors that make a number of the present ones
abbrev pub MakesNumber : Adaptor → Type 0
MakesNumber Repeat = ⊥
MakesNumber First = ⊥
MakesNumber Last = ⊥
MakesNumber (At n) = ⊥
MakesNumber Latest = Unit {0}
MakesNumber Max = Unit {0}
MakesNumber Min = Unit {0}
MakesNumber Average = Unit {0}

-- some present number of the group is at most v
abbrev pub IsAboveSome : List PortValue → ℤ → Type 0
IsAboveSome group v = (least : ℤ) × Contains group (Present least) × (least ≤ℤ v)

-- some present number of the group is at least v
abbrev pub IsBelowSome : List PortValue → ℤ → Type 0
IsBelowSome group v = (greatest : ℤ) × Contains group (Present greatest) × (v ≤ℤ greatest)

-- v is present in the group, and no present number there is less
pub record IsLeast (group : List PortValue) (v : ℤ) : Type 0 where
  pub present : Contains group (Present v)
  pub least : (w : ℤ) → Contains group (Present w) → v ≤ℤ w

-- v is present in the group, and no present number there is greater
pub record IsGreatest (group : List PortValue) (v : ℤ) : Type 0 where
  pub present : Contains group (Present v)
  pub greatest : (w : ℤ) → Contains group (Present w) → w ≤ℤ v

-- v is present in the group, and no number is present after it
pub record IsLatest (group : List PortValue) (v : ℤ) : Type 0 where
  pub at : ℕ
  pub present : slice_get group at ≡ Some (Present v)
  pub latest : (k : ℕ) (w : ℤ) → at < k → slice_get group k ≢ Some (Present w)
