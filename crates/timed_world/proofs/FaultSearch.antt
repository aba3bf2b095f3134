-- Faults of an event are looked for one by one over nodes or links: what a test that passes or fails adds to the
-- first fault found.
use Rattle.std.proofs.Common.{◌≡◌, ℕ, suc, ◌+◌, ◌-◌, ◌<◌, ◌≤◌, nat_lt, nat_le, Bool, List, length, drop, map, Option}
use Rattle.std.proofs.Common.{Some, None, ap, ◌∙◌, sym, arith}
use Rattle.std.specs.Prelude.{slice_index_or}
use Rattle.std.specs.List.{enumerate_from}
use Rattle.std.proofs.lemmas.Bool.{lt-ltb, le-ltb, le-leb, lt-leb}
use Rattle.std.proofs.lemmas.List.{drop_more}
use Rattle.pals_base.specs.UpwardNumbers.{upwards}
use Rattle.pals_runs.specs.declared.events_and_faults.EventFault.{EventFault}
use Rattle.run_laws.specs.EventFaults.{Reading, found_if, or_else, first_of}

-- ---- one after another
or_past : (o rest : Option EventFault) → o ≡ None → or_else o rest ≡ rest
or_past o rest is = ap (λ (x : Option EventFault). or_else x rest) is

or_found : (o rest : Option EventFault) (why : EventFault) → o ≡ Some why → or_else o rest ≡ Some why
or_found o rest why is = ap (λ (x : Option EventFault). or_else x rest) is

-- a row after one of its faults has passed it, or has found it
pub goes_past : (row o rest : Option EventFault) → row ≡ or_else o rest → o ≡ None → row ≡ rest
goes_past row o rest at none = at ∙ or_past o rest none

pub has_found : (row o rest : Option EventFault) (why : EventFault) → row ≡ or_else o rest → o ≡ Some why
    → Some why ≡ row
has_found row o rest why at some = sym (at ∙ or_found o rest why some)

-- ---- a test
pub below_found : (a b : ℕ) (why : EventFault) → a < b → found_if (nat_lt a b) why ≡ Some why
below_found a b why less = ap (λ (t : Bool). found_if t why) (lt-ltb a b less)

pub below_past : (a b : ℕ) (why : EventFault) → b ≤ a → found_if (nat_lt a b) why ≡ None
below_past a b why most = ap (λ (t : Bool). found_if t why) (le-ltb a b most)

pub within_found : (a b : ℕ) (why : EventFault) → a ≤ b → found_if (nat_le a b) why ≡ Some why
within_found a b why most = ap (λ (t : Bool). found_if t why) (le-leb a b most)

pub within_past : (a b : ℕ) (why : EventFault) → b < a → found_if (nat_le a b) why ≡ None
within_past a b why less = ap (λ (t : Bool). found_if t why) (lt-leb a b less)

-- ---- the rest of a row
-- readings, from an index on
abbrev pub readings_left : (Reading → Option EventFault) → List ℕ → ℕ → Option EventFault
readings_left f readings index = first_of (map f (enumerate_from index (drop index readings)))

-- nodes or links, from a number on
abbrev pub numbers_left : (ℕ → Option EventFault) → ℕ → ℕ → Option EventFault
numbers_left f count index = first_of (map f (upwards index (count - index)))

pub readings_more : (f : Reading → Option EventFault) (readings : List ℕ) (index : ℕ) → index < length readings
    → readings_left f readings index
    ≡ or_else (f (index, slice_index_or readings index 0)) (readings_left f readings (index + 1))
readings_more f readings index within =
    ap (λ (rest : List ℕ). first_of (map f (enumerate_from index rest))) (drop_more readings index 0 within)

pub numbers_all : (f : ℕ → Option EventFault) (count : ℕ) → first_of (map f (upwards 0 count)) ≡ numbers_left f count 0
numbers_all f count = let same : count ≡ count - 0 = omega arith in ap (λ (n : ℕ). first_of (map f (upwards 0 n))) same

pub numbers_more : (f : ℕ → Option EventFault) (count index : ℕ) → index < count
    → numbers_left f count index ≡ or_else (f index) (numbers_left f count (index + 1))
numbers_more f count index within =
    let one : count - index ≡ suc (count - (index + 1)) = omega arith in
    let next : suc index ≡ index + 1 = omega arith in
    ap (λ (n : ℕ). first_of (map f (upwards index n))) one
    ∙ ap (λ (k : ℕ). or_else (f index) (first_of (map f (upwards k (count - (index + 1)))))) next
