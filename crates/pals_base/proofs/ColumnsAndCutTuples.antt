-- Columns of tuples, and cut tuples.
use Rattle.std.proofs.Common.{◌≡◌, ◌∙◌, inl, inr, ℕ, zero, suc, ◌-◌, ◌<◌, ◌≤◌, nat_lt, Bool, if◌then◌else◌, List, []}
use Rattle.std.proofs.Common.{◌∷◌, ◌++◌, length, map, take, replicate, slice_index_or, Some, refl, sym, ap, arith}
use Rattle.std.specs.Prelude.{slice_get}
use Rattle.std.specs.List.{All, AllByRecursion}
use Rattle.std.proofs.lemmas.Bool.{cases_lt, lt-ltb, le-ltb}
use Rattle.std.proofs.lemmas.List.{length-map, append-nil, take_all, length-append, length-take, length-take-le}
use Rattle.std.proofs.lemmas.List.{length-replicate, get_or-take, get_or-replicate, get_or_append_left}
use Rattle.std.proofs.lemmas.List.{get_or-append_right}
use Rattle.std.proofs.lemmas.List.Elements.{All-from_recursion}
use Rattle.pals_base.specs.declared.basic_types.PortValue.{PortValue}
use Rattle.pals_base.specs.declared.basic_types.PortValue.TheVariants.{Absent}
use Rattle.pals_base.specs.Tuples.{column, columns, cut}
use Rattle.pals_base.specs.UpwardNumbers.{upwards}
use Rattle.pals_base.proofs.UpwardNumbers.{length-upwards, slice_get-map_upwards}

pub length-columns : (n : ℕ) (lists : List (List PortValue)) → length (columns n lists) ≡ n
length-columns n lists = length-map (upwards 0 n) (λ at. column at lists) ∙ length-upwards 0 n

pub slice_get-columns : (n : ℕ) (lists : List (List PortValue)) (at : ℕ) → at < n
    → slice_get (columns n lists) at ≡ Some (column at lists)
slice_get-columns n lists at within = slice_get-map_upwards (λ k. column k lists) n at within

each_column : (lists : List (List PortValue)) (ats : List ℕ)
    → AllByRecursion (λ c. length c ≡ length lists) (map (λ at. column at lists) ats)
each_column lists [] = tt
each_column lists (at ∷ ats) = (length-map lists _, each_column lists ats)

pub length-each_column : (n : ℕ) (lists : List (List PortValue)) → All (λ c. length c ≡ length lists) (columns n lists)
length-each_column n lists =
    All-from_recursion (λ c. length c ≡ length lists) (columns n lists) (each_column lists (upwards 0 n))

-- the value at an index of each list, list by list
pub get_or-column : (lists : List (List PortValue)) (at p : ℕ)
    → slice_index_or (column at lists) p Absent ≡ slice_index_or (slice_index_or lists p []) at Absent
get_or-column [] at p = refl
get_or-column (list ∷ lists) at zero = refl
get_or-column (list ∷ lists) at (suc p) = get_or-column lists at p

pub length-cut : (count : ℕ) (tuple : List PortValue) → length (cut count tuple) ≡ length tuple
length-cut count tuple =
    length-append (take count tuple) (replicate (length tuple - count) Absent)
    ∙ omega (arith, length-take count tuple, length-replicate (length tuple - count) Absent)

pub cut-at : (count at : ℕ) (tuple : List PortValue) (d : PortValue) → at < length tuple
    → slice_index_or (cut count tuple) at d ≡ (if nat_lt at count then slice_index_or tuple at d else Absent)
cut-at count at tuple d within =
    elim (cases_lt at count) [
      | inl below ↦
          get_or_append_left (take count tuple) (replicate (length tuple - count) Absent) d at
          (omega (arith, length-take count tuple))
          ∙ get_or-take count tuple at d below
          ∙ sym (ap (λ (b : Bool). if b then slice_index_or tuple at d else Absent) (lt-ltb at count below))
      | inr past ↦
          get_or-append_right (take count tuple) (replicate (length tuple - count) Absent) count at d
          (length-take-le count tuple (omega arith)) past
          ∙ get_or-replicate (length tuple - count) (at - count) Absent d (omega arith)
          ∙ sym (ap (λ (b : Bool). if b then slice_index_or tuple at d else Absent) (le-ltb at count past))
    ]

-- cutting has no effect if all places count
pub cut_whole : (count : ℕ) (tuple : List PortValue) → length tuple ≤ count → cut count tuple ≡ tuple
cut_whole count tuple within =
    let none : length tuple - count ≡ 0 = omega arith in
    ap (λ n. take count tuple ++ replicate n Absent) none ∙ append-nil (take count tuple) ∙ take_all count tuple within
