-- The values of one port at each step, taken from the rows of a component's steps, and cut to the steps that are
-- sent.
use Rattle.std.proofs.Common.{◌≡◌, ◌∙◌, ℕ, ◌<◌, if◌then◌else◌, nat_lt, List, length, map, slice_index_or, sym, ap}
use Rattle.std.proofs.Common.{arith}
use Rattle.std.proofs.lemmas.List.{length-map, get_or-map}
use Rattle.pals_base.specs.declared.basic_types.PortValue.{PortValue}
use Rattle.pals_base.specs.declared.basic_types.PortValue.TheVariants.{Absent}
use Rattle.pals_base.specs.Tuples.{column, cut}
use Rattle.pals_base.proofs.ColumnsAndCutTuples.{cut-at}
use Rattle.sync_product.specs.proof.Rounds.{value_if_before}

pub column-at : (rows : List (List PortValue)) (port at : ℕ) (d : PortValue) (row : List PortValue) → at < length rows
    → slice_index_or (column port rows) at d ≡ slice_index_or (slice_index_or rows at row) port Absent
column-at rows port at d row within =
    get_or-map (λ (r : List PortValue). slice_index_or r port Absent) rows at row d within

pub column_of_map-at : {X : Type 0} (f : X → List PortValue) (xs : List X) (step at : ℕ) (d : PortValue) (x : X)
    → at < length xs → slice_index_or (column step (map f xs)) at d
    ≡ slice_index_or (f (slice_index_or xs at x)) step Absent
column_of_map-at f xs step at d x within =
    column-at (map f xs) step at d (f x) (omega (arith, length-map xs f))
    ∙ ap (λ l. slice_index_or l step Absent) (get_or-map f xs at x (f x) within)

pub length-column_of_map : {X : Type 0} (f : X → List PortValue) (xs : List X) (step : ℕ)
    → length (column step (map f xs)) ≡ length xs
length-column_of_map f xs step =
    length-map (map f xs) (λ (r : List PortValue). slice_index_or r step Absent) ∙ length-map xs f

-- a place of a row that counts
pub cut_column-at : (rows : List (List PortValue)) (port count at : ℕ) (row : List PortValue) (d : PortValue)
    → at < length rows → row ≡ slice_index_or rows at row
    → value_if_before (nat_lt at count) port row ≡ slice_index_or (cut count (column port rows)) at d
cut_column-at rows port count at row d within item =
    let inside : at < length (column port rows) =
    omega (arith, length-map rows (λ (r : List PortValue). slice_index_or r port Absent)) in
    ap (λ r. value_if_before (nat_lt at count) port r) item
    ∙ ap (λ p. if nat_lt at count then p else Absent) (sym (column-at rows port at d row within))
    ∙ sym (cut-at count at (column port rows) d inside)

pub length-column : (rows : List (List PortValue)) (port : ℕ) → length (column port rows) ≡ length rows
length-column rows port = length-map rows (λ (r : List PortValue). slice_index_or r port Absent)
