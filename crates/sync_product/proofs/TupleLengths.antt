-- The lengths of the out tuples of a round, and of the lists of out values that its steps leave.
use Rattle.std.proofs.Common.{◌≡◌, ◌∙◌, ℕ, ◌<◌, List, length, map, replicate, slice_index_or, sym, ap, arith}
use Rattle.std.proofs.lemmas.List.{length-map, length-replicate, get_or-map, get_or-replicate}
use Rattle.pals_base.specs.declared.basic_types.PortValue.{PortValue}

abbrev pub lengths : List (List PortValue) → List ℕ
lengths rows = map (λ (row : List PortValue). length row) rows

-- a tuple for each port, all of one length
pub count_of_outs : (outs : List (List PortValue)) (ports : List ℕ) (n : ℕ) → lengths outs ≡ map (λ (port : ℕ). n) ports
    → length outs ≡ length ports
count_of_outs outs ports n same =
    sym (length-map outs (λ (row : List PortValue). length row)) ∙ ap length same ∙ length-map ports (λ (port : ℕ). n)

pub size_of_out : (outs : List (List PortValue)) (ports : List ℕ) (n at : ℕ) (out : List PortValue)
    → lengths outs ≡ map (λ (port : ℕ). n) ports → at < length ports → out ≡ slice_index_or outs at out → length out ≡ n
size_of_out outs ports n at out same within item =
    ap length item
    ∙ sym (get_or-map (λ (row : List PortValue). length row) outs at out 0
    (omega (arith, count_of_outs outs ports n same)))
    ∙ ap (λ ls. slice_index_or ls at 0) same
    ∙ get_or-map (λ (port : ℕ). n) ports at 0 0 within

-- as many rows
pub count_of_rows : (rows : List (List PortValue)) (n k : ℕ) → lengths rows ≡ replicate n k → length rows ≡ n
count_of_rows rows n k same =
    sym (length-map rows (λ (row : List PortValue). length row)) ∙ ap length same ∙ length-replicate n k

-- each of the same length
pub length_of_row : (rows : List (List PortValue)) (n k at : ℕ) (d : List PortValue) → lengths rows ≡ replicate n k
    → at < n → length (slice_index_or rows at d) ≡ k
length_of_row rows n k at d same within =
    sym (get_or-map (λ (row : List PortValue). length row) rows at d 0 (omega (arith, count_of_rows rows n k same)))
    ∙ ap (λ ls. slice_index_or ls at 0) same
    ∙ get_or-replicate n at k 0 within
