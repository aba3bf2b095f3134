-- The law that a round fills one place after another: its tuples after its first steps, after one more step, and
-- after all steps.
use Rattle.std.proofs.Common.{◌≡◌, ◌∙◌, ℕ, zero, suc, ◌+◌, ◌-◌, ◌<◌, List, [], ◌∷◌, ◌++◌, length, map, replicate, refl}
use Rattle.std.proofs.Common.{sym, ap, ap₂, arith, add-zero, append_assoc, append-nil}
use Rattle.std.proofs.Math.Seq.{set-append_seam}
use Rattle.std.proofs.lemmas.List.{length-map, map-append}
use Rattle.std.specs.Prelude.{slice_index_or, slice_set}
use Rattle.pals_base.specs.declared.basic_types.PortValue.{PortValue}
use Rattle.pals_base.specs.declared.basic_types.PortValue.TheVariants.{Absent}
use Rattle.pals_base.specs.Tuples.{column, columns, so_far, with_places}
use Rattle.pals_base.specs.UpwardNumbers.{upwards}

-- a tuple with one more place before the absent ones
one_more_place : (tuple : List PortValue) (value : PortValue) (n k : ℕ) → length tuple ≡ n → n < k
    → (tuple ++ value ∷ []) ++ replicate (k - (n + 1)) Absent ≡ slice_set (tuple ++ replicate (k - n) Absent) n value
one_more_place tuple value n k size within =
    let rest : k - n ≡ suc (k - (n + 1)) = omega arith in
    append_assoc tuple (value ∷ []) (replicate (k - (n + 1)) Absent)
    ∙ sym (set-append_seam tuple Absent (replicate (k - (n + 1)) Absent) value)
    ∙ ap (λ m. slice_set (tuple ++ replicate m Absent) (length tuple) value) (sym rest)
    ∙ ap (λ at. slice_set (tuple ++ replicate (k - n) Absent) at value) size

one_more_in_column : (outs : List (List PortValue)) (values : List PortValue) (at : ℕ)
    → column at (outs ++ values ∷ []) ≡ column at outs ++ slice_index_or values at Absent ∷ []
one_more_in_column outs values at = map-append (λ list. slice_index_or list at Absent) outs (values ∷ [])

-- the columns from an index on, if these are their values in the new step
columns_with : (outs : List (List PortValue)) (all : List PortValue) (k : ℕ) → length outs < k
    → (from : ℕ) (values : List PortValue)
    → ((i : ℕ) → slice_index_or values i Absent ≡ slice_index_or all (from + i) Absent)
    → map (λ tuple. tuple ++ replicate (k - (length outs + 1)) Absent)
    (map (λ at. column at (outs ++ all ∷ [])) (upwards from (length values)))
    ≡ with_places (length outs) values
    (map (λ tuple. tuple ++ replicate (k - length outs) Absent)
    (map (λ at. column at outs) (upwards from (length values))))
columns_with outs all k within from [] same = refl
columns_with outs all k within from (v ∷ vs) same =
    let value : slice_index_or all from Absent ≡ v =
    sym (same 0 ∙ ap (λ i. slice_index_or all i Absent) (add-zero from)) in
    let tuple = column from outs in
    ap₂ (λ t ts. t ∷ ts)
    (ap (λ t. t ++ replicate (k - (length outs + 1)) Absent)
    (one_more_in_column outs all from ∙ ap (λ p. tuple ++ p ∷ []) value)
    ∙ one_more_place tuple v (length outs) k (length-map outs _) within)
    (columns_with outs all k within (suc from) vs
    (λ i. same (suc i) ∙ ap (λ n. slice_index_or all n Absent) (omega arith)))

pub so_far-one_more : (k : ℕ) (outs : List (List PortValue)) (values : List PortValue) → length outs < k
    → so_far (length values) k (outs ++ values ∷ []) ≡ with_places (length outs) values (so_far (length values) k outs)
so_far-one_more k outs values within =
    ap (λ n. map (λ tuple. tuple ++ replicate (k - n) Absent) (columns (length values) (outs ++ values ∷ [])))
    (length-behind outs)
    ∙ columns_with outs values k within 0 values (λ i. ap (λ n. slice_index_or values n Absent) (omega arith))
  where
    length-behind : (outs : List (List PortValue)) → length (outs ++ values ∷ []) ≡ length outs + 1
    length-behind [] = refl
    length-behind (o ∷ os) = ap suc (length-behind os) ∙ omega arith

nothing_more : (tuples : List (List PortValue)) → map (λ tuple. tuple ++ []) tuples ≡ tuples
nothing_more [] = refl
nothing_more (t ∷ ts) = ap₂ (λ u us. u ∷ us) (append-nil t) (nothing_more ts)

pub so_far-all : (ports : ℕ) (outs : List (List PortValue)) → so_far ports (length outs) outs ≡ columns ports outs
so_far-all ports outs =
    let none : length outs - length outs ≡ 0 = omega arith in
    ap (λ n. map (λ tuple. tuple ++ replicate n Absent) (columns ports outs)) none ∙ nothing_more (columns ports outs)

none_yet : (k from n : ℕ)
    → map (λ tuple. tuple ++ replicate k Absent) (map (λ at. column at []) (upwards from n))
    ≡ replicate n (replicate k Absent)
none_yet k from zero = refl
none_yet k from (suc n) = ap (λ ts. replicate k Absent ∷ ts) (none_yet k (suc from) n)

pub so_far-none : (ports k : ℕ) → so_far ports k [] ≡ replicate ports (replicate k Absent)
so_far-none ports k =
    let all : k - length {A = List PortValue} [] ≡ k = omega arith in
    ap (λ n. map (λ tuple. tuple ++ replicate n Absent) (columns ports [])) all ∙ none_yet k 0 ports
