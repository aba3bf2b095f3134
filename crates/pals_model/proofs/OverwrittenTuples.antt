-- For `Part::copy_from`: tuples that are overwritten with others of the same sizes, one by one.
use Rattle.std.proofs.Common.{◌≡◌, ℕ, zero, suc, ◌+◌, ◌<◌, List, [], ◌∷◌, length, map, take, set, slice_index_or, sym}
use Rattle.std.proofs.Common.{ap, ap₂, ◌∙◌, arith, add-one}
use Rattle.std.proofs.lemmas.List.{length-map}
use Rattle.pals_base.specs.declared.basic_types.PortValue.{PortValue}

abbrev pub sizes : List (List PortValue) → List ℕ
sizes tuples = map (λ (tuple : List PortValue). length tuple) tuples

pub same_count : (outs wanted : List (List PortValue)) → sizes outs ≡ sizes wanted → length outs ≡ length wanted
same_count outs wanted same = sym (length-map outs _) ∙ ap length same ∙ length-map wanted _

-- the tuple that is written over is as long as the one written
pub same_size : (outs wanted : List (List PortValue)) (at : ℕ) (out tuple : List PortValue) → at < length wanted
    → out ≡ slice_index_or outs at out → tuple ≡ slice_index_or wanted at tuple → sizes outs ≡ sizes wanted
    → length out ≡ length tuple
same_size outs [] at out tuple within is_out is same = absurd (omega arith)
same_size [] (w ∷ ws) at out tuple within is_out is same = absurd (cc)
same_size (o ∷ os) (w ∷ ws) zero out tuple within is_out is same = let sizes' : length o ≡ length w = cc in
    ap length is_out ∙ sizes' ∙ sym (ap length is)
same_size (o ∷ os) (w ∷ ws) (suc at) out tuple within is_out is same = let rest : sizes os ≡ sizes ws = cc in
    same_size os ws at out tuple (omega arith) is_out is rest

pub sizes_stay : (outs wanted : List (List PortValue)) (at : ℕ) (tuple : List PortValue) → at < length wanted
    → tuple ≡ slice_index_or wanted at tuple → sizes outs ≡ sizes wanted → sizes (set outs at tuple) ≡ sizes wanted
sizes_stay outs [] at tuple within is same = absurd (omega arith)
sizes_stay [] (w ∷ ws) at tuple within is same = same
sizes_stay (o ∷ os) (w ∷ ws) zero tuple within is same = let rest : sizes os ≡ sizes ws = cc in
    ap₂ (λ n ns. n ∷ ns) (ap length is) rest
sizes_stay (o ∷ os) (w ∷ ws) (suc at) tuple within is same = let first : length o ≡ length w = cc in
    let rest : sizes os ≡ sizes ws = cc in ap₂ (λ n ns. n ∷ ns) first (sizes_stay os ws at tuple (omega arith) is rest)

first_copied : (outs wanted : List (List PortValue)) (at : ℕ) (tuple : List PortValue) → at < length wanted
    → length outs ≡ length wanted → tuple ≡ slice_index_or wanted at tuple → take at outs ≡ take at wanted
    → take (suc at) (set outs at tuple) ≡ take (suc at) wanted
first_copied outs [] at tuple within count is copied = absurd (omega arith)
first_copied [] (w ∷ ws) at tuple within count is copied = absurd (omega arith)
first_copied (o ∷ os) (w ∷ ws) zero tuple within count is copied = ap (λ t. t ∷ []) is
first_copied (o ∷ os) (w ∷ ws) (suc at) tuple within count is copied =
    let first : o ≡ w = cc in
    let rest : take at os ≡ take at ws = cc in
    ap₂ (λ t ts. t ∷ ts) first (first_copied os ws at tuple (omega arith) (omega arith) is rest)

-- one more
pub more_copied : (outs wanted : List (List PortValue)) (at : ℕ) (tuple : List PortValue) → at < length wanted
    → tuple ≡ slice_index_or wanted at tuple → sizes outs ≡ sizes wanted → take at outs ≡ take at wanted
    → take (at + 1) (set outs at tuple) ≡ take (at + 1) wanted
more_copied outs wanted at tuple within is same copied =
    ap (λ n. take n (set outs at tuple)) (add-one at)
    ∙ first_copied outs wanted at tuple within (same_count outs wanted same) is copied
    ∙ ap (λ n. take n wanted) (sym (add-one at))
