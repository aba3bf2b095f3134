-- The declarations that a declaration reaches, found by a visit of each found declaration.
use Rattle.std.proofs.Common.{◌≡◌, ◌⊎◌, ◌↔◌, inl, inr, ℕ, zero, suc, ◌+◌, ◌<◌, Bool, true, false, nat_eq, List, [], ◌∷◌}
use Rattle.std.proofs.Common.{◌++◌, length, Option, Some, None, slice_get, refl, sym, subst, ◌∙◌, arith, append_assoc}
use Rattle.std.specs.List.{list_any, IsDistinct}
use Rattle.std.proofs.lemmas.Bool.{true≢false}
use Rattle.std.proofs.lemmas.List.{append-nil}
use Rattle.std.proofs.lemmas.Option.{none-some}
use Rattle.indexmap.specs.IndexSet.{insert_key}
use Rattle.aadl_uses.specs.proof.ContainmentGraphs.{Graph, targets_in, below_in, IsWithin, LeadsBack, AreAdded}
use Rattle.aadl_uses.proofs.GraphSearches.{added_none, added_skip, added_more, Searched, searched_first, searched_past}
use Rattle.aadl_uses.proofs.GraphSearches.{searched_more, searched_end}
use Rattle.aadl_uses.proofs.RecursionSuspects.{leads_by}
use Rattle.design_laws.specs.proof.ReachOrderAndPaths.{HasReach}
use Rattle.design_laws.proofs.DistinctNumbers.{insert_distinct, distinct_one}

-- ---- a list with the targets
record Added (ts : List (Option ℕ)) (old : List ℕ) : Type 0 where
  new : List ℕ
  are : AreAdded ts old new

one_target : (ts : List (Option ℕ)) (t : Option ℕ) (old mid : List ℕ) → IsDistinct nat_eq old → AreAdded ts old mid
    → Added (ts ++ t ∷ []) old
one_target ts None old mid d a = record { new = mid; are = added_skip ts old mid a }
one_target ts (Some k) old mid d a =
    record {
      new = insert_key nat_eq mid k;
      are = added_more ts old mid a k (insert_key nat_eq mid k) refl (insert_distinct mid k (a.distinct d));
    }

added_from : (seen rest : List (Option ℕ)) (old : List ℕ) → IsDistinct nat_eq old → Added seen old
    → Added (seen ++ rest) old
added_from seen [] old d a = subst (λ (ts : List (Option ℕ)). Added ts old) (sym (append-nil seen)) a
added_from seen (t ∷ rest) old d a =
    subst (λ (ts : List (Option ℕ)). Added ts old) (append_assoc seen (t ∷ []) rest)
    (added_from (seen ++ t ∷ []) rest old d (one_target seen t old a.new d a.are))

added : (ts : List (Option ℕ)) (old : List ℕ) → IsDistinct nat_eq old → Added ts old
added ts old d = added_from [] ts old d (record { new = old; are = added_none old })

-- ---- the search
record Found (g : Graph) (from at : ℕ) : Type 0 where
  keys : List ℕ
  searched : Searched g from at keys

one_more : (g : Graph) (from at : ℕ) (keys : List ℕ) → Searched g from at keys → (o : Option ℕ) → slice_get keys at ≡ o
    → Found g from (at + 1)
one_more g from at keys s None e = record { keys = keys; searched = searched_past g from at keys s e }
one_more g from at keys s (Some n) e =
    let a = added (targets_in g n) keys s.distinct in
    record { keys = a.new; searched = searched_more g from at keys s n a.new e a.are }

found : (g : Graph) (from n : ℕ) → Found g from n
found g from zero = record { keys = from ∷ []; searched = searched_first g from (from ∷ []) refl (distinct_one from) }
found g from (suc n) =
    let f = found g from n in
    let e : n + 1 ≡ suc n = omega arith in
    subst (Found g from) e (one_more g from n f.keys f.searched (slice_get f.keys n) refl)

pub reach : (g : Graph) (from : ℕ) → IsWithin g → from < length g → HasReach g from
reach g from within here =
    let f = found g from (length g) in
    record { keys = f.keys; are = searched_end g from (length g) f.keys within here (omega arith) f.searched }

-- ---- subcomponents that lead back
by_reach : (g : Graph) (n s m : ℕ) → below_in g n s ≡ Some m → HasReach g m → LeadsBack g n s ⊎ (LeadsBack g n s → ⊥)
by_reach g n s m e r = by (list_any (nat_eq n) r.keys) refl
  where
    tells : (b : Bool) → b ≡ list_any (nat_eq n) r.keys → (b ≡ true) ↔ LeadsBack g n s
    tells b is = leads_by g n s m r.keys b (sym e) r.are is

    by : (b : Bool) → b ≡ list_any (nat_eq n) r.keys → LeadsBack g n s ⊎ (LeadsBack g n s → ⊥)
    by true is = inl ((tells true is).0 refl)
    by false is = inr (λ back. true≢false (sym ((tells false is).1 back)))

by_below : (g : Graph) (n s : ℕ) → IsWithin g → (o : Option ℕ) → below_in g n s ≡ o
    → LeadsBack g n s ⊎ (LeadsBack g n s → ⊥)
by_below g n s within None e = inr (λ back. none-some back.0 (sym e ∙ back.1))
by_below g n s within (Some m) e = by_reach g n s m e (reach g m within (within n s m e))

pub leads_back : (g : Graph) (n s : ℕ) → IsWithin g → LeadsBack g n s ⊎ (LeadsBack g n s → ⊥)
leads_back g n s within = by_below g n s within (below_in g n s) refl
