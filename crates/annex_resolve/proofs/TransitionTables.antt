-- The table of single transitions between states, after one transition after another.
use Rattle.std.proofs.Common.{◌≡◌, ◌≢◌, ℕ, ◌<◌, ◌+◌, zero, suc, Bool, true, false, not, ◌&&◌, ◌||◌, nat_eq, List, []}
use Rattle.std.proofs.Common.{◌∷◌, ◌++◌, length, map, filter, set, get_or, replicate, refl, sym, ap, ap₂, ◌∙◌, arith}
use Rattle.std.proofs.Common.{cond, inl, inr}
use Rattle.std.specs.List.{list_any}
use Rattle.std.proofs.lemmas.Bool.{cases_eq, eq-eqb, ne_eqb}
use Rattle.std.proofs.lemmas.List.{append-nil}
use Rattle.std.proofs.lemmas.List.Elements.{filter-append}
use Rattle.std.proofs.lemmas.List.Folds.{list_any-append}
use Rattle.std.proofs.Math.Bool.{and-false}
use Rattle.pals_base.specs.declared.behaviour.BehaviourParts.{BehaviourParts}
use Rattle.pals_base.specs.ExpressionAndActionTrees.{Edge}
use Rattle.pals_base.specs.SingleStep.{is_complete}
use Rattle.pals_base.specs.UpwardNumbers.{upwards}
use Rattle.pals_base.proofs.UpwardNumbers.{get_or-map_upwards, map_upwards_same}
use Rattle.annex_resolve.specs.proof.ReachabilityTables.{marked, leads_by, row_by, table_by}

-- ---- lists with an element for each number
-- one of them is another
mapped_put : {A : Type 0} (f g : ℕ → A) (from n k : ℕ) (v : A) → (k < n → g (from + k) ≡ v)
    → ((i : ℕ) → i ≢ from + k → g i ≡ f i)
    → set (map f (upwards from n)) k v ≡ map g (upwards from n)
mapped_put f g from zero k v here there = refl
mapped_put f g from (suc n) zero v here there =
    ap₂ (λ x xs. x ∷ xs) (sym (here (omega arith)) ∙ ap g (omega arith))
    (map_upwards_same f g (suc from) n (λ i above below. sym (there i (λ e. omega (arith, e, above)))))
mapped_put f g from (suc n) (suc k) v here there =
    let moved : suc from + k ≡ from + suc k = omega arith in
    ap₂ (λ x xs. x ∷ xs) (sym (there from (λ e. omega (arith, e))))
    (mapped_put f g (suc from) n k v (λ within. ap g moved ∙ here (omega (arith, within)))
    (λ i other. there i (λ e. other (e ∙ sym moved))))

mapped_all : {A : Type 0} (f : ℕ → A) (v : A) (from n : ℕ) → ((i : ℕ) → f i ≡ v)
    → map f (upwards from n) ≡ replicate n v
mapped_all f v from zero same = refl
mapped_all f v from (suc n) same = ap₂ (λ x xs. x ∷ xs) (same from) (mapped_all f v (suc from) n same)

-- ---- no transition

pub table-none : (b : BehaviourParts) → replicate (length b.states) (replicate (length b.states) false) ≡ table_by b []
table-none b =
    let n = length b.states in
    sym (mapped_all (row_by b []) (replicate n false) 0 n
    (λ s. mapped_all (leads_by b [] s) false 0 n (λ t. and-false (not (is_complete b s)))))

-- ---- one more transition
module _ (b : BehaviourParts) (es : List Edge) (e : Edge) where
  abbrev from_state : ℕ → Edge → Bool
  from_state s x = nat_eq x.source s

  abbrev to_state : ℕ → Edge → Bool
  to_state t x = nat_eq x.target t

  -- it leaves another state
  other_state : (s : ℕ) → nat_eq e.source s ≡ false → filter (from_state s) (es ++ e ∷ []) ≡ filter (from_state s) es
  other_state s differs =
      filter-append (from_state s) es (e ∷ [])
      ∙ ap (λ c. filter (from_state s) es ++ cond c (e ∷ []) []) differs
      ∙ append-nil (filter (from_state s) es)

  same_state : (s : ℕ) → nat_eq e.source s ≡ true
      → filter (from_state s) (es ++ e ∷ []) ≡ filter (from_state s) es ++ e ∷ []
  same_state s is =
      filter-append (from_state s) es (e ∷ [])
      ∙ ap (λ c. filter (from_state s) es ++ cond c (e ∷ []) []) is

  abbrev leads_more : ℕ → ℕ → Bool
  leads_more = leads_by b (es ++ e ∷ [])

  row_stays : (s : ℕ) → nat_eq e.source s ≡ false → row_by b (es ++ e ∷ []) s ≡ row_by b es s
  row_stays s differs =
      ap (λ (l : List Edge). map (λ t. not (is_complete b s) && list_any (to_state t) l) (upwards 0 (length b.states)))
      (other_state s differs)

  any_more : (t : ℕ) (xs : List Edge) (c : Bool) → to_state t e ≡ c
      → list_any (to_state t) (xs ++ e ∷ []) ≡ (list_any (to_state t) xs || (c || false))
  any_more t xs c is = list_any-append (to_state t) xs (e ∷ []) ∙ ap (λ x. list_any (to_state t) xs || (x || false)) is

  or_true : (x : Bool) → (x || (true || false)) ≡ true
  or_true true = refl
  or_true false = refl

  or_false : (x : Bool) → (x || (false || false)) ≡ x
  or_false true = refl
  or_false false = refl

  -- from a state that is not complete
  module _ (open' : is_complete b e.source ≡ false) where
    leads_there : leads_more e.source e.target ≡ true
    leads_there =
        ap₂ (λ c l. not c && list_any (to_state e.target) l) open' (same_state e.source (eq-eqb e.source e.source refl))
        ∙ any_more e.target (filter (from_state e.source) es) true (eq-eqb e.target e.target refl)
        ∙ or_true (list_any (to_state e.target) (filter (from_state e.source) es))

    leads_elsewhere : (t : ℕ) → t ≢ e.target → leads_more e.source t ≡ leads_by b es e.source t
    leads_elsewhere t other =
        ap (λ (l : List Edge). not (is_complete b e.source) && list_any (to_state t) l)
        (same_state e.source (eq-eqb e.source e.source refl))
        ∙ ap (λ x. not (is_complete b e.source) && x)
        (any_more t (filter (from_state e.source) es) false (ne_eqb e.target t (λ is. other (sym is)))
        ∙ or_false (list_any (to_state t) (filter (from_state e.source) es)))

    abbrev before : List (List Bool)
    before = table_by b es

    row_marked : e.source < length b.states
        → row_by b (es ++ e ∷ []) e.source ≡ set (get_or before e.source []) e.target true
    row_marked within =
        sym (ap (λ row. set row e.target true)
        (get_or-map_upwards (row_by b es) (length b.states) e.source [] within)
        ∙ mapped_put (leads_by b es e.source) (leads_more e.source) 0 (length b.states) e.target true
        (λ inside. let e' : 0 + e.target ≡ e.target = omega arith in ap (leads_more e.source) e' ∙ leads_there)
        (λ i other. leads_elsewhere i (λ is. other (omega (arith, is)))))

    pub table-marked : marked (table_by b es) e.source e.target ≡ table_by b (es ++ e ∷ [])
    table-marked =
        mapped_put (row_by b es) (row_by b (es ++ e ∷ [])) 0 (length b.states) e.source
        (set (get_or before e.source []) e.target true)
        (λ within. let e' : 0 + e.source ≡ e.source = omega arith in
        ap (row_by b (es ++ e ∷ [])) e' ∙ row_marked within)
        (λ i other. row_stays i (ne_eqb e.source i (λ is. other (omega (arith, is)))))

  -- from a complete state
  pub table-stays : is_complete b e.source ≡ true → table_by b (es ++ e ∷ []) ≡ table_by b es
  table-stays complete =
      map_upwards_same (row_by b (es ++ e ∷ [])) (row_by b es) 0 (length b.states)
      (λ s above below. elim (cases_eq e.source s) as (λ r. row_by b (es ++ e ∷ []) s ≡ row_by b es s) [
        | inl is ↦
            let ends : is_complete b s ≡ true = ap (is_complete b) (sym is) ∙ complete in
            map_upwards_same (leads_more s) (leads_by b es s) 0 (length b.states)
            (λ t over under. ap (λ c. not c && list_any (to_state t) (filter (from_state s) (es ++ e ∷ []))) ends
            ∙ sym (ap (λ c. not c && list_any (to_state t) (filter (from_state s) es)) ends))
        | inr not_is ↦ row_stays s (ne_eqb e.source s not_is)
      ])
