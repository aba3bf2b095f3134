-- A tree's terminals without the meaningless ones nest no deeper than with them. For the law that canonical text is
-- read back.
use Rattle.std.proofs.Common.{◌≡◌, ℕ, ◌≤◌, Bool, true, false, ap, subst, refl, List, [], ◌∷◌, ◌++◌, inl, inr, arith}
use Rattle.aadl_tree.specs.declared.mark.Mark.TheVariants as k
use Rattle.aadl_tree.specs.Terminals.{PlainTerminal, mark}
use Rattle.aadl_tree.specs.SpellingParts.{SpellingPart, token, may, feature_section, subcomponent_section}
use Rattle.aadl_tree.specs.SpellingParts.{connection_section}
use Rattle.aadl_tree.specs.SpellingParts.{property_section, Extra, empty_section, last_semicolon, extra_kinds, Spells}
use Rattle.aadl_tree.specs.SpellingParts.{kept}
use Rattle.aadl_tree.specs.declared.nesting_limit.TheConstants.{GREATEST_NESTING}
use Rattle.aadl_tree.specs.PackagesBehavioursAndNesting.{opened, is_end, nesting_from, IsShallow}

-- if n openers are open before, the number never exceeds the limit
abbrev Low : ℕ → Bool → List PlainTerminal → Type 0
Low n ended [] = n ≤ GREATEST_NESTING
Low n ended (kind ∷ ks) = (n ≤ GREATEST_NESTING) × Low (opened n ended kind) (is_end kind) ks

low_front : (n : ℕ) (ended : Bool) (front back : List PlainTerminal) → Low n ended (front ++ back)
    → nesting_from n ended front ≤ GREATEST_NESTING
low_front n ended [] [] h = h
low_front n ended [] (kind ∷ ks) h = h.0
low_front n ended (kind ∷ front) back h = low_front (opened n ended kind) (is_end kind) front back h.1

front_low : (n : ℕ) (ended : Bool) (ks : List PlainTerminal)
    → ((front back : List PlainTerminal) → ks ≡ front ++ back → nesting_from n ended front ≤ GREATEST_NESTING)
    → Low n ended ks
front_low n ended [] h = h [] [] refl
front_low n ended (kind ∷ ks) h = (
  h [] (kind ∷ ks) refl,
  front_low (opened n ended kind) (is_end kind) ks
      (λ front back e. h (kind ∷ front) back (ap (λ l. kind ∷ l) e)),
)

-- the first state has at most as many open openers, and `end` directly precedes the second state only if it precedes
-- the first
abbrev NoMore : ℕ → Bool → ℕ → Bool → Type 0
NoMore n ended m false = n ≤ m
NoMore n ended m true = (n ≤ m) × (ended ≡ true)

no_more : (n : ℕ) (ended : Bool) (m : ℕ) (after : Bool) → NoMore n ended m after → n ≤ m
no_more n ended m false h = h
no_more n ended m true h = h.0

same_flag : (n m : ℕ) (flag : Bool) → n ≤ m → NoMore n flag m flag
same_flag n m true h = (h, refl)
same_flag n m false h = h

opened_less : (n : ℕ) (ended : Bool) (m : ℕ) (after : Bool) (kind : PlainTerminal) → NoMore n ended m after
    → opened n ended kind ≤ opened m after kind
opened_less n false m true kind h = absurd (let g = h.1 in cc)
opened_less n true m true (mark k.If) h = let g = h.0 in omega arith
opened_less n true m true (mark _) h = let g = h.0 in omega arith
opened_less n true m true _ h = h.0
opened_less n true m false (mark k.If) h = omega arith
opened_less n true m false (mark _) h = omega arith
opened_less n true m false _ h = h
opened_less n false m false (mark k.If) h = omega arith
opened_less n false m false (mark _) h = omega arith
opened_less n false m false _ h = h

low_less : (n : ℕ) (ended : Bool) (m : ℕ) (after : Bool) (ks : List PlainTerminal) → NoMore n ended m after
    → Low m after ks
    → Low n ended ks
low_less n ended m after [] h l = let g = no_more n ended m after h in omega arith
low_less n ended m after (kind ∷ ks) h l =
    let g = no_more n ended m after h in
    let low = l.0 in (
      (omega arith),
      low_less (opened n ended kind) (is_end kind) (opened m after kind) (is_end kind) ks
          (same_flag (opened n ended kind) (opened m after kind) (is_end kind)
          (opened_less n ended m after kind h)) l.1,
    )

-- the terminals after meaningless ones remain within the limit
low_behind : (n : ℕ) (ended : Bool) (extra : Extra) (ks : List PlainTerminal) → Low n ended (extra_kinds extra ++ ks)
    → Low n false ks
low_behind n true (empty_section feature_section) ks h = h.1.1.1
low_behind n true (empty_section subcomponent_section) ks h = h.1.1.1
low_behind n true (empty_section connection_section) ks h = h.1.1.1
low_behind n true (empty_section property_section) ks h = h.1.1.1
low_behind n true last_semicolon ks h = h.1
low_behind n false (empty_section feature_section) ks h = h.1.1.1
low_behind n false (empty_section subcomponent_section) ks h = h.1.1.1
low_behind n false (empty_section connection_section) ks h = h.1.1.1
low_behind n false (empty_section property_section) ks h = h.1.1.1
low_behind n false last_semicolon ks h = h.1

low_kept : {P : Type 0} (ps : List (SpellingPart P)) (n : ℕ) (ended : Bool) (ks : List PlainTerminal) → Spells ps ks []
    → Low n ended ks
    → Low n ended (kept ps)
low_kept [] n ended ks e l = subst (λ (q : List PlainTerminal). Low n ended q) e l
low_kept (token kind places ∷ ps) n ended ks (more, e, s) l =
    let h = subst (λ (q : List PlainTerminal). Low n ended q) e l in
    (h.0, low_kept ps (opened n ended kind) (is_end kind) more s h.1)
low_kept (may extra ∷ ps) n ended ks (inl s) l = low_kept ps n ended ks s l
low_kept (may extra ∷ ps) n ended ks (inr (more, e, s)) l =
    low_less n ended n false (kept ps) (omega arith)
    (low_kept ps n false more s (low_behind n ended extra more (subst (λ (q : List PlainTerminal). Low n ended q) e l)))

-- The terminals that a tree keeps are within the nesting limit if all its terminals are.
pub kept_shallow : {P : Type 0} (outer : ℕ) (ps : List (SpellingPart P)) (ks : List PlainTerminal) → Spells ps ks []
    → IsShallow outer ks
    → IsShallow outer (kept ps)
kept_shallow outer ps ks s shallow front back e =
    low_front outer false front back
    (subst (λ (q : List PlainTerminal). Low outer false q) e
    (low_kept ps outer false ks s (front_low outer false ks shallow)))
