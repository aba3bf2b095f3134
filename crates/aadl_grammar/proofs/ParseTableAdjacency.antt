-- Two kinds of invariants on neighbouring terminals: one on the followers and one on the predecessors of a terminal.
-- A check of all rows of the parse table proves each.
use Rattle.std.proofs.Common.{◌≡◌, ℕ, Bool, true, false, not, ◌&&◌, ◌||◌, ◌==◌, ◌∙◌, ap, refl, List, [], ◌∷◌, inl, inr}
use Rattle.std.proofs.lemmas.Bool.{or_left}
use Rattle.std.specs.Cmp.{first_so, second_so}
use Rattle.aadl_tree.specs.proof.MarkNumbers.{mark_number}
use Rattle.aadl_grammar.specs.proof.GrammarSymbols.{Symbol, Row}
use Rattle.aadl_grammar.specs.proof.GrammarSymbols as s
use Rattle.aadl_grammar.specs.proof.ParseTable.{rows, can_omit}
use Rattle.aadl_grammar.specs.proof.StackMachine.{class_number}
use Rattle.aadl_grammar.proofs.DerivationTrees.DerivationsAndMachineSteps.{Member}
use Rattle.aadl_grammar.proofs.StackAdjacency.{pairs_hold, on_top, last_of, seam, Guard}

abbrev pub is_only : ℕ → Symbol → Bool
is_only t (s.only m) = mark_number m == t
is_only t _ = false

abbrev all_rows : (Row → Bool) → List Row → Bool
all_rows q [] = true
all_rows q (r ∷ rs) = q r && all_rows q rs

row_checked : (q : Row → Bool) (r : Row) (rs : List Row) → Member r rs → all_rows q rs ≡ true → q r ≡ true
row_checked q r [] m e = absurd m
row_checked q r (x ∷ rs) (inl m) e = ap q m ∙ first_so _ _ e
row_checked q r (x ∷ rs) (inr m) e = row_checked q r rs m (second_so (q x) _ e)

implied : (a b k : Bool) → (not a || b) ≡ true → (not b || k) ≡ true → (not a || k) ≡ true
implied false b k e h = refl
implied true true k e h = h
implied true false k e h = absurd cc

carried : (a b k : Bool) → (not a || b) ≡ true → (a || k) ≡ true → (b || k) ≡ true
carried a true k e h = refl
carried true false k e h = absurd cc
carried false false k e h = h

-- After a terminal of the number t, only some symbols can be topmost, so only some terminals can follow.

abbrev pub after_top : ℕ → (Symbol → Bool) → ℕ → Symbol → Bool
after_top t ok p y = not (p == t) || ok y

abbrev pub after_pair : ℕ → (Symbol → Bool) → (Symbol → Bool) → Symbol → Symbol → Bool
after_pair t ok chain x y = not (chain x || is_only t x) || ok y

abbrev pub after_beside : ℕ → (ℕ → Bool) → ℕ → ℕ → Bool
after_beside t come p n = not (p == t) || come n

-- the check of the last symbol that a row pushes, which is above the symbol below
abbrev after_seam : ℕ → (Symbol → Bool) → Symbol → ℕ → List Symbol → Bool
after_seam t chain x n [] = not (n == t) || (chain x || is_only t x)
after_seam t chain x n (z ∷ f) = not (chain (last_of z f) || is_only t (last_of z f))

abbrev after_row : ℕ → (Symbol → Bool) → (Symbol → Bool) → (ℕ → Bool) → Symbol → Row → Bool
after_row t ok chain come x r =
    (on_top (after_top t ok) (class_number r.first) r.wanted && pairs_hold (after_pair t ok chain) r.wanted)
    && (after_seam t chain x (class_number r.first) r.wanted && (not (ok x) || come (class_number r.first)))

abbrev pub after_check : ℕ → (Symbol → Bool) → (Symbol → Bool) → (ℕ → Bool) → Symbol → Bool
after_check t ok chain come x = (not (can_omit x && ok x) || chain x) && all_rows (after_row t ok chain come x) (rows x)

omit_after : (w e o c a k : Bool) → w ≡ true → (not (w && o) || c) ≡ true → (not e || o) ≡ true
    → (not (c || a) || k) ≡ true → (not e || k) ≡ true
omit_after w false o c a k i f g h = refl
omit_after true true true true a k i f g h = h
omit_after true true true false a k i f g h = absurd cc
omit_after true true false c a k i f g h = absurd cc
omit_after false true o c a k i f g h = absurd cc

seam_after : (t : ℕ) (ok chain : Symbol → Bool) (x y : Symbol) (n : ℕ) (f : List Symbol)
    → after_seam t chain x n f ≡ true → after_pair t ok chain x y ≡ true
    → seam (after_top t ok) (after_pair t ok chain) n f y ≡ true
seam_after t ok chain x y n [] e h = implied (n == t) (chain x || is_only t x) (ok y) e h
seam_after t ok chain x y n (z ∷ f) e h = or_left _ _ e

pub after_guard : (t : ℕ) (ok chain : Symbol → Bool) (come : ℕ → Bool)
    → ((x : Symbol) → after_check t ok chain come x ≡ true)
    → Guard (after_top t ok) (after_pair t ok chain) (after_beside t come)
after_guard t ok chain come checked =
    let row =
    λ (x : Symbol) (r : Row) (m : Member r (rows x)).
    row_checked (after_row t ok chain come x) r (rows x) m
    (second_so (not (can_omit x && ok x) || chain x) _ (checked x)) in
    record {
      omits =
          λ p x y o h g. omit_after (can_omit x) (p == t) (ok x) (chain x) (is_only t x) (ok y) o
          (first_so _ _ (checked x)) h g;
      wants = λ x r m. first_so _ _ (row x r m);
      seams =
          λ x y r m h. seam_after t ok chain x y (class_number r.first) r.wanted
          (first_so _ _ (second_so
          (on_top (after_top t ok) (class_number r.first) r.wanted && pairs_hold (after_pair t ok chain) r.wanted) _
          (row x r m))) h;
      takes = λ p x r m h. implied (p == t) (ok x) (come (class_number r.first)) h
          (second_so (after_seam t chain x (class_number r.first) r.wanted) _
          (second_so (on_top (after_top t ok) (class_number r.first) r.wanted
          && pairs_hold (after_pair t ok chain) r.wanted) _ (row x r m)));
    }

-- Some symbols are topmost only after a word, so their first terminals occur only after a word.

abbrev pub before_top : ℕ → (Symbol → Bool) → ℕ → Symbol → Bool
before_top t held p y = (p == t) || not (held y)

abbrev pub before_pair : (Symbol → Bool) → (Symbol → Bool) → Symbol → Symbol → Bool
before_pair held keeps x y = keeps x || not (held y)

abbrev pub before_beside : ℕ → (ℕ → Bool) → ℕ → ℕ → Bool
before_beside t comes p n = (p == t) || not (comes n)

abbrev before_seam : ℕ → (Symbol → Bool) → Symbol → ℕ → List Symbol → Bool
before_seam t keeps x n [] = not (keeps x) || (n == t)
before_seam t keeps x n (z ∷ f) = not (keeps x) || keeps (last_of z f)

abbrev before_row : ℕ → (Symbol → Bool) → (Symbol → Bool) → (ℕ → Bool) → Symbol → Row → Bool
before_row t held keeps comes x r =
    (on_top (before_top t held) (class_number r.first) r.wanted && pairs_hold (before_pair held keeps) r.wanted)
    && (before_seam t keeps x (class_number r.first) r.wanted && (not (comes (class_number r.first)) || held x))

abbrev pub before_check : ℕ → (Symbol → Bool) → (Symbol → Bool) → (ℕ → Bool) → Symbol → Bool
before_check t held keeps comes x =
    (not (can_omit x && keeps x) || held x) && all_rows (before_row t held keeps comes x) (rows x)

omit_before : (w e o c k : Bool) → w ≡ true → (not (w && o) || c) ≡ true → (e || not c) ≡ true → (o || k) ≡ true
    → (e || k) ≡ true
omit_before w true o c k i f g h = refl
omit_before true false false c k i f g h = h
omit_before true false true true k i f g h = absurd cc
omit_before true false true false k i f g h = absurd cc
omit_before false false o c k i f g h = absurd cc

held_before : (e c h : Bool) → (not c || h) ≡ true → (e || not h) ≡ true → (e || not c) ≡ true
held_before true c h i g = refl
held_before false false h i g = refl
held_before false true true i g = absurd cc
held_before false true false i g = absurd cc

seam_before : (t : ℕ) (held keeps : Symbol → Bool) (x y : Symbol) (n : ℕ) (f : List Symbol)
    → before_seam t keeps x n f ≡ true → before_pair held keeps x y ≡ true
    → seam (before_top t held) (before_pair held keeps) n f y ≡ true
seam_before t held keeps x y n [] e h = carried (keeps x) (n == t) (not (held y)) e h
seam_before t held keeps x y n (z ∷ f) e h = carried (keeps x) (keeps (last_of z f)) (not (held y)) e h

pub before_guard : (t : ℕ) (held keeps : Symbol → Bool) (comes : ℕ → Bool)
    → ((x : Symbol) → before_check t held keeps comes x ≡ true)
    → Guard (before_top t held) (before_pair held keeps) (before_beside t comes)
before_guard t held keeps comes checked =
    let row =
    λ (x : Symbol) (r : Row) (m : Member r (rows x)).
    row_checked (before_row t held keeps comes x) r (rows x) m
    (second_so (not (can_omit x && keeps x) || held x) _ (checked x)) in
    record {
      omits =
          λ p x y o h g. omit_before (can_omit x) (p == t) (keeps x) (held x) (not (held y)) o
          (first_so _ _ (checked x)) h g;
      wants = λ x r m. first_so _ _ (row x r m);
      seams =
          λ x y r m h. seam_before t held keeps x y (class_number r.first) r.wanted
          (first_so _ _ (second_so
          (on_top (before_top t held) (class_number r.first) r.wanted && pairs_hold (before_pair held keeps) r.wanted) _
          (row x r m))) h;
      takes = λ p x r m h. held_before (p == t) (comes (class_number r.first)) (held x)
          (second_so (before_seam t keeps x (class_number r.first) r.wanted) _
          (second_so (on_top (before_top t held) (class_number r.first) r.wanted
          && pairs_hold (before_pair held keeps) r.wanted) _ (row x r m))) h;
    }
