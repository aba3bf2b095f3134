-- Invariants of the machine's stack: the symbols that may be topmost after a terminal, and the symbols that may be
-- directly below another. They determine which terminals may be neighbours.
use Rattle.std.proofs.Common.{◌≡◌, ℕ, Bool, true, ◌&&◌, ◌∙◌, sym, ap, subst, refl, List, [], ◌∷◌, ◌++◌}
use Rattle.std.proofs.lemmas.List.{append-nil}
use Rattle.std.proofs.lemmas.Bool.{eqb-true, and_from}
use Rattle.std.specs.Cmp.{first_so, second_so}
use Rattle.aadl_tree.specs.Terminals.{PlainTerminal}
use Rattle.aadl_grammar.specs.proof.GrammarSymbols.{Symbol, Row}
use Rattle.aadl_grammar.specs.proof.ParseTable.{rows, can_omit}
use Rattle.aadl_grammar.specs.proof.StackMachine.{Stack, class_number, kind_number}
use Rattle.aadl_grammar.proofs.DerivationTrees.DerivationsAndMachineSteps.{Member, Derives, nothing, take, omit}

-- adjacent symbols of a stack
abbrev pub pairs_hold : (Symbol → Symbol → Bool) → Stack → Bool
pairs_hold pair [] = true
pairs_hold pair (x ∷ []) = true
pairs_hold pair (x ∷ (y ∷ s)) = pair x y && pairs_hold pair (y ∷ s)

-- the topmost symbol after a terminal of this number
abbrev pub on_top : (ℕ → Symbol → Bool) → ℕ → Stack → Bool
on_top top p [] = true
on_top top p (y ∷ s) = top p y

-- the last of one or more symbols; it is directly above the symbol below
abbrev pub last_of : Symbol → List Symbol → Symbol
last_of z [] = z
last_of z (y ∷ f) = last_of y f

abbrev pub seam : (ℕ → Symbol → Bool) → (Symbol → Symbol → Bool) → ℕ → List Symbol → Symbol → Bool
seam top pair n [] y = top n y
seam top pair n (z ∷ f) y = pair (last_of z f) y

pub record Guard (top : ℕ → Symbol → Bool) (pair : Symbol → Symbol → Bool) (beside : ℕ → ℕ → Bool) : Type 0 where
  pub omits : (p : ℕ) (x y : Symbol) → can_omit x ≡ true → top p x ≡ true → pair x y ≡ true → top p y ≡ true
  pub wants : (x : Symbol) (r : Row) → Member r (rows x)
      → (on_top top (class_number r.first) r.wanted && pairs_hold pair r.wanted) ≡ true
  pub seams : (x y : Symbol) (r : Row) → Member r (rows x) → pair x y ≡ true
      → seam top pair (class_number r.first) r.wanted y ≡ true
  pub takes : (p : ℕ) (x : Symbol) (r : Row) → Member r (rows x) → top p x ≡ true
      → beside p (class_number r.first) ≡ true

-- each terminal and its predecessor satisfy the relation
abbrev pub Beside : (ℕ → ℕ → Bool) → ℕ → List PlainTerminal → Type 0
Beside beside p [] = Unit {0}
Beside beside p (kind ∷ ks) = (beside p (kind_number kind) ≡ true) × Beside beside (kind_number kind) ks

neat_below : (pair : Symbol → Symbol → Bool) (x : Symbol) (below : Stack) → pairs_hold pair (x ∷ below) ≡ true
    → pairs_hold pair below ≡ true
neat_below pair x [] e = refl
neat_below pair x (y ∷ s) e = second_so (pair x y) _ e

neat_append : (pair : Symbol → Symbol → Bool) (z : Symbol) (f : List Symbol) (y : Symbol) (s : Stack)
    → pairs_hold pair (z ∷ f) ≡ true → pair (last_of z f) y ≡ true → pairs_hold pair (y ∷ s) ≡ true
    → pairs_hold pair (z ∷ f ++ y ∷ s) ≡ true
neat_append pair z [] y s e h n = and_from (pair z y) _ h n
neat_append pair z (x ∷ f) y s e h n =
    and_from (pair z x) _ (first_so _ _ e) (neat_append pair x f y s (second_so (pair z x) _ e) h n)

abbrev Fine : (ℕ → Symbol → Bool) → (Symbol → Symbol → Bool) → ℕ → Stack → Type 0
Fine top pair p wanted = (on_top top p wanted ≡ true) × (pairs_hold pair wanted ≡ true)

fine_below : (top : ℕ → Symbol → Bool) (pair : Symbol → Symbol → Bool) (beside : ℕ → ℕ → Bool) → Guard top pair beside
    → (p : ℕ) (x : Symbol) (below : Stack) → can_omit x ≡ true
    → Fine top pair p (x ∷ below) → Fine top pair p below
fine_below top pair beside g p x [] o h = (refl, refl)
fine_below top pair beside g p x (y ∷ s) o (h, n) = (g.omits p x y o h (first_so _ _ n), second_so (pair x y) _ n)

fine_row : (top : ℕ → Symbol → Bool) (pair : Symbol → Symbol → Bool) (n : ℕ) (f : List Symbol) (below : Stack)
    → (on_top top n f && pairs_hold pair f) ≡ true
    → ((y : Symbol) (s : Stack) → below ≡ y ∷ s → seam top pair n f y ≡ true)
    → pairs_hold pair below ≡ true → Fine top pair n (f ++ below)
fine_row top pair n [] [] w m h = (refl, refl)
fine_row top pair n [] (y ∷ s) w m h = (m y s refl, h)
fine_row top pair n (z ∷ f) [] w m h = (
  first_so _ _ w,
  subst (λ (l : Stack). pairs_hold pair l ≡ true) (sym (append-nil (z ∷ f)))
      (second_so (top n z) _ w),
)
fine_row top pair n (z ∷ f) (y ∷ s) w m h =
    (first_so _ _ w, neat_append pair z f y s (second_so (top n z) _ w) (m y s refl) h)

below_seam : (top : ℕ → Symbol → Bool) (pair : Symbol → Symbol → Bool) (beside : ℕ → ℕ → Bool) → Guard top pair beside
    → (x : Symbol) (below : Stack) (r : Row) → Member r (rows x)
    → pairs_hold pair (x ∷ below) ≡ true → (y : Symbol) (s : Stack) → below ≡ y ∷ s
    → seam top pair (class_number r.first) r.wanted y ≡ true
below_seam top pair beside g x below r m n y s e =
    g.seams x y r m (first_so _ _ (subst (λ (l : Stack). pairs_hold pair (x ∷ l) ≡ true) e n))

-- The terminals that a guarded stack derives satisfy the relation of neighbours.
pub guarded : (top : ℕ → Symbol → Bool) (pair : Symbol → Symbol → Bool) (beside : ℕ → ℕ → Bool) → Guard top pair beside
    → (p : ℕ) (wanted : Stack) (ks : List PlainTerminal)
    → on_top top p wanted ≡ true → pairs_hold pair wanted ≡ true → Derives wanted ks → Beside beside p ks
guarded top pair beside g p _ _ h n nothing = tt
guarded top pair beside g p _ _ h n (take x below r kind ks m e d) =
    let number = eqb-true (kind_number kind) (class_number r.first) e in
    let fine =
    fine_row top pair (class_number r.first) r.wanted below (g.wants x r m)
    (below_seam top pair beside g x below r m n) (neat_below pair x below n) in (
      ap (beside p) number ∙ g.takes p x r m h,
      subst (λ (q : ℕ). Beside beside q ks) (sym number)
          (guarded top pair beside g (class_number r.first) (r.wanted ++ below) ks fine.0 fine.1 d),
    )
guarded top pair beside g p _ _ h n (omit x below ks o d) =
    let fine = fine_below top pair beside g p x below o (h, n) in
    guarded top pair beside g p below ks fine.0 fine.1 d
