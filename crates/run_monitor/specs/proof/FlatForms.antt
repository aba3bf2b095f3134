-- Lists of subformulas in which parts precede wholes.
use Rattle.std.specs.Prelude.{◌≡◌, ℕ, ◌+◌, ◌<◌, ◌≤◌, true, List, [], ◌∷◌, ◌++◌, length, Some, slice_get, slice_index_or}
use Rattle.pals_runs.specs.Formula.{Formula, Var, Halted, Not, And, Or, Previous, Once, Historically, Since}
use Rattle.pals_runs.specs.proof.ComponentsInFormulas.{reads, names}
use Rattle.run_monitor.specs.declared.flat_form.FlatForm.{FlatForm}
use Rattle.run_monitor.specs.declared.flat_form.FlatForm.TheVariants as flat

-- the formula at a place
abbrev pub formula_at : List Formula → ℕ → Formula
formula_at fs k = slice_index_or fs k (Halted 0)

-- the formula that a form is, where these are the formulas of those before it
abbrev pub built : List Formula → FlatForm → Formula
built fs (flat.Var node variable op number) = Var node.0 variable op number
built fs (flat.Halted node) = Halted node.0
built fs (flat.Not f) = Not (formula_at fs f)
built fs (flat.And f g) = And (formula_at fs f) (formula_at fs g)
built fs (flat.Or f g) = Or (formula_at fs f) (formula_at fs g)
built fs (flat.Previous f) = Previous (formula_at fs f)
built fs (flat.Once f) = Once (formula_at fs f)
built fs (flat.Historically f) = Historically (formula_at fs f)
built fs (flat.Since f g) = Since (formula_at fs f) (formula_at fs g)

abbrev pub formulas_behind : List Formula → List FlatForm → List Formula
formulas_behind fs [] = fs
formulas_behind fs (e ∷ es) = formulas_behind (fs ++ built fs e ∷ []) es

-- the formulas of forms, each over those before it
unfoldable pub forms_of : List FlatForm → List Formula
forms_of es = formulas_behind [] es

-- the parts of a subformula are before the index n
abbrev pub HasParts : ℕ → FlatForm → Type 0
HasParts n (flat.Var node variable op number) = Unit {0}
HasParts n (flat.Halted node) = Unit {0}
HasParts n (flat.Not f) = f < n
HasParts n (flat.And f g) = (f < n) × (g < n)
HasParts n (flat.Or f g) = (f < n) × (g < n)
HasParts n (flat.Previous f) = f < n
HasParts n (flat.Once f) = f < n
HasParts n (flat.Historically f) = f < n
HasParts n (flat.Since f g) = (f < n) × (g < n)

-- each subformula follows its parts
pub record IsFlat (es : List FlatForm) : Type 0 where
  pub parts : (k : ℕ) (e : FlatForm) → slice_get es k ≡ Some e → HasParts k e

-- the subformulas of a formula are appended to the existing ones, and the formula is the last of them
pub record Adds (old new : List FlatForm) (at : ℕ) (f : Formula) : Type 0 where
  pub added : (more : List FlatForm) × (new ≡ old ++ more)
  pub order : IsFlat new
  pub last : length new ≡ at + 1
  pub is : formula_at (forms_of new) at ≡ f
  -- and what the added forms read it names
  pub named : (k node : ℕ) → length old ≤ k → k < length new → reads (formula_at (forms_of new) k) node ≡ true
      → names f node ≡ true
