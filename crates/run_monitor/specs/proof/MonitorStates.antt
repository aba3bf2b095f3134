-- What contracts see of a monitor.
use Rattle.std.specs.Prelude.{◌≡◌, ◌≢◌, ℕ, ◌-◌, ◌<◌, Bool, true, false, List, [], ◌∷◌, ◌++◌, length, map, Some, None}
use Rattle.std.specs.Prelude.{slice_get, refl}
use Rattle.std.specs.Coded.{Coded, code_by, coded×, coded_bool, coded_list}
use Rattle.pals_base.specs.declared.frames.Frame.{Frame}
use Rattle.pals_runs.specs.Formula.{Formula}
use Rattle.pals_runs.specs.proof.FormulaEncoding.{coded_formula}
use Rattle.run_monitor.specs.FormulaSemantics.{frame_in, holds}
use Rattle.run_monitor.specs.proof.IncrementalSemantics.{next_value}
use Rattle.run_monitor.specs.declared.flat_form.FlatForm.{FlatForm}
use Rattle.pals_runs.specs.proof.ComponentsInFormulas.{reads, names}
use Rattle.run_monitor.specs.proof.FlatForms.{formula_at, forms_of, IsFlat}
use Rattle.run_monitor.specs.proof.FormBits.{bit_at}

pub record MonitorState : Type 0 where
  -- the subformulas of its formula, each after its parts, and the whole last
  pub forms : List Formula
  -- whether it has advanced
  pub begun : Bool
  -- the value of each subformula at the last round
  pub kept : List Bool
  -- the values of the subformulas without parts on the frames that it saw
  pub seen : List Bool

abbrev pub state_code : Coded MonitorState
state_code =
    code_by (List Formula × (Bool × (List Bool × List Bool)))
    (coded× (coded_list coded_formula) (coded× coded_bool (coded× (coded_list coded_bool) (coded_list coded_bool))))
    (λ m. (m.forms, (m.begun, (m.kept, m.seen))))
    (λ p. record { forms = p.0; begun = p.1.0; kept = p.1.1.0; seen = p.1.1.1 })
    (λ _. refl)

-- its formula
abbrev pub whole : MonitorState → Formula
whole m = formula_at m.forms (length m.forms - 1)

-- the value of its formula at the last round
abbrev pub said : MonitorState → Bool
said m = bit_at m.kept (length m.forms - 1)

-- ---- the history that it represents
abbrev pub HasKept : Bool → List Formula → List Bool → List (List Frame) → Type 0
HasKept false fs kept h = h ≡ []
HasKept true fs kept [] = ⊥
HasKept true fs kept (row ∷ h) = kept ≡ map (λ f. holds f (row ∷ h) (length h)) fs

-- after the first round, each bit is the subformula's value at the last round of the history; before it there is none
pub record StandsFor (m : MonitorState) (h : List (List Frame)) : Type 0 where
  pub kept : HasKept m.begun m.forms m.kept h

-- ---- the frames that it has seen
-- the last frame that it saw of a component is the frame in this row: each subformula that reads the component has its
-- value on that frame
pub record HasSeen (m : MonitorState) (row : List Frame) (node : ℕ) : Type 0 where
  pub each : (k : ℕ) (f : Formula) → slice_get m.forms k ≡ Some f → reads f node ≡ true
      → bit_at m.seen k ≡ next_value None row f

-- ---- the calls
pub record IsNew (f : Formula) (m : MonitorState) : Type 0 where
  pub formula : whole m ≡ f
  pub stands : StandsFor m []

pub record Sees (old new : MonitorState) (node : ℕ) (frame : Frame) : Type 0 where
  pub forms : new.forms ≡ old.forms
  pub stands : (h : List (List Frame)) → StandsFor old h → StandsFor new h
  -- it has seen this frame
  pub here : (row : List Frame) → frame_in row node ≡ frame → HasSeen new row node
  -- and the frames that it saw of the others
  pub others : (row : List Frame) (other : ℕ) → other ≢ node → HasSeen old row other → HasSeen new row other

-- it has seen the frames of all components
pub record SeesAll (old new : MonitorState) (row : List Frame) : Type 0 where
  pub forms : new.forms ≡ old.forms
  pub stands : (h : List (List Frame)) → StandsFor old h → StandsFor new h
  pub each : (node : ℕ) → HasSeen new row node

-- it represents the history with that row appended, and returns its formula's value there
pub record AdvancesBy (old new : MonitorState) (answer : Bool) (h : List (List Frame)) (row : List Frame) : Type 0 where
  pub stands : StandsFor new (h ++ row ∷ [])
  pub answer_is : answer ≡ holds (whole old) (h ++ row ∷ []) (length h)

-- for whatever history it stood for, and whatever row has the frames that it saw at the components that its formula
-- names
pub record Advances (old new : MonitorState) (answer : Bool) : Type 0 where
  pub forms : new.forms ≡ old.forms
  pub said_is : answer ≡ said new
  pub further_on : (h : List (List Frame)) (row : List Frame) → StandsFor old h
      → ((node : ℕ) → names (whole old) node ≡ true → HasSeen old row node) → AdvancesBy old new answer h row

-- one round further, with these frames
pub record GoesOn (old new : MonitorState) (row : List Frame) : Type 0 where
  pub formula : whole new ≡ whole old
  pub stands : (h : List (List Frame)) → StandsFor old h → StandsFor new (h ++ row ∷ [])
  pub says : (h : List (List Frame)) → StandsFor old h → said new ≡ holds (whole old) (h ++ row ∷ []) (length h)

-- ---- the invariant of each monitor
pub record IsReady (es : List FlatForm) (kept seen : List Bool) : Type 0 where
  pub some : 0 < length es
  pub order : IsFlat es
  pub kept_size : length kept ≡ length es
  pub seen_size : length seen ≡ length es
  -- each component that its subformulas read belongs to the formula
  pub named : (k node : ℕ) → k < length es → reads (formula_at (forms_of es) k) node ≡ true
      → names (formula_at (forms_of es) (length es - 1)) node ≡ true
