-- What contracts see of the monitors of several formulas.
use Rattle.std.specs.Prelude.{◌≡◌, ℕ, ◌+◌, ◌<◌, Bool, List, [], ◌∷◌, ◌++◌, length, map, All, Option, slice_index_or}
use Rattle.std.specs.Prelude.{refl}
use Rattle.std.specs.Coded.{Coded, code_by, coded×, coded_list, coded_option}
use Rattle.pals_base.specs.declared.frames.Frame.{Frame}
use Rattle.pals_model.specs.declared.design.DesignParts.{DesignParts}
use Rattle.pals_model.specs.declared.environment.Env.{Env}
use Rattle.pals_runs.specs.Formula.{Formula}
use Rattle.run_monitor.specs.declared.false_property.FalseProperty.{FalseProperty}
use Rattle.run_monitor.specs.contracts.false_property.FalseProperty.{the_row as violations}
use Rattle.run_monitor.specs.FalseProperties.{formula_values, first_false}
use Rattle.run_monitor.specs.FormulaSemantics.{frame_rows}
use Rattle.run_monitor.specs.proof.MonitorStates.{MonitorState, state_code, whole, said, StandsFor, GoesOn}

pub record MonitorsState : Type 0 where
  pub monitors : List MonitorState
  -- the first round at which a formula was false, and the first formula false there
  pub violation : Option FalseProperty

abbrev pub monitors_code : Coded MonitorsState
monitors_code =
    code_by (List MonitorState × Option FalseProperty) (coded× (coded_list state_code) (coded_option violations.coded))
    (λ m. (m.monitors, m.violation)) (λ p. record { monitors = p.0; violation = p.1 }) (λ _. refl)

-- the value of each formula at the last round
abbrev pub said_by : MonitorsState → List Bool
said_by m = map said m.monitors

-- they are monitors of these formulas, and stand for this history
pub record HasWatched (m : MonitorsState) (fs : List Formula) (h : List (List Frame)) : Type 0 where
  pub formulas : map whole m.monitors ≡ fs
  pub stand : All (λ n. StandsFor n h) m.monitors
  pub first : m.violation ≡ first_false fs h (length h)

-- ---- one round further
-- with these frames
pub record WatchesOn (m : MonitorsState) (fs : List Formula) (h : List (List Frame)) (row : List Frame) : Type 0 where
  pub watched : HasWatched m fs (h ++ row ∷ [])
  pub says : said_by m ≡ formula_values fs (h ++ row ∷ []) (length h)

-- with the frames of a round of a design
pub record WatchesRound (m : MonitorsState) (design : DesignParts) (env : Env) (fs : List Formula)
    (round : ℕ) : Type 0 where
  pub watched : HasWatched m fs (frame_rows design env (round + 1))
  pub says : said_by m ≡ formula_values fs (frame_rows design env (round + 1)) round

-- each monitor
pub record EachGoesOn (old new : List MonitorState) (row : List Frame) : Type 0 where
  pub size : length new ≡ length old
  pub each : (k : ℕ) (d : MonitorState) → k < length old → GoesOn (slice_index_or old k d) (slice_index_or new k d) row
