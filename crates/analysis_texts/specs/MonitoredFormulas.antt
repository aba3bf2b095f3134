-- Properties of a scenario, as monitors see them.
use Rattle.std.specs.Prelude.{ℕ, List, map}
use Rattle.pals_runs.specs.Formula.{Formula}
use Rattle.analysis_fields.specs.NamedFormulas.{PropertyValue}

-- their names with their formulas, in order
abbrev pub named : List PropertyValue → List (List ℕ × Formula)
named properties = map (λ (p : PropertyValue). (p.name, p.form)) properties

abbrev pub formulas : List PropertyValue → List Formula
formulas properties = map (λ (p : PropertyValue). p.form) properties
