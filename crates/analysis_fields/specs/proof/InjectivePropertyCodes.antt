-- An encoding of properties as pairs of a name's bytes and a formula.
use Rattle.std.specs.Prelude.{ℕ, List, refl}
use Rattle.std.specs.Coded.{Coded, code_by, coded×, coded_ℕ, coded_list}
use Rattle.pals_runs.specs.Formula.{Formula}
use Rattle.pals_runs.specs.proof.FormulaEncoding.{coded_formula}
use Rattle.analysis_fields.specs.NamedFormulas.{PropertyValue}

abbrev pub property_code : Coded PropertyValue
property_code =
    code_by (List ℕ × Formula) (coded× (coded_list coded_ℕ) coded_formula) (λ p. (p.name, p.form))
    (λ p. record { name = p.0; form = p.1 }) (λ _. refl)
