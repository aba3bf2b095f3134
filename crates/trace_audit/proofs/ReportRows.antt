-- The report's rows are computed one round after the other: for the rows that an audit compares lines with.
use Rattle.std.proofs.Common.{◌≡◌, ℕ, suc, List, length, sym, ap, ap₂, ◌∙◌, subst}
use Rattle.std.specs.Prelude.{slice_get}
use Rattle.pals_base.specs.declared.basic_types.PortValue.{PortValue}
use Rattle.pals_base.proofs.UpwardNumbers.{slice_get-map_upwards}
use Rattle.pals_model.specs.declared.design.DesignParts.{DesignParts}
use Rattle.pals_model.specs.declared.environment.Env.{Env}
use Rattle.pals_model.specs.declared.part.Part.{Part}
use Rattle.pals_model.specs.Composition.{part}
use Rattle.pals_model.specs.ComponentInputs.{values_at}
use Rattle.pals_report.specs.proof.RowLines.{ArePartsOf}
use Rattle.sync_product.specs.proof.ProductStates.{ProductState, advanced, state_after}
use Rattle.sync_product.proofs.CompositionAgreement.{design_stays, has_parts_of_round}
use Rattle.trace_audit.specs.declared.audited_rows.AuditedRows.{AuditedRows}
use Rattle.trace_audit.specs.proof.ReportRows.{AreRows}

-- a product that goes one round further has the round's parts
pub parts_made : (design shown : DesignParts) (env : Env) (round : ℕ) (old new : ProductState) (values : List PortValue)
    (parts : List Part) → old ≡ state_after design env round → values ≡ values_at env round → new ≡ advanced old values
    → parts ≡ new.parts → shown ≡ design
    → ArePartsOf shown env round (λ node. slice_get parts node)
parts_made design shown env round old new values parts before here is parts_are same =
    let after' : new ≡ state_after design env (suc round) = is ∙ ap₂ advanced before here in
    subst (λ d. ArePartsOf d env round (λ node. slice_get parts node)) (sym same)
    (λ node below.
    ap (λ ps. slice_get ps node)
    (parts_are ∙ ap (λ (s : ProductState). s.parts) after' ∙ has_parts_of_round design env round)
    ∙ slice_get-map_upwards (λ n. part design env n round) (length design.components) node below)

-- rows are of their product's design
pub own_design : (design : DesignParts) (env : Env) (r : AuditedRows) (rounds : ℕ) → AreRows design env r rounds
    → r.product.design ≡ design
own_design design env r rounds are = ap (λ (s : ProductState). s.design) are.product ∙ design_stays design env rounds
