-- A product keeps its design, agrees with the composition after each round, and has the round's parts.
use Rattle.std.proofs.Common.{◌≡◌, ◌∙◌, ℕ, zero, suc, List, [], ◌∷◌, length, map, refl, ap, ap₂}
use Rattle.pals_base.specs.UpwardNumbers.{upwards}
use Rattle.pals_model.specs.declared.design.DesignParts.{DesignParts}
use Rattle.pals_model.specs.declared.environment.Env.{Env}
use Rattle.pals_model.specs.ComponentInputs.{values_at}
use Rattle.pals_model.specs.Composition.{Configuration, comp, next, part, part_of, all_steps}
use Rattle.sync_product.specs.proof.ProductStates.{parts_of}
use Rattle.sync_product.specs.proof.CompositionAgreement.{DesignStays, StandsAtComposition, HasPartsOfRound}

pub design_stays : DesignStays
design_stays design env zero = refl
design_stays design env (suc round) = design_stays design env round

pub stands_at_composition : StandsAtComposition
unfolding comp
stands_at_composition design env zero = refl
stands_at_composition design env (suc round) =
    ap₂ (λ (d : DesignParts) (k : Configuration). next d (values_at env round) k) (design_stays design env round)
    (stands_at_composition design env round)

parts_of_round : (design : DesignParts) (env : Env) (round : ℕ) (nodes : List ℕ)
    → map (part_of design (all_steps design (values_at env round) (comp design env round))) nodes
    ≡ map (λ node. part design env node round) nodes
unfolding part
parts_of_round design env round [] = refl
parts_of_round design env round (node ∷ nodes) =
    ap (λ ps. part design env node round ∷ ps) (parts_of_round design env round nodes)

pub has_parts_of_round : HasPartsOfRound
has_parts_of_round design env round =
    ap₂ (λ (d : DesignParts) (k : Configuration). parts_of d (all_steps d (values_at env round) k))
    (design_stays design env round) (stands_at_composition design env round)
    ∙ parts_of_round design env round (upwards 0 (length design.components))
