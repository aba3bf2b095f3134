-- The claims that a product keeps its design, agrees with the composition after each round, and has the round's parts.
use Rattle.std.specs.Prelude.{◌≡◌, ℕ, suc, map, length}
use Rattle.pals_base.specs.UpwardNumbers.{upwards}
use Rattle.pals_model.specs.declared.design.DesignParts.{DesignParts}
use Rattle.pals_model.specs.declared.environment.Env.{Env}
use Rattle.pals_model.specs.Composition.{comp, part}
use Rattle.sync_product.specs.proof.ProductStates.{state_after}

-- the design stays
abbrev pub DesignStays : Type 0
DesignStays = (design : DesignParts) (env : Env) (rounds : ℕ) → (state_after design env rounds).design ≡ design

-- after any number of rounds of an environment, its configuration is that of the composition
abbrev pub StandsAtComposition : Type 0
StandsAtComposition =
    (design : DesignParts) (env : Env) (rounds : ℕ)
    → (state_after design env rounds).configuration ≡ comp design env rounds

-- after a round its parts are the parts of that round
abbrev pub HasPartsOfRound : Type 0
HasPartsOfRound = (design : DesignParts) (env : Env) (round : ℕ) →
    (state_after design env (suc round)).parts
    ≡ map (λ node. part design env node round) (upwards 0 (length design.components))
