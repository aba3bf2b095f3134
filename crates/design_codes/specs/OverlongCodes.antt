-- Why a design has no codes.
use Rattle.std.specs.Prelude.{◌≡◌, ℕ, ◌<◌, ◌≤◌, length}
use Rattle.pals_base.specs.declared.limits.TheConstants.{INSTRUCTIONS}
use Rattle.pals_model.specs.declared.design.DesignParts.{DesignParts}
use Rattle.step_code.specs.CodeLengths.{code_length}
use Rattle.step_code.specs.CappedWeights.{capped}
use Rattle.bus_machine.specs.Plans.{component_at}
use Rattle.design_codes.specs.declared.CodesError.{CodesError}
use Rattle.design_codes.specs.declared.CodesError.TheVariants as end

-- how many instructions the code of a component has
abbrev pub length_of : DesignParts → ℕ → ℕ
length_of design node = code_length (component_at design node).behaviour

-- no component's code is too long
abbrev pub AreShort : DesignParts → Type 0
AreShort design = (node : ℕ) → node < length design.components → length_of design node ≤ INSTRUCTIONS

-- the code of this component is too long, and the code of no earlier component is
pub record IsFirstTooLong (design : DesignParts) (node size : ℕ) : Type 0 where
  pub within : node < length design.components
  pub size_is : size ≡ capped (length_of design node)
  pub over : INSTRUCTIONS < length_of design node
  pub before : (k : ℕ) → k < node → length_of design k ≤ INSTRUCTIONS

abbrev pub IsCause : DesignParts → CodesError → Type 0
IsCause design (end.TooLong node size) = IsFirstTooLong design node.0 size
IsCause design end.Memory = Unit {0}
