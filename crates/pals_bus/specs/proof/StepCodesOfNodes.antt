-- The step codes of the nodes of a bus.
use Rattle.std.specs.Prelude.{◌≡◌, ℕ, ◌<◌, List, [], length, map, slice_index_or}
use Rattle.step_code.specs.declared.instr.CodeParts.{CodeParts}
use Rattle.step_code.specs.proof.CodeMatchesBehaviour.{Means}
use Rattle.pals_model.specs.declared.design.DesignParts.{DesignParts}
use Rattle.bus_machine.specs.Plans.{component_at}
use Rattle.pals_node.specs.proof.NodeAndJobValues.{NodeValue}

abbrev pub no_code : CodeParts
no_code = record { instrs = []; entries = []; vars = 0; loops = 0; ins = 0; outs = 0 }

abbrev pub code_at : List CodeParts → ℕ → CodeParts
code_at codes node = slice_index_or codes node no_code

-- the codes of nodes
abbrev pub codes_in : List NodeValue → List CodeParts
codes_in nodes = map (λ n. n.program.code) nodes

-- the codes of a design: one for each component, which means what that does
pub record AreCodes (design : DesignParts) (codes : List CodeParts) : Type 0 where
  pub count : length codes ≡ length design.components
  pub mean : (node : ℕ) → node < length codes → Means (code_at codes node) (component_at design node).behaviour
