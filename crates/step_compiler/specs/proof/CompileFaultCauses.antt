-- Why a behaviour is not compiled.
use Rattle.std.specs.Prelude.{◌≡◌, ◌<◌, ◌≤◌}
use Rattle.pals_base.specs.declared.behaviour.BehaviourParts.{BehaviourParts}
use Rattle.pals_base.specs.declared.limits.TheConstants.{INSTRUCTIONS}
use Rattle.step_code.specs.CappedWeights.{capped}
use Rattle.step_code.specs.CodeLengths.{code_length}
use Rattle.step_compiler.specs.declared.compile_fault.CompileFault.{CompileFault}
use Rattle.step_compiler.specs.declared.compile_fault.CompileFault.TheVariants as fault

-- its code is too long, or there was not enough memory for one that is not
abbrev pub IsCauseFor : BehaviourParts → CompileFault → Type 0
IsCauseFor b (fault.CodeTooLong n) = (n ≡ capped (code_length b)) × (INSTRUCTIONS < code_length b)
IsCauseFor b fault.Memory = code_length b ≤ INSTRUCTIONS
