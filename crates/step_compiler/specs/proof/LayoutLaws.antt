-- Laws of layout: each behaviour has laid-out code, with one order of blocks, and no other code.
use Rattle.std.specs.Prelude.{◌≡◌, ℕ, List}
use Rattle.pals_base.specs.declared.behaviour.BehaviourParts.{BehaviourParts}
use Rattle.pals_base.specs.BehaviourRules.{IsBehaviour}
use Rattle.step_code.specs.declared.instr.CodeParts.{CodeParts}
use Rattle.step_compiler.specs.LaidOutCode.{IsBlockOrder, IsLaidOut, AreLaidOut}

-- each behaviour has a code that is laid out for it
abbrev pub HasLayout : Type 0
HasLayout = (b : BehaviourParts) → IsBehaviour b → (code : CodeParts) × IsLaidOut b code

-- its blocks have one order
abbrev pub OrderIsOne : Type 0
OrderIsOne = (b : BehaviourParts) (order other : List ℕ) →
    IsBlockOrder b order → IsBlockOrder b other → order ≡ other

-- and it is one code
abbrev pub LaidOutCodeIsOne : Type 0
LaidOutCodeIsOne = (b : BehaviourParts) (code other : CodeParts) →
    IsLaidOut b code → IsLaidOut b other → code ≡ other

-- so behaviours have one list of codes
abbrev pub LaidOutCodesAreOne : Type 0
LaidOutCodesAreOne = (behaviours : List BehaviourParts) (codes other : List CodeParts) →
    AreLaidOut behaviours codes → AreLaidOut behaviours other → codes ≡ other
