use Rattle.std.proofs.Common.{◌≡◌, length}
use Rattle.design_codes.proofs.Codes.{AreFirst}
use Rattle.design_codes.proofs.compile_all.Given as goal

-- the codes of the components so far are there
abbrev pub invariant-loop-component : goal.invariant-loop-component
invariant-loop-component l = AreFirst l.design l.codes × (length l.codes ≡ l.component-index)
