use Rattle.std.proofs.Common.{◌≡◌, ◌++◌, map, drop}
use Rattle.pals_base.specs.declared.behaviour.VarDecl.{VarDecl}
use Rattle.pals_base.proofs.frames.first_values.Given as goal

-- the values so far, and the values of the remaining variables
abbrev pub invariant-loop-var : goal.invariant-loop-var
invariant-loop-var l =
    l.values ++ map (λ (v : VarDecl). v.first) (drop l.var-index l.vars) ≡ map (λ (v : VarDecl). v.first) l.vars
