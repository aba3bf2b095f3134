use Rattle.std.proofs.Common.{◌++◌, ◌∙◌, map, ap}
use Rattle.pals_base.specs.declared.behaviour.PortDecl.{PortDecl}
use Rattle.pals_base.specs.declared.behaviour.VarDecl.{VarDecl}
use Rattle.pals_base.proofs.behaviour.BehaviourParts.value_names.Goals as goal

pub returns : goal.returns
returns c =
    c.in_ok-add_names-3.ensures
    ∙ ap (λ before. before ++ map (λ (v : VarDecl). v.name) c.as_slice-3.result.now)
    (c.in_ok-add_names-2.ensures
    ∙ ap (λ before. before ++ map (λ (port : PortDecl). port.name) c.as_slice-2.result.now)
    (c.in_ok-add_names.ensures
    ∙ ap (λ before. before ++ map (λ (port : PortDecl). port.name) c.as_slice.result.now) c.new-names.ensures))
    ∙ rw (c.as_slice.ensures.value, c.as_slice-2.ensures.value, c.as_slice-3.ensures.value)
