use Rattle.std.proofs.Common.{◌∙◌, sym}
use Rattle.aadl_instance.proofs.RootSearch.{system_spelled, no_system}
use Rattle.aadl_instance.proofs.root.is_root_implementation.Goals as goal

pub returns : goal.returns
returns c =
    system_spelled _ _ c.in_ok-spelled.spelled (sym c.is_system.ensures ∙ c.if-not-is_system.false)
    c.in_ok-spelled.ensures

pub returns-then-not-is_system : goal.returns-then-not-is_system
returns-then-not-is_system c = no_system _ _ (sym c.is_system.ensures ∙ c.if-not-is_system.true)
