use Rattle.std.proofs.Common.{◌≡◌, drop}
use Rattle.pals_base.specs.proof.TreeViews.{actions_along, branches_along}
use Rattle.pals_base.specs.TypingRules.{are_sound, branches_are_sound}
use Rattle.pals_base.proofs.behaviour_rules.actions.+sound_act.Given as goal

-- all are well formed if and only if the remaining ones are
abbrev pub invariant-are_sound-loop-act : goal.invariant-are_sound-loop-act
invariant-are_sound-loop-act l =
    are_sound (actions_along (drop l.act-index l.acts)) l.parts l.loops l.around
    ≡ are_sound (actions_along l.acts) l.parts l.loops l.around

abbrev pub invariant-branches_are_sound-loop-branch : goal.invariant-branches_are_sound-loop-branch
invariant-branches_are_sound-loop-branch l =
    branches_are_sound (branches_along (drop l.branch-index l.branches)) l.parts l.loops l.around
    ≡ branches_are_sound (branches_along l.branches) l.parts l.loops l.around
