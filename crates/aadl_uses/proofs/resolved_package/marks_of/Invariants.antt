use Rattle.std.proofs.Common.{◌≡◌, map, take}
use Rattle.aadl_tree.specs.proof.PlaceMaps.{kept_place}
use Rattle.aadl_tree.specs.proof.DeclarationViews.{declaration_view}
use Rattle.aadl_uses.specs.proof.ThreadCounts.{is_thread_declaration}
use Rattle.aadl_uses.proofs.resolved_package.marks_of.Given as goal

abbrev pub invariant-loop-declaration : goal.invariant-loop-declaration
invariant-loop-declaration l =
    l.marks.items ≡ map is_thread_declaration
    (map (declaration_view kept_place) (take l.declaration-index l.declarations))
