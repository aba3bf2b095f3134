use Rattle.aadl_tree.specs.proof.DeclarationViews.{declaration_view}
use Rattle.aadl_tree.specs.proof.PlaceMaps.{kept_place}
use Rattle.aadl_names.proofs.MemberNumbers.{pushed_count, next_members}
use Rattle.aadl_names.proofs.package_names.members_of.Goals as goal

pub loop-declaration-preserved : goal.loop-declaration-preserved
loop-declaration-preserved c =
    let so_far = c.loop-declaration.invariant in
    record {
      count =
          pushed_count c.loop-declaration.members _ c.push.new.self c.loop-declaration.declaration-index
          c.in_ok-push.ensures.ok so_far.count;
      values =
          next_members (declaration_view kept_place) c.args.declarations.now c.loop-declaration.declaration-index
          c.declaration-item.result
          c.loop-declaration.members c.push.new.self _ c.loop-declaration-test.true c.declaration-item.is so_far.count
          c.in_ok-push.ensures.ok so_far.values
          c.in_ok-member_numbers.ensures;
    }
