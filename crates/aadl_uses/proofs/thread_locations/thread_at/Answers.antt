use Rattle.std.proofs.Common.{◌++◌, ◌∙◌, ap, arith, get_or, refl, sym, reverse}
use Rattle.std.specs.String.{string_bytes}
use Rattle.aadl_tree.specs.proof.PackageViews.{placed}
use Rattle.aadl_tree.specs.proof.DeclarationViews.{subcomponent_view}
use Rattle.aadl_tree.specs.proof.PlaceMaps.{kept_place}
use Rattle.aadl_uses.specs.ContainmentAndUse.{number_at_path}
use Rattle.aadl_uses.proofs.SubcomponentsAlongPaths.{leads, next_none, none_below, along_more, first_name, later_name}
use Rattle.aadl_uses.proofs.thread_locations.thread_at.Goals.{then-at-gt0+in_ok-push_str, else-at-gt0}
use Rattle.aadl_uses.proofs.thread_locations.thread_at.Goals as goal

pub unreachable-requires : goal.unreachable-requires
unreachable-requires c =
    let tree = placed c.args.uses.now.names.tree.now in
    let s = get_or c.args.path.now c.loop-at.at 0 in
    leads (number_at_path tree c.args.root (reverse c.args.path.now)) c.requires
    (next_none tree c.args.root c.args.path.now c.loop-at.at s c.loop-at.here c.loop-at-test.true refl
    c.loop-at.invariant.stands (sym (none_below tree c.loop-at.here s (sym c.in_default.ensures))))

pub unreachable-requires-in_default-below : goal.unreachable-requires-in_default-below
unreachable-requires-in_default-below c =
    let tree = placed c.args.uses.now.names.tree.now in
    let s = get_or c.args.path.now c.loop-at.at 0 in
    leads (number_at_path tree c.args.root (reverse c.args.path.now)) c.requires
    (next_none tree c.args.root c.args.path.now c.loop-at.at s c.loop-at.here c.loop-at-test.true refl
    c.loop-at.invariant.stands c.in_default-below.ensures)

pub loop-at-preserved : goal.loop-at-preserved
loop-at-preserved c =
    let tree = placed c.args.uses.now.names.tree.now in
    let root = c.args.root in
    let path = c.args.path.now in
    let i = c.loop-at.at in
    let s = get_or path i 0 in
    let names = c.loop-at.names.bytes.items in
    let sub = subcomponent_view kept_place c.in-Some.declared.now in
    along_more tree root path i s c.loop-at.here names c.loop-at.subs c.loop-at-test.true refl c.loop-at.invariant sub
    (sym c.in-Some.ensures) c.in-Some-below.below c.push_str-in-loop-at.new.self.bytes.items
    c.push.new.self c.in-Some-below.ensures
    (c.in_ok-push_str-2.ensures.bytes
    ∙ (ap (λ b. string_bytes c.if-at-gt0.names ++ b) c.as_str.ensures.value ∙ elim c.if-at-gt0.branch [
      | then-at-gt0+in_ok-push_str w ↦
          ap (λ n. string_bytes n ++ sub.name.spelling) w.names-is
          ∙ (ap (λ b. b ++ sub.name.spelling) w.in_ok-push_str.ensures.bytes
          ∙ later_name tree root path i s c.loop-at.here names c.loop-at.subs c.loop-at-test.true refl
          c.loop-at.invariant sub (sym c.in-Some.ensures) (omega (arith, w.if-at-gt0.true)))
      | else-at-gt0 w ↦
          ap (λ n. string_bytes n ++ sub.name.spelling) w.names-is
          ∙ first_name tree root path i s c.loop-at.here names c.loop-at.subs c.loop-at-test.true refl
          c.loop-at.invariant sub (sym c.in-Some.ensures) (omega (arith, w.if-at-gt0.false))
    ]))
    c.in_ok-push.ensures.ok
