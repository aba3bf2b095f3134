use Rattle.std.proofs.Common.{◌≡◌, ◌<◌, ◌≤◌, ◌∙◌, ℕ, ◌+◌, ap, arith, get_or, length, map, subst, sym}
use Rattle.std.proofs.lemmas.List.{length_push}
use Rattle.aadl_tree.specs.declared.declarations.Direction.TheVariants as directions
use Rattle.aadl_tree.specs.proof.PlaceMaps.{kept_place}
use Rattle.aadl_tree.specs.proof.DeclarationViews.{feature_view}
use Rattle.aadl_instance.specs.InstancesByNumbers.{number_among}
use Rattle.aadl_instance.proofs.PortNumberTables.{more_at, few_seen, seen_more, number_seen, row_whole}
use Rattle.aadl_instance.proofs.port_numbers.row_of.Goals as goal

pub next-requires-clause-inward : goal.next-requires-clause-inward
next-requires-clause-inward c =
    let lt = c.loop-port-test.true in
    let few =
    few_seen c.args.ports.now c.loop-port.port-index c.loop-port.seen directions.In (omega (arith, lt))
    c.loop-port.invariant.2 in
    omega arith

pub next-requires-clause-outward : goal.next-requires-clause-outward
next-requires-clause-outward c =
    let lt = c.loop-port-test.true in
    let few =
    few_seen c.args.ports.now c.loop-port.port-index c.loop-port.seen directions.Out (omega (arith, lt))
    c.loop-port.invariant.2 in
    omega arith

pub loop-port-preserved : goal.loop-port-preserved
loop-port-preserved c =
    let ports = c.args.ports.now in
    let i = c.loop-port.port-index in
    let x = c.port-item.result in
    let size = c.loop-port.invariant.0 in
    let number =
    c.next.ensures.number ∙ number_seen ports i x c.loop-port.seen c.loop-port-test.true c.port-item.is
    c.loop-port.invariant.2 in
    let pushed = c.in_ok-push.ensures.items in (
      ap length pushed ∙ (length_push c.loop-port.row.items c.next.result ∙ ap (λ n. n + 1) size),
      subst (λ l. (k : ℕ) → k < i + 1 → get_or l k 0 ≡ number_among (map (feature_view kept_place) ports) k)
          (sym pushed)
          (more_at (λ k n. n ≡ number_among (map (feature_view kept_place) ports) k) c.loop-port.row.items c.next.result
          0 i size c.loop-port.invariant.1 number),
      seen_more ports i x c.loop-port.seen c.next.new.self c.loop-port-test.true c.port-item.is c.next.ensures.one
          c.loop-port.invariant.2,
    )

pub returns : goal.returns
returns c =
    let past = c.loop-port-test.false in
    let all : length c.args.ports.now ≤ c.loop-port.port-index = omega arith in
    row_whole c.args.ports.now c.loop-port.port-index c.loop-port.row.items all c.loop-port.invariant.1
