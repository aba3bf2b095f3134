use Rattle.std.proofs.Common.{◌∙◌, reverse, subst, sym, List, ℕ}
use Rattle.aadl_tree.specs.proof.PackageViews.{placed}
use Rattle.aadl_chains.specs.Chains.{Port}
use Rattle.aadl_chains.proofs.DeclarationRanks.{rank_falls}
use Rattle.aadl_chains.proofs.LinkLimits.{thread_at}
use Rattle.aadl_chains.proofs.TracedChains.{Descending, descend_first, descend_more, descend_thread, descend_none}
use Rattle.aadl_chains.proofs.chain_tracing.descend.Goals as goal

pub down-init : goal.down-init
down-init c = (
  c.requires.out,
  λ root one stands. descend_first (placed c.args.wires.now.uses.names.tree.now) root c.requires.declared one
      c.args.path.items c.args.number
      c.args.port stands c.requires.out,
)

pub down-smaller : goal.down-smaller
down-smaller c =
    rank_falls (placed c.args.wires.now.uses.names.tree.now) c.args.order.now.keys c.requires.order c.down.here
    c.in-Some.lower.sub c.in-Some.lower.number
    c.in-Some.ensures.2

pub down-preserved : goal.down-preserved
down-preserved c =
    let tree = placed c.args.wires.now.uses.names.tree.now in
    let end : Port = record { path = reverse c.args.path.items; port = c.args.port } in
    let lower = c.in-Some.lower in (
      c.in-Some.ensures.3,
      λ root one stands.
          subst (λ (way : List ℕ). Descending tree root end way lower.number lower.port)
          (sym c.in_ok-push-in-Some.ensures.items)
          (descend_more tree root c.requires.declared one end c.down.way.items c.down.here c.down.out
          c.in-Some.ensures.0 lower.sub lower.port lower.number
          c.in-Some.ensures.1 c.in-Some.ensures.2 (c.down.invariant.1 root one stands)),
    )

pub returns-in-None : goal.returns-in-None
returns-in-None c = λ root one stands.
    let end : Port = record { path = reverse c.args.path.items; port = c.args.port } in
    descend_none (placed c.args.wires.now.uses.names.tree.now) root c.requires.declared one end c.down.way.items
    c.down.here c.down.out
    (sym c.is_thread.ensures ∙ c.down-test.true) c.in-None.ensures (c.down.invariant.1 root one stands)

pub returns : goal.returns
returns c = λ root one stands.
    let tree = placed c.args.wires.now.uses.names.tree.now in
    let end : Port = record { path = reverse c.args.path.items; port = c.args.port } in
    let thread = sym c.is_thread.ensures ∙ c.down-test.false in
    let d = c.down.invariant.1 root one stands in
    descend_thread tree root c.requires.declared one end c.down.way.items c.down.here c.down.out thread
    (thread_at tree root (reverse c.down.way.items) c.down.here d.stands thread) d
