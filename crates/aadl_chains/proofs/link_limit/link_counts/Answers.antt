use Rattle.std.proofs.Common.{ℕ, ◌+◌, ◌∙◌, arith, get_or, subst, sym, List}
use Rattle.aadl_tree.specs.proof.PackageViews.{placed}
use Rattle.aadl_uses.specs.proof.PackageContainment.{containment, targets_in}
use Rattle.aadl_uses.proofs.PackageContainment.{below-same}
use Rattle.aadl_uses.proofs.ContainmentOrderValues.{FrontOf, no_front, front_known, front_more, front_past, front_all}
use Rattle.std.proofs.lemmas.List.{length-map}
use Rattle.list_lemmas.proofs.ElementPositions.{Contains-from_slice_get}
use Rattle.aadl_chains.specs.proof.LimitedCounts.{IsNumber}
use Rattle.aadl_chains.specs.proof.EnteredThreadPorts.{EndsLink}
use Rattle.aadl_chains.proofs.EnteredPortCountTables.{known_below}
use Rattle.aadl_chains.proofs.link_limit.link_counts.Goals.{in-Some, in_default}
use Rattle.aadl_chains.proofs.link_limit.link_counts.Goals as goal

pub links_below-count-requires-clause-takes : goal.links_below-count-requires-clause-takes
links_below-count-requires-clause-takes c =
    let keys = c.args.order.now.keys in
    known_below (placed c.args.wires.now.uses.names.tree.now) c.args.limit keys c.requires.order.sequence c.loop-at.at
    c.in-Some.number.now _
    (sym c.in-Some.ensures.key) (λ k m lt e. c.in_ok-takes.ensures m (Contains-from_slice_get keys k m e))

pub links_below-count-requires-clause-counts : goal.links_below-count-requires-clause-counts
links_below-count-requires-clause-counts c = λ s m e.
    let tree = placed c.args.wires.now.uses.names.tree.now in
    subst (λ (xs : List ℕ). IsNumber c.args.limit (EndsLink tree m) (get_or xs m 0)) (sym c.as_slice.ensures.value)
    (front_known (λ n. IsNumber c.args.limit (EndsLink tree n)) 0 (containment tree) c.args.order.now.keys c.loop-at.at
    c.loop-at.counts.items
    c.loop-at.invariant c.in-Some.number.now c.requires.order.sequence (sym c.in-Some.ensures.key) s m
    (below-same tree c.in-Some.number.now s ∙ e))

pub loop-at-init : goal.loop-at-init
loop-at-init c =
    let tree = placed c.args.wires.now.uses.names.tree.now in
    no_front (λ n. IsNumber c.args.limit (EndsLink tree n)) 0 (containment tree) c.args.order.now.keys
    c.in_ok-counts.counts.items
    (c.in_ok-counts.ensures ∙ (c.len.ensures ∙ sym (length-map tree.declarations (targets_in tree))))

pub put-requires : goal.put-requires
put-requires c =
    let least = c.requires.order.sequence.declared c.in-Some.number.now
    (Contains-from_slice_get c.args.order.now.keys c.loop-at.at c.in-Some.number.now (sym c.in-Some.ensures.key)) in
    omega (arith, least, c.loop-at.invariant.size)

pub loop-at-preserved : goal.loop-at-preserved
loop-at-preserved c =
    let tree = placed c.args.wires.now.uses.names.tree.now in
    let g = containment tree in
    let right : ℕ → ℕ → Type 0 = λ n. IsNumber c.args.limit (EndsLink tree n) in
    let keys = c.args.order.now.keys in
    let at = c.loop-at.at in
    let counts = c.loop-at.counts.items in
    elim c.match-get_index.branch [
      | in-Some w ↦
          subst (λ v. FrontOf right 0 g keys (at + 1) v.items) (sym w.counts-is)
          (subst (FrontOf right 0 g keys (at + 1)) (sym w.put.ensures)
          (front_more right 0 g keys at counts c.loop-at.invariant w.in-Some.number.now w.links_below-count.result
          c.requires.order.sequence
          (sym w.in-Some.ensures.key) w.links_below-count.ensures))
      | in_default w ↦
          subst (λ v. FrontOf right 0 g keys (at + 1) v.items) (sym w.counts-is)
          (front_past right 0 g keys at counts c.loop-at.invariant (sym w.in_default.ensures.key))
    ]

pub returns : goal.returns
returns c =
    let tree = placed c.args.wires.now.uses.names.tree.now in
    front_all (λ n. IsNumber c.args.limit (EndsLink tree n)) 0 (containment tree) c.args.order.now.keys c.loop-at.at
    c.loop-at.counts.items c.loop-at.invariant
    c.requires.order (omega arith)
