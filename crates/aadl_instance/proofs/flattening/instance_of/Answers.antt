use Rattle.std.proofs.Common.{◌∙◌, subst, sym}
use Rattle.aadl_tree.specs.proof.PackageViews.{placed}
use Rattle.aadl_uses.specs.declared.package_connections.PackageConnections.{PackageConnections}
use Rattle.aadl_instance.specs.InstancesByNumbers.{IsInstance}
use Rattle.aadl_instance.specs.proof.ChainsSoFar.{paths_of}
use Rattle.aadl_instance.proofs.InstanceThreadsAndChains.{all_listed, all_stand, settled, instance_is, threads_same}
use Rattle.aadl_instance.proofs.flattening.instance_of.Goals as goal

pub threads_at-requires : goal.threads_at-requires
threads_at-requires c =
    let checked = c.args.checked in
    let tree = placed checked.wires.uses.names.tree.now in
    all_stand tree checked.root c.from.result.now
    (all_listed tree checked.root c.from.result.now _ c.from.ensures c.in_ok-paths.ensures)

pub incoming_of-requires : goal.incoming_of-requires
incoming_of-requires c =
    let checked = c.args.checked in
    let tree = placed checked.wires.uses.names.tree.now in
    record {
      settled = settled tree checked c.requires.checked (paths_of c.from.result.now)
          (all_listed tree checked.root c.from.result.now _ c.from.ensures c.in_ok-paths.ensures);
      numbers = c.in_ok-numbers.ensures;
    }

pub taps_of-requires : goal.taps_of-requires
taps_of-requires c =
    let checked = c.args.checked in
    let tree = placed checked.wires.uses.names.tree.now in
    record {
      settled = settled tree checked c.requires.checked (paths_of c.from.result.now)
          (all_listed tree checked.root c.from.result.now _ c.from.ensures c.in_ok-paths.ensures);
      numbers = c.in_ok-numbers.ensures;
    }

pub returns-clause-instance : goal.returns-clause-instance
returns-clause-instance c = λ name root.
    let checked = c.args.checked in
    let tree = placed checked.wires.uses.names.tree.now in
    instance_is tree checked c.requires.checked (paths_of c.from.result.now)
    (all_listed tree checked.root c.from.result.now _ c.from.ensures c.in_ok-paths.ensures) name c.in_ok-threads.threads
    c.in_ok-incoming.incoming.links
    c.in_ok-incoming.incoming.feeds c.in_ok-taps.taps root
    (c.in_ok-threads.ensures ∙ threads_same tree checked.root c.from.result.now)
    c.in_ok-incoming.ensures.links c.in_ok-incoming.ensures.feeds c.in_ok-taps.ensures

pub invariant_of-result : goal.invariant_of-result
invariant_of-result c =
    let checked = c.args.checked in
    let tree = placed checked.wires.uses.names.tree.now in
    let whole = instance_is tree checked c.requires.checked (paths_of c.from.result.now)
    (all_listed tree checked.root c.from.result.now _ c.from.ensures c.in_ok-paths.ensures) c.requires.name.0
    c.in_ok-threads.threads
    c.in_ok-incoming.incoming.links c.in_ok-incoming.incoming.feeds c.in_ok-taps.taps c.requires.name.1
    (c.in_ok-threads.ensures ∙ threads_same tree checked.root c.from.result.now) c.in_ok-incoming.ensures.links
    c.in_ok-incoming.ensures.feeds
    c.in_ok-taps.ensures in
    record {
      flat = subst
          (λ (w : PackageConnections). ∥ IsInstance (placed w.uses.names.tree.now) checked.root c.in_ok-threads.threads
          c.in_ok-incoming.incoming.links
          c.in_ok-incoming.incoming.feeds c.in_ok-taps.taps ∥₁)
          (sym c.into_wires.ensures) ∣ whole.0 ∣₁;
    }
