use Rattle.std.proofs.Common.{ℕ, ◌+◌, ◌∙◌, ap, arith, slice_index, subst, sym, List}
use Rattle.std.proofs.lemmas.List.{length-map}
use Rattle.pals_base.specs.declared.limits.TheConstants.{LINKS}
use Rattle.aadl_tree.specs.proof.PackageViews.{placed}
use Rattle.aadl_uses.specs.proof.PackageContainment.{targets_in}
use Rattle.aadl_uses.proofs.ThreadCounts.{tells}
use Rattle.aadl_chains.specs.proof.LimitedCounts.{IsNumber}
use Rattle.aadl_chains.specs.proof.EnteredThreadPorts.{EndsLink}
use Rattle.aadl_chains.proofs.LinkLimits.{more_links, one_each}
use Rattle.aadl_chains.proofs.link_limit.has_too_many_links.Goals as goal

pub returns : goal.returns
returns c =
    let tree = placed c.args.wires.now.uses.names.tree.now in
    let size = length-map tree.declarations (targets_in tree) in
    let least = c.requires.root in
    let counted = c.in_ok-counts.ensures c.args.root (omega (arith, size, least)) in
    tells LINKS c.count_at.result
    (more_links tree c.args.root c.requires.declared (one_each tree c.args.root c.requires.ends) c.requires.no_thread
    LINKS c.count_at.result
    (subst (IsNumber (LINKS + 1) (EndsLink tree c.args.root))
    (sym (c.count_at.ensures ∙ ap (λ (xs : List ℕ). slice_index xs c.args.root) c.as_slice.ensures.value)) counted))
