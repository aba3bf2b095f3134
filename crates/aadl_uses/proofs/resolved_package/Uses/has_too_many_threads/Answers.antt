use Rattle.std.proofs.Common.{◌+◌, ◌∙◌, ap, subst, sym, get_or}
use Rattle.aadl_tree.specs.proof.PackageViews.{placed}
use Rattle.pals_base.specs.declared.limits.TheConstants.{COMPONENTS}
use Rattle.aadl_uses.specs.proof.ThreadCounts.{AreCounted}
use Rattle.aadl_uses.proofs.ThreadCounts.{more_threads, tells}
use Rattle.aadl_uses.proofs.resolved_package.Uses.has_too_many_threads.Goals as goal

pub returns : goal.returns
returns c =
    let tree = placed c.args.self.now.names.tree.now in
    let root = c.args.root in
    tells COMPONENTS c.count_at-count.result
    (more_threads tree root COMPONENTS c.count_at-count.result
    (subst (AreCounted tree (COMPONENTS + 1) root)
    (sym (c.count_at-count.ensures ∙ ap (λ l. get_or l root 0) c.as_slice.ensures.value))
    (c.in_ok-counts.ensures root c.requires.root)))
