use Rattle.std.proofs.Common.{sym, subst, ℕ, List}
use Rattle.std.proofs.Math.Logic.{∥∥₁_map}
use Rattle.aadl_tree.specs.CanonicalText.{canon}
use Rattle.aadl_tree.specs.Declarations.{PackageTree}
use Rattle.aadl_tree.specs.proof.PlaceMaps.{package_to, kept_place, no_place}
use Rattle.aadl_tree.specs.proof.PackageViews.{placed}
use Rattle.aadl_tree.proofs.PlaceMaps.Declarations.{package_tied}
use Rattle.aadl_grammar.specs.proof.CanonicalRoundTrip.{HasSameTree}
use Rattle.aadl_grammar.proofs.CanonicalRoundTrip.{canon_of, reads_back, only_so}
use Rattle.aadl_grammar.proofs.canonical_text_laws.canonical_text_is_read_back.Goals as goal

pub returns-clause-of_text : goal.returns-clause-of_text
returns-clause-of_text c text tree h = reads_back text tree h

pub returns-clause-only : goal.returns-clause-only
returns-clause-only c text tree again h g = only_so text tree again h g

pub returns-clause-of_tree : goal.returns-clause-of_tree
returns-clause-of_tree c tree =
    ∥∥₁_map tree.given (λ g.
    subst (λ (m : PackageTree (Unit {0})). HasSameTree (canon m) m) (package_tied no_place kept_place tree)
    (subst (λ (text : List ℕ). HasSameTree text (package_to no_place (placed tree))) (sym (canon_of (placed tree)))
    (reads_back g.0 (placed tree) g.1)))

pub returns-clause-places : goal.returns-clause-places
returns-clause-places c tree = canon_of tree
