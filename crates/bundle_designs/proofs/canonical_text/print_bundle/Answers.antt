use Rattle.std.proofs.Common.{◌≡◌, sym, ap, ◌∙◌}
use Rattle.aadl_tree.specs.CanonicalText.{canon}
use Rattle.aadl_tree.specs.proof.PlaceMaps.{no_place, kept_place}
use Rattle.aadl_tree.specs.proof.PackageViews.{placed}
use Rattle.aadl_tree.proofs.PlaceMaps.Declarations.{package_tied}
use Rattle.aadl_grammar.proofs.CanonicalRoundTrip.{canon_of}
use Rattle.bundle_designs.proofs.canonical_text.print_bundle.Goals as goal

-- the printer prints the tree without its places, which has the same canonical text
pub returns-clause-printed : goal.returns-clause-printed
returns-clause-printed c =
    let parsed = c.in_ok-parsed.parsed in
    let tree = placed parsed.tree in
    let without_places : _ ≡ canon tree = ap canon (sym (package_tied no_place kept_place parsed.tree))
    ∙ canon_of tree in
    record {
      design = parsed.text.now;
      scenario = parsed.scenario.now;
      tree = tree;
      parsed = c.in_ok-parsed.ensures.parsed;
      text_is = c.in_ok-text.ensures ∙ without_places;
    }
