-- The printed text of a tree parses to the same tree and has no fault. For `is_read_back`.
use Rattle.std.proofs.Common.{◌≡◌, ◌∙◌, ℕ, Bool, true, sym, ap, subst, List}
use Rattle.std.specs.Prelude.{◌≢◌, IsTrue}
use Rattle.std.proofs.Math.Bool.{Bool-set}
use Rattle.std.proofs.Math.Logic.{∥∥₁_elim}
use Rattle.aadl_tree.specs.declared.package.PackageTree.{PackageTree as SourceTree}
use Rattle.aadl_tree.specs.CanonicalText.{canon}
use Rattle.aadl_tree.specs.TextTreesAndFaults.{IsTreeOf}
use Rattle.aadl_tree.specs.proof.PlaceMaps.{kept_place, no_place}
use Rattle.aadl_tree.specs.proof.PackageViews.{placed, meaning}
use Rattle.aadl_tree.proofs.PlaceMaps.Declarations.{package_tied}
use Rattle.aadl_grammar.proofs.CanonicalRoundTrip.{canon_of, reads_back, only_so}
use Rattle.aadl_parse.specs.declared.text_fault.TextFault.{TextFault}
use Rattle.aadl_parse.specs.declared.text_fault.TextFault.TheVariants.{Memory}
use Rattle.aadl_parse.specs.ParseResults.{IsFaultOfText}
use Rattle.aadl_parse.proofs.UniqueParseResults.{tree_or_fault}

-- the canonical text does not depend on places
one_canon : (tree : SourceTree) → canon (placed tree) ≡ canon (meaning tree)
one_canon tree = sym (canon_of (placed tree)) ∙ ap canon (package_tied no_place kept_place tree)

pub same_again : (tree again : SourceTree) (b : Bool) → (meaning again ≡ meaning tree → IsTrue b)
    → IsTreeOf (canon (meaning tree)) (placed again) → IsTrue b
same_again tree again b tells read =
    ∥∥₁_elim tree.given (Bool-set b true) (λ g. tells
    (sym (package_tied no_place kept_place again)
    ∙ only_so g.0 (placed tree) (placed again) g.1
    (subst (λ (text : List ℕ). IsTreeOf text (placed again)) (sym (one_canon tree)) read)
    ∙ package_tied no_place kept_place tree))

pub no_fault : (tree : SourceTree) (fault : TextFault) → fault ≢ Memory → IsFaultOfText (canon (meaning tree)) fault → ⊥
no_fault tree fault some wrong =
    ∥∥₁_elim tree.given (hlevel) (λ g.
    let again = reads_back g.0 (placed tree) g.1 in
    tree_or_fault (canon (meaning tree)) again.tree fault some
    (subst (λ (text : List ℕ). IsTreeOf text again.tree) (one_canon tree) again.read) wrong)
