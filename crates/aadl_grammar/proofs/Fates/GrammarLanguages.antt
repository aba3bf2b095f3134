-- The two languages of the grammar, packages and bodies of behaviour annexes, each with the initial stack of the
-- machine.
use Rattle.std.proofs.Common.{ℕ, ◌≡◌, refl, ◌≤◌, List, [], ◌∷◌, arith}
use Rattle.aadl_tree.specs.declared.nesting_limit.TheConstants.{GREATEST_NESTING}
use Rattle.aadl_tree.specs.Terminals.{PlainTerminal}
use Rattle.aadl_tree.specs.Annexes.{AnnexTree}
use Rattle.aadl_tree.specs.Declarations.{PackageTree}
use Rattle.aadl_tree.specs.PackagesBehavioursAndNesting.{IsPackage, IsBehaviour}
use Rattle.aadl_grammar.specs.proof.GrammarSymbols as s
use Rattle.aadl_grammar.specs.proof.StackMachine.{depth, whole_package, annex_body}
use Rattle.aadl_grammar.proofs.DerivationTrees.ForbiddenFollowers.{first_of, forbidden_after}
use Rattle.aadl_grammar.proofs.DerivationTrees.ForbiddenFollowerMembership.{Clear, apart_means}
use Rattle.aadl_grammar.specs.proof.SymbolTrees.{Trees}
use Rattle.aadl_grammar.proofs.DerivationTrees.DerivedTrees.{derives, Written, written}
use Rattle.aadl_grammar.proofs.PlaceIndependence.AlikeParts.{alike_spells}
use Rattle.aadl_tree.specs.proof.PlaceMaps.{annex_tree_to, package_to}
use Rattle.aadl_grammar.proofs.PlaceIndependence.Annexes.{annex_tree_alike}
use Rattle.aadl_grammar.proofs.PlaceIndependence.Declarations.{package_alike}
use Rattle.aadl_grammar.proofs.Fates.FateMeanings.{Language}

pub package_clear : Clear whole_package
unfolding forbidden_after
package_clear = (apart_means [] (forbidden_after s.a_package) refl, tt)

pub body_clear : Clear annex_body
unfolding forbidden_after
body_clear = (
  apart_means (first_of (s.states ∷ s.transitions ∷ [])) (forbidden_after s.variables) refl,
  (
    apart_means (first_of (s.transitions ∷ [])) (forbidden_after s.states) refl,
    (apart_means [] (forbidden_after s.transitions) refl, tt),
  ),
)

-- places that do not matter
abbrev pub nowhere : ℕ → Unit {0}
nowhere at = tt

abbrev pub somewhere : Unit {0} → ℕ
somewhere u = 0

abbrev pub body_of : Trees annex_body → AnnexTree (Unit {0})
body_of y = record { variables = y.0; states = y.1.0; transitions = y.1.1.0 }

pub package_text : (ks : List PlainTerminal) → Written whole_package ks → IsPackage ks
package_text ks w =
    record {
      tree = package_to somewhere w.trees.0;
      spelled = alike_spells ks [] (package_alike somewhere w.trees.0) w.spelled;
    }

pub body_text : (ks : List PlainTerminal) → Written annex_body ks → IsBehaviour ks
body_text ks w =
    record {
      tree = annex_tree_to somewhere (body_of w.trees);
      spelled = alike_spells ks [] (annex_tree_alike somewhere (body_of w.trees)) w.spelled;
    }

abbrev pub package_trees : PackageTree (Unit {0}) → Trees whole_package
package_trees t = (t, tt)

abbrev pub body_trees : AnnexTree (Unit {0}) → Trees annex_body
body_trees t = (t.variables, (t.states, (t.transitions, tt)))

pub package_flat : depth whole_package ≡ 0
unfolding depth
package_flat = refl

pub body_flat : depth annex_body ≡ 0
unfolding depth
body_flat = refl

pub none_open : 0 ≤ GREATEST_NESTING
none_open = omega arith

pub one_open : 1 ≤ GREATEST_NESTING
one_open = omega arith

abbrev pub packages : Language IsPackage 0
packages = record {
  start = whole_package;
  derived =
      λ ks t. derives ks whole_package (package_trees (package_to nowhere t.tree))
      (alike_spells ks [] (package_alike nowhere t.tree) t.spelled);
  text = λ ks d. package_text ks (written whole_package ks d);
  clear = package_clear;
  good = refl;
  flat = package_flat;
  low = none_open;
}

abbrev pub behaviours : Language IsBehaviour 1
behaviours = record {
  start = annex_body;
  derived =
      λ ks t. derives ks annex_body (body_trees (annex_tree_to nowhere t.tree))
      (alike_spells ks [] (annex_tree_alike nowhere t.tree) t.spelled);
  text = λ ks d. body_text ks (written annex_body ks d);
  clear = body_clear;
  good = refl;
  flat = body_flat;
  low = one_open;
}
