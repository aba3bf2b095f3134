-- The package of a bundle has a design below a root, or is refused.
use Rattle.std.proofs.Common.{◌⊎◌, inl, inr, ℕ, List, [], ◌∷◌, ◌++◌, refl}
use Rattle.aadl_tree.specs.proof.TreesOfSomeText.{IsGiven}
use Rattle.annex_resolve.specs.declared.violation.Violation.{Violation}
use Rattle.aadl_instance.specs.InstancesByPaths.{InstanceParts, IsFlat}
use Rattle.model_violations.specs.Violations.{shown_by, AreViolations}
use Rattle.pals_model.specs.declared.design.DesignParts.{DesignParts}
use Rattle.pals_model.specs.DesignRules.{IsDesign}
use Rattle.pals_model.specs.RoundTexts.{line_end, text_of as lines_text}
use Rattle.bundle_designs.specs.PackageFaultLines.{package_fault_line}
use Rattle.bundle_designs.specs.ViolationLines.{violation_lines}
use Rattle.bundle_designs.specs.AcceptedAndRefusedPackages.{IsRefusedIn, IsAccepted}
use Rattle.pals_top.specs.declared.status.TheConstants.{TEXT_REFUSED, DESIGN_REFUSED}
use Rattle.pals_top.specs.RefusalAnswers.{IsBundleRefused}
use Rattle.design_laws.specs.proof.FirstFaultOrInstance.{HasFirstFault, HasInstance}
use Rattle.answer_laws.specs.proof.BundleContents.{HasTree}
use Rattle.answer_laws.specs.proof.ExistencePremises.{ExistenceLaws}
use Rattle.answer_laws.proofs.ExistingTrees.{IsRefused, tree_or_refused}

-- a design that satisfies the rules, and a scenario's bytes after its text
pub record HasDesign (root bundle : List ℕ) : Type 0 where
  pub design : DesignParts
  pub bytes : List ℕ
  pub accepted : IsAccepted root bundle design bytes
  pub rules : IsDesign design

abbrev pub HasRefusal : List ℕ → List ℕ → Type 0
HasRefusal root bundle = (status : ℕ) × (text : List ℕ) × IsBundleRefused root bundle status text

refused_in : (root bundle : List ℕ) (t : HasTree bundle) (written : List ℕ) → IsRefusedIn t.text t.tree root written
    → HasRefusal root bundle
refused_in root bundle t written r = (
  DESIGN_REFUSED,
  written,
  inr (refl, record { text = t.text; scenario = t.scenario; tree = t.tree; parsed = t.parsed; refused = r }),
)

module _ (laws : ExistenceLaws) (root bundle : List ℕ) where
  by_list : (t : HasTree bundle) (parts : InstanceParts) → IsFlat t.tree root parts → (list : List Violation)
      → AreViolations t.tree (shown_by t.tree parts) list
      → HasDesign root bundle ⊎ HasRefusal root bundle
  by_list t parts flat [] all =
      let given : IsGiven t.tree = (t.text, t.parsed.read) in
      let d = laws.there t.tree root parts given flat all in
      inl (record {
        design = d.0;
        bytes = t.scenario;
        accepted = record { text = t.text; tree = t.tree; parsed = t.parsed; design_in = d.1 };
        rules = laws.rules t.tree root d.0 given d.1;
      })
  by_list t parts flat (x ∷ list) all =
      inr (refused_in root bundle t (lines_text (violation_lines t.text (x ∷ list))) (inr (record {
        parts = parts;
        flat = flat;
        list = x ∷ list;
        all = all;
        some = λ e. absurd cc;
        text_is = refl;
      })))

  by_package : (t : HasTree bundle) → HasFirstFault t.tree root ⊎ HasInstance t.tree root
      → HasDesign root bundle ⊎ HasRefusal root bundle
  by_package t (inl (fault, is)) =
      inr (refused_in root bundle t (package_fault_line t.text fault ++ line_end)
      (inl (record { fault = fault; faulty = is; named = laws.named t.tree root fault is; text_is = refl })))
  by_package t (inr (parts, flat)) = let l = laws.list t.tree root parts flat in by_list t parts flat l.0 l.1

  by_tree : HasTree bundle ⊎ IsRefused bundle → HasDesign root bundle ⊎ HasRefusal root bundle
  by_tree (inl t) = by_package t (laws.instance_or_fault t.tree root)
  by_tree (inr (text, r)) = inr (TEXT_REFUSED, text, inl (refl, r))

  pub design_or_refused : HasDesign root bundle ⊎ HasRefusal root bundle
  design_or_refused = by_tree (tree_or_refused laws bundle)
