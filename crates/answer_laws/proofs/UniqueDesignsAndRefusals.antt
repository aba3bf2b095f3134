-- A bundle means one design, or is refused.
use Rattle.std.proofs.Common.{◌≡◌, ◌∙◌, inl, inr, ℕ, List, ◌++◌, sym, ap, subst}
use Rattle.pals_model.specs.declared.design.DesignParts.{DesignParts}
use Rattle.pals_model.specs.RoundTexts.{line_end, text_of}
use Rattle.aadl_tree.specs.Declarations.{PackageTree}
use Rattle.aadl_tree.specs.TextTreesAndFaults.{IsTreeOf}
use Rattle.aadl_grammar.proofs.CanonicalRoundTrip.{no_other}
use Rattle.aadl_parse.specs.ParseResults.{IsFaultOfText}
use Rattle.aadl_parse.proofs.UniqueParseResults.{one_text_fault, tree_or_fault}
use Rattle.aadl_instance.specs.InstancesByPaths.{InstanceParts}
use Rattle.annex_resolve.specs.declared.violation.Violation.{Violation}
use Rattle.model_violations.specs.Violations.{shown_by, AreViolations}
use Rattle.aadl_names.specs.declared.fault.PackageFault.{PackageFault}
use Rattle.bundle_designs.specs.TextFaultLines.{text_fault_line}
use Rattle.bundle_designs.specs.PackageFaultLines.{package_fault_line}
use Rattle.bundle_designs.specs.ViolationLines.{violation_lines}
use Rattle.design_laws.specs.PackageDesigns as laws
use Rattle.design_laws.proofs.UniqueInstancesAndDesigns.{one_instance, one_list, no_list}
use Rattle.bundle_designs.specs.ParsedBundles.{IsParsed}
use Rattle.bundle_designs.specs.RefusedTexts.{IsUndivided, IsUnread, IsTextRefused}
use Rattle.bundle_designs.specs.AcceptedAndRefusedPackages.{IsFaulty, HasViolations, IsRefusedIn, IsAccepted}
use Rattle.bundle_designs.specs.AcceptedAndRefusedPackages.{IsPackageRefused}
use Rattle.pals_top.specs.RefusalAnswers.{IsBundleRefused}
use Rattle.answer_laws.proofs.BundleSplits.{one_split, divided}
use Rattle.answer_laws.specs.proof.UniquenessPremises.{OneDesign, OneFault}

-- ---- two trees of one bundle
pub one_text : (bundle a b s t : List ℕ) (u v : PackageTree ℕ) → IsParsed bundle a s u → IsParsed bundle b t v → a ≡ b
one_text bundle a b s t u v x y = (one_split bundle a b s t x.split y.split).0

pub one_tree : (bundle a b s t : List ℕ) (u v : PackageTree ℕ) → IsParsed bundle a s u → IsParsed bundle b t v → u ≡ v
one_tree bundle a b s t u v x y =
    no_other b u v (subst (λ (w : List ℕ). IsTreeOf w u) (one_text bundle a b s t u v x y) x.read) y.read

-- ---- a tree, or a text that is refused
unread : (bundle text scenario written : List ℕ) (tree : PackageTree ℕ) → IsParsed bundle text scenario tree
    → IsUnread bundle written → ⊥
unread bundle text scenario written tree x y =
    let same = (one_split bundle text y.design scenario y.scenario x.split y.split).0 in
    tree_or_fault y.design tree y.fault y.named (subst (λ (w : List ℕ). IsTreeOf w tree) same x.read) y.faulty

pub read_or_refused : (bundle text scenario : List ℕ) (tree : PackageTree ℕ) (written : List ℕ)
    → IsParsed bundle text scenario tree
    → IsTextRefused bundle written → ⊥
read_or_refused bundle text scenario tree written x (inl none) = divided bundle text scenario x.split none.undivided
read_or_refused bundle text scenario tree written x (inr y) = unread bundle text scenario written tree x y

-- ---- two refusals of one text
undivided_or : (bundle a b : List ℕ) → IsUndivided bundle a → IsUnread bundle b → ⊥
undivided_or bundle a b x y = divided bundle y.design y.scenario y.split x.undivided

one_unread : (bundle a b : List ℕ) → IsUnread bundle a → IsUnread bundle b → a ≡ b
one_unread bundle a b x y =
    let same = (one_split bundle x.design y.design x.scenario y.scenario x.split y.split).0 in
    let fault =
    one_text_fault y.design x.fault y.fault x.named y.named
    (subst (λ (w : List ℕ). IsFaultOfText w x.fault) same x.faulty) y.faulty in
    x.text_is ∙ ((λ i. text_fault_line (same i) (fault i) ++ line_end) ∙ sym y.text_is)

pub one_refused_text : (bundle a b : List ℕ) → IsTextRefused bundle a → IsTextRefused bundle b → a ≡ b
one_refused_text bundle a b (inl x) (inl y) = x.text_is ∙ sym y.text_is
one_refused_text bundle a b (inl x) (inr y) = absurd (undivided_or bundle a b x y)
one_refused_text bundle a b (inr x) (inl y) = absurd (undivided_or bundle b a y x)
one_refused_text bundle a b (inr x) (inr y) = one_unread bundle a b x y

-- ---- a design
pub one_accepted : OneDesign → (root bundle : List ℕ) (a b : DesignParts) (s t : List ℕ) → IsAccepted root bundle a s
    → IsAccepted root bundle b t
    → (a ≡ b) × (s ≡ t)
one_accepted one_design root bundle a b s t x y =
    let tree = one_tree bundle x.text y.text s t x.tree y.tree x.parsed y.parsed in (
      one_design y.tree root a b (subst (λ (u : PackageTree ℕ). laws.IsDesignIn u root a) tree x.design_in) y.design_in,
      (one_split bundle x.text y.text s t x.parsed.split y.parsed.split).1,
    )

-- ---- a design, or a package that is refused
refused_in : (text : List ℕ) (tree : PackageTree ℕ) (root written : List ℕ) (design : DesignParts)
    → laws.IsDesignIn tree root design
    → IsRefusedIn text tree root written → ⊥
refused_in text tree root written design d (inl x) = d.flat.sound x.faulty.line x.fault x.faulty.here.found
refused_in text tree root written design d (inr x) = x.some (no_list tree root design x.parts x.list d x.flat x.all)

pub package_refused : (root bundle : List ℕ) (design : DesignParts) (scenario written : List ℕ)
    → IsAccepted root bundle design scenario
    → IsPackageRefused root bundle written → ⊥
package_refused root bundle design scenario written x y =
    let tree = one_tree bundle x.text y.text scenario y.scenario x.tree y.tree x.parsed y.parsed in
    let moved = subst (λ (u : PackageTree ℕ). laws.IsDesignIn u root design) tree x.design_in in
    refused_in y.text y.tree root written design moved y.refused

pub accepted_or_refused : (root bundle : List ℕ) (design : DesignParts) (scenario : List ℕ) (status : ℕ)
    (written : List ℕ)
    → IsAccepted root bundle design scenario → IsBundleRefused root bundle status written → ⊥
accepted_or_refused root bundle design scenario status written x (inl y) =
    read_or_refused bundle x.text scenario x.tree written x.parsed y.1
accepted_or_refused root bundle design scenario status written x (inr y) =
    package_refused root bundle design scenario written x y.1

-- a package that is refused, or a text that is
pub package_or_text : (root bundle a b : List ℕ) → IsPackageRefused root bundle a → IsTextRefused bundle b → ⊥
package_or_text root bundle a b x y = read_or_refused bundle x.text x.scenario x.tree b x.parsed y

-- ---- violations
pub one_list_text : (text : List ℕ) (tree : PackageTree ℕ) (root a b : List ℕ) → HasViolations text tree root a
    → HasViolations text tree root b → a ≡ b
one_list_text text tree root a b x y =
    let parts = one_instance tree root x.parts y.parts x.flat y.flat in
    let list =
    one_list tree (shown_by tree y.parts) x.list y.list
    (subst (λ (p : InstanceParts). AreViolations tree (shown_by tree p) x.list) parts x.all) y.all in
    x.text_is ∙ (ap (λ (l : List Violation). text_of (violation_lines text l)) list ∙ sym y.text_is)

pub fault_or_list : (text : List ℕ) (tree : PackageTree ℕ) (root a b : List ℕ) → IsFaulty text tree root a
    → HasViolations text tree root b → ⊥
fault_or_list text tree root a b x y = y.flat.sound x.faulty.line x.fault x.faulty.here.found

-- ---- two refusals of one package
module _ (one_fault : OneFault) where
  pub one_fault_text : (text : List ℕ) (tree : PackageTree ℕ) (root a b : List ℕ) → IsTreeOf text tree
      → IsFaulty text tree root a
      → IsFaulty text tree root b → a ≡ b
  one_fault_text text tree root a b read x y =
      let same = one_fault text tree root x.fault y.fault read x.faulty y.faulty in
      x.text_is ∙ (ap (λ (f : PackageFault). package_fault_line text f ++ line_end) same ∙ sym y.text_is)

  same_refusal : (text : List ℕ) (tree : PackageTree ℕ) (root a b : List ℕ) → IsTreeOf text tree
      → IsRefusedIn text tree root a
      → IsRefusedIn text tree root b → a ≡ b
  same_refusal text tree root a b read (inl x) (inl y) = one_fault_text text tree root a b read x y
  same_refusal text tree root a b read (inl x) (inr y) = absurd (fault_or_list text tree root a b x y)
  same_refusal text tree root a b read (inr x) (inl y) = absurd (fault_or_list text tree root b a y x)
  same_refusal text tree root a b read (inr x) (inr y) = one_list_text text tree root a b x y

  pub one_refused_package : (root bundle a b : List ℕ) → IsPackageRefused root bundle a
      → IsPackageRefused root bundle b → a ≡ b
  one_refused_package root bundle a b x y =
      let text = one_text bundle x.text y.text x.scenario y.scenario x.tree y.tree x.parsed y.parsed in
      let tree = one_tree bundle x.text y.text x.scenario y.scenario x.tree y.tree x.parsed y.parsed in
      let moved =
      subst (λ (u : PackageTree ℕ). IsRefusedIn y.text u root a) tree
      (subst (λ (w : List ℕ). IsRefusedIn w x.tree root a) text x.refused) in
      same_refusal y.text y.tree root a b y.parsed.read moved y.refused
