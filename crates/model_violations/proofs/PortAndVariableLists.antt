-- For `values_and_scope_of`: the lists of an implementation's ports and variables are the lists of its behaviour; the
-- in ports and the out ports together are all ports.
use Rattle.std.proofs.Common.{◌≡◌, ◌∙◌, ℕ, List, ap, ◌+◌, not, length, filter, refl, arith}
use Rattle.aadl_tree.specs.Annexes.{AnnexTree}
use Rattle.aadl_tree.specs.Declarations.{Feature, Implementation, PackageTree}
use Rattle.aadl_names.specs.NameResolution.{ports_of}
use Rattle.model_violations.specs.declared.port_or_variable.Declared.{Declared}
use Rattle.model_violations.specs.PortsAndVariables.{ins_in, outs_in, variables_of, port_of}
use Rattle.std.proofs.lemmas.List.{length-map}
use Rattle.std.proofs.lemmas.List.Filters.{length-filter_both}
use Rattle.component_checks.specs.TypeFindings.{is_in}

-- a function of these lists is a function of the implementation's own lists
pub of_lists : {X : Type 0} (made : List Declared → List Declared → List Declared → X) (tree : PackageTree ℕ)
    (x : Implementation ℕ) (annex : AnnexTree ℕ) (ports : List (Feature ℕ)) (ins outs variables : List Declared)
    → ports ≡ ports_of tree x → ins ≡ ins_in ports → outs ≡ outs_in ports → variables ≡ variables_of annex
    → made ins outs variables ≡ made (ins_in (ports_of tree x)) (outs_in (ports_of tree x)) (variables_of annex)
of_lists made tree x annex ports ins outs variables ports_are ins_are outs_are variables_are =
    ap (λ l. made l outs variables) (ins_are ∙ ap ins_in ports_are)
    ∙ ap (λ l. made (ins_in (ports_of tree x)) l variables) (outs_are ∙ ap outs_in ports_are)
    ∙ ap (λ l. made (ins_in (ports_of tree x)) (outs_in (ports_of tree x)) l) variables_are

pub ports_both : (ports : List (Feature ℕ)) → length (ins_in ports) + length (outs_in ports) ≡ length ports
ports_both ports =
    let a = length-map (filter is_in ports) port_of in
    let b = length-map (filter (λ f. not (is_in f)) ports) port_of in
    let c = length-filter_both is_in (λ f. not (is_in f)) (λ f. refl) ports in
    omega (arith, a, b, c)
