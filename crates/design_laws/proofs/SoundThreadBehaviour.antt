-- The behaviour of a thread without findings.
use Rattle.std.proofs.Common.{◌≡◌, ℕ, true, [], Option, Some, None, refl, ap}
use Rattle.std.specs.Prelude.{flat_map, slice_get, All}
use Rattle.std.proofs.lemmas.List.Elements.{All-nil}
use Rattle.list_lemmas.proofs.ListOperations.{append_is_nil_right, append_is_nil_left}
use Rattle.pals_base.specs.BehaviourRules.{IsBehaviour}
use Rattle.aadl_tree.specs.Annexes.{AnnexTree}
use Rattle.aadl_tree.specs.Declarations.{Declaration, type, Implementation, implementation, PackageTree}
use Rattle.aadl_names.specs.NameResolution.{is_thread, features_of, type_in, type_numbered, type_number, ports_of}
use Rattle.aadl_names.specs.PackageNameFaults.{package_faults}
use Rattle.annex_resolve.specs.declared.ports_and_variables.DeclaredValues.{DeclaredValues}
use Rattle.annex_resolve.specs.declared.scope.Scope.{Scope}
use Rattle.annex_resolve.specs.BehavioursAndFindings.{annex_findings, behaviour_of}
use Rattle.design_laws.specs.proof.FittingAnnexNames.{IsReady}
use Rattle.component_checks.specs.TypeFindings.{port_findings, variables_findings}
use Rattle.model_violations.specs.PortsAndVariables.{ins_in, outs_in, variables_of, values_of, scope_of}
use Rattle.model_violations.specs.ThreadBehaviours.{first_annex, annex_rules, behaviour_by, implementation_findings}
use Rattle.design_laws.specs.proof.PackageNames.{HasWords, NamesDiffer}
use Rattle.design_laws.specs.proof.ThreadBehaviours.{Behaves}
use Rattle.design_laws.proofs.BehaviourNames.{IsPort, values_apart, values_words, states_apart, states_words}
use Rattle.design_laws.proofs.KindsAndFirstValues.{ins_typed, outs_typed, variables_typed, variables_first, scope_fits}
use Rattle.design_laws.proofs.DeclaredStates.{all_declared}
use Rattle.design_laws.proofs.SoundInstanceParts.{first_clean}

-- ---- ports are named by words
ports_by : (tree : PackageTree ℕ) → HasWords tree → (m : ℕ) (d : Option (Declaration ℕ))
    → slice_get tree.declarations m ≡ d
    → All IsPort (features_of (type_in d))
ports_by tree words m None is = All-nil IsPort
ports_by tree words m (Some (implementation y)) is = All-nil IsPort
ports_by tree words m (Some (type t)) is = words.ports m t is

pub port_words : (tree : PackageTree ℕ) → HasWords tree → (o : Option ℕ)
    → All IsPort (features_of (type_numbered tree o))
port_words tree words None = All-nil IsPort
port_words tree words (Some m) = ports_by tree words m (slice_get tree.declarations m) refl

-- ---- facts about the annex
module _ (tree : PackageTree ℕ) (root n : ℕ) (x : Implementation ℕ) (words : HasWords tree)
    (differ : NamesDiffer tree x)
    (clean : package_faults tree root ≡ [])
    (is : slice_get tree.declarations n ≡ Some (implementation x)) (thread : is_thread x.category ≡ true)
    (ports : flat_map port_findings (ports_of tree x) ≡ []) where
  ready : (b : ℕ × AnnexTree ℕ) → first_annex x ≡ Some b → variables_findings b.1 ≡ []
      → IsReady (values_of tree x b.1) (scope_of tree x b.1) b.1
  ready b first none =
      let of_ports = port_words tree words (type_number tree x) in
      let behaviour = behaviour_of (values_of tree x b.1) (scope_of tree x b.1) b.1 in
      record {
        names = record {
          values = values_words (ports_of tree x) b.1 of_ports (words.variables n x b is first);
          values_differ = values_apart (ports_of tree x) b.1 (differ.values b first thread);
          states = states_words b.1 (words.states n x b is first);
          states_differ = states_apart b.1 (differ.states b first thread);
        };
        firsts = variables_first b.1 none;
        fits = scope_fits behaviour (ins_in (ports_of tree x)) (outs_in (ports_of tree x)) (variables_of b.1)
            (ins_typed (ports_of tree x) ports) (outs_typed (ports_of tree x) ports) (variables_typed b.1 none)
            refl refl refl;
        states = all_declared tree x b.1 (first_clean tree root n x b clean is thread first);
      }

  module _ (law : (values : DeclaredValues) (scope : Scope) (at : ℕ) (annex : AnnexTree ℕ) → IsReady values scope annex
      → annex_findings values scope at annex ≡ [] → IsBehaviour (behaviour_of values scope annex)) where
    behaves_by : (o : Option (ℕ × AnnexTree ℕ)) → first_annex x ≡ o → annex_rules tree x o ≡ [] → Behaves tree x
    behaves_by None first none = absurd (cc none)
    behaves_by (Some b) first none =
        let variables =
        append_is_nil_left (variables_findings b.1)
        (annex_findings (values_of tree x b.1) (scope_of tree x b.1) b.0 b.1) none in
        let annex =
        append_is_nil_right (variables_findings b.1)
        (annex_findings (values_of tree x b.1) (scope_of tree x b.1) b.0 b.1) none in
        record {
          behaviour = behaviour_of (values_of tree x b.1) (scope_of tree x b.1) b.1;
          is_behaviour = ap (behaviour_by tree x) first;
          keeps = law (values_of tree x b.1) (scope_of tree x b.1) b.0 b.1 (ready b first variables) annex;
        }

    pub behaves : implementation_findings tree x ≡ [] → Behaves tree x
    behaves none = behaves_by (first_annex x) refl none
