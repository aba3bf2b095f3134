-- A package without faults and violations has a design, which satisfies the rules of designs.
use Rattle.std.proofs.Common.{◌≡◌, ◌∙◌, ℕ, ◌≤◌, max, List, [], ◌∷◌, ◌++◌, map, fold, Option, Some, None, refl, ap}
use Rattle.std.proofs.Common.{subst}
use Rattle.std.proofs.lemmas.Option.{same_Some}
use Rattle.std.specs.Prelude.{slice_get}
use Rattle.list_lemmas.proofs.ListOperations.{append_is_nil_right}
use Rattle.pals_base.specs.PeriodBoundAndReleases.{least_period}
use Rattle.pals_base.specs.declared.behaviour.BehaviourParts.{BehaviourParts}
use Rattle.pals_model.specs.declared.design.Component.{Component}
use Rattle.pals_model.specs.declared.design.DesignParts.{DesignParts}
use Rattle.pals_model.specs.DesignRules.{IsDesign}
use Rattle.pals_model.specs.DesignRules as model
use Rattle.aadl_tree.specs.Declarations.{Implementation, implementation, PackageTree}
use Rattle.aadl_tree.specs.proof.TreesOfSomeText.{IsGiven}
use Rattle.aadl_names.specs.PackageNameFaults.{package_faults}
use Rattle.aadl_uses.specs.declared.thread_locations.ThreadAt.{ThreadAt}
use Rattle.component_checks.specs.PeriodAndAdaptorFindings.{bound_findings}
use Rattle.design_laws.proofs.BoundsAndRates.{leaves_time}
use Rattle.component_checks.specs.ThreadRatesAndFindings.{root_period, thread_rate, greater_rate, greatest_rate}
use Rattle.component_checks.specs.RootFindings.{root_gamma, at_root, place_of, missing_findings, order_findings}
use Rattle.aadl_names.specs.declared.recognised_properties.PropertyName.TheVariants.{Period}
use Rattle.aadl_instance.specs.InstancesByPaths.{InstanceParts, IsFlat}
use Rattle.design_laws.specs.proof.PackageNames.{NamesDiffer, AreNamed}
use Rattle.model_violations.specs.Violations.{ShownInstance, shown_by, rates_of, AreViolations}
use Rattle.design_laws.specs.proof.AcceptedInstances.{IsShown, NothingFound, HasDesign}
use Rattle.design_laws.specs.InstanceDesigns.{put_first, all_of, component_by, thread_behaviour, component_in}
use Rattle.design_laws.specs.InstanceDesigns.{IsDesignOf}
use Rattle.design_laws.proofs.SoundInstanceParts.{all_parts}
use Rattle.design_laws.proofs.NoViolations.{nothing_found}
use Rattle.design_laws.specs.PackageDesigns.{IsDesignIn}
use Rattle.design_laws.proofs.NamesFromTokens.{has_words}

-- ---- the names of a package that some text has
pub given_names : ((tree : PackageTree ℕ) (root n : ℕ) (x : Implementation ℕ) → IsGiven tree
    → package_faults tree root ≡ []
    → slice_get tree.declarations n ≡ Some (implementation x) → NamesDiffer tree x) → (tree : PackageTree ℕ)
    → IsGiven tree → AreNamed tree
given_names differ tree given = record {
  words = has_words given.0 tree given.1;
  differ = λ root n x none is. differ tree root n x given none is;
}

-- ---- the rules, and the existence of the design
shown_is : (tree : PackageTree ℕ) (root : List ℕ) (parts : InstanceParts) → IsFlat tree root parts
    → IsShown tree (shown_by tree parts)
shown_is tree root parts flat = record {
  name = root;
  parts = parts;
  flat = flat;
  root_is = refl;
  threads_are = refl;
  links_are = refl;
  feeds_are = refl;
  taps_are = refl;
}

pub keeps_rules : ((tree : PackageTree ℕ) (s : ShownInstance) → AreNamed tree → ∥ IsShown tree s ∥₁
    → NothingFound tree s
    → (design : DesignParts)
    → IsDesignOf tree s design → IsDesign design)
    → (tree : PackageTree ℕ) (root : List ℕ) (design : DesignParts) → AreNamed tree → IsDesignIn tree root design
    → IsDesign design
keeps_rules law tree root design named d =
    law tree (shown_by tree d.parts) named ∣ shown_is tree root d.parts d.flat ∣₁
    (nothing_found tree (shown_by tree d.parts) d.nothing_wrong)
    design d.design_of

pub is_there : ((tree : PackageTree ℕ) (s : ShownInstance) → AreNamed tree → IsShown tree s → NothingFound tree s
    → HasDesign tree s)
    → (tree : PackageTree ℕ) (root : List ℕ) (parts : InstanceParts) → AreNamed tree → IsFlat tree root parts
    → AreViolations tree (shown_by tree parts) []
    → (design : DesignParts) × IsDesignIn tree root design
is_there law tree root parts named flat nothing =
    let there =
    law tree (shown_by tree parts) named (shown_is tree root parts flat)
    (nothing_found tree (shown_by tree parts) nothing) in
    (there.0, record { parts = parts; flat = flat; nothing_wrong = nothing; design_of = there.1 })

-- ---- the first element of a list that is complete
record Firsts {X : Type 0} (o : Option X) (os : Option (List X)) (xs : List X) : Type 0 where
  first : X
  rest : List X
  is_first : o ≡ Some first
  is_rest : os ≡ Some rest
  both : first ∷ rest ≡ xs

first_of : {X : Type 0} (o : Option X) (os : Option (List X)) (xs : List X) → put_first o os ≡ Some xs → Firsts o os xs
first_of None os xs is = absurd (cc is)
first_of (Some x) None xs is = absurd (cc is)
first_of (Some x) (Some ys) xs is =
    record { first = x; rest = ys; is_first = refl; is_rest = refl; both = same_Some (x ∷ ys) xs is }

-- ---- the maximum rate of the components is the maximum rate of the threads
module _ (tree : PackageTree ℕ) (root : ℕ) where
  -- a component, and the components after it
  rate_by : (path : List ℕ) (rate : Option ℕ) (b : Option BehaviourParts) (c : Component)
      → component_by path rate b ≡ Some c → rate ≡ Some c.rate
  rate_by path None b c is = absurd (cc is)
  rate_by path (Some rate) None c is = absurd (cc is)
  rate_by path (Some rate) (Some b) c is =
      ap (λ (x : Component). Some x.rate) (same_Some (record { path = path; rate = rate; behaviour = b }) c is)

  rates_by : (k : ℕ) (threads : List ThreadAt) (cs : List Component)
      → all_of (map (component_in tree root) threads) ≡ Some cs
      → fold greater_rate k (map (thread_rate tree root) threads) ≡ fold (λ n (c : Component). max n c.rate) k cs
  rates_by k [] cs is = ap (λ l. fold (λ n (c : Component). max n c.rate) k l) (same_Some [] cs is)
  rates_by k (t ∷ threads) cs is =
      let a = first_of (component_in tree root t) (all_of (map (component_in tree root) threads)) cs is in
      let rate = rate_by t.path (thread_rate tree root t) (thread_behaviour tree t) a.first a.is_first in
      ap (λ o. fold greater_rate (greater_rate k o) (map (thread_rate tree root) threads)) rate
      ∙ (rates_by (max k a.first.rate) threads a.rest a.is_rest
      ∙ ap (λ l. fold (λ n (c : Component). max n c.rate) k l) a.both)

-- ---- the bound
pub within_bound : (tree : PackageTree ℕ) (root : List ℕ) (design : DesignParts) → IsDesignIn tree root design
    → least_period design.gamma (model.greatest_rate design.components) ≤ design.period
within_bound tree root design d =
    let s = shown_by tree d.parts in
    let rate = greatest_rate (rates_of tree s) in
    let none = nothing_found tree s d.nothing_wrong in
    let place = place_of (at_root tree s.root Period) in
    let clean = (all_parts tree s none.used none.none).root in
    let here = append_is_nil_right (missing_findings tree s.root ++ order_findings tree s.root)
    (bound_findings place (root_period tree s.root) (root_gamma tree s.root) rate) clean in
    let timed = subst (λ o. bound_findings place o (root_gamma tree s.root) rate ≡ []) d.design_of.period here in
    let bounded = subst (λ o. bound_findings place (Some design.period) o rate ≡ []) d.design_of.gamma timed in
    subst (λ k. least_period design.gamma k ≤ design.period)
    (rates_by tree s.root 1 s.threads design.components d.design_of.components)
    (leaves_time place design.period design.gamma rate bounded)
