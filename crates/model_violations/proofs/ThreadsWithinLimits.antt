-- For `add_used_findings`: the root of an instance model is a declaration of its package, and its threads have at
-- most as many ports and variables as the limits allow.
use Rattle.std.proofs.Common.{◌≡◌, ◌∙◌, inl, inr, ℕ, ◌<◌, ◌≤◌, Bool, true, List, [], ◌∷◌, length, Option, Some, None}
use Rattle.std.proofs.Common.{refl, sym, ap, subst, arith, codes, length-append}
use Rattle.aadl_tree.specs.Names.{identifiers, listed_in}
use Rattle.std.specs.Prelude.{flat_map, slice_get}
use Rattle.std.specs.Option.{option_and_then}
use Rattle.std.proofs.Props.{props}
use Rattle.std.proofs.Math.Logic.{∥∥₁_elim}
use Rattle.std.proofs.lemmas.List.{length-map}
use Rattle.list_lemmas.proofs.Numbers.{le_from_not_lt}
use Rattle.list_lemmas.proofs.ElementPositions.{position_from-within}
use Rattle.pals_base.specs.declared.limits.TheConstants.{PORTS, VARIABLES}
use Rattle.aadl_tree.specs.Annexes.{VariableDeclaration, AnnexTree}
use Rattle.aadl_tree.specs.Declarations.{Implementation, PackageTree}
use Rattle.aadl_names.specs.declared.fault.PackageFault.TheVariants.{TooMany}
use Rattle.aadl_names.specs.BehaviourAnnexes as names
use Rattle.aadl_names.specs.NameResolution.{is_root, is_thread, first_number, implementation_at, ports_of}
use Rattle.aadl_names.specs.BehaviourAnnexes.{first_behaviour}
use Rattle.aadl_instance.specs.BehaviourSizes.{count_in, variable_count}
use Rattle.aadl_uses.specs.ContainmentAndUse.{number_at_path, component_at, IsInUse}
use Rattle.aadl_uses.specs.ThreadsBelow.{IsThreadOf}
use Rattle.aadl_uses.specs.declared.thread_locations.ThreadAt.{ThreadAt}
use Rattle.aadl_instance.specs.declared.chain.Chain.{Chain}
use Rattle.aadl_instance.specs.InstancesByPaths.{InstanceParts, IsFlat}
use Rattle.aadl_instance.specs.InstancesByNumbers.{IsInstance}
use Rattle.annex_resolve.specs.ExpressionTypesAndFindings.{kind_named}
use Rattle.model_violations.specs.PortsAndVariables.{first_of, variable_of, variables_in, variables_of}
use Rattle.model_violations.specs.ThreadBehaviours.{IsSmall, first_annex}
use Rattle.model_violations.specs.UsedDeclarations.{IsUse}
use Rattle.model_violations.specs.DeclarationFindings.{AreSmall}

-- ---- the root is a declaration

first_below : {X : Type 0} (p : X → Bool) (n : ℕ) (xs : List X) → first_number p xs ≡ Some n → n < length xs
first_below p n xs is = let h = position_from-within p 0 n xs is in omega (arith, h)

root_in : {tree : PackageTree ℕ} {root : ℕ} {threads : List ThreadAt} {links feeds taps : List Chain}
    → IsInstance tree root threads links feeds taps → root < length tree.declarations
root_in {tree} i = let h = first_below (is_root i.name) i.parts.root tree.declarations i.flat.root in
    let e = i.root_is in omega (arith, h, e)

pub root_within : {tree : PackageTree ℕ} {root : ℕ} {threads : List ThreadAt} {links feeds taps : List Chain}
    → ∥ IsInstance tree root threads links feeds taps ∥₁ → root < length tree.declarations
root_within flat = ∥∥₁_elim flat (hlevel props) (λ i. root_in i)

-- ---- no limit is exceeded

pub few_ports : {tree : PackageTree ℕ} {name : List ℕ} {parts : InstanceParts} → IsFlat tree name parts
    → (path : List ℕ) (x : Implementation ℕ) → IsThreadOf tree parts.root path x → length (ports_of tree x) ≤ PORTS
few_ports {tree} {name} {parts} flat path x thread =
    let what = codes "ports" in
    le_from_not_lt PORTS (length (ports_of tree x))
    (λ more. flat.sound 7 (TooMany what)
    (inr (
      parts.root,
      flat.root,
      inr (inr (inr (what, inr (inr (inl (refl, refl, (path, x, thread, more)))), refl))),
    )))

pub few_variables : {tree : PackageTree ℕ} {name : List ℕ} {parts : InstanceParts} → IsFlat tree name parts
    → (path : List ℕ) (x : Implementation ℕ) → IsThreadOf tree parts.root path x → variable_count x ≤ VARIABLES
few_variables {tree} {name} {parts} flat path x thread =
    let what = codes "variables" in
    le_from_not_lt VARIABLES (variable_count x)
    (λ more. flat.sound 8 (TooMany what)
    (inr (
      parts.root,
      flat.root,
      inr (inr (inr (what, inr (inr (inr (inl (refl, refl, (path, x, thread, more))))), refl))),
    )))

-- ---- the variables of an annex, by their names and with their types
same_count : (vs : List (VariableDeclaration ℕ))
    → length (flat_map variables_in vs) ≡ length (flat_map (λ v. identifiers v.names) vs)
same_count [] = refl
same_count (v ∷ vs) =
    let a = length-append (variables_in v) (flat_map variables_in vs) in
    let b = length-append (identifiers v.names) (flat_map (λ w. identifiers w.names) vs) in
    let c = length-map (identifiers v.names) (variable_of (kind_named v.data_type) (first_of v)) in
    let d = same_count vs in
    omega (arith, a, b, c, d)

count_by : (o : Option (List (VariableDeclaration ℕ)))
    → length (flat_map variables_in (listed_in o)) ≡ length (flat_map (λ v. identifiers v.names) (listed_in o))
count_by None = refl
count_by (Some vs) = same_count vs

first_counted : (bs : List (ℕ × AnnexTree ℕ)) (b : ℕ × AnnexTree ℕ) → slice_get bs 0 ≡ Some b
    → count_in names.variables_of (first_behaviour bs) ≡ length (names.variables_of b.1)
first_counted [] b is = absurd (cc is)
first_counted (c ∷ cs) b is = let e : c ≡ b = cc in ap (λ d. length (names.variables_of d.1)) e

counted_variables : (x : Implementation ℕ) (b : ℕ × AnnexTree ℕ) → first_annex x ≡ Some b
    → length (variables_of b.1) ≡ variable_count x
counted_variables x b is = count_by b.1.variables ∙ sym (first_counted (names.behaviours x.annexes) b is)

-- ---- threads in use are within the limits
pub is_small : {tree : PackageTree ℕ} {name : List ℕ} {parts : InstanceParts} → IsFlat tree name parts
    → (path : List ℕ) (x : Implementation ℕ) → IsThreadOf tree parts.root path x → IsSmall tree x
is_small flat path x thread = record {
  ports = few_ports flat path x thread;
  variables = λ b is. let few = few_variables flat path x thread in let same = counted_variables x b is in
      omega (arith, few, same);
}

pub placed_component : (tree : PackageTree ℕ) (root n : ℕ) (path : List ℕ) (x : Implementation ℕ)
    → number_at_path tree root path ≡ Some n → implementation_at tree n ≡ Some x → component_at tree root path ≡ Some x
placed_component tree root n path x stands is = ap (option_and_then (implementation_at tree)) stands ∙ is

small_by : {tree : PackageTree ℕ} {name : List ℕ} {parts : InstanceParts} → IsFlat tree name parts
    → (n : ℕ) (x : Implementation ℕ) → IsInUse tree parts.root n → implementation_at tree n ≡ Some x
    → is_thread x.category ≡ true
    → IsSmall tree x
small_by {tree} {name} {parts} flat n x in_use is thread =
    is_small flat in_use.0 x (placed_component tree parts.root n in_use.0 x in_use.1 is, thread)

small_in : {tree : PackageTree ℕ} {root : ℕ} {threads : List ThreadAt} {links feeds taps : List Chain} (used : ℕ → Bool)
    → IsInstance tree root threads links feeds taps → IsUse tree root used → AreSmall tree used
small_in {tree} used i is_use =
    record {
      each = λ n x in_use is thread.
          small_by i.flat n x (subst (λ r. IsInUse tree r n) i.root_is ((is_use n).0 in_use)) is thread;
    }

pub are_small : {tree : PackageTree ℕ} {root : ℕ} {threads : List ThreadAt} {links feeds taps : List Chain}
    (used : ℕ → Bool) → ∥ IsInstance tree root threads links feeds taps ∥₁ → IsUse tree root used
    → AreSmall tree used
are_small used flat is_use = ∥∥₁_elim flat (hlevel props) (λ i. small_in used i is_use)
