-- The types of ports and variables, and initial values.
use Rattle.std.proofs.Common.{◌≡◌, ◌∙◌, ℕ, Bool, true, false, not, cond, ◌||◌, List, [], ◌∷◌, ◌++◌, map, length, codes}
use Rattle.std.proofs.Common.{Option, Some, None, pos, refl, ap, arith, inl, inr, ◌⊎◌}
use Rattle.std.specs.Prelude.{flat_map, filter, slice_get, IsTrue, option_map}
use Rattle.std.specs.List.{AllByRecursion, list_all, enumerate_from}
use Rattle.std.specs.Option.{option_and_then, is_some}
use Rattle.std.specs.Str.{bytes_eq}
use Rattle.std.proofs.lemmas.Bool.{false≢true}
use Rattle.std.proofs.lemmas.List.{length-map}
use Rattle.std.proofs.lemmas.Option.{slice_get-map}
use Rattle.std.proofs.lemmas.Slice.Eq.{bytes_eq-Decides}
use Rattle.list_lemmas.proofs.Elements.{AllByRecursion-weaker, AllByRecursion-append, AllByRecursion-map}
use Rattle.list_lemmas.proofs.Elements.{AllByRecursion-at}
use Rattle.list_lemmas.proofs.ListOperations.{append_is_nil_right, append_is_nil_left}
use Rattle.pals_base.specs.declared.behaviour.Kind.{Kind}
use Rattle.pals_base.specs.declared.behaviour.Kind.TheVariants.{Integer, Boolean}
use Rattle.pals_base.specs.declared.behaviour.BehaviourParts.{BehaviourParts}
use Rattle.pals_base.specs.TypingRules.{allows, literal_kinds}
use Rattle.pals_base.specs.BehaviourRules.{has_first}
use Rattle.aadl_tree.specs.Names.{Identifier, same_name, identifiers, listed_in}
use Rattle.aadl_tree.specs.Values.{Association}
use Rattle.aadl_tree.specs.Annexes.{VariableDeclaration, AnnexTree}
use Rattle.aadl_tree.specs.Declarations.{Feature}
use Rattle.aadl_names.specs.declared.recognised_properties.PropertyName.TheVariants.{Initial}
use Rattle.aadl_names.specs.RecognisedProperties.{association_at, association_value, association_named, name_of}
use Rattle.aadl_names.specs.PropertyValueShapes.{only_text}
use Rattle.annex_resolve.specs.declared.violation.TheConstants.{BAD_TYPE}
use Rattle.annex_resolve.specs.declared.scope.DeclaredName.{DeclaredName}
use Rattle.annex_resolve.specs.ExpressionTypesAndFindings.{kind_named, kind_in, fits}
use Rattle.design_laws.specs.proof.FittingAnnexNames.{FitsMeaning, FitsScope}
use Rattle.design_laws.proofs.EmptyFindingLists.{is_right}
use Rattle.component_checks.specs.TypeFindings.{is_in, port_findings, name_findings, is_truth, text_kind}
use Rattle.component_checks.specs.TypeFindings.{first_findings, variable_findings, variables_findings}
use Rattle.model_violations.specs.declared.port_or_variable.Declared.{Declared}
use Rattle.model_violations.specs.PortsAndVariables.{port_of, ins_in, outs_in, value_of, value_in, first_of}
use Rattle.model_violations.specs.PortsAndVariables.{variable_of, variables_in, variables_of, or_integer, named_of}
use Rattle.model_violations.specs.PortsAndVariables.{var_of, in_entry, out_entry, variable_entry, scope_by}
use Rattle.design_laws.proofs.PairwiseDistinctNames.{all_none}
use Rattle.design_laws.proofs.ElementAndPairwiseProperties.{all_kept, numbered, found_one, all_true}

-- ---- an existing type
abbrev IsTyped : Declared → Type 0
IsTyped d = d.kind ≡ Some (or_integer d.kind)

typed_by : (kind : Option Kind) → is_some kind ≡ true → kind ≡ Some (or_integer kind)
typed_by None is = absurd (false≢true is)
typed_by (Some k) is = refl

abbrev HasType : Feature ℕ → Type 0
HasType f = IsTyped (port_of f)

ports_typed : (fs : List (Feature ℕ)) → flat_map port_findings fs ≡ [] → AllByRecursion HasType fs
ports_typed fs none =
    AllByRecursion-weaker (λ f. port_findings f ≡ []) HasType (λ f e. typed_by (kind_in f.data_type)
    (is_right (is_some (kind_in f.data_type)) f.name.at BAD_TYPE [] e)) fs (all_none port_findings fs none)

pub ins_typed : (fs : List (Feature ℕ)) → flat_map port_findings fs ≡ [] → AllByRecursion IsTyped (ins_in fs)
ins_typed fs none =
    AllByRecursion-map IsTyped port_of (filter is_in fs) (all_kept HasType is_in fs (ports_typed fs none))

pub outs_typed : (fs : List (Feature ℕ)) → flat_map port_findings fs ≡ [] → AllByRecursion IsTyped (outs_in fs)
outs_typed fs none =
    AllByRecursion-map IsTyped port_of (filter (λ f. not (is_in f)) fs)
    (all_kept HasType (λ f. not (is_in f)) fs (ports_typed fs none))

-- ---- an initial value of its type
truth_by : (text : List ℕ) (a b : Bool) → bytes_eq text (codes "true") ≡ a → bytes_eq text (codes "false") ≡ b
    → (a || b) ≡ true
    → (bytes_eq text (codes "true") ≡ true) ⊎ (text ≡ codes "false")
truth_by text true b e f h = inl e
truth_by text false true e f h = inr ((bytes_eq-Decides text (codes "false")).0 f)
truth_by text false false e f h = absurd (false≢true h)

first_true : (text : List ℕ) (b : Bool) → bytes_eq text (codes "true") ≡ b → b ≡ true → value_of text ≡ pos 1
first_true text true e h = rw e refl
first_true text false e h = absurd (false≢true h)

allows_by : (text : List ℕ) → (bytes_eq text (codes "true") ≡ true) ⊎ (text ≡ codes "false")
    → allows (literal_kinds (value_of text)) Boolean ≡ true
allows_by text (inl e) = ap (λ n. allows (literal_kinds n) Boolean) (first_true text true e refl)
allows_by text (inr e) = ap (λ t. allows (literal_kinds (value_of t)) Boolean) e

boolean_by : (text : List ℕ) (b : Bool) → is_truth text ≡ b → fits (Some (cond b Boolean Integer)) (Some Boolean) ≡ true
    → allows (literal_kinds (value_of text)) Boolean ≡ true
boolean_by text true e h =
    allows_by text (truth_by text (bytes_eq text (codes "true")) (bytes_eq text (codes "false")) refl refl e)
boolean_by text false e h = absurd (false≢true h)

text_first : (text : Option (List ℕ)) → fits (text_kind text) (Some Boolean) ≡ true
    → allows (literal_kinds (value_in text)) Boolean ≡ true
text_first None h = refl
text_first (Some text) h = boolean_by text (is_truth text) refl h

association_first : (x : Option (Association ℕ)) → first_findings (Some Boolean) x ≡ []
    → allows (literal_kinds (value_in (option_and_then (λ a. only_text (association_value a)) x))) Boolean ≡ true
association_first None none = refl
association_first (Some x) none =
    text_first (only_text (association_value x))
    (is_right (fits (text_kind (only_text (association_value x))) (Some Boolean))
    (association_at x) BAD_TYPE [] none)

kind_first : (kind : Option Kind) (x : Option (Association ℕ)) → first_findings kind x ≡ []
    → allows (literal_kinds (value_in (option_and_then (λ a. only_text (association_value a)) x)))
    (or_integer kind) ≡ true
kind_first None x none = refl
kind_first (Some Integer) x none = refl
kind_first (Some Boolean) x none = association_first x none

-- ---- variables
abbrev HasFirst : Declared → Type 0
HasFirst d = has_first (var_of d) ≡ true

of_names : (P : Declared → Type 0) (v : VariableDeclaration ℕ) (is : List (Identifier ℕ))
    → ((i : Identifier ℕ) → P (variable_of (kind_named v.data_type) (first_of v) i))
    → AllByRecursion P (map (variable_of (kind_named v.data_type) (first_of v)) is)
of_names P v [] each = tt
of_names P v (i ∷ is) each = (each i, of_names P v is each)

all_flat : {A B C : Type 0} (P : B → Type 0) (f : A → List B) (found : A → List C)
    → ((x : A) → found x ≡ [] → AllByRecursion P (f x))
    → (xs : List A) → flat_map found xs ≡ [] → AllByRecursion P (flat_map f xs)
all_flat P f found each [] none = tt
all_flat P f found each (x ∷ xs) none =
    AllByRecursion-append P (f x) (flat_map f xs) (each x (append_is_nil_left (found x) (flat_map found xs) none))
    (all_flat P f found each xs (append_is_nil_right (found x) (flat_map found xs) none))

variable_typed : (v : VariableDeclaration ℕ) → variable_findings v ≡ [] → AllByRecursion IsTyped (variables_in v)
variable_typed v none =
    let kind = kind_named v.data_type in
    let each = append_is_nil_left (flat_map (name_findings kind) (identifiers v.names))
    (first_findings kind (association_named v.properties (name_of Initial))) none in
    let first =
    append_is_nil_left (name_findings kind v.names.first) (flat_map (name_findings kind) v.names.rest) each in
    let is = typed_by kind (is_right (is_some kind) v.names.first.at BAD_TYPE [] first) in
    of_names IsTyped v (identifiers v.names) (λ i. is)

variable_first : (v : VariableDeclaration ℕ) → variable_findings v ≡ [] → AllByRecursion HasFirst (variables_in v)
variable_first v none =
    let kind = kind_named v.data_type in
    let first = append_is_nil_right (flat_map (name_findings kind) (identifiers v.names))
    (first_findings kind (association_named v.properties (name_of Initial))) none in
    of_names HasFirst v (identifiers v.names)
    (λ i. kind_first kind (association_named v.properties (name_of Initial)) first)

pub variables_typed : (annex : AnnexTree ℕ) → variables_findings annex ≡ []
    → AllByRecursion IsTyped (variables_of annex)
variables_typed annex none =
    all_flat IsTyped variables_in variable_findings variable_typed (listed_in annex.variables) none

pub variables_first : (annex : AnnexTree ℕ) → variables_findings annex ≡ []
    → IsTrue (list_all has_first (map var_of (variables_of annex)))
variables_first annex none =
    all_true has_first (map var_of (variables_of annex))
    (AllByRecursion-map (λ v. has_first v ≡ true) var_of (variables_of annex)
    (all_flat HasFirst variables_in variable_findings variable_first (listed_in annex.variables) none))

-- ---- the items that names denote
module _ (b : BehaviourParts) where
  abbrev Fits : DeclaredName → Type 0
  Fits e = FitsMeaning b 0 e.meaning e.kind

  ins_fit : (ds : List Declared) → AllByRecursion IsTyped ds → b.ins ≡ map named_of ds
      → AllByRecursion Fits (map in_entry (enumerate_from 0 ds))
  ins_fit ds typed are =
      AllByRecursion-map Fits in_entry (enumerate_from 0 ds)
      (numbered (λ p. Fits (in_entry p)) ds (λ n d is. (
        named_of d,
        ap (λ l. slice_get l n) are
            ∙ (slice_get-map named_of ds n ∙ ap (option_map named_of) is),
        AllByRecursion-at IsTyped ds n d typed is,
      )))

  outs_fit : (ds : List Declared) → AllByRecursion IsTyped ds → b.outs ≡ map named_of ds
      → AllByRecursion Fits (map out_entry (enumerate_from 0 ds))
  outs_fit ds typed are =
      AllByRecursion-map Fits out_entry (enumerate_from 0 ds)
      (numbered (λ p. Fits (out_entry p)) ds (λ n d is. (
        named_of d,
        ap (λ l. slice_get l n) are
            ∙ (slice_get-map named_of ds n ∙ ap (option_map named_of) is),
        AllByRecursion-at IsTyped ds n d typed is,
      )))

  variables_fit : (ds : List Declared) → AllByRecursion IsTyped ds → b.vars ≡ map var_of ds
      → AllByRecursion Fits (map variable_entry (enumerate_from 0 ds))
  variables_fit ds typed are =
      AllByRecursion-map Fits variable_entry (enumerate_from 0 ds)
      (numbered (λ p. Fits (variable_entry p)) ds (λ n d is. (
        var_of d,
        ap (λ l. slice_get l n) are
            ∙ (slice_get-map var_of ds n ∙ ap (option_map var_of) is),
        AllByRecursion-at IsTyped ds n d typed is,
      )))

  pub scope_fits : (ins outs vars : List Declared) → AllByRecursion IsTyped ins → AllByRecursion IsTyped outs
      → AllByRecursion IsTyped vars
      → b.ins ≡ map named_of ins → b.outs ≡ map named_of outs → b.vars ≡ map var_of vars
      → FitsScope b 0 (scope_by ins outs vars)
  scope_fits ins outs vars i o v ins_are outs_are vars_are =
      let all =
      AllByRecursion-append Fits (map in_entry (enumerate_from 0 ins) ++ map out_entry (enumerate_from 0 outs))
      (map variable_entry (enumerate_from 0 vars))
      (AllByRecursion-append Fits (map in_entry (enumerate_from 0 ins)) (map out_entry (enumerate_from 0 outs))
      (ins_fit ins i ins_are)
      (outs_fit outs o outs_are)) (variables_fit vars v vars_are) in
      record {
        entries =
            λ name e found. found_one Fits (λ k. same_name k.name name) (scope_by ins outs vars).entries e all found;
        next = let long = length-map vars var_of in let same = ap length vars_are in omega (arith, long, same);
      }
