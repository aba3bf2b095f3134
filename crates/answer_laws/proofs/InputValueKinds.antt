-- For the law that Booleans of a scenario's runs are 0 or 1: the values that its inputs give fit the kinds of the
-- root in ports.
use Rattle.std.proofs.Common.{◌≡◌, ℕ, zero, suc, Bool, true, false, cond, List, [], ◌∷◌, ◌++◌, length, replicate}
use Rattle.std.proofs.Common.{slice_get, codes, decimal, Option, Some, None, Ok, sym, ap, ◌∙◌, subst}
use Rattle.std.specs.Prelude.{bytes_eq, position, slice_index_or, slice_set, is_some}
use Rattle.std.proofs.lemmas.List.Elements.{All-nil, All-cons, All-append}
use Rattle.std.proofs.lemmas.Option.{same_Some}
use Rattle.std.proofs.lemmas.Slice.Eq.{bytes_eq-Decides}
use Rattle.serde_json.specs.Data.{Data}
use Rattle.serde_json.specs.Find.{as_null, as_bool}
use Rattle.pals_base.specs.declared.behaviour.Kind.{Kind}
use Rattle.pals_base.specs.declared.behaviour.Kind.TheVariants.{Integer, Boolean}
use Rattle.pals_base.specs.declared.basic_types.PortValue.{PortValue}
use Rattle.pals_base.specs.declared.basic_types.PortValue.TheVariants.{Absent, Present}
use Rattle.pals_base.specs.ExpressionValues.{truth}
use Rattle.pals_base.proofs.ColumnsAndCutTuples.{get_or-column}
use Rattle.pals_model.specs.declared.design.DesignParts.{DesignParts}
use Rattle.pals_model.specs.declared.environment.Env.{Env}
use Rattle.pals_model.specs.ComponentInputs.{root_inputs}
use Rattle.pals_model.specs.PortKindsAndRates.{root_kind}
use Rattle.pals_model.proofs.FirstMatches.{found_at}
use Rattle.scenario_values.specs.declared.fault.ScenarioFault.TheVariants.{WrongKind, Unknown}
use Rattle.scenario_values.specs.ResultCombinators.{◌>>=◌, given, through}
use Rattle.scenario_values.specs.FaultPlaces.{inside}
use Rattle.scenario_values.specs.FieldValues.{elements, entries, number, present, port_value}
use Rattle.scenario_values.specs.NameLookup.{root_at}
use Rattle.scenario_values.proofs.SuccessfulResults.{ok_same, ok_bind, ok_given, through_keeps}
use Rattle.scenario_json.specs.InputsAndDelays.{with_value, value_list, with_input, inputs_in}
use Rattle.scenario_json.specs.Scenarios.{field}
use Rattle.pals_model.specs.proof.ValuesFitKinds.{PortFits, TupleFits, EnvFits}
use Rattle.pals_model.proofs.AllElements.{index_fits, set_keeps}
use Rattle.pals_model.proofs.ExpressionsFitKinds.{truth_fits}

-- ---- values
present_fits : (kind : Kind) (place : List ℕ) (d : Data) (v : PortValue) → present kind place d ≡ Ok v → PortFits kind v
present_fits Integer place d v e =
    let z = ok_bind (number place d) (λ n. Ok (Present n)) v e in
    subst (PortFits Integer) (ok_same (Present z.0) v z.2) tt
present_fits Boolean place d v e =
    let b = ok_bind (given (WrongKind place) (as_bool d)) (λ x. Ok (Present (truth x))) v e in
    subst (PortFits Boolean) (ok_same (Present (truth b.0)) v b.2) (truth_fits b.0)

value_by : (kind : Kind) (place : List ℕ) (d : Data) (v : PortValue) (none : Bool)
    → cond none (Ok Absent) (present kind place d) ≡ Ok v → PortFits kind v
value_by kind place d v true e = subst (PortFits kind) (ok_same Absent v e) tt
value_by kind place d v false e = present_fits kind place d v e

pub value_fits : (kind : Kind) (place : List ℕ) (d : Data) (v : PortValue) → port_value kind place d ≡ Ok v
    → PortFits kind v
unfolding port_value
value_fits kind place d v e = value_by kind place d v (is_some (as_null d)) e

more_fit : (kind : Kind) (place : List ℕ) (values : List PortValue) (d : Data) (more : List PortValue)
    → TupleFits kind values
    → with_value kind place values d ≡ Ok more → TupleFits kind more
more_fit kind place values d more fits e =
    let v = ok_bind (port_value kind (inside place (decimal (length values))) d) (λ x. Ok (values ++ x ∷ [])) more e in
    subst (TupleFits kind) (ok_same (values ++ v.0 ∷ []) more v.2)
    (All-append (PortFits kind) values (v.0 ∷ []) fits
    (All-cons (PortFits kind) v.0 [] (value_fits kind (inside place (decimal (length values))) d v.0 v.1)
    (All-nil (PortFits kind))))

list_fits : (kind : Kind) (place : List ℕ) (d : Data) (values : List PortValue) → value_list kind place d ≡ Ok values
    → TupleFits kind values
unfolding value_list
list_fits kind place d values e =
    let ds = ok_bind (elements place d) (λ xs. through (with_value kind place) [] xs) values e in
    through_keeps (TupleFits kind) (with_value kind place)
    (λ so_far x more fits one. more_fit kind place so_far x more fits one) [] ds.0 values
    (All-nil (PortFits kind)) ds.2

-- ---- the lists of all root in ports
abbrev pub ListsFit : DesignParts → List (List PortValue) → Type 0
ListsFit design lists =
    (number : ℕ) (name : List ℕ) → slice_get (root_inputs design) number ≡ Some name
    → TupleFits (root_kind design name) (slice_index_or lists number [])

root_is : (place : List ℕ) (design : DesignParts) (name : List ℕ) (root : ℕ) → root_at place design name ≡ Ok root
    → slice_get (root_inputs design) root ≡ Some name
unfolding root_at
root_is place design name root e =
    let at =
    found_at (bytes_eq name) (root_inputs design) root
    (ok_given (Unknown place) (position (bytes_eq name) (root_inputs design)) root e) in
    at.1 ∙ ap Some (sym ((bytes_eq-Decides name at.0).0 at.2))

input_fits : (design : DesignParts) (lists : List (List PortValue)) (entry : List ℕ × Data)
    (more : List (List PortValue))
    → ListsFit design lists → with_input design lists entry ≡ Ok more → ListsFit design more
unfolding with_input
input_fits design lists entry more fit e =
    let place = inside (codes "inputs") entry.0 in
    let kind = root_kind design entry.0 in
    let root =
    ok_bind (root_at place design entry.0)
    (λ r. value_list kind place entry.1 >>= λ values. Ok (slice_set lists r values)) more e in
    let values = ok_bind (value_list kind place entry.1) (λ vs. Ok (slice_set lists root.0 vs)) more root.2 in
    let fits = list_fits kind place entry.1 values.0 values.1 in
    let own = root_is place design entry.0 root.0 root.1 in
    subst (ListsFit design) (ok_same (slice_set lists root.0 values.0) more values.2)
    (λ number name is.
    set_keeps (TupleFits (root_kind design name)) lists root.0 number values.0 []
    (λ same. subst (λ n. TupleFits (root_kind design n) values.0)
    (same_Some entry.0 name (sym own ∙ ap (slice_get (root_inputs design)) (sym same) ∙ is)) fits)
    (fit number name is))

none_at : (kind : Kind) (n k : ℕ) → TupleFits kind (slice_index_or (replicate n []) k [])
none_at kind zero k = All-nil (PortFits kind)
none_at kind (suc n) zero = All-nil (PortFits kind)
none_at kind (suc n) (suc k) = none_at kind n k

no_inputs_fit : (design : DesignParts) → ListsFit design (replicate (length (root_inputs design)) [])
no_inputs_fit design = λ number name is. none_at (root_kind design name) (length (root_inputs design)) number

inputs_fit : (design : DesignParts) (d : Data) (lists : List (List PortValue)) → inputs_in design d ≡ Ok lists
    → ListsFit design lists
unfolding inputs_in
inputs_fit design d lists e =
    let first = replicate (length (root_inputs design)) [] in
    let members = ok_bind (entries (codes "inputs") d) (λ es. through (with_input design) first es) lists e in
    through_keeps (ListsFit design) (with_input design)
    (λ so_far entry more fit one. input_fits design so_far entry more fit one) first members.0 lists
    (no_inputs_fit design) members.2

pub inputs_field_fit : (design : DesignParts) (o : Option Data) (lists : List (List PortValue))
    → field (codes "inputs") false (replicate (length (root_inputs design)) []) (inputs_in design) o ≡ Ok lists
    → ListsFit design lists
inputs_field_fit design None lists e =
    subst (ListsFit design) (ok_same (replicate (length (root_inputs design)) []) lists e) (no_inputs_fit design)
inputs_field_fit design (Some d) lists e = inputs_fit design d lists e

-- ---- their environment
pub lists_to_env : (design : DesignParts) (env : Env) → ListsFit design env.lists → EnvFits design env
lists_to_env design env fit = λ round number name is.
    subst (PortFits (root_kind design name)) (sym (get_or-column env.lists round number))
    (index_fits (PortFits (root_kind design name)) (slice_index_or env.lists number []) round Absent
    (fit number name is) tt)
