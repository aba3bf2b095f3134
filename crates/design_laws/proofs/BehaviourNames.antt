-- The names of a behaviour's ports, variables and states are the names in the text. They are distinct words.
use Rattle.std.proofs.Common.{◌≡◌, ◌≢◌, ◌∙◌, ℕ, Bool, true, false, not, List, [], ◌∷◌, ◌++◌, map, AllPairs, Option}
use Rattle.std.proofs.Common.{Some, None, refl, sym, ap, subst}
use Rattle.std.specs.Prelude.{flat_map, filter, IsTrue, All}
use Rattle.std.specs.List.{AllByRecursion, list_all}
use Rattle.std.proofs.lemmas.Bool.{false≢true}
use Rattle.std.proofs.lemmas.List.{map-append}
use Rattle.std.proofs.lemmas.List.Elements.{recursion_from_All}
use Rattle.list_lemmas.proofs.Elements.{AllByRecursion-weaker, AllByRecursion-append, AllByRecursion-map}
use Rattle.list_lemmas.proofs.PairwiseProperties.{Pairs, pairs_append, pairs_weaker, pairs_map, all_pairs_from}
use Rattle.list_lemmas.proofs.PairwiseProperties.{pairs_from}
use Rattle.pals_base.specs.declared.behaviour.PortDecl.{PortDecl}
use Rattle.pals_base.specs.declared.behaviour.VarDecl.{VarDecl}
use Rattle.pals_base.specs.declared.behaviour.StateDecl.{StateDecl}
use Rattle.pals_base.specs.Names.{is_word, AreDistinct}
use Rattle.pals_base.specs.BehaviourRules.{has_word}
use Rattle.aadl_tree.specs.Names.{Identifier, same_name, identifiers, listed_in}
use Rattle.aadl_tree.specs.Annexes.{VariableDeclaration, StateDeclaration, AnnexTree}
use Rattle.aadl_tree.specs.Declarations.{Feature}
use Rattle.aadl_names.specs.declared.declared_name.SpelledName.{SpelledName}
use Rattle.aadl_names.specs.DuplicateNames.{entry_of}
use Rattle.aadl_names.specs.DuplicatesByNamespace.{port_entries, variable_entries, state_entries}
use Rattle.aadl_names.specs.BehaviourAnnexes as names
use Rattle.aadl_names.proofs.DuplicatesBesidePorts.{same_name-swapped}
use Rattle.annex_resolve.specs.declared.states.StateAt.{StateAt}
use Rattle.annex_resolve.specs.BehavioursAndFindings.{state_at, states_in, states_of, declared}
use Rattle.component_checks.specs.TypeFindings.{is_in}
use Rattle.model_violations.specs.declared.port_or_variable.Declared.{Declared}
use Rattle.model_violations.specs.PortsAndVariables.{port_of, ins_in, outs_in, variables_in, variables_of, named_of}
use Rattle.model_violations.specs.PortsAndVariables.{var_of}
use Rattle.design_laws.specs.proof.PackageNames.{IsNamed, Differ}
use Rattle.design_laws.proofs.PairwiseDistinctNames.{same_itself, Differs}
use Rattle.design_laws.proofs.ElementAndPairwiseProperties.{all_unmapped, pairs_unmapped, pairs_first, pairs_second}
use Rattle.design_laws.proofs.ElementAndPairwiseProperties.{pairs_across}
use Rattle.design_laws.proofs.ElementAndPairwiseProperties.{all_kept, split, all_true}

-- ---- distinct names
abbrev Apart : List ℕ → List ℕ → Type 0
Apart a b = same_name a b ≡ false

other : (a b : List ℕ) → Apart a b → a ≢ b
other a b differ e = let same : same_name a b ≡ true = subst (λ c. same_name a c ≡ true) e (same_itself a) in
    absurd (false≢true (sym differ ∙ same))

turned_by : (x y : Bool) → (y ≡ true → x ≡ true) → x ≡ false → y ≡ false
turned_by x true back e = absurd (false≢true (sym e ∙ back refl))
turned_by x false back e = refl

turned : (a b : List ℕ) → Apart a b → Apart b a
turned a b e = turned_by (same_name a b) (same_name b a) (same_name-swapped b a) e

abbrev spelling : Identifier ℕ → List ℕ
spelling x = x.spelling

abbrev port_name : Feature ℕ → List ℕ
port_name f = f.name.spelling

-- ---- the names of a behaviour are the names in the text
ins_named : (fs : List (Feature ℕ)) → map (λ (p : PortDecl). p.name) (map named_of (map port_of fs)) ≡ map port_name fs
ins_named [] = refl
ins_named (f ∷ fs) = ap (λ l. f.name.spelling ∷ l) (ins_named fs)

some_named : (v : VariableDeclaration ℕ) (is : List (Identifier ℕ)) (of : Identifier ℕ → Declared)
    → ((i : Identifier ℕ) → (var_of (of i)).name ≡ i.spelling)
    → map (λ (d : VarDecl). d.name) (map var_of (map of is)) ≡ map spelling is
some_named v [] of each = refl
some_named v (i ∷ is) of each = ap (λ n. n ∷ map (λ (d : VarDecl). d.name) (map var_of (map of is))) (each i)
    ∙ ap (λ l. i.spelling ∷ l) (some_named v is of each)

vars_named : (vs : List (VariableDeclaration ℕ))
    → map (λ (d : VarDecl). d.name) (map var_of (flat_map variables_in vs)) ≡ map spelling
    (flat_map (λ (v : VariableDeclaration ℕ). identifiers v.names) vs)
vars_named [] = refl
vars_named (v ∷ vs) =
    let here = identifiers v.names in
    let rest = flat_map variables_in vs in
    ap (map (λ (d : VarDecl). d.name)) (map-append var_of (variables_in v) rest)
    ∙ (map-append (λ (d : VarDecl). d.name) (map var_of (variables_in v)) (map var_of rest)
    ∙ (ap (λ l. l ++ map (λ (d : VarDecl). d.name) (map var_of rest)) (some_named v here _ (λ i. refl))
    ∙ (ap (λ l. map spelling here ++ l) (vars_named vs)
    ∙ sym (map-append spelling here (flat_map (λ (w : VariableDeclaration ℕ). identifiers w.names) vs)))))

same_variables : (o : Option (List (VariableDeclaration ℕ)))
    → map (λ (d : VarDecl). d.name) (map var_of (flat_map variables_in (listed_in o))) ≡ map spelling
    (flat_map (λ (v : VariableDeclaration ℕ). identifiers v.names) (listed_in o))
same_variables None = refl
same_variables (Some vs) = vars_named vs

some_states : (s : StateDeclaration ℕ) (is : List (Identifier ℕ))
    → map (λ (d : StateAt). d.name) (map (state_at s) is) ≡ map spelling is
some_states s [] = refl
some_states s (i ∷ is) = ap (λ l. i.spelling ∷ l) (some_states s is)

states_named : (ss : List (StateDeclaration ℕ)) → map (λ (d : StateAt). d.name) (flat_map states_in ss) ≡ map spelling
    (flat_map (λ (s : StateDeclaration ℕ). identifiers s.names) ss)
states_named [] = refl
states_named (s ∷ ss) =
    map-append (λ (d : StateAt). d.name) (states_in s) (flat_map states_in ss)
    ∙ (ap (λ l. l ++ map (λ (d : StateAt). d.name) (flat_map states_in ss)) (some_states s (identifiers s.names))
    ∙ (ap (λ l. map spelling (identifiers s.names) ++ l) (states_named ss)
    ∙ sym (map-append spelling (identifiers s.names) (flat_map (λ (t : StateDeclaration ℕ). identifiers t.names) ss))))

pub same_states : (o : Option (List (StateDeclaration ℕ)))
    → map (λ (d : StateAt). d.name) (flat_map states_in (listed_in o)) ≡ map spelling
    (flat_map (λ (s : StateDeclaration ℕ). identifiers s.names) (listed_in o))
same_states None = refl
same_states (Some ss) = states_named ss

-- ---- ports and variables
abbrev pub IsPort : Feature ℕ → Type 0
IsPort f = IsTrue (is_word f.name.spelling)

module _ (ports : List (Feature ℕ)) (annex : AnnexTree ℕ) where
  ids : List (Identifier ℕ)
  ids = names.variables_of annex

  ins : List (Feature ℕ)
  ins = filter is_in ports

  outs : List (Feature ℕ)
  outs = filter (λ f. not (is_in f)) ports

  -- the names in the text
  text_names : List (List ℕ)
  text_names = map port_name (ins ++ outs) ++ map spelling ids

  abbrev pub value_list : List (List ℕ)
  value_list =
      map (λ (p : PortDecl). p.name) (map named_of (ins_in ports))
      ++ map (λ (p : PortDecl). p.name) (map named_of (outs_in ports)) ++ map
      (λ (d : VarDecl). d.name) (map var_of (variables_of annex))

  same_values : value_list ≡ text_names
  unfolding text_names ins outs ids
  same_values =
      let vars = map (λ (d : VarDecl). d.name) (map var_of (variables_of annex)) in
      let outs_of = map (λ (p : PortDecl). p.name) (map named_of (outs_in ports)) in
      ap (λ l. l ++ outs_of ++ vars) (ins_named (filter is_in ports))
      ∙ (ap (λ l. map port_name (filter is_in ports) ++ l ++ vars) (ins_named (filter (λ f. not (is_in f)) ports))
      ∙ (ap (λ l. l ++ vars) (sym (map-append port_name (filter is_in ports) (filter (λ f. not (is_in f)) ports)))
      ∙ ap (λ l. map port_name (filter is_in ports ++ filter (λ f. not (is_in f)) ports) ++ l)
      (same_variables annex.variables)))

  abbrev entry_port : Feature ℕ → SpelledName
  entry_port f = entry_of f.name

  text_apart : Differ (port_entries ports ++ variable_entries annex) → Pairs Apart text_names
  unfolding text_names ins outs ids
  text_apart differ =
      let all = pairs_from Differs (port_entries ports ++ variable_entries annex) differ in
      let of_ports =
      pairs_unmapped Differs entry_port ports
      (pairs_first Differs (port_entries ports) (variable_entries annex) all) in
      let of_variables = pairs_unmapped Differs entry_of (names.variables_of annex)
      (pairs_second Differs (port_entries ports) (variable_entries annex) all) in
      let across = all_unmapped (λ e. AllByRecursion (Differs e) (variable_entries annex)) entry_port ports
      (pairs_across Differs (port_entries ports) (variable_entries annex) all) in
      let cross = AllByRecursion-weaker (λ f. AllByRecursion (Differs (entry_port f)) (variable_entries annex))
      (λ f. AllByRecursion (Apart (port_name f)) (map spelling (names.variables_of annex)))
      (λ f h. AllByRecursion-map (Apart (port_name f)) spelling (names.variables_of annex)
      (all_unmapped (Differs (entry_port f)) entry_of (names.variables_of annex) h)) ports across in
      let halves =
      split (λ f g. Apart (port_name f) (port_name g)) (λ f g. turned (port_name f) (port_name g)) is_in
      ports of_ports in
      let fs = filter is_in ports ++ filter (λ f. not (is_in f)) ports in
      let P = λ (f : Feature ℕ). AllByRecursion (Apart (port_name f)) (map spelling (names.variables_of annex)) in
      pairs_append Apart (map port_name fs) (map spelling (names.variables_of annex))
      (pairs_map Apart port_name fs halves)
      (pairs_map Apart spelling (names.variables_of annex) of_variables)
      (AllByRecursion-map (λ n. AllByRecursion (Apart n) (map spelling (names.variables_of annex))) port_name fs
      (AllByRecursion-append P (filter is_in ports) (filter (λ f. not (is_in f)) ports) (all_kept P is_in ports cross)
      (all_kept P (λ f. not (is_in f)) ports cross)))

  text_words : All IsPort ports → All IsNamed (names.variables_of annex)
      → AllByRecursion (λ n. is_word n ≡ true) text_names
  unfolding text_names ins outs ids
  text_words of_ports of_variables =
      let p = recursion_from_All IsPort ports of_ports in
      let fs = filter is_in ports ++ filter (λ f. not (is_in f)) ports in
      AllByRecursion-append (λ n. is_word n ≡ true) (map port_name fs) (map spelling (names.variables_of annex))
      (AllByRecursion-map (λ n. is_word n ≡ true) port_name fs
      (AllByRecursion-append IsPort (filter is_in ports) (filter (λ f. not (is_in f)) ports)
      (all_kept IsPort is_in ports p) (all_kept IsPort (λ f. not (is_in f)) ports p)))
      (AllByRecursion-map (λ n. is_word n ≡ true) spelling (names.variables_of annex)
      (recursion_from_All IsNamed (names.variables_of annex) of_variables))

  pub values_apart : Differ (port_entries ports ++ variable_entries annex) → AreDistinct value_list
  values_apart differ = all_pairs_from (λ a b. a ≢ b) value_list (pairs_weaker Apart (λ a b. a ≢ b) other value_list
      (subst (Pairs Apart) (sym same_values) (text_apart differ)))

  pub values_words : All IsPort ports → All IsNamed (names.variables_of annex) → IsTrue (list_all is_word value_list)
  values_words of_ports of_variables =
      all_true is_word value_list (subst (AllByRecursion (λ n. is_word n ≡ true)) (sym same_values)
      (text_words of_ports of_variables))

-- ---- states
module _ (annex : AnnexTree ℕ) where
  state_list : List StateAt
  state_list = states_of annex

  abbrev state_name : StateAt → List ℕ
  state_name s = s.name

  apart_names : Differ (state_entries annex) → Pairs Apart (map state_name (states_of annex))
  apart_names differ =
      subst (Pairs Apart) (sym (same_states annex.states))
      (pairs_map Apart spelling (names.states_of annex) (pairs_unmapped Differs entry_of (names.states_of annex)
      (pairs_from Differs (state_entries annex) differ)))

  pub states_apart : Differ (state_entries annex)
      → AllPairs (λ (s t : StateDecl). s.name ≢ t.name) (map declared (states_of annex))
  states_apart differ =
      all_pairs_from (λ (s t : StateDecl). s.name ≢ t.name) (map declared (states_of annex))
      (pairs_map (λ (s t : StateDecl). s.name ≢ t.name) declared (states_of annex)
      (pairs_weaker (λ (s t : StateAt). Apart s.name t.name) (λ (s t : StateAt). s.name ≢ t.name)
      (λ s t. other s.name t.name) (states_of annex)
      (pairs_unmapped Apart state_name (states_of annex) (apart_names differ))))

  pub states_words : All IsNamed (names.states_of annex) → IsTrue (list_all has_word (map declared (states_of annex)))
  states_words words =
      all_true has_word (map declared (states_of annex))
      (AllByRecursion-map (λ d. has_word d ≡ true) declared (states_of annex)
      (all_unmapped (λ n. is_word n ≡ true) state_name (states_of annex)
      (subst (AllByRecursion (λ n. is_word n ≡ true)) (sym (same_states annex.states))
      (AllByRecursion-map (λ n. is_word n ≡ true) spelling (names.states_of annex)
      (recursion_from_All IsNamed (names.states_of annex) words)))))
