-- Identifiers are words in the trees of a text.
use Rattle.std.proofs.Common.{◌≡◌, ◌∙◌, ℕ, Bool, true, false, ◌&&◌, List, [], ◌∷◌, map, length, nat_le, Option, Some}
use Rattle.std.proofs.Common.{None, IsTrue, refl, sym, ap, subst}
use Rattle.std.specs.Prelude.{flat_map, slice_get, slice_index, option_map, All}
use Rattle.std.specs.List.{list_all, AllByRecursion, cons_option}
use Rattle.std.specs.Char.{is_ascii_alphabetic}
use Rattle.std.proofs.lemmas.List.Elements.{All-from_recursion}
use Rattle.std.proofs.lemmas.Option.{slice_get-map, same_Some}
use Rattle.pals_base.specs.declared.limits.TheConstants.{NAME_BYTES}
use Rattle.pals_base.specs.Names.{is_led_by_letter, is_word_byte, is_word}
use Rattle.aadl_lex.specs.Rules as lex
use Rattle.aadl_tree.specs.declared.names.Identifier as source
use Rattle.aadl_tree.specs.declared.names.Identifiers as source_names
use Rattle.aadl_tree.specs.declared.declarations.TypeDeclaration as source_type
use Rattle.aadl_tree.specs.declared.declarations.Implementation as source_implementation
use Rattle.aadl_tree.specs.declared.declarations.Declaration as source_declaration
use Rattle.aadl_tree.specs.declared.declarations.Declaration.TheVariants as declarations
use Rattle.aadl_tree.specs.declared.annex.VariableDeclaration as source_variable
use Rattle.aadl_tree.specs.declared.annex.StateDeclaration as source_state
use Rattle.aadl_tree.specs.declared.annex.AnnexTree as source_tree
use Rattle.aadl_tree.specs.declared.annex.AnnexContent as source_content
use Rattle.aadl_tree.specs.declared.annex.AnnexContent.TheVariants as contents
use Rattle.aadl_tree.specs.declared.annex.Annex as source_annex
use Rattle.aadl_tree.specs.declared.package.PackageTree as source_package
use Rattle.std.specs.declared.alloc.Global.{Global}
use Rattle.std.specs.declared.vec.Vec.{Vec}
use Rattle.list_lemmas.proofs.Elements.{AllByRecursion-append}
use Rattle.aadl_tree.specs.proof.PlaceMaps.{kept_place}
use Rattle.aadl_tree.specs.Names.{Identifier, identifiers, listed_in}
use Rattle.aadl_tree.specs.proof.NameViews.{identifier_view, identifiers_view}
use Rattle.aadl_tree.specs.proof.AnnexViews.{variable_view, state_view, annex_tree_view, content_view, annex_view}
use Rattle.aadl_tree.specs.proof.DeclarationViews.{feature_view, subcomponent_view, type_view, implementation_view}
use Rattle.aadl_tree.specs.proof.DeclarationViews.{declaration_view}
use Rattle.aadl_tree.specs.Annexes.{AnnexTree, VariableDeclaration, StateDeclaration}
use Rattle.aadl_tree.specs.Declarations.{Feature, Subcomponent, TypeDeclaration, Implementation, type, implementation}
use Rattle.aadl_tree.specs.proof.PackageViews.{placed}
use Rattle.aadl_names.specs.BehaviourAnnexes.{behaviour_in, behaviours, variables_of, states_of}
use Rattle.design_laws.specs.proof.PackageNames.{IsNamed, HasWords}

-- ---- a word token of the lexer is a word
led : (s : List ℕ) → is_ascii_alphabetic (slice_index s 0) ≡ is_led_by_letter s
led [] = refl
led (c ∷ cs) = refl

turned : (a l n : Bool) → (a && l && n) ≡ (n && a && l)
turned true true true = refl
turned true true false = refl
turned true false true = refl
turned true false false = refl
turned false true true = refl
turned false true false = refl
turned false false true = refl
turned false false false = refl

pub same_words : (s : List ℕ) → lex.is_word s ≡ is_word s
same_words s =
    ap (λ b. b && list_all lex.is_in_word s && nat_le (length s) NAME_BYTES) (led s)
    ∙ turned (is_led_by_letter s) (list_all is_word_byte s) (nat_le (length s) NAME_BYTES)

pub identifier_word : (x : source.Identifier) → IsNamed (identifier_view kept_place x)
identifier_word x = subst IsTrue (same_words x.spelling) x.word

-- ---- lists of views
all_viewed : {A B : Type 0} (P : B → Type 0) (v : A → B) → ((x : A) → P (v x)) → (xs : List A)
    → AllByRecursion P (map v xs)
all_viewed P v each [] = tt
all_viewed P v each (x ∷ xs) = (each x, all_viewed P v each xs)

all_flat : {A B C : Type 0} (P : C → Type 0) (v : A → B) (g : B → List C) → ((x : A) → AllByRecursion P (g (v x)))
    → (xs : List A)
    → AllByRecursion P (flat_map g (map v xs))
all_flat P v g each [] = tt
all_flat P v g each (x ∷ xs) =
    AllByRecursion-append P (g (v x)) (flat_map g (map v xs)) (each x) (all_flat P v g each xs)

identifiers_words : (x : source_names.Identifiers)
    → AllByRecursion IsNamed (identifiers (identifiers_view kept_place x))
identifiers_words x =
    (identifier_word x.first, all_viewed IsNamed (identifier_view kept_place) identifier_word x.rest.items)

variables_by : (o : Option (Vec source_variable.VariableDeclaration Global))
    → AllByRecursion IsNamed (flat_map (λ (v : VariableDeclaration ℕ). identifiers v.names)
    (listed_in (option_map (λ xs. map (variable_view kept_place) xs.items) o)))
variables_by None = tt
variables_by (Some vs) =
    all_flat IsNamed (variable_view kept_place) (λ (v : VariableDeclaration ℕ). identifiers v.names)
    (λ v. identifiers_words v.names) vs.items

states_by : (o : Option (Vec source_state.StateDeclaration Global)) → AllByRecursion IsNamed
    (flat_map (λ (s : StateDeclaration ℕ). identifiers s.names)
    (listed_in (option_map (λ xs. map (state_view kept_place) xs.items) o)))
states_by None = tt
states_by (Some vs) = all_flat IsNamed (state_view kept_place) (λ (s : StateDeclaration ℕ). identifiers s.names)
    (λ s. identifiers_words s.names) vs.items

-- ---- the first behaviour of some annexes
module _ (names : AnnexTree ℕ → List (Identifier ℕ)) (each : (x : source_tree.AnnexTree)
    → AllByRecursion IsNamed (names (annex_tree_view kept_place x))) where
  content_words : (at : ℕ) (language : Identifier ℕ) (c : source_content.AnnexContent) (rest : List (ℕ × AnnexTree ℕ))
      (b : ℕ × AnnexTree ℕ)
      → (slice_get rest 0 ≡ Some b → AllByRecursion IsNamed (names b.1))
      → slice_get (cons_option
      (behaviour_in (record { at = at; language = language; content = content_view kept_place c })) rest) 0 ≡ Some b
      → AllByRecursion IsNamed (names b.1)
  content_words at language (contents.Unread bytes) rest b later is = later is
  content_words at language (contents.Behaviour x) rest b later is =
      subst (λ (o : ℕ × AnnexTree ℕ). AllByRecursion IsNamed (names o.1))
      (same_Some (at, annex_tree_view kept_place x) b is) (each x)

  pub first_words : (xs : List source_annex.Annex) (b : ℕ × AnnexTree ℕ)
      → slice_get (behaviours (map (annex_view kept_place) xs)) 0 ≡ Some b
      → AllByRecursion IsNamed (names b.1)
  first_words [] b is = absurd (cc is)
  first_words (x ∷ xs) b is = content_words x.at (identifier_view kept_place x.language) x.content
      (behaviours (map (annex_view kept_place) xs)) b (first_words xs b) is

-- ---- declarations
mapped_from : {X Y : Type 0} (f : X → Y) (o : Option X) (y : Y) → option_map f o ≡ Some y → (x : X) × (f x ≡ y)
mapped_from f None y e = absurd (cc e)
mapped_from f (Some x) y e = (x, same_Some (f x) y e)

module _ (P : TypeDeclaration ℕ → Type 0) (each : (x : source_type.TypeDeclaration) → P (type_view kept_place x)) where
  type_by : (d : source_declaration.Declaration) (x : TypeDeclaration ℕ) → declaration_view kept_place d ≡ type x → P x
  type_by (declarations.Type y) x e = let same : type_view kept_place y ≡ x = cc e in subst P same (each y)
  type_by (declarations.Implementation y) x e = absurd (cc e)

  of_types : (tree : source_package.PackageTree) (n : ℕ) (x : TypeDeclaration ℕ)
      → slice_get (placed tree).declarations n ≡ Some (type x) → P x
  of_types tree n x is =
      let m = mapped_from (declaration_view kept_place) (slice_get tree.declarations.items n) (type x)
      (sym (slice_get-map (declaration_view kept_place) tree.declarations.items n) ∙ is) in
      type_by m.0 x m.1

module _ (P : Implementation ℕ → Type 0)
    (each : (x : source_implementation.Implementation) → P (implementation_view kept_place x)) where
  implementation_by : (d : source_declaration.Declaration) (x : Implementation ℕ)
      → declaration_view kept_place d ≡ implementation x → P x
  implementation_by (declarations.Type y) x e = absurd (cc e)
  implementation_by (declarations.Implementation y) x e = let same : implementation_view kept_place y ≡ x = cc e in
      subst P same (each y)

  of_implementations : (tree : source_package.PackageTree) (n : ℕ) (x : Implementation ℕ)
      → slice_get (placed tree).declarations n ≡ Some (implementation x) → P x
  of_implementations tree n x is =
      let m = mapped_from (declaration_view kept_place) (slice_get tree.declarations.items n) (implementation x)
      (sym (slice_get-map (declaration_view kept_place) tree.declarations.items n) ∙ is) in
      implementation_by m.0 x m.1

abbrev PortWords : TypeDeclaration ℕ → Type 0
PortWords x = All (λ (f : Feature ℕ). IsNamed f.name) x.features

port_words : (x : source_type.TypeDeclaration) → PortWords (type_view kept_place x)
port_words x =
    All-from_recursion (λ (f : Feature ℕ). IsNamed f.name) _
    (all_viewed (λ (f : Feature ℕ). IsNamed f.name) (feature_view kept_place)
    (λ f. identifier_word f.name) x.features.items)

abbrev SubWords : Implementation ℕ → Type 0
SubWords x = All (λ (s : Subcomponent ℕ). IsNamed s.name) x.subcomponents

sub_words : (x : source_implementation.Implementation) → SubWords (implementation_view kept_place x)
sub_words x =
    All-from_recursion (λ (s : Subcomponent ℕ). IsNamed s.name) _ (all_viewed (λ (s : Subcomponent ℕ). IsNamed s.name)
    (subcomponent_view kept_place) (λ s. identifier_word s.name) x.subcomponents.items)

abbrev AnnexWords : (AnnexTree ℕ → List (Identifier ℕ)) → Implementation ℕ → Type 0
AnnexWords names x = (b : ℕ × AnnexTree ℕ) → slice_get (behaviours x.annexes) 0 ≡ Some b → All IsNamed (names b.1)

annex_words : (names : AnnexTree ℕ → List (Identifier ℕ)) → ((x : source_tree.AnnexTree)
    → AllByRecursion IsNamed (names (annex_tree_view kept_place x)))
    → (x : source_implementation.Implementation) → AnnexWords names (implementation_view kept_place x)
annex_words names each x = λ b is. All-from_recursion IsNamed (names b.1) (first_words names each x.annexes.items b is)

pub have_words : (tree : source_package.PackageTree) → HasWords (placed tree)
have_words tree = record {
  ports = λ n x is. of_types PortWords port_words tree n x is;
  subs = λ n x is. of_implementations SubWords sub_words tree n x is;
  variables = λ n x b is first. of_implementations (AnnexWords variables_of)
      (annex_words variables_of (λ t. variables_by t.variables)) tree n x is b first;
  states =
      λ n x b is first. of_implementations (AnnexWords states_of) (annex_words states_of (λ t. states_by t.states)) tree
      n x is b first;
}
