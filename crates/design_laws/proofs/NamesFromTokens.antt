-- The names of the package of a text are words: each part of the tree is at a token of the text.
use Rattle.std.proofs.Common.{◌≡◌, inl, inr, ℕ, zero, suc, Bool, false, List, [], ◌∷◌, ◌++◌, Option, Some, None, All}
use Rattle.std.proofs.Common.{IsTrue, refl, ap, subst}
use Rattle.std.specs.Prelude.{flat_map, slice_get}
use Rattle.std.specs.List.{AllByRecursion}
use Rattle.std.proofs.lemmas.List.Elements.{All-from_recursion, recursion_from_All}
use Rattle.std.proofs.lemmas.Option.{same_Some}
use Rattle.list_lemmas.proofs.Elements.{AllByRecursion-append}
use Rattle.aadl_lex.specs.declared.token.Token.{Token}
use Rattle.aadl_lex.specs.declared.token.TokenKind.{TokenKind}
use Rattle.aadl_lex.specs.declared.token.TokenKind.TheVariants as class
use Rattle.aadl_lex.specs.Rules.{is_word}
use Rattle.aadl_lex.specs.proof.TokenSpellings.{IsWordAt}
use Rattle.aadl_lex.specs.TokensAndFirstFaults.{bytes_of}
use Rattle.aadl_lex.proofs.TokensAsWritten.{words_of}
use Rattle.aadl_tree.specs.declared.mark.Mark.{Mark}
use Rattle.aadl_tree.specs.declared.mark.Mark.TheVariants as k
use Rattle.aadl_tree.specs.KeywordsAndSymbols.{keyword_of, symbol_of}
use Rattle.aadl_tree.specs.Terminals.{PlainTerminal, word, whole, real, quoted, unread, mark, other, word_kind}
use Rattle.aadl_tree.specs.Terminals.{symbol_kind}
use Rattle.aadl_tree.specs.Terminals.{class_kind, PlacedTerminal, spots_from, placed_terminals, inside_behind}
use Rattle.aadl_tree.specs.SpellingParts.{Section, feature_section, subcomponent_section, connection_section}
use Rattle.aadl_tree.specs.SpellingParts.{property_section, extra_kinds, SpellingPart, token, may, plain, parts_if}
use Rattle.aadl_tree.specs.SpellingParts.{behind}
use Rattle.aadl_tree.specs.SpellingParts.{HaveKinds, Written}
use Rattle.aadl_tree.specs.Names.{Identifier, Identifiers, identifier_parts, identifiers_parts, name_parts, identifiers}
use Rattle.aadl_tree.specs.Names.{listed_in}
use Rattle.aadl_tree.specs.Values.{associations_parts}
use Rattle.aadl_tree.specs.Annexes.{VariableDeclaration, StateDeclaration, AnnexTree, AnnexContent, foreign, behaviour}
use Rattle.aadl_tree.specs.Annexes.{Annex, variable_parts, state_parts, declared_parts, annex_tree_parts, content_parts}
use Rattle.aadl_tree.specs.Annexes.{annex_parts}
use Rattle.aadl_tree.specs.Declarations.{Feature, Subcomponent, TypeDeclaration, Implementation, Declaration, type}
use Rattle.aadl_tree.specs.Declarations.{implementation, PackageTree, section_parts, feature_parts, subcomponent_parts}
use Rattle.aadl_tree.specs.Declarations.{connection_parts, type_parts, ending_parts, implementation_name_parts}
use Rattle.aadl_tree.specs.Declarations.{implementation_parts, declaration_parts, with_parts, package_parts}
use Rattle.aadl_tree.specs.TextTreesAndFaults.{IsTreeOf}
use Rattle.aadl_names.specs.BehaviourAnnexes.{behaviours, variables_of, states_of}
use Rattle.design_laws.specs.proof.PackageNames.{IsNamed, HasWords}
use Rattle.design_laws.proofs.IdentifiersAreWords.{same_words}

-- ---- terminals that are words
abbrev IsWordKind : PlainTerminal → Type 0
IsWordKind (word bytes) = IsTrue (is_word bytes)
IsWordKind (whole number) = Unit {0}
IsWordKind (real bytes) = Unit {0}
IsWordKind (quoted bytes) = Unit {0}
IsWordKind (unread bytes) = Unit {0}
IsWordKind (mark m) = Unit {0}
IsWordKind (other bytes) = Unit {0}

abbrev IsWordSpot : PlacedTerminal → Type 0
IsWordSpot s = IsWordKind s.kind

by_keyword : (bytes : List ℕ) (m : Option Mark) → IsTrue (is_word bytes) → IsWordKind (word_kind bytes m)
by_keyword bytes None h = h
by_keyword bytes (Some m) h = tt

by_symbol : (bytes : List ℕ) (m : Option Mark) → IsWordKind (symbol_kind bytes m)
by_symbol bytes None = tt
by_symbol bytes (Some m) = tt

by_class : (inside : Bool) (kind : TokenKind) (bytes : List ℕ) → (kind ≡ class.Word → IsTrue (is_word bytes))
    → IsWordKind (class_kind inside kind bytes)
by_class inside class.Word bytes h = by_keyword bytes (keyword_of inside bytes) (h refl)
by_class inside (class.Whole n) bytes h = tt
by_class inside class.Real bytes h = tt
by_class inside class.Quoted bytes h = tt
by_class inside class.Symbol bytes h = by_symbol bytes (symbol_of bytes)
by_class inside class.AnnexOpen bytes h = tt
by_class inside class.AnnexClose bytes h = tt
by_class inside class.Unread bytes h = tt

spots_words : (inside : Bool) (text : List ℕ) (ts : List Token) → AllByRecursion (IsWordAt text) ts
    → AllByRecursion IsWordSpot (spots_from inside text ts)
spots_words inside text [] h = tt
spots_words inside text (t ∷ ts) h =
    (by_class inside t.kind (bytes_of text t) h.0, spots_words (inside_behind inside t.kind) text ts h.1)

-- ---- the parts at these terminals
abbrev IsWordPart : SpellingPart ℕ → Type 0
IsWordPart (token kind places) = IsWordKind kind
IsWordPart (may extra) = Unit {0}

record AreWords (parts : List (SpellingPart ℕ)) : Type 0 where
  each : AllByRecursion IsWordPart parts

kinds_passed : (ks : List PlainTerminal) (ss rest : List PlacedTerminal) → HaveKinds ks ss rest
    → AllByRecursion IsWordSpot ss
    → AllByRecursion IsWordSpot rest
kinds_passed [] ss rest have h = subst (AllByRecursion IsWordSpot) have h
kinds_passed (k ∷ ks) ss rest have h = kinds_passed ks have.1 rest have.4 (subst (AllByRecursion IsWordSpot) have.2 h).1

written_words : (parts : List (SpellingPart ℕ)) (ss rest : List PlacedTerminal) → Written parts ss rest
    → AllByRecursion IsWordSpot ss
    → AllByRecursion IsWordPart parts
written_words [] ss rest w h = tt
written_words (token kind places ∷ parts) ss rest w h =
    let here = subst (AllByRecursion IsWordSpot) w.2 h in
    (subst IsWordKind w.3 here.0, written_words parts w.1 rest w.5 here.1)
written_words (may extra ∷ parts) ss rest (inl w) h = (tt, written_words parts ss rest w h)
written_words (may extra ∷ parts) ss rest (inr w) h =
    (tt, written_words parts w.0 rest w.2 (kinds_passed (extra_kinds extra) ss w.0 w.1 h))

-- ---- some of them
front_by : (a b : List (SpellingPart ℕ)) → AllByRecursion IsWordPart (a ++ b) → AllByRecursion IsWordPart a
front_by [] b h = tt
front_by (x ∷ a) b h = (h.0, front_by a b h.1)

back_by : (a b : List (SpellingPart ℕ)) → AllByRecursion IsWordPart (a ++ b) → AllByRecursion IsWordPart b
back_by [] b h = h
back_by (x ∷ a) b h = back_by a b h.1

front : (a b : List (SpellingPart ℕ)) → AreWords (a ++ b) → AreWords a
front a b h = record { each = front_by a b h.each }

back : (a b : List (SpellingPart ℕ)) → AreWords (a ++ b) → AreWords b
back a b h = record { each = back_by a b h.each }

tail : (a : SpellingPart ℕ) (b : List (SpellingPart ℕ)) → AreWords (a ∷ b) → AreWords b
tail a b h = record { each = h.each.1 }

in_section : (s : Section) (ps : List (SpellingPart ℕ)) → AreWords (section_parts s ps) → AreWords ps
in_section s [] h = record { each = tt }
in_section s (p ∷ ps) h = tail (plain k.Semicolon) (p ∷ ps) (record { each = (tt, h.each.1) })

module _ {V : Type 0} (f : V → List (SpellingPart ℕ)) (P : V → Type 0) (from : (v : V) → AreWords (f v) → P v) where
  each_of : (vs : List V) → AreWords (flat_map f vs) → AllByRecursion P vs
  each_of [] h = tt
  each_of (v ∷ vs) h = (from v (front (f v) (flat_map f vs) h), each_of vs (back (f v) (flat_map f vs) h))

-- ---- names
named : (x : Identifier ℕ) → AreWords (identifier_parts x) → IsNamed x
named x h = subst IsTrue (same_words x.spelling) h.each.0

all_named : (x : Identifiers ℕ) → AreWords (identifiers_parts x) → AllByRecursion IsNamed (identifiers x)
all_named x h = (
  named x.first (front (identifier_parts x.first) _ h),
  each_of (behind k.Comma identifier_parts) IsNamed
      (λ y g. named y (tail (plain k.Comma) (identifier_parts y) g)) x.rest
      (back (identifier_parts x.first) (flat_map (behind k.Comma identifier_parts) x.rest) h),
)

ports_named : (x : TypeDeclaration ℕ) → AreWords (type_parts x) → All (λ (f : Feature ℕ). IsNamed f.name) x.features
ports_named x h =
    let ports = flat_map feature_parts x.features in
    let behind_name = back (identifier_parts x.name) _ (tail _ _ h) in
    All-from_recursion (λ (f : Feature ℕ). IsNamed f.name) x.features
    (each_of feature_parts (λ (f : Feature ℕ). IsNamed f.name)
    (λ f g. named f.name (front (identifier_parts f.name) _ g)) x.features
    (in_section feature_section ports (front (section_parts feature_section ports) _ behind_name)))

-- ---- the names of an annex
all_in : {V : Type 0} (g : V → List (Identifier ℕ)) (vs : List V)
    → AllByRecursion (λ v. AllByRecursion IsNamed (g v)) vs
    → AllByRecursion IsNamed (flat_map g vs)
all_in g [] h = tt
all_in g (v ∷ vs) h = AllByRecursion-append IsNamed (g v) (flat_map g vs) h.0 (all_in g vs h.1)

module _ {V : Type 0} (m : Mark) (f : V → List (SpellingPart ℕ)) (g : V → List (Identifier ℕ))
    (from : (v : V) → AreWords (f v) → AllByRecursion IsNamed (g v)) where
  declared_named : (o : Option (List V)) → AreWords (parts_if (declared_parts m f) o)
      → AllByRecursion IsNamed (flat_map g (listed_in o))
  declared_named None h = tt
  declared_named (Some vs) h =
      all_in g vs (each_of f (λ v. AllByRecursion IsNamed (g v)) from vs (tail (plain m) (flat_map f vs) h))

module _ (x : AnnexTree ℕ) (h : AreWords (annex_tree_parts x)) where
  variables_named : AllByRecursion IsNamed (variables_of x)
  variables_named =
      declared_named k.Variables variable_parts (λ (v : VariableDeclaration ℕ). identifiers v.names)
      (λ v g. all_named v.names (front (identifiers_parts v.names) _ g)) x.variables
      (front (parts_if (declared_parts k.Variables variable_parts) x.variables) _ h)

  states_named : AllByRecursion IsNamed (states_of x)
  states_named =
      declared_named k.States state_parts (λ (s : StateDeclaration ℕ). identifiers s.names)
      (λ s g. all_named s.names (front (identifiers_parts s.names) _ g)) x.states
      (front (parts_if (declared_parts k.States state_parts) x.states) _
      (back (parts_if (declared_parts k.Variables variable_parts) x.variables) _ h))

-- the first behaviour among annexes
tree_of : (at : ℕ) (language : Identifier ℕ) (x : AnnexTree ℕ)
    → AreWords (annex_parts (record { at = at; language = language; content = behaviour x }))
    → AreWords (annex_tree_parts x)
tree_of at language x h =
    let content = front (content_parts (behaviour x)) _ (back (identifier_parts language) _ (tail _ _ h)) in
    front (annex_tree_parts x) (plain k.AnnexClose ∷ []) (tail (plain k.AnnexOpen) _ content)

first_of : (at : ℕ) (language : Identifier ℕ) (content : AnnexContent ℕ) (xs : List (Annex ℕ)) (b : ℕ × AnnexTree ℕ)
    → (slice_get (behaviours xs) 0 ≡ Some b → AreWords (flat_map annex_parts xs) → AreWords (annex_tree_parts b.1))
    → slice_get (behaviours (record { at = at; language = language; content = content } ∷ xs)) 0 ≡ Some b
    → AreWords (flat_map annex_parts (record { at = at; language = language; content = content } ∷ xs))
    → AreWords (annex_tree_parts b.1)
first_of at language (foreign bytes) xs b later is h =
    later is (back (annex_parts (record { at = at; language = language; content = foreign bytes }))
    (flat_map annex_parts xs) h)
first_of at language (behaviour x) xs b later is h =
    let same : x ≡ b.1 = ap (λ (o : ℕ × AnnexTree ℕ). o.1) (same_Some (at, x) b is) in
    subst (λ y. AreWords (annex_tree_parts y)) same (tree_of at language x
    (front (annex_parts (record { at = at; language = language; content = behaviour x })) (flat_map annex_parts xs) h))

first_tree : (xs : List (Annex ℕ)) (b : ℕ × AnnexTree ℕ) → slice_get (behaviours xs) 0 ≡ Some b
    → AreWords (flat_map annex_parts xs)
    → AreWords (annex_tree_parts b.1)
first_tree [] b is h = absurd (cc is)
first_tree (x ∷ xs) b is h = first_of x.at x.language x.content xs b (first_tree xs b) is h

-- ---- an implementation
module _ (x : Implementation ℕ) (h : AreWords (implementation_parts x)) where
  abbrev subs : List (SpellingPart ℕ)
  subs = section_parts subcomponent_section (flat_map subcomponent_parts x.subcomponents)

  abbrev connections : List (SpellingPart ℕ)
  connections = section_parts connection_section (flat_map connection_parts x.connections)

  abbrev properties : List (SpellingPart ℕ)
  properties = section_parts property_section (associations_parts x.properties)

  abbrev behind_subs : List (SpellingPart ℕ)
  behind_subs =
      connections ++ (properties
      ++ (flat_map annex_parts x.annexes ++ ending_parts (implementation_name_parts x.end_name)))

  behind_name : AreWords (subs ++ behind_subs)
  behind_name = back (implementation_name_parts x.name) _ (tail _ _ (tail _ _ h))

  subs_named : All (λ (s : Subcomponent ℕ). IsNamed s.name) x.subcomponents
  subs_named =
      All-from_recursion (λ (s : Subcomponent ℕ). IsNamed s.name) x.subcomponents
      (each_of subcomponent_parts (λ (s : Subcomponent ℕ). IsNamed s.name)
      (λ s g. named s.name (front (identifier_parts s.name) _ g))
      x.subcomponents (in_section subcomponent_section (flat_map subcomponent_parts x.subcomponents)
      (front subs behind_subs behind_name)))

  first_behaviour : (b : ℕ × AnnexTree ℕ) → slice_get (behaviours x.annexes) 0 ≡ Some b
      → AreWords (annex_tree_parts b.1)
  first_behaviour b is =
      first_tree x.annexes b is
      (front (flat_map annex_parts x.annexes) _
      (back properties _ (back connections _ (back subs behind_subs behind_name))))

-- ---- a package
declarations_of : (tree : PackageTree ℕ) → AreWords (package_parts tree)
    → AreWords (flat_map declaration_parts tree.declarations)
declarations_of tree h =
    front (flat_map declaration_parts tree.declarations) _
    (back (flat_map with_parts tree.withs) _ (tail (plain k.Public) _
    (back (name_parts tree.name) _ (tail (plain k.Package) _ h))))

one_of : (ds : List (Declaration ℕ)) (n : ℕ) (d : Declaration ℕ) → slice_get ds n ≡ Some d
    → AreWords (flat_map declaration_parts ds)
    → AreWords (declaration_parts d)
one_of [] n d is h = absurd (cc is)
one_of (c ∷ ds) zero d is h =
    subst (λ e. AreWords (declaration_parts e)) (same_Some c d is)
    (front (declaration_parts c) (flat_map declaration_parts ds) h)
one_of (c ∷ ds) (suc n) d is h = one_of ds n d is (back (declaration_parts c) (flat_map declaration_parts ds) h)

package_words : (tree : PackageTree ℕ) → AreWords (package_parts tree) → HasWords tree
package_words tree h =
    let ds = tree.declarations in
    let all = declarations_of tree h in
    record {
      ports = λ n x is. ports_named x (one_of ds n (type x) is all);
      subs = λ n x is. subs_named x (one_of ds n (implementation x) is all);
      variables = λ n x b is first. All-from_recursion IsNamed (variables_of b.1) (variables_named b.1
          (first_behaviour x (one_of ds n (implementation x) is all) b first));
      states = λ n x b is first. All-from_recursion IsNamed (states_of b.1) (states_named b.1
          (first_behaviour x (one_of ds n (implementation x) is all) b first));
    }

pub has_words : (text : List ℕ) (tree : PackageTree ℕ) → IsTreeOf text tree → HasWords tree
has_words text tree given =
    let ts = given.tokens in
    let words = recursion_from_All (IsWordAt text) ts (words_of text ts given.lexed) in
    package_words tree (record {
      each =
          written_words (package_parts tree) (placed_terminals text ts) [] given.written
          (spots_words false text ts words);
    })
