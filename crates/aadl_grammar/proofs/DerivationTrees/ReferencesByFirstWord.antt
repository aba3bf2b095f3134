-- A reference by its first word: its names as a list, the last of which is the type.
use Rattle.std.proofs.Common.{◌≡◌, ℕ, ◌∙◌, sym, ap, ap₂, refl, List, [], ◌∷◌, ◌++◌, flat_map, append_assoc, Option}
use Rattle.aadl_tree.specs.declared.mark.Mark.TheVariants as k
use Rattle.aadl_tree.specs.Terminals.{PlainTerminal, word}
use Rattle.aadl_tree.specs.SpellingParts.{SpellingPart, Spells, parts_if, behind}
use Rattle.aadl_tree.specs.Names as n
use Rattle.aadl_grammar.specs.proof.SymbolTrees.{NoPlace, identifier_of}
use Rattle.aadl_grammar.proofs.DerivationTrees.TreeBuilders.{respell}

-- the elements before the last one, and the last one
abbrev before_last : {A : Type 0} → A → List A → List A
before_last x [] = []
before_last x (y ∷ ys) = x ∷ before_last y ys

abbrev last_of : {A : Type 0} → A → List A → A
last_of x [] = x
last_of x (y ∷ ys) = last_of y ys

-- the first of a list with one more element, and the elements after it
abbrev first_of : {A : Type 0} → List A → A → A
first_of [] z = z
first_of (x ∷ xs) z = x

abbrev behind_first : {A : Type 0} → List A → A → List A
behind_first [] z = []
behind_first (x ∷ xs) z = xs ++ z ∷ []

before_push : {A : Type 0} (x : A) (xs : List A) (z : A) → before_last x (xs ++ z ∷ []) ≡ x ∷ xs
before_push x [] z = refl
before_push x (y ∷ ys) z = ap (λ l. x ∷ l) (before_push y ys z)

last_push : {A : Type 0} (x : A) (xs : List A) (z : A) → last_of x (xs ++ z ∷ []) ≡ z
last_push x [] z = refl
last_push x (y ∷ ys) z = last_push y ys z

before_again : {A : Type 0} (xs : List A) (z : A) → before_last (first_of xs z) (behind_first xs z) ≡ xs
before_again [] z = refl
before_again (x ∷ xs) z = before_push x xs z

last_again : {A : Type 0} (xs : List A) (z : A) → last_of (first_of xs z) (behind_first xs z) ≡ z
last_again [] z = refl
last_again (x ∷ xs) z = last_push x xs z

abbrev pub reference_of : n.Identifier NoPlace → List (n.Identifier NoPlace) → Option (n.Identifier NoPlace)
    → n.Reference NoPlace
reference_of x xs d = record { qualifiers = before_last x xs; type_name = last_of x xs; implementation = d }

chain_same : (x : n.Identifier NoPlace) (xs : List (n.Identifier NoPlace))
    → n.identifier_parts x ++ flat_map (behind k.Scope n.identifier_parts) xs
    ≡ flat_map n.qualifier_parts (before_last x xs) ++ n.identifier_parts (last_of x xs)
chain_same x [] = refl
chain_same x (y ∷ ys) = ap (λ l. n.qualifier_parts x ++ l) (chain_same y ys)

abbrev dotted : Option (n.Identifier NoPlace) → List (SpellingPart NoPlace)
dotted d = parts_if (behind k.Dot n.identifier_parts) d

abbrev chain_parts : n.Identifier NoPlace → List (n.Identifier NoPlace) → Option (n.Identifier NoPlace)
    → List (SpellingPart NoPlace)
chain_parts x xs d = n.identifier_parts x ++ (flat_map (behind k.Scope n.identifier_parts) xs ++ dotted d)

reference_same : (x : n.Identifier NoPlace) (xs : List (n.Identifier NoPlace)) (d : Option (n.Identifier NoPlace))
    → chain_parts x xs d ≡ n.reference_parts (reference_of x xs d)
reference_same x xs d =
    sym (append_assoc (n.identifier_parts x) (flat_map (behind k.Scope n.identifier_parts) xs) (dotted d))
    ∙ ap (λ l. l ++ dotted d) (chain_same x xs)
    ∙ append_assoc (flat_map n.qualifier_parts (before_last x xs)) (n.identifier_parts (last_of x xs)) (dotted d)

-- the parts that the first word and the others spell
pub reference_spells : (w : List ℕ) (xs : List (n.Identifier NoPlace)) (d : Option (n.Identifier NoPlace))
    (ks rest : List PlainTerminal)
    → Spells (flat_map (behind k.Scope n.identifier_parts) xs ++ dotted d) ks rest
    → Spells (n.reference_parts (reference_of (identifier_of w) xs d)) (word w ∷ ks) rest
reference_spells w xs d ks rest sp =
    respell (chain_parts (identifier_of w) xs d) (n.reference_parts (reference_of (identifier_of w) xs d))
    (word w ∷ ks) rest
    (reference_same (identifier_of w) xs d) (ks, refl, sp)

-- a spelled reference, by its first word
pub record Chain (t : n.Reference NoPlace) (ks rest : List PlainTerminal) : Type 0 where
  pub first : List ℕ
  pub others : List (n.Identifier NoPlace)
  pub more : List PlainTerminal
  pub made : t ≡ reference_of (identifier_of first) others t.implementation
  pub whole : ks ≡ word first ∷ more
  pub spelled : Spells (flat_map (behind k.Scope n.identifier_parts) others ++ dotted t.implementation) more rest

pub chain_of : (t : n.Reference NoPlace) (ks rest : List PlainTerminal) → Spells (n.reference_parts t) ks rest
    → Chain t ks rest
chain_of t ks rest sp =
    let x = first_of t.qualifiers t.type_name in
    let xs = behind_first t.qualifiers t.type_name in
    let made : t ≡ reference_of x xs t.implementation =
    ap₂ (λ (q : List (n.Identifier NoPlace)) (z : n.Identifier NoPlace). let r : n.Reference NoPlace =
    record { qualifiers = q; type_name = z; implementation = t.implementation } in r)
    (sym (before_again t.qualifiers t.type_name)) (sym (last_again t.qualifiers t.type_name)) in
    let again =
    respell (n.reference_parts t) (chain_parts x xs t.implementation) ks rest
    (ap n.reference_parts made ∙ sym (reference_same x xs t.implementation)) sp in
    record { first = x.spelling; others = xs; more = again.0; made = made; whole = again.1; spelled = again.2 }
