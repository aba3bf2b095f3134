-- Names at increasing places in consecutive parts of a tree.
use Rattle.std.proofs.Common.{◌≡◌, ◌∙◌, ℕ, ◌<◌, List, [], ◌∷◌, ◌++◌, Option, Some, None, Contains, refl, sym, ap, subst}
use Rattle.std.proofs.Common.{append_assoc, arith}
use Rattle.std.specs.Prelude.{flat_map}
use Rattle.std.specs.List.{AllByRecursion}
use Rattle.std.proofs.lemmas.List.Concat.{flat_map-append}
use Rattle.std.proofs.lemmas.List.Elements.{Contains-append_left, Contains-append_right}
use Rattle.list_lemmas.proofs.Elements.{AllByRecursion-append, AllByRecursion-weaker}
use Rattle.list_lemmas.proofs.PairwiseProperties.{Pairs, pairs_append}
use Rattle.aadl_tree.specs.declared.mark.Mark.{Mark}
use Rattle.aadl_tree.specs.declared.mark.Mark.TheVariants as k
use Rattle.aadl_tree.specs.SpellingParts.{SpellingPart, Section, section_mark, empty_section, plain, may, behind}
use Rattle.aadl_tree.specs.SpellingParts.{parts_if}
use Rattle.aadl_tree.specs.Names.{Identifier, Identifiers, identifier_parts, identifiers_parts}
use Rattle.aadl_tree.specs.Annexes.{declared_parts}
use Rattle.aadl_tree.specs.Declarations.{section_parts}
use Rattle.aadl_names.specs.proof.PlaceOrder.{places_in, places_of, StandsBefore}

-- ---- parts with increasing places
pub record Rise (parts : List (SpellingPart ℕ)) : Type 0 where
  pub each : (p q : ℕ) → StandsBefore parts p q → p < q

pub places_append : (a b : List (SpellingPart ℕ)) → places_of (a ++ b) ≡ places_of a ++ places_of b
places_append a b = flat_map-append places_in a b

pub in_front : (a b : List (SpellingPart ℕ)) (p : ℕ) → Contains (places_of a) p → Contains (places_of (a ++ b)) p
in_front a b p h =
    subst (λ l. Contains l p) (sym (places_append a b)) (Contains-append_left (places_of a) (places_of b) p h)

pub in_back : (a b : List (SpellingPart ℕ)) (p : ℕ) → Contains (places_of b) p → Contains (places_of (a ++ b)) p
in_back a b p h =
    subst (λ l. Contains l p) (sym (places_append a b)) (Contains-append_right (places_of a) (places_of b) p h)

pub rise_front : (a b : List (SpellingPart ℕ)) → Rise (a ++ b) → Rise a
rise_front a b r = record {
  each = λ p q s. r.each p q (record {
    front = s.front;
    back = s.back ++ b;
    split = ap (λ l. l ++ b) s.split ∙ append_assoc s.front s.back b;
    first = s.first;
    second = in_front s.back b q s.second;
  });
}

pub rise_back : (a b : List (SpellingPart ℕ)) → Rise (a ++ b) → Rise b
rise_back a b r = record {
  each = λ p q s. r.each p q (record {
    front = a ++ s.front;
    back = s.back;
    split = ap (λ l. a ++ l) s.split ∙ sym (append_assoc a s.front s.back);
    first = in_back a s.front p s.first;
    second = s.second;
  });
}

pub rise_tail : (a : SpellingPart ℕ) (b : List (SpellingPart ℕ)) → Rise (a ∷ b) → Rise b
rise_tail a b r = rise_back (a ∷ []) b r

pub rise_section : (s : Section) (ps : List (SpellingPart ℕ)) → Rise (section_parts s ps) → Rise ps
rise_section s [] r = rise_tail (may (empty_section s)) [] r
rise_section s (p ∷ ps) r = rise_tail (plain (section_mark s)) (p ∷ ps) r

-- ---- names in their order
abbrev pub Before : Identifier ℕ → Identifier ℕ → Type 0
Before x y = x.at < y.at

abbrev pub IsIn : List (SpellingPart ℕ) → Identifier ℕ → Type 0
IsIn parts x = Contains (places_of parts) x.at

pub record Placed (parts : List (SpellingPart ℕ)) (xs : List (Identifier ℕ)) : Type 0 where
  pub rising : Pairs Before xs
  pub inside : AllByRecursion (IsIn parts) xs

pub placed_front : (a b : List (SpellingPart ℕ)) (xs : List (Identifier ℕ)) → Placed a xs → Placed (a ++ b) xs
placed_front a b xs h =
    record {
      rising = h.rising;
      inside = AllByRecursion-weaker (IsIn a) (IsIn (a ++ b)) (λ x. in_front a b x.at) xs h.inside;
    }

pub placed_back : (a b : List (SpellingPart ℕ)) (xs : List (Identifier ℕ)) → Placed b xs → Placed (a ++ b) xs
placed_back a b xs h =
    record {
      rising = h.rising;
      inside = AllByRecursion-weaker (IsIn b) (IsIn (a ++ b)) (λ x. in_back a b x.at) xs h.inside;
    }

pub placed_tail : (a : SpellingPart ℕ) (b : List (SpellingPart ℕ)) (xs : List (Identifier ℕ)) → Placed b xs
    → Placed (a ∷ b) xs
placed_tail a b xs h = placed_back (a ∷ []) b xs h

pub placed_section : (s : Section) (ps : List (SpellingPart ℕ)) (xs : List (Identifier ℕ)) → Placed ps xs
    → Placed (section_parts s ps) xs
placed_section s [] xs h = placed_tail (may (empty_section s)) [] xs h
placed_section s (p ∷ ps) xs h = placed_tail (plain (section_mark s)) (p ∷ ps) xs h

pub placed_append : (a b : List (SpellingPart ℕ)) (xs ys : List (Identifier ℕ)) → Rise (a ++ b) → Placed a xs
    → Placed b ys
    → Placed (a ++ b) (xs ++ ys)
placed_append a b xs ys r g h = record {
  rising = pairs_append Before xs ys g.rising h.rising
      (AllByRecursion-weaker (IsIn a) (λ x. AllByRecursion (Before x) ys)
      (λ x first. AllByRecursion-weaker (IsIn b) (Before x) (λ y second. r.each x.at y.at
      (record { front = a; back = b; split = refl; first = first; second = second })) ys h.inside)
      xs g.inside);
  inside = AllByRecursion-append (IsIn (a ++ b)) xs ys (placed_front a b xs g).inside (placed_back a b ys h).inside;
}

pub placed_none : Placed [] []
placed_none = record { rising = tt; inside = tt }

pub placed_flat : {V : Type 0} (f : V → List (SpellingPart ℕ)) (g : V → List (Identifier ℕ))
    → ((v : V) → Rise (f v) → Placed (f v) (g v))
    → (vs : List V) → Rise (flat_map f vs)
    → Placed (flat_map f vs) (flat_map g vs)
placed_flat f g each [] r = placed_none
placed_flat f g each (v ∷ vs) r =
    placed_append (f v) (flat_map f vs) (g v) (flat_map g vs) r (each v (rise_front (f v) (flat_map f vs) r))
    (placed_flat f g each vs (rise_back (f v) (flat_map f vs) r))

pub placed_identifier : (x : Identifier ℕ) → Placed (identifier_parts x) (x ∷ [])
placed_identifier x = record { rising = (tt, tt); inside = ((0, omega arith, refl), tt) }

singles : {X : Type 0} (xs : List X) → flat_map (λ x. x ∷ []) xs ≡ xs
singles [] = refl
singles (x ∷ xs) = ap (λ l. x ∷ l) (singles xs)

pub placed_identifiers : (x : Identifiers ℕ) → Rise (identifiers_parts x)
    → Placed (identifiers_parts x) (x.first ∷ x.rest)
placed_identifiers x r =
    let rest = flat_map (behind k.Comma identifier_parts) x.rest in
    let later : Placed rest x.rest = subst (Placed rest) (singles x.rest)
    (placed_flat (behind k.Comma identifier_parts) (λ y. y ∷ [])
    (λ y _. placed_tail (plain k.Comma) (identifier_parts y) (y ∷ [])
    (placed_identifier y)) x.rest (rise_back (identifier_parts x.first) rest r)) in
    placed_append (identifier_parts x.first) rest (x.first ∷ []) x.rest r (placed_identifier x.first) later

-- the declarations after a keyword, if it is present
abbrev pub listed : {V : Type 0} → Option (List V) → List V
listed None = []
listed (Some vs) = vs

pub placed_declared : {V : Type 0} (m : Mark) (f : V → List (SpellingPart ℕ)) (g : V → List (Identifier ℕ))
    → ((v : V) → Rise (f v) → Placed (f v) (g v)) → (o : Option (List V))
    → Rise (parts_if (declared_parts m f) o) → Placed (parts_if (declared_parts m f) o) (flat_map g (listed o))
placed_declared m f g each None r = placed_none
placed_declared m f g each (Some vs) r = placed_tail (plain m) (flat_map f vs) (flat_map g vs)
    (placed_flat f g each vs (rise_tail (plain m) (flat_map f vs) r))
