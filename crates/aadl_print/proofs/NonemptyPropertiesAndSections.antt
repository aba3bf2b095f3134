-- Nonempty sections and lists of properties have parts; how they are printed.
use Rattle.std.proofs.Common.{◌≡◌, ◌==◌, ℕ, false, refl, List, [], ◌∷◌, ◌++◌, length, map}
use Rattle.std.specs.List.{flat_map}
use Rattle.aadl_tree.specs.declared.mark.Mark.{Mark}
use Rattle.aadl_tree.specs.declared.mark.Mark.TheVariants as k
use Rattle.aadl_tree.specs.declared.values.Association as source
use Rattle.aadl_tree.specs.SpellingParts.{SpellingPart, plain, Section, section_mark}
use Rattle.aadl_tree.specs.Values.{Association, association, association_parts, associations_parts, properties_parts}
use Rattle.aadl_tree.specs.proof.ValueViews.{associations_view}
use Rattle.aadl_tree.specs.Declarations.{section_parts}
use Rattle.aadl_print.specs.proof.PrintedText.{Printed, printed, under}

-- A section is printed as its keyword and its content, or not at all.
pub printed_section : {P : Type 0} → (before : Printed) (s : Section) (ps : List (SpellingPart P))
    → printed before (section_parts s ps) ≡ printed before (under (section_mark s) ps)
printed_section before s [] = refl
printed_section before s (p ∷ ps) = refl

pub under_some : {P : Type 0} (word : Mark) (ps : List (SpellingPart P)) → (ps ≡ [] → ⊥)
    → under word ps ≡ plain word ∷ ps
under_some word [] some = absurd (some refl)
under_some word (p ∷ ps) some = refl

-- A nonempty list of items with parts has parts.
pub some_parts : {A T P : Type 0} (parts : T → List (SpellingPart P)) (tree : A → T) → ((x : T) → parts x ≡ [] → ⊥)
    → (xs : List A) → false ≡ (length xs == 0) → flat_map parts (map tree xs) ≡ [] → ⊥
some_parts parts tree some [] h e = absurd cc
some_parts parts tree some (x ∷ xs) h e = some (tree x) (front_none (parts (tree x)) (flat_map parts (map tree xs)) e)
  where
    front_none : {A : Type 0} (a b : List A) → a ++ b ≡ [] → a ≡ []
    front_none [] b e = refl
    front_none (x ∷ a) b e = absurd cc

some_association : {P : Type 0} (x : Association P) (rest : List (SpellingPart P)) → association_parts x ++ rest ≡ []
    → ⊥
some_association (association name operator constant v paths) rest e = absurd cc

pub some_associations : {P : Type 0} (place : ℕ → P) (xs : List source.Association) → false ≡ (length xs == 0)
    → associations_parts (associations_view place xs) ≡ [] → ⊥
some_associations place [] h e = absurd cc
some_associations place (x ∷ xs) h e = some_association _ _ e

pub braced : {P : Type 0} (place : ℕ → P) (xs : List source.Association) → false ≡ (length xs == 0)
    → properties_parts (associations_view place xs)
    ≡ plain k.BraceOpen ∷ (associations_parts (associations_view place xs) ++ plain k.BraceClose ∷ [])
braced place [] h = absurd cc
braced place (x ∷ xs) h = refl
