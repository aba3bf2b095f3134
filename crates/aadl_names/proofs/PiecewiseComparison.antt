-- A name is compared with a text piece by piece.
use Rattle.std.proofs.Common.{◌≡◌, ◌∙◌, ℕ, ◌<◌, Bool, true, false, ◌&&◌, List, [], ◌∷◌, ◌++◌, length, refl, sym, ap}
use Rattle.std.proofs.Common.{map, arith}
use Rattle.aadl_tree.specs.Names.{same_name}
use Rattle.std.specs.Prelude.{nat_eq, flat_map}
use Rattle.std.specs.Char.{to_ascii_lowercase}
use Rattle.std.specs.Str.{str_to_ascii_lowercase}
use Rattle.std.proofs.lemmas.List.{append-nil}
use Rattle.std.proofs.lemmas.Slice.Eq.{bytes_eq-Decides}
use Rattle.std.proofs.Math.Bool.{and-false}
use Rattle.list_lemmas.proofs.Booleans.{and_assoc_left}

pub too_short : (word more text : List ℕ) → length text < length word → same_name (word ++ more) text ≡ false
too_short [] more text short = absurd (omega arith)
too_short (w ∷ word) more [] short = refl
too_short (w ∷ word) more (t ∷ text) short =
    ap (λ b. nat_eq (to_ascii_lowercase w) (to_ascii_lowercase t) && b) (too_short word more text (omega arith))
    ∙ and-false (nat_eq (to_ascii_lowercase w) (to_ascii_lowercase t))

-- a text of two parts, the first as long as a word
parted : (word front more rest : List ℕ) → length front ≡ length word
    → same_name (word ++ more) (front ++ rest) ≡ (same_name word front && same_name more rest)
parted [] [] more rest long = refl
parted [] (f ∷ front) more rest long = absurd (omega arith)
parted (w ∷ word) [] more rest long = absurd (omega arith)
parted (w ∷ word) (f ∷ front) more rest long =
    ap (λ b. nat_eq (to_ascii_lowercase w) (to_ascii_lowercase f) && b) (parted word front more rest (omega arith))
    ∙ and_assoc_left (nat_eq (to_ascii_lowercase w) (to_ascii_lowercase f)) (same_name word front) (same_name more rest)

pub cut_behind : (word front more rest text : List ℕ) → text ≡ front ++ rest → length front ≡ length word
    → map to_ascii_lowercase front ≡ map to_ascii_lowercase word
    → same_name (word ++ more) text ≡ same_name more rest
cut_behind word front more rest text is long same =
    ap (same_name (word ++ more)) is ∙ parted word front more rest long
    ∙ ap (λ b. b && same_name more rest)
    ((bytes_eq-Decides (str_to_ascii_lowercase word) (str_to_ascii_lowercase front)).1 (sym same))

differ : (word front : List ℕ) (b : Bool) → b ≡ same_name word front
    → (map to_ascii_lowercase front ≡ map to_ascii_lowercase word → ⊥) → b ≡ false
differ word front true is other =
    absurd (other (sym ((bytes_eq-Decides (str_to_ascii_lowercase word) (str_to_ascii_lowercase front)).0 (sym is))))
differ word front false is other = refl

pub cut_elsewhere : (word front more rest text : List ℕ) → text ≡ front ++ rest → length front ≡ length word
    → (map to_ascii_lowercase front ≡ map to_ascii_lowercase word → ⊥)
    → same_name (word ++ more) text ≡ false
cut_elsewhere word front more rest text is long other =
    ap (same_name (word ++ more)) is ∙ parted word front more rest long
    ∙ ap (λ b. b && same_name more rest) (differ word front (same_name word front) refl other)

-- a name of one word
pub one_word : {X Y : Type 0} (words : Y → List ℕ) (view : X → Y) (front : List ℕ) (rest : List X) → length rest ≡ 0
    → front ++ flat_map words (map view rest) ≡ front
one_word words view front [] none = append-nil front
one_word words view front (x ∷ rest) none = absurd (omega (arith, none))
