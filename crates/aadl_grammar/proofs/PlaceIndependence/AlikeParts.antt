-- Parts that are the same except for the places that trees keep.
use Rattle.std.proofs.Common.{◌≡◌, ◌∙◌, sym, ap, ap₂, cond, refl, List, [], ◌∷◌, ◌++◌, map, flat_map, Option, Some}
use Rattle.std.proofs.Common.{None, option_map, inl, inr, Bool, true, false}
use Rattle.aadl_tree.specs.declared.mark.Mark.{Mark}
use Rattle.aadl_tree.specs.Terminals.{PlainTerminal}
use Rattle.aadl_tree.specs.SpellingParts.{SpellingPart, Extra, token, may, Spells, marked_if, parts_if, behind, kept}
use Rattle.aadl_grammar.proofs.UniquePlacedTrees.PlaceCounts.{quiet, none_of, shape}

pub data Alike {P Q : Type 0} (w : P → Q) : List (SpellingPart P) → List (SpellingPart Q) → Type 0 where
  none : Alike w [] []
  one : {kind : PlainTerminal} {ps : List P} {qs : List Q} {xs : List (SpellingPart P)} {ys : List (SpellingPart Q)}
      → qs ≡ map w ps
      → Alike w xs ys → Alike w (token kind ps ∷ xs) (token kind qs ∷ ys)
  extra : {e : Extra} {xs : List (SpellingPart P)} {ys : List (SpellingPart Q)} → Alike w xs ys
      → Alike w (may e ∷ xs) (may e ∷ ys)

pub both : {P Q : Type 0} {w : P → Q} {a b : List (SpellingPart P)} {c d : List (SpellingPart Q)} → Alike w a c
    → Alike w b d
    → Alike w (a ++ b) (c ++ d)
both none e = e
both (one h x) e = one h (both x e)
both (extra x) e = extra (both x e)

-- they have the same spelling
pub alike_spells : {P Q : Type 0} {w : P → Q} {a : List (SpellingPart P)} {b : List (SpellingPart Q)}
    (ks rest : List PlainTerminal)
    → Alike w a b → Spells a ks rest → Spells b ks rest
alike_spells ks rest none e = e
alike_spells ks rest (one h x) (more, e, sp) = (more, e, alike_spells more rest x sp)
alike_spells ks rest (extra x) (inl sp) = inl (alike_spells ks rest x sp)
alike_spells ks rest (extra x) (inr (more, e, sp)) = inr (more, e, alike_spells more rest x sp)

-- they keep the same terminals
pub alike_kept : {P Q : Type 0} {w : P → Q} {a : List (SpellingPart P)} {b : List (SpellingPart Q)} → Alike w a b
    → kept a ≡ kept b
alike_kept none = refl
alike_kept (one {kind = kind} h x) = ap (λ l. kind ∷ l) (alike_kept x)
alike_kept (extra x) = alike_kept x

-- they keep equally many places
none_mapped : {P Q : Type 0} (w : P → Q) (ps : List P) → none_of ps ≡ none_of (map w ps)
none_mapped w [] = refl
none_mapped w (p ∷ ps) = ap (λ l. tt ∷ l) (none_mapped w ps)

pub alike_shape : {P Q : Type 0} {w : P → Q} {a : List (SpellingPart P)} {b : List (SpellingPart Q)} → Alike w a b
    → shape a ≡ shape b
alike_shape none = refl
alike_shape {w = w} (one {kind = kind} {ps = ps} h x) =
    ap₂ (λ n ns. cond (quiet kind) ns (n ∷ ns)) (none_mapped w ps ∙ ap none_of (sym h)) (alike_shape x)
alike_shape (extra x) = alike_shape x

pub each : {P Q A B : Type 0} {w : P → Q} (f : A → List (SpellingPart P)) (g : B → List (SpellingPart Q)) (h : A → B)
    → ((x : A) → Alike w (f x) (g (h x))) → (xs : List A) → Alike w (flat_map f xs) (flat_map g (map h xs))
each f g h alike [] = none
each f g h alike (x ∷ xs) = both (alike x) (each f g h alike xs)

pub chain : {P Q A B : Type 0} {w : P → Q} (m : Mark) (f : A → List (SpellingPart P)) (g : B → List (SpellingPart Q))
    (h : A → B)
    → ((x : A) → Alike w (f x) (g (h x))) → (xs : List A)
    → Alike w (flat_map (behind m f) xs) (flat_map (behind m g) (map h xs))
chain m f g h alike [] = none
chain m f g h alike (x ∷ xs) = one refl (both (alike x) (chain m f g h alike xs))

pub perhaps : {P Q A B : Type 0} {w : P → Q} (f : A → List (SpellingPart P)) (g : B → List (SpellingPart Q)) (h : A → B)
    → ((x : A) → Alike w (f x) (g (h x))) → (x : Option A) → Alike w (parts_if f x) (parts_if g (option_map h x))
perhaps f g h alike None = none
perhaps f g h alike (Some x) = alike x

pub marked : {P Q : Type 0} {w : P → Q} (m : Mark) (b : Bool) → Alike w (marked_if m b) (marked_if m b)
marked m true = one refl none
marked m false = none
