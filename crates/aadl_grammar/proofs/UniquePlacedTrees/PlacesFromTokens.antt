-- The places that a tree keeps, in the order of its tokens.
use Rattle.std.proofs.Common.{◌≡◌, ℕ, Bool, true, false, cond, ◌∙◌, sym, ap, ap₂, refl, List, [], ◌∷◌, ◌++◌, inl, inr}
use Rattle.aadl_tree.specs.Terminals.{PlainTerminal, PlacedTerminal}
use Rattle.aadl_tree.specs.SpellingParts.{SpellingPart, token, may, extra_kinds, AreAt, HaveKinds, Written}
use Rattle.aadl_grammar.proofs.UniquePlacedTrees.PlaceCounts.{quiet, none_of, shape, AreQuiet, extra_quiet}

-- the places before the following ones
abbrev pub placed : {P : Type 0} → List (SpellingPart P) → List P → List P
placed [] xs = xs
placed (token kind [] ∷ ps) xs = placed ps xs
placed (token kind (p ∷ more) ∷ ps) xs = cond (quiet kind) (placed ps xs) ((p ∷ more) ++ placed ps xs)
placed (may extra ∷ ps) xs = placed ps xs

pub placed_append : {P : Type 0} → (a b : List (SpellingPart P)) (xs : List P)
    → placed (a ++ b) xs ≡ placed a (placed b xs)
placed_append [] b xs = refl
placed_append (token kind [] ∷ a) b xs = placed_append a b xs
placed_append (token kind (p ∷ more) ∷ a) b xs =
    ap₂ (λ v w. cond (quiet kind) v ((p ∷ more) ++ w)) (placed_append a b xs) (placed_append a b xs)
placed_append (may extra ∷ a) b xs = placed_append a b xs

abbrev spread : List (Unit {0}) → ℕ → List ℕ → List ℕ
spread [] at xs = xs
spread (u ∷ us) at xs = at ∷ spread us at xs

abbrev strip : List PlacedTerminal → List PlacedTerminal
strip [] = []
strip (s ∷ ss) = cond (quiet s.kind) (strip ss) (s ∷ strip ss)

abbrev pick : List (List (Unit {0})) → List PlacedTerminal → List ℕ
pick [] ss = []
pick (n ∷ ns) [] = []
pick (n ∷ ns) (s ∷ ss) = spread n s.at (pick ns ss)

spreads : (places : List ℕ) (at : ℕ) (xs : List ℕ) → AreAt places at → places ++ xs ≡ spread (none_of places) at xs
spreads [] at xs h = refl
spreads (p ∷ ps) at xs (e, h) = ap₂ (λ (v : ℕ) (w : List ℕ). v ∷ w) e (spreads ps at xs h)

strip_extra : (extra : List PlainTerminal) (ss more : List PlacedTerminal) → AreQuiet extra → HaveKinds extra ss more
    → strip ss ≡ strip more
strip_extra [] ss more q e = ap strip e
strip_extra (kind ∷ ks) ss more (q, qs) (s, next, e, is, h) =
    ap strip e ∙ ap (λ b. cond b (strip next) (s ∷ strip next)) (ap quiet is ∙ q) ∙ strip_extra ks next more qs h

by_quiet : (b : Bool) (places : List ℕ) (s : PlacedTerminal) (ns : List (List (Unit {0}))) (rest : List PlacedTerminal)
    (xs : List ℕ)
    → AreAt places s.at → xs ≡ pick ns rest
    → cond b xs (places ++ xs) ≡ pick (cond b ns (none_of places ∷ ns)) (cond b rest (s ∷ rest))
by_quiet true places s ns rest xs at e = e
by_quiet false places s ns rest xs at e = spreads places s.at xs at ∙ ap (spread (none_of places) s.at) e

placed_token : (kind : PlainTerminal) (places : List ℕ) (ps : List (SpellingPart ℕ))
    → placed (token kind places ∷ ps) [] ≡ cond (quiet kind) (placed ps []) (places ++ placed ps [])
placed_token kind [] ps = same (quiet kind) (placed ps []) where
  same : (b : Bool) (xs : List ℕ) → xs ≡ cond b xs xs
  same true xs = refl
  same false xs = refl
placed_token kind (p ∷ more) ps = refl

-- the shape and the tokens determine the places
placed_is : (ps : List (SpellingPart ℕ)) (ss : List PlacedTerminal) → Written ps ss []
    → placed ps [] ≡ pick (shape ps) (strip ss)
placed_is [] ss e = refl
placed_is (token kind places ∷ ps) ss (s, more, e, is, at, w) =
    placed_token kind places ps
    ∙ by_quiet (quiet kind) places s (shape ps) (strip more) (placed ps []) at (placed_is ps more w)
    ∙ ap (λ b. pick (shape (token kind places ∷ ps)) (cond b (strip more) (s ∷ strip more))) (ap quiet (sym is))
    ∙ ap (λ l. pick (shape (token kind places ∷ ps)) (strip l)) (sym e)
placed_is (may extra ∷ ps) ss (inl w) = placed_is ps ss w
placed_is (may extra ∷ ps) ss (inr (more, h, w)) =
    placed_is ps more w ∙ ap (pick (shape ps)) (sym (strip_extra (extra_kinds extra) ss more (extra_quiet extra) h))

-- the same tokens give the same places to parts of one shape
pub same_places : (a b : List (SpellingPart ℕ)) (ss : List PlacedTerminal) → shape a ≡ shape b → Written a ss []
    → Written b ss []
    → placed a [] ≡ placed b []
same_places a b ss e v w = placed_is a ss v ∙ ap (λ n. pick n (strip ss)) e ∙ sym (placed_is b ss w)

-- The two trees are the same, and so are the places after their own.
pub record Both (A : Type 0) (t u : A) (xs ys : List ℕ) : Type 0 where
  pub tree : t ≡ u
  pub rest : xs ≡ ys

-- one part after another
pub in_turn : (a b c d : List (SpellingPart ℕ)) (xs ys : List ℕ) → placed (a ++ b) xs ≡ placed (c ++ d) ys
    → placed a (placed b xs) ≡ placed c (placed d ys)
in_turn a b c d xs ys e = sym (placed_append a b xs) ∙ e ∙ placed_append c d ys
