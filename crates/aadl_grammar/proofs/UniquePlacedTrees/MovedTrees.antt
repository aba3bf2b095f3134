-- The same tree at other places: its terminals after they moved.
use Rattle.std.proofs.Common.{◌≡◌, ℕ, ◌∙◌, sym, ap, refl, subst, List, [], ◌∷◌, ◌++◌, map, inl, inr}
use Rattle.aadl_tree.specs.Terminals.{PlacedTerminal, kinds_of}
use Rattle.aadl_tree.specs.SpellingParts.{SpellingPart, token, may, AreAt, Written, kept}
use Rattle.aadl_tree.specs.Declarations.{PackageTree, package_parts}
use Rattle.aadl_grammar.proofs.PlaceIndependence.AlikeParts.{Alike, none, one, extra}
use Rattle.aadl_tree.specs.proof.PlaceMaps.{package_to}
use Rattle.aadl_grammar.proofs.PlaceIndependence.Declarations.{package_alike}

-- the terminals that the tree keeps, among the terminals that spell it
abbrev pub survivors : (a : List (SpellingPart ℕ)) (ss rest : List PlacedTerminal) → Written a ss rest
    → List PlacedTerminal
survivors [] ss rest e = []
survivors (token kind places ∷ a) ss rest (s, more, e, is, at, v) = s ∷ survivors a more rest v
survivors (may others ∷ a) ss rest (inl v) = survivors a ss rest v
survivors (may others ∷ a) ss rest (inr (more, h, v)) = survivors a more rest v

pub survivors_kinds : (a : List (SpellingPart ℕ)) (ss rest : List PlacedTerminal) (v : Written a ss rest)
    → kinds_of (survivors a ss rest v) ≡ kept a
survivors_kinds [] ss rest e = refl
survivors_kinds (token kind places ∷ a) ss rest (s, more, e, is, at, v) =
    ap (λ x. x ∷ kinds_of (survivors a more rest v)) is ∙ ap (λ l. kind ∷ l) (survivors_kinds a more rest v)
survivors_kinds (may others ∷ a) ss rest (inl v) = survivors_kinds a ss rest v
survivors_kinds (may others ∷ a) ss rest (inr (more, h, v)) = survivors_kinds a more rest v

abbrev pub moved : (ℕ → ℕ) → PlacedTerminal → PlacedTerminal
moved f s = record { kind = s.kind; at = f s.at }

are_moved : (f : ℕ → ℕ) (ps : List ℕ) (at : ℕ) → AreAt ps at → AreAt (map f ps) (f at)
are_moved f [] at h = tt
are_moved f (p ∷ ps) at (e, h) = (ap f e, are_moved f ps at h)

-- they spell the tree at the places that its terminals have moved to
pub replaced : (f : ℕ → ℕ) (a b : List (SpellingPart ℕ)) → Alike f a b
    → (ss rest : List PlacedTerminal) (v : Written a ss rest) (after : List PlacedTerminal)
    → Written b (map (moved f) (survivors a ss rest v) ++ after) after
replaced f _ _ none ss rest e after = refl
replaced f _ _ (one {kind = kind} {ps = ps} {xs = xs} {ys = ys} h x) ss rest (s, more, e, is, at, v) after = (
  moved f s,
  map (moved f) (survivors xs more rest v) ++ after,
  refl,
  is,
  subst (λ (l : List ℕ). AreAt l (f s.at)) (sym h) (are_moved f ps s.at at),
  replaced f xs ys x more rest v after,
)
replaced f _ _ (extra {xs = xs} {ys = ys} x) ss rest (inl v) after = inl (replaced f xs ys x ss rest v after)
replaced f _ _ (extra {xs = xs} {ys = ys} x) ss rest (inr (more, g, v)) after =
    inl (replaced f xs ys x more rest v after)

pub package_replaced : (f : ℕ → ℕ) (t : PackageTree ℕ) (ss : List PlacedTerminal) (v : Written (package_parts t) ss [])
    (after : List PlacedTerminal)
    → Written (package_parts (package_to f t)) (map (moved f) (survivors (package_parts t) ss [] v) ++ after) after
package_replaced f t ss v after =
    replaced f (package_parts t) (package_parts (package_to f t)) (package_alike f t) ss [] v after
