-- If a list consists of the terminals that a tree keeps, it has a tree of its own, which is the same except for its
-- places.
use Rattle.std.proofs.Common.{◌≡◌, ℕ, ◌<◌, cond, ◌==◌, ◌∙◌, sym, ap, ap₂, refl, subst, List, [], ◌∷◌, map, arith}
use Rattle.std.proofs.Common.{eq-eqb, inl, inr}
use Rattle.std.proofs.lemmas.Bool.{eqb-true, false_from_ne_true}
use Rattle.std.proofs.lemmas.List.{append-nil}
use Rattle.aadl_tree.specs.Terminals.{PlainTerminal, PlacedTerminal, kinds_of}
use Rattle.aadl_tree.specs.SpellingParts.{SpellingPart, token, may, extra_kinds, HaveKinds, Written, Spells, kept}
use Rattle.aadl_tree.specs.Declarations.{PackageTree, package_parts}
use Rattle.aadl_tree.proofs.SpellingParts.{written_spells, kept_spells}
use Rattle.aadl_grammar.proofs.HeadsAndTails.{heads, tails}
use Rattle.aadl_grammar.proofs.PlaceIndependence.AlikeParts.{alike_spells, alike_kept}
use Rattle.aadl_tree.specs.proof.PlaceMaps.{package_to, no_place}
use Rattle.aadl_grammar.proofs.PlaceIndependence.Declarations.{package_alike}
use Rattle.aadl_grammar.proofs.DerivationTrees.UniqueTrees.{one_package}
use Rattle.aadl_grammar.specs.proof.MovedPackages.{SamePackage}
use Rattle.aadl_grammar.specs.proof.PlaceOrder.{Behind, Rising}
use Rattle.aadl_grammar.proofs.UniquePlacedTrees.MovedTrees.{moved, survivors, survivors_kinds, package_replaced}

abbrev sent : ℕ → ℕ → (ℕ → ℕ) → ℕ → ℕ
sent from to f p = cond (p == from) to (f p)

not_sent : (from to : ℕ) (f : ℕ → ℕ) (p : ℕ) → from < p → sent from to f p ≡ f p
not_sent from to f p h =
    ap (λ b. cond b to (f p)) (false_from_ne_true (p == from) (λ e. let g = eqb-true p from e in absurd (omega arith)))

all_not_sent : (from to : ℕ) (f : ℕ → ℕ) (ss : List PlacedTerminal) → Behind from ss
    → map (moved (sent from to f)) ss ≡ map (moved f) ss
all_not_sent from to f [] h = refl
all_not_sent from to f (s ∷ ss) (h, hs) =
    ap₂ (λ (n : ℕ) (l : List PlacedTerminal). (let r : PlacedTerminal = record { kind = s.kind; at = n } in r) ∷ l)
    (not_sent from to f s.at h) (all_not_sent from to f ss hs)

record Moves (ss ts : List PlacedTerminal) : Type 0 where
  to : ℕ → ℕ
  moves : map (moved to) ss ≡ ts

moves_to : (ss ts : List PlacedTerminal) → kinds_of ss ≡ kinds_of ts → Rising ss → Moves ss ts
moves_to [] [] e r = record { to = λ n. n; moves = refl }
moves_to (s ∷ ss) (t ∷ ts) e (b, r) =
    let m = moves_to ss ts (tails s.kind t.kind (kinds_of ss) (kinds_of ts) e) r in
    let here : sent s.at t.at m.to s.at ≡ t.at = ap (λ c. cond c t.at (m.to s.at)) (eq-eqb s.at s.at refl) in
    record {
      to = sent s.at t.at m.to;
      moves =
          ap₂ (λ (x : PlacedTerminal) (l : List PlacedTerminal). x ∷ l)
          (ap₂ (λ (k : PlainTerminal) (n : ℕ). let q : PlacedTerminal = record { kind = k; at = n } in q)
          (heads s.kind t.kind (kinds_of ss) (kinds_of ts) e) here)
          (all_not_sent s.at t.at m.to ss b ∙ m.moves);
    }
moves_to [] (t ∷ ts) e r = absurd cc
moves_to (s ∷ ss) [] e r = absurd cc

behind_have : (n : ℕ) (ks : List PlainTerminal) (ss rest : List PlacedTerminal) → HaveKinds ks ss rest → Behind n ss
    → Behind n rest
behind_have n [] ss rest e b = subst (λ (l : List PlacedTerminal). Behind n l) e b
behind_have n (kind ∷ ks) ss rest (s, more, e, is, h) b = let c = subst (λ (l : List PlacedTerminal). Behind n l) e b in
    behind_have n ks more rest h c.1

rising_have : (ks : List PlainTerminal) (ss rest : List PlacedTerminal) → HaveKinds ks ss rest → Rising ss → Rising rest
rising_have [] ss rest e r = subst Rising e r
rising_have (kind ∷ ks) ss rest (s, more, e, is, h) r = let c = subst Rising e r in rising_have ks more rest h c.1

behind_survive : (n : ℕ) (a : List (SpellingPart ℕ)) (ss rest : List PlacedTerminal) (v : Written a ss rest)
    → Behind n ss
    → Behind n (survivors a ss rest v)
behind_survive n [] ss rest e b = tt
behind_survive n (token kind places ∷ a) ss rest (s, more, e, is, at, v) b = let c =
    subst (λ (l : List PlacedTerminal). Behind n l) e b in (c.0, behind_survive n a more rest v c.1)
behind_survive n (may others ∷ a) ss rest (inl v) b = behind_survive n a ss rest v b
behind_survive n (may others ∷ a) ss rest (inr (more, h, v)) b =
    behind_survive n a more rest v (behind_have n (extra_kinds others) ss more h b)

rising_survive : (a : List (SpellingPart ℕ)) (ss rest : List PlacedTerminal) (v : Written a ss rest) → Rising ss
    → Rising (survivors a ss rest v)
rising_survive [] ss rest e r = tt
rising_survive (token kind places ∷ a) ss rest (s, more, e, is, at, v) r = let c = subst Rising e r in
    (behind_survive s.at a more rest v c.0, rising_survive a more rest v c.1)
rising_survive (may others ∷ a) ss rest (inl v) r = rising_survive a ss rest v r
rising_survive (may others ∷ a) ss rest (inr (more, h, v)) r =
    rising_survive a more rest v (rising_have (extra_kinds others) ss more h r)

-- both have the same shape
same_bare : (t : PackageTree ℕ) (f : ℕ → ℕ) (ts : List PlacedTerminal) → Written (package_parts (package_to f t)) ts []
    → kinds_of ts ≡ kept (package_parts t) → package_to no_place (package_to f t) ≡ package_to no_place t
same_bare t f ts w e = one_package (kinds_of ts) (package_to no_place (package_to f t)) (package_to no_place t)
    (alike_spells (kinds_of ts) [] (package_alike no_place (package_to f t))
    (written_spells (package_parts (package_to f t)) ts [] w))
    (subst (λ (l : List PlainTerminal). Spells (package_parts (package_to no_place t)) l [])
    (append-nil (kept (package_parts (package_to no_place t))) ∙ sym (alike_kept (package_alike no_place t))
    ∙ sym e) (kept_spells (package_parts (package_to no_place t)) []))

pub same_package : (t : PackageTree ℕ) (ss ts : List PlacedTerminal) (v : Written (package_parts t) ss []) → Rising ss
    → kinds_of ts ≡ kept (package_parts t) → SamePackage t ts
same_package t ss ts v r e =
    let kinds = survivors_kinds (package_parts t) ss [] v in
    let m =
    moves_to (survivors (package_parts t) ss [] v) ts (kinds ∙ sym e)
    (rising_survive (package_parts t) ss [] v r) in
    let w : Written (package_parts (package_to m.to t)) ts [] =
    subst (λ (l : List PlacedTerminal). Written (package_parts (package_to m.to t)) l [])
    (append-nil (map (moved m.to) (survivors (package_parts t) ss [] v)) ∙ m.moves)
    (package_replaced m.to t ss v []) in
    record { tree = package_to m.to t; written = w; same = same_bare t m.to ts w e }
