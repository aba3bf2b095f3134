-- Terminals that spell the parts of a tree determine the place of each part that keeps one. For the law that a text
-- has a tree or a fault.
use Rattle.std.proofs.Common.{◌≡◌, ℕ, sym, subst, List, [], ◌∷◌, ◌++◌, refl, inl, inr}
use Rattle.aadl_tree.specs.Terminals.{PlainTerminal, PlacedTerminal, kinds_of}
use Rattle.aadl_tree.specs.SpellingParts.{SpellingPart, token, may, extra_kinds, Spells, AreAt, HaveKinds, Written}
use Rattle.aadl_grammar.proofs.HeadsAndTails.{heads, tails}
use Rattle.aadl_grammar.proofs.PlaceFilling.FilledTrees.{U, AreAsMany, Like}

-- the first terminal has this kind
record Starts (kind : PlainTerminal) (more : List PlainTerminal) (ss : List PlacedTerminal) : Type 0 where
  spot : PlacedTerminal
  left : List PlacedTerminal
  is : ss ≡ spot ∷ left
  kind_is : spot.kind ≡ kind
  kinds : kinds_of left ≡ more

starts : (kind : PlainTerminal) (more : List PlainTerminal) (ss : List PlacedTerminal) → kinds_of ss ≡ kind ∷ more
    → Starts kind more ss
starts kind more [] e = absurd cc
starts kind more (s ∷ ss) e =
    record {
      spot = s;
      left = ss;
      is = refl;
      kind_is = heads s.kind kind (kinds_of ss) more e;
      kinds = tails s.kind kind (kinds_of ss) more e;
    }

-- terminals of these kinds come before the others
record Fronts (ks more : List PlainTerminal) (ss : List PlacedTerminal) : Type 0 where
  left : List PlacedTerminal
  have : HaveKinds ks ss left
  kinds : kinds_of left ≡ more

fronts : (ks more : List PlainTerminal) (ss : List PlacedTerminal) → kinds_of ss ≡ ks ++ more → Fronts ks more ss
fronts [] more ss e = record { left = ss; have = refl; kinds = e }
fronts (kind ∷ ks) more ss e =
    let s = starts kind (ks ++ more) ss e in
    let f = fronts ks more s.left s.kinds in
    record { left = f.left; have = (s.spot, s.left, s.is, s.kind_is, f.have); kinds = f.kinds }

abbrev all_at : ℕ → List U → List ℕ
all_at at [] = []
all_at at (u ∷ us) = at ∷ all_at at us

are_at : (at : ℕ) (us : List U) → AreAt (all_at at us) at
are_at at [] = tt
are_at at (u ∷ us) = (refl, are_at at us)

as_many : (at : ℕ) (us : List U) → AreAsMany (all_at at us) us
as_many at [] = tt
as_many at (u ∷ us) = as_many at us

pub record Placed (a : List (SpellingPart U)) (ss : List PlacedTerminal) (rest : List PlainTerminal) : Type 0 where
  pub parts : List (SpellingPart ℕ)
  pub left : List PlacedTerminal
  pub like : Like parts a
  pub written : Written parts ss left
  pub kinds : kinds_of left ≡ rest

pub placed : (a : List (SpellingPart U)) (ss : List PlacedTerminal) (rest : List PlainTerminal)
    → Spells a (kinds_of ss) rest → Placed a ss rest
placed [] ss rest e = record { parts = []; left = ss; like = tt; written = refl; kinds = e }
placed (token kind us ∷ a) ss rest (more, e, sp) =
    let s = starts kind more ss e in
    let r = placed a s.left rest (subst (λ (x : List PlainTerminal). Spells a x rest) (sym s.kinds) sp) in
    record {
      parts = token kind (all_at s.spot.at us) ∷ r.parts;
      left = r.left;
      like = (refl, as_many s.spot.at us, r.like);
      written = (s.spot, s.left, s.is, s.kind_is, are_at s.spot.at us, r.written);
      kinds = r.kinds;
    }
placed (may extra ∷ a) ss rest (inl sp) =
    let r = placed a ss rest sp in
    record {
      parts = may extra ∷ r.parts;
      left = r.left;
      like = (refl, r.like);
      written = inl r.written;
      kinds = r.kinds;
    }
placed (may extra ∷ a) ss rest (inr (more, e, sp)) =
    let f = fronts (extra_kinds extra) more ss e in
    let r = placed a f.left rest (subst (λ (x : List PlainTerminal). Spells a x rest) (sym f.kinds) sp) in
    record {
      parts = may extra ∷ r.parts;
      left = r.left;
      like = (refl, r.like);
      written = inr (f.left, f.have, r.written);
      kinds = r.kinds;
    }
