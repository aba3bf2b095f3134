-- Spellings of parts: concatenation, the parts that the canonical text retains, and terminals at their places. For
-- the laws `kept_is_spelled` and `parts_are_spelled_in_turn`.
use Rattle.std.proofs.Common.{◌≡◌, ℕ, ◌∙◌, sym, ap, subst, refl, List, [], ◌∷◌, ◌++◌, inl, inr}
use Rattle.aadl_tree.specs.Terminals.{PlainTerminal, PlacedTerminal, kinds_of}
use Rattle.aadl_tree.specs.SpellingParts.{SpellingPart, token, may, extra_kinds, Spells, HaveKinds, Written, kept}

pub kept_spells : {P : Type 0} → (ps : List (SpellingPart P)) (rest : List PlainTerminal)
    → Spells ps (kept ps ++ rest) rest
kept_spells [] rest = refl
kept_spells (token kind places ∷ ps) rest = (kept ps ++ rest, refl, kept_spells ps rest)
kept_spells (may extra ∷ ps) rest = inl (kept_spells ps rest)

have_kinds : (ks : List PlainTerminal) (ss rest : List PlacedTerminal) → HaveKinds ks ss rest
    → kinds_of ss ≡ ks ++ kinds_of rest
have_kinds [] ss rest e = ap kinds_of e
have_kinds (kind ∷ ks) ss rest (s, more, e, is, h) =
    ap kinds_of e ∙ ap (λ x. x ∷ kinds_of more) is ∙ ap (λ l. kind ∷ l) (have_kinds ks more rest h)

pub written_spells : (ps : List (SpellingPart ℕ)) (ss rest : List PlacedTerminal) → Written ps ss rest
    → Spells ps (kinds_of ss) (kinds_of rest)
written_spells [] ss rest e = ap kinds_of e
written_spells (token kind places ∷ ps) ss rest (s, more, e, is, at, w) =
    (kinds_of more, ap kinds_of e ∙ ap (λ x. x ∷ kinds_of more) is, written_spells ps more rest w)
written_spells (may extra ∷ ps) ss rest (inl w) = inl (written_spells ps ss rest w)
written_spells (may extra ∷ ps) ss rest (inr (more, h, w)) =
    inr (kinds_of more, have_kinds (extra_kinds extra) ss more h, written_spells ps more rest w)

pub spells_append : {P : Type 0} → (a b : List (SpellingPart P)) (ks mid rest : List PlainTerminal) → Spells a ks mid
    → Spells b mid rest
    → Spells (a ++ b) ks rest
spells_append [] b ks mid rest e s = subst (λ (x : List PlainTerminal). Spells b x rest) (sym e) s
spells_append (token kind places ∷ a) b ks mid rest (more, e, r) s = (more, e, spells_append a b more mid rest r s)
spells_append (may extra ∷ a) b ks mid rest (inl r) s = inl (spells_append a b ks mid rest r s)
spells_append (may extra ∷ a) b ks mid rest (inr (more, e, r)) s = inr (more, e, spells_append a b more mid rest r s)

pub spells_split : {P : Type 0} → (a b : List (SpellingPart P)) (ks rest : List PlainTerminal) → Spells (a ++ b) ks rest
    → (mid : List PlainTerminal) × Spells a ks mid × Spells b mid rest
spells_split [] b ks rest s = (ks, refl, s)
spells_split (token kind places ∷ a) b ks rest (more, e, s) = let r = spells_split a b more rest s in
    (r.0, (more, e, r.1), r.2)
spells_split (may extra ∷ a) b ks rest (inl s) = let r = spells_split a b ks rest s in (r.0, inl r.1, r.2)
spells_split (may extra ∷ a) b ks rest (inr (more, e, s)) = let r = spells_split a b more rest s in
    (r.0, inr (more, e, r.1), r.2)

pub written_append : (a b : List (SpellingPart ℕ)) (ss mid rest : List PlacedTerminal) → Written a ss mid
    → Written b mid rest
    → Written (a ++ b) ss rest
written_append [] b ss mid rest e w = subst (λ (x : List PlacedTerminal). Written b x rest) (sym e) w
written_append (token kind places ∷ a) b ss mid rest (s, more, e, is, at, v) w =
    (s, more, e, is, at, written_append a b more mid rest v w)
written_append (may extra ∷ a) b ss mid rest (inl v) w = inl (written_append a b ss mid rest v w)
written_append (may extra ∷ a) b ss mid rest (inr (more, h, v)) w = inr (more, h, written_append a b more mid rest v w)

pub written_split : (a b : List (SpellingPart ℕ)) (ss rest : List PlacedTerminal) → Written (a ++ b) ss rest
    → (mid : List PlacedTerminal) × Written a ss mid × Written b mid rest
written_split [] b ss rest w = (ss, refl, w)
written_split (token kind places ∷ a) b ss rest (s, more, e, is, at, w) = let r = written_split a b more rest w in
    (r.0, (s, more, e, is, at, r.1), r.2)
written_split (may extra ∷ a) b ss rest (inl w) = let r = written_split a b ss rest w in (r.0, inl r.1, r.2)
written_split (may extra ∷ a) b ss rest (inr (more, h, w)) = let r = written_split a b more rest w in
    (r.0, inr (more, h, r.1), r.2)
