-- Trees with given places, part by part. For the law that a text has a tree or a fault.
use Rattle.std.proofs.Common.{◌≡◌, ℕ, ◌∙◌, sym, ap, ap₂, Bool, true, false, List, [], ◌∷◌, ◌++◌, flat_map, Option, Some}
use Rattle.std.proofs.Common.{None, refl}
use Rattle.aadl_tree.specs.declared.mark.Mark.{Mark}
use Rattle.aadl_tree.specs.Terminals.{PlainTerminal, mark}
use Rattle.aadl_tree.specs.SpellingParts.{SpellingPart, token, may, Extra, Section, section_mark, empty_section}
use Rattle.aadl_tree.specs.SpellingParts.{marked_if}
use Rattle.aadl_tree.specs.SpellingParts.{parts_if, behind}
use Rattle.aadl_tree.specs.Declarations.{section_parts}

abbrev pub U : Type 0
U = Unit {0}

-- the two lists have the same length
abbrev pub AreAsMany : List ℕ → List U → Type 0
AreAsMany [] [] = Unit {0}
AreAsMany (p ∷ ps) (u ∷ us) = AreAsMany ps us
AreAsMany _ _ = ⊥

-- the same parts, with places
abbrev pub Like : List (SpellingPart ℕ) → List (SpellingPart U) → Type 0
Like [] [] = Unit {0}
Like (token kind ps ∷ b) (token its us ∷ c) = (kind ≡ its) × AreAsMany ps us × Like b c
Like (may extra ∷ b) (may its ∷ c) = (extra ≡ its) × Like b c
Like _ _ = ⊥

-- ---- pieces
pub record Split (b : List (SpellingPart ℕ)) (c d : List (SpellingPart U)) : Type 0 where
  pub front : List (SpellingPart ℕ)
  pub back : List (SpellingPart ℕ)
  pub is : b ≡ front ++ back
  pub first : Like front c
  pub second : Like back d

pub split : (c d : List (SpellingPart U)) (b : List (SpellingPart ℕ)) → Like b (c ++ d) → Split b c d
split [] d b l = record { front = []; back = b; is = refl; first = tt; second = l }
split (token kind us ∷ c) d [] l = absurd l
split (token kind us ∷ c) d (token its ps ∷ b) (e, z, l) =
    let s = split c d b l in
    record {
      front = token its ps ∷ s.front;
      back = s.back;
      is = ap (λ (x : List (SpellingPart ℕ)). token its ps ∷ x) s.is;
      first = (e, z, s.first);
      second = s.second;
    }
split (token kind us ∷ c) d (may its ∷ b) l = absurd l
split (may extra ∷ c) d [] l = absurd l
split (may extra ∷ c) d (token its ps ∷ b) l = absurd l
split (may extra ∷ c) d (may its ∷ b) (e, l) =
    let s = split c d b l in
    record {
      front = may its ∷ s.front;
      back = s.back;
      is = ap (λ (x : List (SpellingPart ℕ)). may its ∷ x) s.is;
      first = (e, s.first);
      second = s.second;
    }

-- the list after one part
pub record Behind (b : List (SpellingPart ℕ)) (p : SpellingPart ℕ) (d : List (SpellingPart U)) : Type 0 where
  pub back : List (SpellingPart ℕ)
  pub is : b ≡ p ∷ back
  pub rest : Like back d

pub cut : (kind : PlainTerminal) (d : List (SpellingPart U)) (b : List (SpellingPart ℕ)) → Like b (token kind [] ∷ d)
    → Behind b (token kind []) d
cut kind d [] l = absurd l
cut kind d (token its [] ∷ b) (e, z, l) =
    record {
      back = b;
      is = ap (λ (x : PlainTerminal). let r : List (SpellingPart ℕ) = token x [] ∷ b in r) e;
      rest = l;
    }
cut kind d (token its (p ∷ ps) ∷ b) (e, z, l) = absurd z
cut kind d (may its ∷ b) l = absurd l

pub record BehindAt (b : List (SpellingPart ℕ)) (kind : PlainTerminal) (d : List (SpellingPart U)) : Type 0 where
  pub at : ℕ
  pub back : List (SpellingPart ℕ)
  pub is : b ≡ token kind (at ∷ []) ∷ back
  pub rest : Like back d

pub cut_at : (kind : PlainTerminal) (u : U) (d : List (SpellingPart U)) (b : List (SpellingPart ℕ))
    → Like b (token kind (u ∷ []) ∷ d)
    → BehindAt b kind d
cut_at kind u d [] l = absurd l
cut_at kind u d (token its [] ∷ b) (e, z, l) = absurd z
cut_at kind u d (token its (p ∷ []) ∷ b) (e, z, l) =
    record {
      at = p;
      back = b;
      is = ap (λ (x : PlainTerminal). let r : List (SpellingPart ℕ) =
          token x (p ∷ []) ∷ b in r) e;
      rest = l;
    }
cut_at kind u d (token its (p ∷ q ∷ ps) ∷ b) (e, z, l) = absurd z
cut_at kind u d (may its ∷ b) l = absurd l

pub cut_may : (extra : Extra) (d : List (SpellingPart U)) (b : List (SpellingPart ℕ)) → Like b (may extra ∷ d)
    → Behind b (may extra) d
cut_may extra d [] l = absurd l
cut_may extra d (token its ps ∷ b) l = absurd l
cut_may extra d (may its ∷ b) (e, l) =
    record { back = b; is = ap (λ (x : Extra). let r : List (SpellingPart ℕ) = may x ∷ b in r) e; rest = l }

pub nil : (b : List (SpellingPart ℕ)) → Like b [] → b ≡ []
nil [] l = refl
nil (token its ps ∷ b) l = absurd l
nil (may its ∷ b) l = absurd l

pub joined : {a b c d w : List (SpellingPart ℕ)} → a ≡ c → b ≡ d → w ≡ c ++ d → a ++ b ≡ w
joined e f h = ap₂ (λ (x y : List (SpellingPart ℕ)). x ++ y) e f ∙ sym h

pub consed : {p : SpellingPart ℕ} {b d w : List (SpellingPart ℕ)} → b ≡ d → w ≡ p ∷ d → p ∷ b ≡ w
consed {p = p} e h = ap (λ (x : List (SpellingPart ℕ)). p ∷ x) e ∙ sym h

-- ---- a tree of given parts
pub record Filled (B : Type 0) (pb : B → List (SpellingPart ℕ)) (b : List (SpellingPart ℕ)) : Type 0 where
  pub tree : B
  pub is : pb tree ≡ b

abbrev pub Fills : (A B : Type 0) → (A → List (SpellingPart U)) → (B → List (SpellingPart ℕ)) → Type 0
Fills A B pa pb = (t : A) (b : List (SpellingPart ℕ)) → Like b (pa t) → Filled B pb b

pub list_fill : {A B : Type 0} (pa : A → List (SpellingPart U)) (pb : B → List (SpellingPart ℕ)) → Fills A B pa pb
    → Fills (List A) (List B) (flat_map pa) (flat_map pb)
list_fill pa pb f [] b l = record { tree = []; is = sym (nil b l) }
list_fill pa pb f (t ∷ ts) b l =
    let s = split (pa t) (flat_map pa ts) b l in
    let r = f t s.front s.first in
    let q = list_fill pa pb f ts s.back s.second in
    record { tree = r.tree ∷ q.tree; is = joined r.is q.is s.is }

pub chain_fill : {A B : Type 0} (m : Mark) (pa : A → List (SpellingPart U)) (pb : B → List (SpellingPart ℕ))
    → Fills A B pa pb
    → Fills (List A) (List B) (flat_map (behind m pa)) (flat_map (behind m pb))
chain_fill m pa pb f [] b l = record { tree = []; is = sym (nil b l) }
chain_fill m pa pb f (t ∷ ts) b l =
    let c = cut (mark m) (pa t ++ flat_map (behind m pa) ts) b l in
    let s = split (pa t) (flat_map (behind m pa) ts) c.back c.rest in
    let r = f t s.front s.first in
    let q = chain_fill m pa pb f ts s.back s.second in
    record { tree = r.tree ∷ q.tree; is = consed (joined r.is q.is s.is) c.is }

pub option_fill : {A B : Type 0} (pa : A → List (SpellingPart U)) (pb : B → List (SpellingPart ℕ)) → Fills A B pa pb
    → Fills (Option A) (Option B) (parts_if pa) (parts_if pb)
option_fill pa pb f None b l = record { tree = None; is = sym (nil b l) }
option_fill pa pb f (Some t) b l = let r = f t b l in record { tree = Some r.tree; is = r.is }

pub marked_fill : (m : Mark) → Fills Bool Bool (marked_if m) (marked_if m)
marked_fill m true b l = let c = cut (mark m) [] b l in
    record { tree = true; is = consed (sym (nil c.back c.rest)) c.is }
marked_fill m false b l = record { tree = false; is = sym (nil b l) }

-- ---- sections
abbrev pub sectioned : {P A : Type 0} → Section → (A → List (SpellingPart P)) → A → List (SpellingPart P)
sectioned section parts t = section_parts section (parts t)

some_section : (section : Section) (q : SpellingPart U) (qs : List (SpellingPart U)) (b : List (SpellingPart ℕ))
    → Like b (q ∷ qs)
    → section_parts section b ≡ token (mark (section_mark section)) [] ∷ b
some_section section (token kind us) qs [] l = absurd l
some_section section (may extra) qs [] l = absurd l
some_section section q qs (p ∷ b) l = refl

by_section : {B : Type 0} (section : Section) (pb : B → List (SpellingPart ℕ)) (ps : List (SpellingPart U))
    → ((b : List (SpellingPart ℕ)) → Like b ps → Filled B pb b)
    → (b : List (SpellingPart ℕ)) → Like b (section_parts section ps) → Filled B (sectioned section pb) b
by_section section pb [] f b l =
    let c = cut_may (empty_section section) [] b l in
    let r = f [] tt in
    record { tree = r.tree; is = ap (section_parts section) r.is ∙ consed (sym (nil c.back c.rest)) c.is }
by_section section pb (q ∷ qs) f b l =
    let c = cut (mark (section_mark section)) (q ∷ qs) b l in
    let r = f c.back c.rest in
    record { tree = r.tree; is = ap (section_parts section) r.is ∙ some_section section q qs c.back c.rest ∙ sym c.is }

pub section_fill : {A B : Type 0} (section : Section) (pa : A → List (SpellingPart U)) (pb : B → List (SpellingPart ℕ))
    → Fills A B pa pb → Fills A B (sectioned section pa) (sectioned section pb)
section_fill section pa pb f t b l = by_section section pb (pa t) (f t) b l
