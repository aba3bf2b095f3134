-- The checks of the table of forbidden followers, as statements on members of lists.
use Rattle.std.proofs.Common.{◌≡◌, ℕ, ◌⊎◌, Bool, true, false, cond, not, ◌&&◌, ◌||◌, ◌==◌, ◌∙◌, sym, ap, List, [], ◌∷◌}
use Rattle.std.proofs.Common.{◌++◌, refl, inl, inr}
use Rattle.std.proofs.lemmas.Bool.{eqb-true, or_cases, or_left, or_right}
use Rattle.aadl_grammar.specs.proof.GrammarSymbols.{Class, Symbol}
use Rattle.aadl_grammar.specs.proof.ParseTable.{rows, can_omit}
use Rattle.aadl_grammar.specs.proof.StackMachine.{Stack, class_number}
use Rattle.aadl_grammar.proofs.DerivationTrees.ForbiddenFollowers.{among, firsts, first_of, nullable, forbidden_after}
use Rattle.aadl_grammar.proofs.DerivationTrees.ForbiddenFollowers.{apart}
use Rattle.aadl_grammar.proofs.DerivationTrees.ForbiddenFollowers.{covers, settled, omits_settled, settled_omits}
use Rattle.std.specs.Cmp.{first_so, second_so}
use Rattle.aadl_grammar.proofs.KeywordListMembership.{not_both}

pub among_left : (n : ℕ) (cs ds : List Class) → among n cs ≡ true → among n (cs ++ ds) ≡ true
among_left n [] ds e = cc
among_left n (c ∷ cs) ds e =
    elim (or_cases (n == class_number c) (among n cs) e)
    [ inl h ↦ or_left _ _ h | inr h ↦ or_right (n == class_number c) _ (among_left n cs ds h) ]

pub among_right : (n : ℕ) (cs ds : List Class) → among n ds ≡ true → among n (cs ++ ds) ≡ true
among_right n [] ds e = e
among_right n (c ∷ cs) ds e = or_right (n == class_number c) _ (among_right n cs ds e)

pub among_either : (n : ℕ) (cs ds : List Class) → among n (cs ++ ds) ≡ true → (among n cs ≡ true) ⊎ (among n ds ≡ true)
among_either n [] ds e = inr e
among_either n (c ∷ cs) ds e = elim (or_cases (n == class_number c) (among n (cs ++ ds)) e) [
  | inl h ↦ inl (or_left _ _ h)
  | inr h ↦ elim (among_either n cs ds h) [ inl i ↦ inl (or_right (n == class_number c) _ i) | inr i ↦ inr i ]
]

-- no class of the one list has the number of a class of the other
abbrev pub Apart : List Class → List Class → Type 0
Apart cs ds = (n : ℕ) → among n cs ≡ true → among n ds ≡ true → ⊥

abbrev pub Covers : List Class → List Class → Type 0
Covers cs ds = (n : ℕ) → among n cs ≡ true → among n ds ≡ true

pub apart_means : (cs ds : List Class) → apart cs ds ≡ true → Apart cs ds
apart_means [] ds e n h g = cc
apart_means (c ∷ cs) ds e n h g = elim (or_cases (n == class_number c) (among n cs) h) [
  | inl i ↦ not_both (among (class_number c) ds) (first_so _ _ e)
      (ap (λ x. among x ds) (sym (eqb-true n (class_number c) i)) ∙ g)
  | inr i ↦ apart_means cs ds (second_so (not (among (class_number c) ds)) _ e) n i g
]

pub covers_means : (cs ds : List Class) → covers cs ds ≡ true → Covers cs ds
covers_means [] ds e n h = cc
covers_means (c ∷ cs) ds e n h = elim (or_cases (n == class_number c) (among n cs) h) [
  | inl i ↦ ap (λ x. among x ds) (eqb-true n (class_number c) i) ∙ first_so _ _ e
  | inr i ↦ covers_means cs ds (second_so (among (class_number c) ds) _ e) n i
]

-- no terminal that may follow a symbol of the stack belongs to that symbol
abbrev pub Clear : Stack → Type 0
Clear [] = Unit {0}
Clear (x ∷ below) = Apart (first_of below) (forbidden_after x) × Clear below

omits_by : (b : Bool) (x : Symbol) → b ≡ true → omits_settled b x ≡ true
    → covers (firsts (rows x)) (forbidden_after x) ≡ true
omits_by true x e h = h
omits_by false x e h = cc

-- the first terminals of a symbol that may be omitted are forbidden after it
pub firsts_in_tail : (x : Symbol) → can_omit x ≡ true → Covers (firsts (rows x)) (forbidden_after x)
firsts_in_tail x e = covers_means (firsts (rows x)) (forbidden_after x) (omits_by (can_omit x) x e (settled_omits x))

-- the first terminals of a list of symbols with more symbols after them
first_by : (x : Symbol) (f : List Symbol) (below : Stack) (n : ℕ)
    → ((can_omit x ≡ true) → among n (first_of (f ++ below)) ≡ true → ⊥) → (b : Bool) → can_omit x ≡ b
    → among n (cond b (first_of (f ++ below)) []) ≡ true → ⊥
first_by x f below n never true o j = never o j
first_by x f below n never false o j = cc

first_behind : (f : List Symbol) (below : Stack) (t : List Class) → Apart (first_of f) t
    → (nullable f ≡ true → Apart (first_of below) t) → Apart (first_of (f ++ below)) t
first_behind [] below t h g n e i = g refl n e i
first_behind (x ∷ f) below t h g n e i =
    elim (among_either n (firsts (rows x)) (cond (can_omit x) (first_of (f ++ below)) []) e) [
      | inl j ↦ h n (among_left n (firsts (rows x)) (cond (can_omit x) (first_of f) []) j) i
      | inr j ↦ first_by x f below n
          (λ o p. first_behind f below t
          (λ m q r. h m (among_right m (firsts (rows x)) (cond (can_omit x) (first_of f) [])
          (ap (λ b. among m (cond b (first_of f) [])) o ∙ q)) r)
          (λ null. g (ap (λ b. b && nullable f) o ∙ null)) n p i)
          (can_omit x) refl j
    ]

covers_if : (a b : Bool) → (not a || b) ≡ true → a ≡ true → b ≡ true
covers_if true b e h = e
covers_if false b e h = cc

pub clear_behind : (outer : List Class) (f : List Symbol) (below : Stack) → settled outer f ≡ true
    → Apart (first_of below) outer → Clear below → Clear (f ++ below)
clear_behind outer [] below e h c = c
clear_behind outer (x ∷ f) below e h c =
    let rest : ((not (nullable f) || covers (forbidden_after x) outer) && settled outer f) ≡ true =
    second_so (apart (first_of f) (forbidden_after x)) _ e in (
      first_behind f below (forbidden_after x) (apart_means (first_of f) (forbidden_after x) (first_so _ _ e))
          (λ null n p q. h n p (covers_means (forbidden_after x) outer
          (covers_if (nullable f) (covers (forbidden_after x) outer) (first_so _ _ rest) null) n q)),
      clear_behind outer f below (second_so (not (nullable f) || covers (forbidden_after x) outer) _ rest) h c,
    )
