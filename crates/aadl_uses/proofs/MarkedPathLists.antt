-- Lists of the paths to marked declarations, as loops build them subcomponent by subcomponent.
use Rattle.std.proofs.Common.{◌≡◌, ℕ, ◌+◌, ◌<◌, ◌≤◌, Bool, List, [], ◌∷◌, ◌++◌, length, map, take, get_or, Contains}
use Rattle.std.proofs.Common.{refl, sym, ap, ◌∙◌, append_assoc}
use Rattle.std.proofs.lemmas.List.{take_more, take_all, map-append}
use Rattle.aadl_uses.specs.proof.ContainmentGraphs.{Graph}
use Rattle.aadl_uses.specs.proof.MarkedPathCounts.{IsMarkedAt}
use Rattle.aadl_uses.specs.proof.OrderedLists.{AreListed}
use Rattle.aadl_uses.specs.ThreadsBelow.{path_before}

-- ---- paths appended to others
-- one more
pub paths_more : {V W : Type 0} (f : V → List ℕ) (h : W → List ℕ) (old new : List V) (ys : List W) (i : ℕ) (v : V)
    (y : W) (start : List (List ℕ)) → i < length ys → y ≡ get_or ys i y
    → f v ≡ h y → new ≡ old ++ v ∷ [] → map f old ≡ start ++ map h (take i ys)
    → map f new ≡ start ++ map h (take (i + 1) ys)
paths_more f h old new ys i v y start within is same grown before =
    ap (map f) grown ∙ map-append f old (v ∷ []) ∙ ap (λ l. l ++ f v ∷ []) before
    ∙ append_assoc start (map h (take i ys)) (f v ∷ [])
    ∙ ap (λ l. start ++ l)
    (ap (λ p. map h (take i ys) ++ p ∷ []) (same ∙ ap h is) ∙ sym (map-append h (take i ys) (get_or ys i y ∷ []))
    ∙ ap (map h) (sym (take_more ys i y within)))

pub paths_all : {V W : Type 0} (f : V → List ℕ) (h : W → List ℕ) (new : List V) (ys : List W) (i : ℕ)
    (start : List (List ℕ)) → length ys ≤ i
    → map f new ≡ start ++ map h (take i ys) → map f new ≡ start ++ map h ys
paths_all f h new ys i start past before = before ∙ ap (λ l. start ++ map h l) (take_all i ys past)

-- ---- declarations, in order
-- if the declaration is in use, these are the paths from it
abbrev pub IsListedIn : Graph → List Bool → List ℕ → ℕ → List (List ℕ) → Type 0
IsListedIn g marks used n paths = Contains used n → AreListed (IsMarkedAt g marks n) path_before paths

-- ---- paths through a subcomponent
through_each : {W : Type 0} (f : W → List ℕ) (sub : ℕ) (ys : List W)
    → map (λ y. sub ∷ f y) ys ≡ map (λ p. sub ∷ p) (map f ys)
through_each f sub [] = refl
through_each f sub (y ∷ ys) = ap (λ l. (sub ∷ f y) ∷ l) (through_each f sub ys)

pub through_all : {W : Type 0} (f : W → List ℕ) (sub : ℕ) (ys : List W) (rows : List (List ℕ)) → map f ys ≡ rows
    → map (λ y. sub ∷ f y) ys ≡ map (λ p. sub ∷ p) rows
through_all f sub ys rows e = through_each f sub ys ∙ ap (map (λ p. sub ∷ p)) e
