-- The texts of tuples, with commas between their values, and of variables with their values, after one more item.
use Rattle.std.proofs.Common.{◌≡◌, ℕ, ℤ, zero, suc, ◌<◌, ◌≤◌, ◌-◌, min, List, [], ◌∷◌, ◌++◌, length, map, take, drop}
use Rattle.std.proofs.Common.{get_or, codes, refl, sym, ap, ◌∙◌, arith, append_assoc, add-one, ◌+◌}
use Rattle.std.specs.List.{flat_map}
use Rattle.std.proofs.lemmas.List.{append-nil, take_all, take_rest}
use Rattle.pals_base.specs.declared.behaviour.VarDecl.{VarDecl}
use Rattle.pals_model.specs.RoundTexts.{with_commas, variable_text, vars_text}

-- commas precede each text except the first
with_commas-cons : {X : Type 0} (f : X → List ℕ) (x : X) (xs : List X)
    → with_commas (map f (x ∷ xs)) ≡ f x ++ flat_map (λ y. codes "," ++ f y) xs
with_commas-cons f x [] = sym (append-nil (f x))
with_commas-cons f x (y ∷ ys) =
    ap (λ t. f x ++ codes "," ++ t) (with_commas-cons f y ys) ∙ simp append_assoc

-- the first value, and all following ones
pub with_commas-all : {X : Type 0} (f : X → List ℕ) (d : X) (xs : List X) (i : ℕ) (old one out : List ℕ) → 1 ≤ length xs
    → length (take (length xs - 1) (drop 1 xs)) ≤ i → one ≡ old ++ f (get_or xs 0 d)
    → out ≡ one ++ flat_map (λ y. codes "," ++ f y) (take i (take (length xs - 1) (drop 1 xs)))
    → out ≡ old ++ with_commas (map f xs)
with_commas-all f d [] i old one out long end first more = absurd (omega arith)
with_commas-all f d (x ∷ xs) i old one out long end first more =
    let rest : take (length (x ∷ xs) - 1) (drop 1 (x ∷ xs)) ≡ xs = take_rest (x ∷ xs) 1 in
    let all : take i (take (length (x ∷ xs) - 1) (drop 1 (x ∷ xs))) ≡ xs = take_all i _ end ∙ rest in
    more ∙ ap (λ t. t ++ flat_map (λ y. codes "," ++ f y) (take i (take (length (x ∷ xs) - 1) (drop 1 (x ∷ xs))))) first
    ∙ append_assoc old (f x) _
    ∙ ap (λ t. old ++ (f x ++ flat_map (λ y. codes "," ++ f y) t)) all
    ∙ ap (λ t. old ++ t) (sym (with_commas-cons f x xs))

-- one more variable with its value
vars_text-suc : (vars : List VarDecl) (values : List ℤ) (n : ℕ) (d : VarDecl) (e : ℤ) → n < length vars
    → n < length values → vars_text (take (suc n) vars) (take (suc n) values)
    ≡ vars_text (take n vars) (take n values) ++ variable_text (get_or vars n d) (get_or values n e)
vars_text-suc [] values n d e h k = absurd (omega arith)
vars_text-suc (v ∷ vs) [] n d e h k = absurd (omega arith)
vars_text-suc (v ∷ vs) (z ∷ zs) zero d e h k = append-nil _
vars_text-suc (v ∷ vs) (z ∷ zs) (suc n) d e h k =
    ap (λ t. variable_text v z ++ t) (vars_text-suc vs zs n d e (omega arith) (omega arith))
    ∙ sym (append_assoc (variable_text v z) (vars_text (take n vs) (take n zs))
    (variable_text (get_or vs n d) (get_or zs n e)))

-- a variable after the earlier ones
pub vars_text-turn : (vars : List VarDecl) (values : List ℤ) (n : ℕ) (v : VarDecl) (z : ℤ) (old out new : List ℕ)
    → n < length vars → n < length values → ((d : VarDecl) → v ≡ get_or vars n d) → ((d : ℤ) → z ≡ get_or values n d)
    → out ≡ old ++ vars_text (take n vars) (take n values) → new ≡ out ++ variable_text v z
    → new ≡ old ++ vars_text (take (n + 1) vars) (take (n + 1) values)
vars_text-turn vars values n v z old out new h k at_v at_z before added =
    let same : variable_text v z ≡ variable_text (get_or vars n v) (get_or values n z) =
    ap (λ x. variable_text x z) (at_v v) ∙ ap (λ x. variable_text (get_or vars n v) x) (at_z z) in
    added ∙ ap (λ t. t ++ variable_text v z) before
    ∙ append_assoc old (vars_text (take n vars) (take n values)) (variable_text v z)
    ∙ ap (λ t. old ++ t)
    (ap (λ t. vars_text (take n vars) (take n values) ++ t) same ∙ sym (vars_text-suc vars values n v z h k)
    ∙ ap (λ m. vars_text (take m vars) (take m values)) (sym (add-one n)))

-- all variables with both a name and a value
pub vars_text-all : (vars : List VarDecl) (values : List ℤ) (n : ℕ) → n ≡ min (length vars) (length values)
    → vars_text (take n vars) (take n values) ≡ vars_text vars values
vars_text-all [] values zero h = refl
vars_text-all [] values (suc n) h = refl
vars_text-all (v ∷ vs) [] zero h = refl
vars_text-all (v ∷ vs) [] (suc n) h = refl
vars_text-all (v ∷ vs) (z ∷ zs) zero h = absurd (omega arith)
vars_text-all (v ∷ vs) (z ∷ zs) (suc n) h = ap (λ t. variable_text v z ++ t) (vars_text-all vs zs n (omega arith))
