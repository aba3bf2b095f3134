-- The links into a node: the links whose target it is, each once.
use Rattle.std.proofs.Common.{◌≡◌, ◌≢◌, ℕ, zero, suc, ◌+◌, nat_eq, Bool, true, false, cond, List, [], ◌∷◌, map, filter}
use Rattle.std.proofs.Common.{slice_get, Some, refl, sym, ap, ◌∙◌, subst, arith}
use Rattle.std.specs.List.{AllByRecursion as Every, Contains, enumerate_from}
use Rattle.std.proofs.lemmas.Bool.{eqb-true, eq-eqb, true≢false}
use Rattle.list_lemmas.proofs.Elements.{Contains-head, Contains-cons}
use Rattle.list_lemmas.proofs.PairwiseProperties.{Pairs}
use Rattle.pals_model.specs.declared.design.Link.{Link}

-- the numbers of those from a number on
abbrev pub into_from : ℕ → ℕ → List Link → List ℕ
into_from node from ls =
    map (λ (numbered : ℕ × Link). numbered.0)
    (filter (λ (numbered : ℕ × Link). nat_eq numbered.1.target.0 node) (enumerate_from from ls))

-- ---- a property of each link to the node is a property of each of them
every_by : (P : ℕ → Type 0) (from : ℕ) (rest : List (ℕ × Link)) (l : Link) (b : Bool) → (b ≡ true → P from)
    → Every P (map (λ (numbered : ℕ × Link). numbered.0) rest)
    → Every P (map (λ (numbered : ℕ × Link). numbered.0) (cond b ((from, l) ∷ rest) rest))
every_by P from rest l true here later = (here refl, later)
every_by P from rest l false here later = later

pub every_into : (P : ℕ → Type 0) (node from : ℕ) (ls : List Link)
    → ((k : ℕ) (l : Link) → slice_get ls k ≡ Some l → l.target.0 ≡ node → P (from + k))
    → Every P (into_from node from ls)
every_into P node from [] each = tt
every_into P node from (l ∷ ls) each =
    every_by P from
    (filter (λ (numbered : ℕ × Link). nat_eq numbered.1.target.0 node) (enumerate_from (from + 1) ls)) l
    (nat_eq l.target.0 node)
    (λ is. let place : from + 0 ≡ from = omega arith in
    subst P place (each 0 l refl (eqb-true l.target.0 node is)))
    (every_into P node (from + 1) ls
    (λ k x at to. let place : from + suc k ≡ from + 1 + k = omega arith in subst P place (each (suc k) x at to)))

-- ---- each once
pairs_by : (from : ℕ) (rest : List (ℕ × Link)) (l : Link) (b : Bool)
    → Every (λ j. from ≢ j) (map (λ (numbered : ℕ × Link). numbered.0) rest)
    → Pairs (λ i j. i ≢ j) (map (λ (numbered : ℕ × Link). numbered.0) rest)
    → Pairs (λ i j. i ≢ j) (map (λ (numbered : ℕ × Link). numbered.0) (cond b ((from, l) ∷ rest) rest))
pairs_by from rest l true apart later = (apart, later)
pairs_by from rest l false apart later = later

pub pairs_into : (node from : ℕ) (ls : List Link) → Pairs (λ i j. i ≢ j) (into_from node from ls)
pairs_into node from [] = tt
pairs_into node from (l ∷ ls) =
    pairs_by from (filter (λ (numbered : ℕ × Link). nat_eq numbered.1.target.0 node) (enumerate_from (from + 1) ls)) l
    (nat_eq l.target.0 node)
    (every_into (λ j. from ≢ j) node (from + 1) ls (λ k x at to same. omega (arith, same)))
    (pairs_into node (from + 1) ls)

-- ---- and all of them
contains_by : (j from : ℕ) (rest : List (ℕ × Link)) (l : Link) (b : Bool)
    → Contains (map (λ (numbered : ℕ × Link). numbered.0) rest) j
    → Contains (map (λ (numbered : ℕ × Link). numbered.0) (cond b ((from, l) ∷ rest) rest)) j
contains_by j from rest l true later = Contains-cons from j (map (λ (numbered : ℕ × Link). numbered.0) rest) later
contains_by j from rest l false later = later

first_by : (from : ℕ) (rest : List (ℕ × Link)) (l : Link) (b : Bool) → b ≡ true
    → Contains (map (λ (numbered : ℕ × Link). numbered.0) (cond b ((from, l) ∷ rest) rest)) from
first_by from rest l true is = Contains-head from (map (λ (numbered : ℕ × Link). numbered.0) rest)
first_by from rest l false is = absurd (true≢false (sym is))

pub contains_into : (node from : ℕ) (ls : List Link) (k : ℕ) (l : Link) → slice_get ls k ≡ Some l → l.target.0 ≡ node
    → Contains (into_from node from ls) (from + k)
contains_into node from [] k l at to = absurd (cc)
contains_into node from (x ∷ ls) zero l at to =
    let rest = filter (λ (numbered : ℕ × Link). nat_eq numbered.1.target.0 node) (enumerate_from (from + 1) ls) in
    let same : x ≡ l = cc in
    let place : from ≡ from + 0 = omega arith in
    subst (Contains (into_from node from (x ∷ ls))) place
    (first_by from rest x (nat_eq x.target.0 node) (eq-eqb x.target.0 node (ap (λ (y : Link). y.target.0) same ∙ to)))
contains_into node from (x ∷ ls) (suc k) l at to =
    let rest = filter (λ (numbered : ℕ × Link). nat_eq numbered.1.target.0 node) (enumerate_from (from + 1) ls) in
    let place : from + 1 + k ≡ from + suc k = omega arith in
    subst (Contains (into_from node from (x ∷ ls))) place
    (contains_by (from + 1 + k) from rest x (nat_eq x.target.0 node) (contains_into node (from + 1) ls k l at to))
