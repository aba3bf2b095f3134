-- For the search for cycles: the states that settle within n iterations; one more iteration adds the states that
-- settle within n + 1.
use Rattle.std.proofs.Common.{◌≡◌, ℕ, ◌+◌, ◌<◌, ◌≤◌, zero, suc, Bool, true, ◌&&◌, ◌||◌, List, [], ◌∷◌, length, map}
use Rattle.std.proofs.Common.{refl, ap, ap₂, sym, ◌∙◌, arith, zero-add, add-one}
use Rattle.std.specs.List.{list_all}
use Rattle.std.proofs.lemmas.Bool.{and_parts}
use Rattle.std.proofs.lemmas.Option.{slice_get_past}
use Rattle.std.proofs.lemmas.List.Folds.{list_all-map}
use Rattle.pals_base.specs.declared.behaviour.BehaviourParts.{BehaviourParts}
use Rattle.pals_base.specs.SingleStep.{completes, is_complete, leaving}
use Rattle.pals_base.specs.UpwardNumbers.{upwards}
use Rattle.pals_base.specs.proof.CycleSearchMarks.{settles, marked, settles_next}

pub list_all-same : {A : Type 0} (f g : A → Bool) → ((x : A) → f x ≡ g x) → (xs : List A)
    → list_all f xs ≡ list_all g xs
list_all-same f g same [] = refl
list_all-same f g same (x ∷ xs) = ap (λ b. b && list_all f xs) (same x) ∙ ap (λ b. g x && b) (list_all-same f g same xs)

pub map-same : {X Y : Type 0} (f g : X → Y) → ((x : X) → f x ≡ g x) → (xs : List X) → map f xs ≡ map g xs
map-same f g same [] = refl
map-same f g same (x ∷ xs) = ap₂ (λ y ys. y ∷ ys) (same x) (map-same f g same xs)

pub all_marked : {A : Type 0} (f : A → Bool) (xs : List A) → list_all (λ mark. mark) (map f xs) ≡ list_all f xs
all_marked f xs = list_all-map (λ mark. mark) f xs

passed_upwards : (p : ℕ → Bool) (from n at : ℕ) → list_all p (upwards from n) ≡ true → at < n → p (from + at) ≡ true
passed_upwards p from zero at all within = absurd (omega arith)
passed_upwards p from (suc n) zero all within =
    ap p (omega arith) ∙ (and_parts (p from) (list_all p (upwards (suc from) n)) all).0
passed_upwards p from (suc n) (suc at) all within =
    ap p (omega arith) ∙ passed_upwards p (suc from) n at (and_parts (p from) (list_all p (upwards (suc from) n)) all).1
    (omega arith)

-- a property of all states holds for one, by its index
pub rule_at : (p : ℕ → Bool) (n s : ℕ) → list_all p (upwards 0 n) ≡ true → s < n → p s ≡ true
rule_at p n s all within = ap p (sym (zero-add s)) ∙ passed_upwards p 0 n s all within

-- the marks of all declared states determine the marks of all indices, since undeclared states are marked
marked_upwards : (f : ℕ → Bool) (from n s : ℕ) → ((k : ℕ) → n ≤ k → f (from + k) ≡ true)
    → marked (map f (upwards from n)) s ≡ f (from + s)
marked_upwards f from zero s past = sym (past s (omega arith))
marked_upwards f from (suc n) zero past = ap f (omega arith)
marked_upwards f from (suc n) (suc s) past =
    marked_upwards f (suc from) n s (λ k le. ap f (omega arith) ∙ past (suc k) (omega arith)) ∙ ap f (omega arith)

pub settles_past : (n : ℕ) (b : BehaviourParts) (s : ℕ) → length b.states ≤ s → settles n b s ≡ true
settles_past zero b s past = ap completes (slice_get_past b.states s past)
settles_past (suc n) b s past =
    ap (λ state. completes state || list_all (λ e. settles n b e.target) (leaving b s)) (slice_get_past b.states s past)

marked_settles : (n : ℕ) (b : BehaviourParts) (s : ℕ)
    → marked (map (settles n b) (upwards 0 (length b.states))) s ≡ settles n b s
marked_settles n b s =
    marked_upwards (settles n b) 0 (length b.states) s
    (λ k le. ap (λ j. settles n b j) (zero-add k) ∙ settles_past n b k le) ∙ ap (λ j. settles n b j) (zero-add s)

-- one more iteration
pub settles_more : (n : ℕ) (b : BehaviourParts) (marks : List Bool)
    → marks ≡ map (settles n b) (upwards 0 (length b.states))
    → map (settles_next b marks) (upwards 0 (length b.states)) ≡ map (settles (n + 1) b) (upwards 0 (length b.states))
settles_more n b marks is =
    let marked_is : (s : ℕ) → marked marks s ≡ settles n b s = λ s. ap (λ m. marked m s) is ∙ marked_settles n b s in
    let one : (s : ℕ) → settles_next b marks s ≡ settles (suc n) b s =
    λ s. ap (λ all. is_complete b s || all)
    (list_all-same (λ e. marked marks e.target) (λ e. settles n b e.target) (λ e. marked_is e.target)
    (leaving b s)) in
    map-same (settles_next b marks) (settles (suc n) b) one (upwards 0 (length b.states))
    ∙ ap (λ k. map (settles k b) (upwards 0 (length b.states))) (sym (add-one n))
