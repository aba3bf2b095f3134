-- Lists of faults without `Memory`, and how they are concatenated.
use Rattle.std.proofs.Common.{◌⊎◌, inl, inr, ◌∙◌, ℕ, Bool, true, false, cond, List, [], ◌∷◌, ◌++◌, map, flat_map}
use Rattle.std.proofs.Common.{Contains}
use Rattle.std.specs.Prelude.{◌≢◌}
use Rattle.std.proofs.lemmas.List.Elements.{Contains-append_cases}
use Rattle.list_lemmas.proofs.Elements.{Contains-nil}
use Rattle.aadl_names.specs.declared.fault.PackageFault.{PackageFault}
use Rattle.aadl_names.specs.declared.fault.PackageFault.TheVariants.{Unknown, Twice, WrongKind, Memory}
use Rattle.aadl_names.specs.declared.declared_name.SpelledName.{SpelledName}
use Rattle.aadl_names.specs.DuplicateNames.{wrong_if, again, twice}
use Rattle.aadl_names.proofs.ListMembers.{only_here}

pub record NoneIsMemory (fs : List PackageFault) : Type 0 where
  pub named : (f : PackageFault) → Contains fs f → f ≢ Memory

pub none : NoneIsMemory []
none = record { named = λ f h e. Contains-nil f h }

pub one : (f : PackageFault) → f ≢ Memory → NoneIsMemory (f ∷ [])
one f n = record { named = λ g h e. n (only_here f g h ∙ e) }

pub both : {a b : List PackageFault} → NoneIsMemory a → NoneIsMemory b → NoneIsMemory (a ++ b)
both {a = a} {b = b} x y = record { named = λ f h. by f (Contains-append_cases a b f h) }
  where
    by : (f : PackageFault) → Contains a f ⊎ Contains b f → f ≢ Memory
    by f (inl h) = x.named f h
    by f (inr h) = y.named f h

pub each : {X : Type 0} (g : X → List PackageFault) → ((x : X) → NoneIsMemory (g x)) → (xs : List X)
    → NoneIsMemory (flat_map g xs)
each g n [] = none
each g n (x ∷ xs) = both (n x) (each g n xs)

pub mapped : {X : Type 0} (g : X → PackageFault) → ((x : X) → g x ≢ Memory) → (xs : List X) → NoneIsMemory (map g xs)
mapped g n [] = none
mapped g n (x ∷ xs) = both (one (g x) (n x)) (mapped g n xs)

pub either : (b : Bool) {xs ys : List PackageFault} → NoneIsMemory xs → NoneIsMemory ys → NoneIsMemory (cond b xs ys)
either true x y = x
either false x y = y

pub kind : (at : ℕ) → NoneIsMemory (WrongKind at ∷ [])
kind at = one (WrongKind at) (λ e. absurd cc)

pub unknown : (name : List ℕ) (at : ℕ) → NoneIsMemory (Unknown name at ∷ [])
unknown name at = one (Unknown name at) (λ e. absurd cc)

pub second : (name : List ℕ) (at : ℕ) → NoneIsMemory (Twice name at ∷ [])
second name at = one (Twice name at) (λ e. absurd cc)

pub wrong : (b : Bool) (at : ℕ) → NoneIsMemory (wrong_if b at)
wrong b at = either b (kind at) none

pub kinds : {X : Type 0} (at : X → ℕ) (xs : List X) → NoneIsMemory (map (λ x. WrongKind (at x)) xs)
kinds at xs = mapped (λ x. WrongKind (at x)) (λ x e. absurd cc) xs

pub twice_named : (xs : List SpelledName) → NoneIsMemory (twice xs)
twice_named xs = each (again xs) (λ x. either _ (second x.name x.at) none) xs
