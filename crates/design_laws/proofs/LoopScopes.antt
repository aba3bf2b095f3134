-- A scope that fits a behaviour fits it within one more loop.
use Rattle.std.proofs.Common.{◌≡◌, ℕ, ◌+◌, Bool, true, false, cond, List, [], ◌∷◌, ◌++◌, Option, Some, None, refl}
use Rattle.std.proofs.Common.{subst, arith, inl, inr, ◌⊎◌}
use Rattle.std.specs.Prelude.{find}
use Rattle.std.proofs.lemmas.Option.{same_Some}
use Rattle.pals_base.specs.declared.behaviour.Kind.{Kind}
use Rattle.pals_base.specs.declared.behaviour.Kind.TheVariants.{Integer}
use Rattle.pals_base.specs.declared.behaviour.BehaviourParts.{BehaviourParts}
use Rattle.aadl_tree.specs.Names.{Identifier, same_name}
use Rattle.annex_resolve.specs.declared.scope.Scope.{Scope}
use Rattle.annex_resolve.specs.declared.scope.DeclaredName.{DeclaredName}
use Rattle.annex_resolve.specs.declared.scope.Meaning.{Meaning}
use Rattle.annex_resolve.specs.declared.scope.Meaning.TheVariants.{InPort, OutPort, Variable, LoopVariable}
use Rattle.annex_resolve.specs.NameMeanings.{with_loop}
use Rattle.design_laws.specs.proof.FittingAnnexNames.{FitsMeaning, FitsScope}

one_found : {A : Type 0} (b : Bool) (y e : A) → cond b (Some y) None ≡ Some e → y ≡ e
one_found true y e is = same_Some y e is
one_found false y e is = absurd (cc is)

found_by : {A : Type 0} (b : Bool) (x y e : A) (rest whole : Option A) → cond b (Some x) whole ≡ Some e
    → (whole ≡ Some e → (rest ≡ Some e) ⊎ (y ≡ e)) → (cond b (Some x) rest ≡ Some e) ⊎ (y ≡ e)
found_by true x y e rest whole is later = inl is
found_by false x y e rest whole is later = later is

find_last : {A : Type 0} (p : A → Bool) (xs : List A) (y e : A) → find p (xs ++ y ∷ []) ≡ Some e
    → (find p xs ≡ Some e) ⊎ (y ≡ e)
find_last p [] y e is = inr (one_found (p y) y e is)
find_last p (x ∷ xs) y e is = found_by (p x) x y e (find p xs) (find p (xs ++ y ∷ [])) is (find_last p xs y e)

wider : (b : BehaviourParts) (loops : ℕ) (m : Meaning) (kind : Option Kind) → FitsMeaning b loops m kind
    → FitsMeaning b (loops + 1) m kind
wider b loops (InPort n) kind fits = fits
wider b loops (OutPort n) kind fits = fits
wider b loops (Variable n) kind fits = fits
wider b loops (LoopVariable n) kind (past, within, is) = (past, omega (arith, within), is)

pub inner_fits : (b : BehaviourParts) (loops : ℕ) (scope : Scope) (x : Identifier ℕ) → FitsScope b loops scope
    → FitsScope b (loops + 1) (with_loop scope x)
inner_fits b loops scope x fits =
    let next = fits.next in
    let turn : DeclaredName = record { name = x.spelling; kind = Some Integer; meaning = LoopVariable scope.next } in
    record {
      entries =
          λ name e found. elim (find_last (λ (k : DeclaredName). same_name k.name name) scope.entries turn e found) as
          (λ r. FitsMeaning b (loops + 1) e.meaning e.kind) [
            | inl old ↦ wider b loops e.meaning e.kind (fits.entries name e old)
            | inr new ↦ subst (λ (k : DeclaredName). FitsMeaning b (loops + 1) k.meaning k.kind) new
                (omega (arith, next), omega (arith, next), refl)
          ];
      next = omega (arith, next);
    }
