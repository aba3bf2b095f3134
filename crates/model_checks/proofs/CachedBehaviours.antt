-- For `resolve`: the cached behaviours for later threads of the same implementation.
use Rattle.std.proofs.Common.{◌≡◌, ◌∙◌, ℕ, Bool, true, false, cond, nat_eq, List, Some, refl, sym, ap, subst}
use Rattle.std.specs.Map.{lookup}
use Rattle.std.proofs.lemmas.Bool.{eqb-true}
use Rattle.pals_base.specs.declared.behaviour.BehaviourParts.{BehaviourParts}
use Rattle.aadl_tree.specs.Declarations.{PackageTree}
use Rattle.model_checks.specs.proof.CachedBehaviours.{behaviour_at, AreKept}

-- one more
pub kept_more : (tree : PackageTree ℕ) (old new : List (ℕ × BehaviourParts)) (number : ℕ) (b : BehaviourParts)
    → Some b ≡ behaviour_at tree number
    → ((other : ℕ) → lookup (nat_eq other) new ≡ cond (nat_eq number other) (Some b) (lookup (nat_eq other) old))
    → AreKept tree old → AreKept tree new
kept_more tree old new number b is added kept other d found = by (nat_eq number other) refl
  where
    by : (t : Bool) → nat_eq number other ≡ t → behaviour_at tree other ≡ Some d
    by true e =
        let here = ap (λ t. cond t (Some b) (lookup (nat_eq other) old)) e in
        subst (λ n. behaviour_at tree n ≡ Some d) (eqb-true number other e)
        (sym is ∙ (sym here ∙ (sym (added other) ∙ found)))
    by false e =
        let there = ap (λ t. cond t (Some b) (lookup (nat_eq other) old)) e in
        kept other d (sym there ∙ (sym (added other) ∙ found))
