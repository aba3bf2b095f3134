-- For the functions of `used_declarations`: membership in a set of numbers after one more insertion.
use Rattle.std.proofs.Common.{◌≡◌, ◌↔◌, ℕ, ◌+◌, ◌<◌, nat_eq, Bool, true, false, cond, ◌&&◌, ◌||◌, List, [], ◌∷◌, ◌++◌}
use Rattle.std.proofs.Common.{length, take, Option, Some, slice_get, refl, sym, ap, ◌∙◌}
use Rattle.std.specs.Prelude.{Contains}
use Rattle.std.specs.Cmp.{nat_eq_equiv}
use Rattle.std.specs.List.{list_any, enumerate_from}
use Rattle.std.proofs.lemmas.List.Folds.{list_any-append}
use Rattle.std.proofs.lemmas.Map.Views.{Contains-from_any, list_any-from_Contains}
use Rattle.indexmap.specs.IndexSet.{insert_key}
use Rattle.std.proofs.lemmas.Bool.{eqb-true}
use Rattle.std.proofs.Math.Bool.{or-false}
use Rattle.aadl_tree.specs.Declarations.{PackageTree}
use Rattle.aadl_uses.specs.ContainmentAndUse.{IsInUse}
use Rattle.component_checks.proofs.EnumeratedLists.{next_numbered, standing_at}
use Rattle.model_violations.specs.UsedDeclarations.{has, IsUse}

-- ---- one more

kept_by : (ks : List ℕ) (k n : ℕ) (same : Bool) → nat_eq n k ≡ same → has ks k ≡ true → has ks n ≡ (has ks n || same)
kept_by ks k n true e there = let found : has ks n ≡ true = ap (has ks) (eqb-true n k e) ∙ there in rw found refl
kept_by ks k n false e there = sym (or-false (has ks n))

inserted_by : (ks : List ℕ) (k n : ℕ) (there : Bool) → has ks k ≡ there
    → has (cond there ks (ks ++ k ∷ [])) n ≡ (has ks n || nat_eq n k)
inserted_by ks k n true h = kept_by ks k n (nat_eq n k) refl h
inserted_by ks k n false h = list_any-append (nat_eq n) ks (k ∷ []) ∙ ap (λ b. has ks n || b) (or-false (nat_eq n k))

pub has_inserted : (ks new : List ℕ) (k n : ℕ) → new ≡ insert_key nat_eq ks k → has new n ≡ (has ks n || nat_eq n k)
has_inserted ks new k n e = ap (λ l. has l n) e ∙ inserted_by ks k n (has ks k) refl

-- if a test fails, the other one decides
pub or_untested : (a b c : Bool) → b ≡ false → a ≡ (a || (b && c))
or_untested a b c fails = sym (ap (λ t. a || (t && c)) fails ∙ or-false a)

pub or_tested : (a b c d : Bool) → b ≡ true → d ≡ (a || c) → d ≡ (a || (b && c))
or_tested a b c d passes is = is ∙ sym (ap (λ t. a || (t && c)) passes)

-- the change of a test on numbered elements after one more element
pub one_more_passes : {A : Type 0} (p : ℕ × A → Bool) (g : Option A → Bool) (xs : List A) (i : ℕ) (old new : Bool)
    → ((x : A) → g (Some x) ≡ p (i, x)) → i < length xs
    → old ≡ list_any p (enumerate_from 0 (take i xs)) → new ≡ (old || g (slice_get xs i))
    → new ≡ list_any p (enumerate_from 0 (take (i + 1) xs))
one_more_passes p g xs i old new same within before added =
    let at = standing_at xs i within in
    let front = enumerate_from 0 (take i xs) in
    added ∙ ap (λ b. b || g (slice_get xs i)) before
    ∙ ap (λ b. list_any p front || b) (ap g at.there ∙ same at.value ∙ sym (or-false (p (i, at.value))))
    ∙ sym (list_any-append p front ((i, at.value) ∷ []))
    ∙ ap (list_any p) (sym (next_numbered xs i at.value within at.is))

-- ---- if the numbers are those in use, membership is the predicate of the declarations in use
pub is_use : (tree : PackageTree ℕ) (root : ℕ) (ks : List ℕ) → ((n : ℕ) → Contains ks n ↔ IsInUse tree root n)
    → IsUse tree root (has ks)
is_use tree root ks told =
    λ n. (
      (λ h. (told n).0 (Contains-from_any eqb-true n ks h)),
      (λ u. list_any-from_Contains nat_eq_equiv n ks ((told n).1 u)),
    )
