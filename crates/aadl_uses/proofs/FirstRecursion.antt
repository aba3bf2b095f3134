-- The first subcomponent that leads back to the declaration that contains it, and so closes a cycle, among those
-- tested so far.
use Rattle.std.proofs.Common.{◌≡◌, ◌⊎◌, inl, inr, ℕ, ◌<◌, ◌≤◌, ◌+◌, true, false, List, [], ◌∷◌, ◌++◌, Option, Some}
use Rattle.std.proofs.Common.{None, length, get_or, take, Contains, refl, sym, ap, subst, ◌∙◌, arith, Result, Ok, Err}
use Rattle.std.proofs.Common.{IfOk}
use Rattle.std.specs.Option.{option_and_then}
use Rattle.std.proofs.lemmas.Bool.Decides.{nat_tests}
use Rattle.std.proofs.lemmas.List.{take_more}
use Rattle.std.proofs.lemmas.Option.{same_Some, none-some, option_and_then_some}
use Rattle.std.proofs.lemmas.List.Elements.{Contains-push_cases}
use Rattle.list_lemmas.proofs.Options.{option_and_then_assoc}
use Rattle.aadl_tree.specs.Declarations.{Subcomponent, PackageTree}
use Rattle.aadl_names.specs.declared.fault.PackageFault.{PackageFault}
use Rattle.aadl_names.specs.declared.fault.PackageFault.TheVariants.{Recursive}
use Rattle.aadl_names.specs.FirstFaults.{place_of, number_of, precedes}
use Rattle.aadl_names.specs.NameResolution.{referred}
use Rattle.aadl_uses.specs.ContainmentAndUse.{sub_at}
use Rattle.aadl_uses.specs.Recursion.{ClosesCycle, IsRecursive}
use Rattle.aadl_uses.specs.proof.PackageContainment.{containment}
use Rattle.aadl_uses.specs.proof.FirstRecursion.{FirstIn, is_sooner, IsBefore, AreBefore, IsFound, IsSooner, IsFirstOf}
use Rattle.aadl_uses.proofs.PackageContainment.{below-same, standing-same}
use Rattle.aadl_uses.specs.proof.ContainmentGraphs.{Graph, below_in, reached_by, LeadsBack}

pub kept_as_is : {X : Type 0} (o : Option X) → o ≡ option_and_then (λ x. Some x) o
kept_as_is None = refl
kept_as_is (Some x) = refl

-- the first step of a path is the last of its list
first_step : (g : Graph) (from s : ℕ) (path : List ℕ)
    → reached_by g from (path ++ s ∷ []) ≡ option_and_then (λ m. reached_by g m path) (below_in g from s)
first_step g from s [] = kept_as_is (below_in g from s)
first_step g from s (t ∷ path) = ap (option_and_then (λ n. below_in g n t)) (first_step g from s path)
    ∙ option_and_then_assoc (λ m. reached_by g m path) (λ n. below_in g n t) (below_in g from s)

pub leads_back_from : (tree : PackageTree ℕ) (sub : Subcomponent ℕ) → (c : ClosesCycle tree sub)
    → LeadsBack (containment tree) c.within c.number
leads_back_from tree sub c =
    option_and_then_some (λ m. reached_by (containment tree) m c.path)
    (below_in (containment tree) c.within c.number) c.within
    (sym (first_step (containment tree) c.within c.number c.path)
    ∙ (standing-same tree c.within (c.path ++ c.number ∷ []) ∙ c.returns))
    (λ m h f. (m, h, (c.path, f)))

pub closes_from : (tree : PackageTree ℕ) (n s : ℕ) (sub : Subcomponent ℕ) → sub_at tree n s ≡ Some sub
    → LeadsBack (containment tree) n s → ClosesCycle tree sub
closes_from tree n s sub is back = record {
  within = n;
  number = s;
  path = back.2.0;
  is_sub = is;
  returns = sym (standing-same tree n (back.2.0 ++ s ∷ []))
      ∙ (first_step (containment tree) n s back.2.0
      ∙ (ap (option_and_then (λ m. reached_by (containment tree) m back.2.0)) back.1 ∙ back.2.1));
}

-- if no subcomponent closes a cycle, none leads back
pub no_way_back : (tree : PackageTree ℕ) → ((fault : PackageFault) → IsRecursive tree fault → ⊥) → (n s : ℕ)
    → LeadsBack (containment tree) n s → ⊥
no_way_back tree none n s back =
    option_and_then_some (λ sub. referred tree sub.classifier) (sub_at tree n s) back.0
    (sym (below-same tree n s) ∙ back.1)
    (λ sub h f. none (Recursive sub.name.spelling sub.name.at) (sub, closes_from tree n s sub h back, refl))

-- ---- one more subcomponent
-- there is no such subcomponent
pub sooner_none : (tree : PackageTree ℕ) (old : Option PackageFault) (n s : ℕ) → sub_at tree n s ≡ None
    → IsSooner tree old n s old
sooner_none tree old n s none = record {
  found = λ f. f;
  kept = λ at b. b;
  here = λ sub back is f. absurd (none-some sub (sym none ∙ is));
}

sooner_by : (tree : PackageTree ℕ) (at : ℕ) (old : Option PackageFault) → is_sooner at old ≡ false → IsFound tree old
    → IsBefore tree at old
sooner_by tree at None late f = absurd (true_false late)
  where
    true_false : true ≡ false → ⊥
    true_false e = grind arith
sooner_by tree at (Some fault) late f = (f, grind (arith, nat_tests))

-- it is after the result so far
pub sooner_late : (tree : PackageTree ℕ) (old : Option PackageFault) (n s : ℕ) (sub : Subcomponent ℕ)
    → sub_at tree n s ≡ Some sub
    → is_sooner sub.name.at old ≡ false → IsSooner tree old n s old
sooner_late tree old n s sub is late = record {
  found = λ f. f;
  kept = λ at b. b;
  here =
      λ other back is2 f. subst (λ (x : Subcomponent ℕ). IsBefore tree x.name.at old)
      (same_Some sub other (sym is ∙ is2))
      (sooner_by tree sub.name.at old late f);
}

-- it does not lead back
pub sooner_not : (tree : PackageTree ℕ) (old : Option PackageFault) (n s : ℕ) → (LeadsBack (containment tree) n s → ⊥)
    → IsSooner tree old n s old
sooner_not tree old n s never = record {
  found = λ f. f;
  kept = λ at b. b;
  here = λ other back is2 f. absurd (never back);
}

earlier_kept : (tree : PackageTree ℕ) (old : Option PackageFault) (at here : ℕ) (fault : PackageFault)
    → place_of fault ≡ here → IsRecursive tree fault
    → is_sooner here old ≡ true → IsBefore tree at old → IsBefore tree at (Some fault)
earlier_kept tree None at here fault e r soon b = absurd b
earlier_kept tree (Some old) at here fault e r soon b = let le = b.1 in (r, grind (arith, nat_tests))

-- it is the first so far
pub sooner_new : (tree : PackageTree ℕ) (old : Option PackageFault) (n s : ℕ) (sub : Subcomponent ℕ)
    → sub_at tree n s ≡ Some sub
    → is_sooner sub.name.at old ≡ true → LeadsBack (containment tree) n s
    → IsSooner tree old n s (Some (Recursive sub.name.spelling sub.name.at))
sooner_new tree old n s sub is soon back =
    let recursive : IsRecursive tree (Recursive sub.name.spelling sub.name.at) =
    (sub, closes_from tree n s sub is back, refl) in
    record {
      found = λ f. recursive;
      kept =
          λ at b. earlier_kept tree old at sub.name.at (Recursive sub.name.spelling sub.name.at) refl recursive soon b;
      here =
          λ other back2 is2 f. (
            recursive,
            subst (λ (x : Subcomponent ℕ). sub.name.at ≤ x.name.at) (same_Some sub other (sym is ∙ is2))
                (omega arith),
          );
    }

-- ---- the loop
pub before_none : (tree : PackageTree ℕ) (first : Option PackageFault) → AreBefore tree [] first
before_none tree first n s sub h back is = let lt = h.1 in absurd (omega arith)

pub before_more : (tree : PackageTree ℕ) (subs : List (ℕ × ℕ)) (old new : Option PackageFault) (n s : ℕ)
    → IsFound tree old → AreBefore tree subs old
    → IsSooner tree old n s new → AreBefore tree (subs ++ (n, s) ∷ []) new
before_more tree subs old new n s found so_far more m t sub h back is = by (Contains-push_cases subs (n, s) (m, t) h)
  where
    by : Contains subs (m, t) ⊎ (◌≡◌ {A = ℕ × ℕ} (n, s) (m, t)) → IsBefore tree sub.name.at new
    by (inl k) = more.kept sub.name.at (so_far m t sub k back is)
    by (inr e) =
        more.here sub (subst (λ k. LeadsBack (containment tree) n k) (sym (ap (λ (p : ℕ × ℕ). p.1) e))
        (subst (λ k. LeadsBack (containment tree) k t) (sym (ap (λ (p : ℕ × ℕ). p.0) e)) back))
        (subst (λ k. sub_at tree n k ≡ Some sub) (sym (ap (λ (p : ℕ × ℕ). p.1) e))
        (subst (λ k. sub_at tree k t ≡ Some sub) (sym (ap (λ (p : ℕ × ℕ). p.0) e)) is)) found

pub first_none : (tree : PackageTree ℕ) → IsFirstOf tree [] None
first_none tree = record { found = tt; before = before_none tree None }

pub first_more : (tree : PackageTree ℕ) (xs : List (ℕ × ℕ)) (i : ℕ) (x : ℕ × ℕ) (old new : Option PackageFault)
    → i < length xs → get_or xs i x ≡ x
    → IsFirstOf tree (take i xs) old → IsSooner tree old x.0 x.1 new → IsFirstOf tree (take (i + 1) xs) new
first_more tree xs i x old new lt is so_far more =
    subst (λ (l : List (ℕ × ℕ)). IsFirstOf tree l new) (sym (take_more xs i x lt ∙ ap (λ y. take i xs ++ y ∷ []) is))
    (record {
      found = more.found so_far.found;
      before = before_more tree (take i xs) old new x.0 x.1 so_far.found so_far.before more;
    })

-- ---- the end
number_of_recursive : (tree : PackageTree ℕ) (fault : PackageFault) → IsRecursive tree fault → number_of fault ≡ 5
number_of_recursive tree fault r = ap number_of r.2

not_before : (a b : PackageFault) → place_of b ≤ place_of a → number_of a ≡ 5 → number_of b ≡ 5 → precedes a b ≡ false
not_before a b le x y = grind (arith, nat_tests)

pub first_by : (tree : PackageTree ℕ) (subs : List (ℕ × ℕ)) (first : Option PackageFault)
    → ((n s : ℕ) → LeadsBack (containment tree) n s → Contains subs (n, s)) → IsFound tree first
    → AreBefore tree subs first
    → FirstIn (IsRecursive tree) first
first_by tree subs None all found before =
    λ fault r. before r.1.within r.1.number r.0 (all r.1.within r.1.number (leads_back_from tree r.0 r.1))
    (leads_back_from tree r.0 r.1) r.1.is_sub
first_by tree subs (Some fault) all found before = record {
  found = found;
  first = λ other r.
      let here =
      before r.1.within r.1.number r.0 (all r.1.within r.1.number (leads_back_from tree r.0 r.1))
      (leads_back_from tree r.0 r.1) r.1.is_sub in
      not_before other fault (subst (λ p. place_of fault ≤ p) (sym (ap place_of r.2)) here.1)
      (number_of_recursive tree other r)
      (number_of_recursive tree fault found);
}

pub ok_first : {E : Type 0} (r : Result (Option PackageFault) E) (tree : PackageTree ℕ) (subs : List (ℕ × ℕ))
    → ((n s : ℕ) → LeadsBack (containment tree) n s → Contains subs (n, s)) → IfOk r (IsFirstOf tree subs)
    → IfOk r (FirstIn (IsRecursive tree))
ok_first (Ok x) tree subs all found = first_by tree subs x all found.found found.before
ok_first (Err x) tree subs all found = tt
