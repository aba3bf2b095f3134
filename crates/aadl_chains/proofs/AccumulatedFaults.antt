-- Faults that are found one list after another: nothing is added, two lists are concatenated, two properties are
-- equivalent, and the final result is the first of all.
use Rattle.std.proofs.Common.{◌⊎◌, inl, inr, [], ◌++◌, Contains, Option, Some, None, refl, sym, ap, subst, ◌∙◌}
use Rattle.std.proofs.lemmas.List.Elements.{Contains-append_left, Contains-append_right, Contains-append_cases}
use Rattle.list_lemmas.proofs.Elements.{Contains-nil}
use Rattle.aadl_names.specs.declared.fault.PackageFault.{PackageFault}
use Rattle.aadl_names.specs.FirstFaults.{FirstOf}
use Rattle.aadl_names.specs.proof.FirstFaultSoFar.{found}
use Rattle.aadl_names.proofs.FirstFaultSoFar.{found_append}
use Rattle.aadl_uses.specs.proof.FirstRecursion.{FirstIn}
use Rattle.aadl_names.proofs.SameFirstFaults.{found_is_first}
use Rattle.aadl_chains.specs.proof.FoundChainFaults.{FindsAll}

pub finds_nothing : (P : PackageFault → Type 0) (old : Option PackageFault) → ((fault : PackageFault) → P fault → ⊥)
    → FindsAll P old old
finds_nothing P old none =
    record { faults = []; is = refl; each = λ f h. absurd (Contains-nil f h); all = λ f p. absurd (none f p) }

pub finds_both : (P Q R : PackageFault → Type 0) (a b c : Option PackageFault) → ((f : PackageFault) → P f → R f)
    → ((f : PackageFault) → Q f → R f)
    → ((f : PackageFault) → R f → P f ⊎ Q f)
    → FindsAll P a b → FindsAll Q b c → FindsAll R a c
finds_both P Q R a b c left right either p q = record {
  faults = p.faults ++ q.faults;
  is = q.is ∙ (ap (λ (o : Option PackageFault). found o q.faults) p.is ∙ sym (found_append a p.faults q.faults));
  each = λ f h. by_part f (Contains-append_cases p.faults q.faults f h);
  all = λ f r. by_kind f (either f r);
}
  where
    by_part : (f : PackageFault) → Contains p.faults f ⊎ Contains q.faults f → R f
    by_part f (inl h) = left f (p.each f h)
    by_part f (inr h) = right f (q.each f h)

    by_kind : (f : PackageFault) → P f ⊎ Q f → Contains (p.faults ++ q.faults) f
    by_kind f (inl h) = Contains-append_left p.faults q.faults f (p.all f h)
    by_kind f (inr h) = Contains-append_right p.faults q.faults f (q.all f h)

pub finds_same : (P Q : PackageFault → Type 0) (a b : Option PackageFault) → ((f : PackageFault) → P f → Q f)
    → ((f : PackageFault) → Q f → P f) → FindsAll P a b
    → FindsAll Q a b
finds_same P Q a b to from p =
    record { faults = p.faults; is = p.is; each = λ f h. to f (p.each f h); all = λ f q. p.all f (from f q) }

-- the first of all faults found
pub first_found : (P : PackageFault → Type 0) (new : Option PackageFault) → FindsAll P None new → FirstIn P new
first_found P new p = by new (subst (FirstOf p.faults) (sym p.is) (found_is_first p.faults))
  where
    by : (o : Option PackageFault) → FirstOf p.faults o → FirstIn P o
    by None e = λ f h. Contains-nil f (subst (λ l. Contains l f) e (p.all f h))
    by (Some first) i = record { found = p.each first i.found; first = λ other h. i.first other (p.all other h) }
