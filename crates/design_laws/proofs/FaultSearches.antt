-- The existence of a fault of some kind is decidable, and the first one is found, one kind after another.
use Rattle.std.proofs.Common.{◌≡◌, ◌⊎◌, inl, inr, ℕ, zero, suc, ◌<◌, ◌≤◌, [], ◌∷◌, Contains, Option, None, refl, sym}
use Rattle.std.proofs.Common.{subst, arith}
use Rattle.std.proofs.lemmas.Bool.{cases_lt}
use Rattle.aadl_names.specs.declared.fault.PackageFault.{PackageFault}
use Rattle.aadl_names.specs.proof.FirstFaultSoFar.{found}
use Rattle.aadl_names.proofs.ListMembers.{is_here, only_here}
use Rattle.aadl_uses.specs.proof.FirstRecursion.{FirstIn}
use Rattle.aadl_chains.specs.proof.FoundChainFaults.{FindsAll}
use Rattle.aadl_chains.proofs.AccumulatedFaults.{finds_nothing, finds_both, finds_same, first_found}

-- all faults that satisfy P are found, in addition to the faults found before
pub record Finds (P : PackageFault → Type 0) (old : Option PackageFault) : Type 0 where
  pub new : Option PackageFault
  pub all : FindsAll P old new

pub none_found : (P : PackageFault → Type 0) (old : Option PackageFault) → ((fault : PackageFault) → P fault → ⊥)
    → Finds P old
none_found P old never = record { new = old; all = finds_nothing P old never }

pub alike_found : (P Q : PackageFault → Type 0) (old : Option PackageFault) → ((f : PackageFault) → P f → Q f)
    → ((f : PackageFault) → Q f → P f) → Finds P old → Finds Q old
alike_found P Q old to from x = record { new = x.new; all = finds_same P Q old x.new to from x.all }

-- one finding, under a condition that is decidable
pub found_if : (D : Type 0) (fault : PackageFault) (old : Option PackageFault) → D ⊎ (D → ⊥)
    → Finds (λ f. D × (f ≡ fault)) old
found_if D fault old (inl d) = record {
  new = found old (fault ∷ []);
  all = record {
    faults = fault ∷ [];
    is = refl;
    each = λ f h. (d, sym (only_here fault f h));
    all = λ f h. subst (Contains (fault ∷ [])) (sym h.1) (is_here fault);
  };
}
found_if D fault old (inr never) = none_found (λ f. D × (f ≡ fault)) old (λ f h. never h.0)

-- of two kinds
pub found_both : (P Q : PackageFault → Type 0) → ((old : Option PackageFault) → Finds P old)
    → ((old : Option PackageFault) → Finds Q old) → (old : Option PackageFault)
    → Finds (λ f. P f ⊎ Q f) old
found_both P Q p q old =
    let a = p old in
    let b = q a.new in
    record {
      new = b.new;
      all =
          finds_both P Q (λ f. P f ⊎ Q f) old a.new b.new (λ f h. inl h) (λ f h. inr h) (λ f h. h) a.all b.all;
    }

-- of the kinds below a number
abbrev pub Below : (ℕ → PackageFault → Type 0) → ℕ → PackageFault → Type 0
Below P i fault = (k : ℕ) × (k < i) × P k fault

last_or : (P : ℕ → PackageFault → Type 0) (i : ℕ) (f : PackageFault) → (h : Below P (suc i) f) → (h.0 < i) ⊎ (i ≤ h.0)
    → Below P i f ⊎ P i f
last_or P i f h (inl less) = inl (h.0, less, h.2)
last_or P i f h (inr ge) = let lt = h.1 in let e : h.0 ≡ i = omega arith in inr (subst (λ k. P k f) e h.2)

pub found_below : (P : ℕ → PackageFault → Type 0) → ((k : ℕ) (old : Option PackageFault) → Finds (P k) old)
    → (i : ℕ) (old : Option PackageFault) → Finds (Below P i) old
found_below P step zero old = none_found (Below P zero) old (λ f h. let lt = h.1 in absurd (omega arith))
found_below P step (suc i) old =
    let a = found_below P step i old in
    let b = step i a.new in
    record {
      new = b.new;
      all =
          finds_both (Below P i) (P i) (Below P (suc i)) old a.new b.new
          (λ f h. let lt = h.1 in (h.0, omega arith, h.2)) (λ f h. (i, omega arith, h))
          (λ f h. last_or P i f h (cases_lt h.0 i)) a.all b.all;
    }

pub first_in : (P : PackageFault → Type 0) → Finds P None → (o : Option PackageFault) × FirstIn P o
first_in P x = (x.new, first_found P x.new x.all)
