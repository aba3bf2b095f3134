-- Each declaration has a list of the paths to the marked ones below it, built declaration by declaration.
use Rattle.std.proofs.Common.{◌≡◌, ◌⊎◌, inl, inr, ℕ, zero, suc, ◌+◌, ◌<◌, ◌≤◌, Bool, false, List, ◌∷◌, ◌++◌, length}
use Rattle.std.proofs.Common.{map, Option, Some, None, slice_get, get_or, refl, ap, subst, sym, ◌∙◌, arith}
use Rattle.std.proofs.lemmas.Bool.{cases_lt}
use Rattle.list_lemmas.proofs.ElementPositions.{slice_get-from_Contains}
use Rattle.aadl_uses.specs.proof.ContainmentGraphs.{Graph, targets_in, below_in, IsWithin}
use Rattle.aadl_uses.specs.proof.ContainmentOrders.{IsSequence}
use Rattle.aadl_uses.specs.proof.MarkedPathCounts.{own_paths}
use Rattle.aadl_uses.specs.proof.OrderedLists.{AreListed}
use Rattle.aadl_uses.specs.ThreadsBelow.{path_before}
use Rattle.aadl_uses.proofs.MarkedPathCounts.{Begun, own_listed, listed_more, listed_same, all_listed}
use Rattle.design_laws.specs.proof.ReachOrderAndPaths.{IsAcyclic, HasPaths}
use Rattle.design_laws.proofs.ContainmentOrders.{order}

-- ---- one declaration, by the targets of its subcomponents
abbrev Known : Graph → List Bool → ℕ → Type 0
Known g marks n = (s m : ℕ) → below_in g n s ≡ Some m → HasPaths g marks m

record SomePaths (g : Graph) (marks : List Bool) (n i : ℕ) : Type 0 where
  paths : List (List ℕ)
  listed : AreListed (Begun g marks n i) path_before paths

one_sub : (g : Graph) (marks : List Bool) (n i : ℕ) → Known g marks n → SomePaths g marks n i → (o : Option ℕ)
    → below_in g n i ≡ o → SomePaths g marks n (i + 1)
one_sub g marks n i known x None e = record { paths = x.paths; listed = listed_same g marks n i x.paths e x.listed }
one_sub g marks n i known x (Some m) e =
    let y =
    known i m e in record {
      paths = x.paths ++ map (λ q. i ∷ q) y.0;
      listed = listed_more g marks n i m x.paths y.0 e x.listed y.1;
    }

begun : (g : Graph) (marks : List Bool) (n i : ℕ) → Known g marks n → SomePaths g marks n i
begun g marks n zero known = record { paths = own_paths (get_or marks n false); listed = own_listed g marks n }
begun g marks n (suc i) known =
    let e : i + 1 ≡ suc i = omega arith in
    subst (SomePaths g marks n) e (one_sub g marks n i known (begun g marks n i known) (below_in g n i) refl)

by_known : (g : Graph) (marks : List Bool) (n : ℕ) → Known g marks n → HasPaths g marks n
by_known g marks n known =
    let x = begun g marks n (length (targets_in g n)) known in
    (x.paths, all_listed g marks n (length (targets_in g n)) x.paths (omega arith) x.listed)

-- ---- declarations in order
abbrev KnownBefore : Graph → List Bool → List ℕ → ℕ → Type 0
KnownBefore g marks keys k = (j n : ℕ) → j < k → slice_get keys j ≡ Some n → HasPaths g marks n

known_at : (g : Graph) (marks : List Bool) (keys : List ℕ) → IsSequence g keys → (k n : ℕ) → KnownBefore g marks keys k
    → slice_get keys k ≡ Some n → HasPaths g marks n
known_at g marks keys q k n before e =
    by_known g marks n (λ s m b. let h = q.behind k n s m e b in before h.0 m h.1 h.2)

known_more : (g : Graph) (marks : List Bool) (keys : List ℕ) → IsSequence g keys → (k : ℕ) → KnownBefore g marks keys k
    → (j n : ℕ) → j < suc k → (j < k) ⊎ (k ≤ j) → slice_get keys j ≡ Some n
    → HasPaths g marks n
known_more g marks keys q k before j n lt (inl less) e = before j n less e
known_more g marks keys q k before j n lt (inr ge) e =
    let same : j ≡ k = omega arith in known_at g marks keys q k n before (sym (ap (slice_get keys) same) ∙ e)

known : (g : Graph) (marks : List Bool) (keys : List ℕ) → IsSequence g keys → (k : ℕ) → KnownBefore g marks keys k
known g marks keys q zero = λ j n lt e. absurd (omega arith)
known g marks keys q (suc k) = λ j n lt e. known_more g marks keys q k (known g marks keys q k) j n lt (cases_lt j k) e

pub paths : (g : Graph) (marks : List Bool) (n : ℕ) → IsWithin g → IsAcyclic g → n < length g → HasPaths g marks n
paths g marks n within acyclic lt =
    let o = order g within acyclic in
    let h = o.1.all n lt in
    known g marks o.0 o.1.sequence (suc h.0) h.0 n (omega arith) (slice_get-from_Contains o.0 n h)
