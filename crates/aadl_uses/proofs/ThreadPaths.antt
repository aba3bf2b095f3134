-- The listed paths are the paths to all threads below a root.
use Rattle.std.proofs.Common.{◌≡◌, ◌↔◌, ℕ, ◌<◌, Bool, List, ◌∷◌, length, map, reverse, Some, Contains, Result, Ok, Err}
use Rattle.std.proofs.Common.{IfOk, sym, ap, ◌∙◌, subst}
use Rattle.std.specs.Option.{option_and_then}
use Rattle.aadl_tree.specs.Declarations.{PackageTree}
use Rattle.aadl_uses.specs.ContainmentAndUse.{below, IsInUse}
use Rattle.aadl_uses.specs.proof.PackageContainment.{containment}
use Rattle.aadl_uses.specs.ThreadsBelow.{Lists, IsThreadAt, PathBefore, path_before}
use Rattle.aadl_uses.specs.proof.ThreadCounts.{thread_marks}
use Rattle.aadl_uses.proofs.PackageContainment.{below-same}
use Rattle.aadl_uses.proofs.ThreadCounts.{threads_listed}
use Rattle.aadl_uses.specs.proof.ContainmentGraphs.{Graph, below_in}
use Rattle.aadl_uses.specs.proof.MarkedPathCounts.{IsMarkedAt}
use Rattle.aadl_uses.specs.proof.OrderedLists.{AreListed}
use Rattle.aadl_uses.specs.proof.MarkedPathLists.{paths_from, IsClosed}

-- ---- declarations in use
pub closed_by : (tree : PackageTree ℕ) (root : ℕ) (g : Graph) (used : List ℕ) → g ≡ containment tree
    → ((n : ℕ) → Contains used n ↔ IsInUse tree root n) → IsClosed g used
closed_by tree root g used e same = λ n s m h b.
    let u = (same n).0 h in
    let next : below tree n s ≡ Some m = sym (below-same tree n s) ∙ (ap (λ (x : Graph). below_in x n s) (sym e) ∙ b) in
    (same m).1 (s ∷ u.0, ap (option_and_then (λ k. below tree k s)) u.1 ∙ next)

-- ---- paths
pub ok_threads : {T E : Type 0} (rows : T → List (List (List ℕ))) (r : Result T E) (tree : PackageTree ℕ) (root : ℕ)
    (g : Graph) (marks : List Bool) (used : List ℕ) → g ≡ containment tree → marks ≡ thread_marks tree
    → root < length g → Contains used root
    → IfOk r (λ x. (n : ℕ) → n < length g → Contains used n
    → AreListed (IsMarkedAt g marks n) path_before (paths_from (rows x) n))
    → IfOk r (λ x. Lists (IsThreadAt tree root) PathBefore (map reverse (paths_from (rows x) root)))
ok_threads rows (Ok x) tree root g marks used e f lt u is =
    threads_listed tree root (paths_from (rows x) root)
    (subst (λ (m : List Bool).
    AreListed (IsMarkedAt (containment tree) m root) path_before (paths_from (rows x) root)) f
    (subst (λ (h : Graph). AreListed (IsMarkedAt h marks root) path_before (paths_from (rows x) root)) e
    (is root lt u)))
ok_threads rows (Err x) tree root g marks used e f lt u is = tt
