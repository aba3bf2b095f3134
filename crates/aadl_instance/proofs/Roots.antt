-- The root of a package is a system and not a thread.
use Rattle.std.proofs.Common.{◌≡◌, ℕ, ◌<◌, Bool, true, false, ◌&&◌, List, length, slice_get, Option, Some, None, refl}
use Rattle.std.proofs.Common.{sym, ap, ◌∙◌, arith}
use Rattle.std.proofs.lemmas.Bool.{false≢true}
use Rattle.std.proofs.lemmas.Option.{slice_get_within, none-some}
use Rattle.aadl_tree.specs.declared.declarations.Category.{Category}
use Rattle.aadl_tree.specs.declared.declarations.Category.TheVariants as categories
use Rattle.aadl_tree.specs.Declarations.{Implementation, Declaration, type, implementation, PackageTree}
use Rattle.aadl_names.specs.NameResolution.{implementation_in, is_root, is_system, is_thread, root_number}
use Rattle.aadl_uses.specs.proof.ThreadCounts.{is_thread_in}
use Rattle.aadl_chains.specs.proof.PortsJoinedInside.{is_thread_at}
use Rattle.aadl_chains.proofs.FirstIncomingConnections.{first_at}
use Rattle.aadl_instance.specs.Faults.{IsRoot}

system_of : (name : List ℕ) (d : Declaration ℕ) → is_root name d ≡ true
    → (x : Implementation ℕ) × (implementation_in (Some d) ≡ Some x) × (is_system x.category ≡ true)
system_of name (type x) e = absurd (false≢true e)
system_of name (implementation x) e = (x, refl, left (is_system x.category) _ e)
  where
    left : (a b : Bool) → (a && b) ≡ true → a ≡ true
    left true b e = refl
    left false b e = e

pub is_root_at : (tree : PackageTree ℕ) (name : List ℕ) (root : ℕ) → root_number tree name ≡ Some root
    → IsRoot tree root
is_root_at tree name root e =
    let f = first_at (is_root name) tree.declarations 0 root e in
    let is = f.is in
    let same : root ≡ f.index = omega arith in
    let s = system_of name f.item f.passes in
    (s.0, ap implementation_in (ap (slice_get tree.declarations) same ∙ f.is_item) ∙ s.1, s.2)

not_thread : (c : Category) → is_system c ≡ true → is_thread c ≡ false
not_thread categories.System e = refl
not_thread categories.Process e = refl
not_thread categories.Thread e = absurd (false≢true e)

module _ (tree : PackageTree ℕ) (root : ℕ) (is : IsRoot tree root) where
  pub root_no_thread : is_thread_at tree root ≡ false
  root_no_thread = ap is_thread_in is.1 ∙ not_thread is.0.category is.2

  pub root_declared : root < length tree.declarations
  root_declared = by (slice_get tree.declarations root) refl
    where
      by : (o : Option (Declaration ℕ)) → slice_get tree.declarations root ≡ o → root < length tree.declarations
      by None e = absurd (none-some is.0 (sym (ap implementation_in e) ∙ is.1))
      by (Some d) e = slice_get_within tree.declarations root d e

-- ---- the loop over declarations
pub and_true : (a b : Bool) → a ≡ true → b ≡ (a && b)
and_true true b e = refl
and_true false b e = absurd (false≢true e)
