-- Threads in use below a root are the threads at paths from it.
use Rattle.std.proofs.Common.{◌≡◌, ◌↔◌, ℕ, ◌<◌, ◌≤◌, true, List, length, Option, Some, None, slice_get, Contains, refl}
use Rattle.std.proofs.Common.{sym, ap, ◌∙◌, arith}
use Rattle.std.specs.Option.{option_and_then, option_map_or}
use Rattle.std.proofs.lemmas.Bool.{true≢false}
use Rattle.std.proofs.lemmas.Option.{option_and_then_some, slice_get_within}
use Rattle.aadl_tree.specs.Declarations.{Implementation, Declaration, PackageTree}
use Rattle.aadl_names.specs.NameResolution.{implementation_in, implementation_at}
use Rattle.aadl_uses.specs.ContainmentAndUse.{number_at_path, IsInUse}
use Rattle.aadl_uses.specs.proof.ThreadCounts.{is_thread_in}
use Rattle.aadl_uses.specs.ThreadLocations.{ThreadWith}
use Rattle.aadl_instance.specs.declared.thread_limits.ThreadPart.{ThreadPart}
use Rattle.aadl_instance.specs.proof.ThreadLimits.{most, count_of, count_at, IsUsedThread, HasTooMany}

module _ (tree : PackageTree ℕ) (root : ℕ) (used : List ℕ) (part : ThreadPart)
    (same : (n : ℕ) → Contains used n ↔ IsInUse tree root n) where
  from_used : HasTooMany tree used part → ThreadWith tree root (λ x path. most part < count_of tree x part)
  from_used h =
      let u = (same h.number).0 h.used_thread.in_use in (
        u.0,
        h.component,
        (
          ap (option_and_then (implementation_at tree)) u.1 ∙ h.used_thread.is_implementation,
          h.used_thread.thread,
        ),
        h.over,
      )

  to_used : ThreadWith tree root (λ x path. most part < count_of tree x part) → HasTooMany tree used part
  to_used t =
      option_and_then_some (implementation_at tree) (number_at_path tree root t.0) t.1 t.2.0
      (λ n stands is. record {
        number = n;
        component = t.1;
        used_thread = record { in_use = (same n).1 (t.0, stands); is_implementation = is; thread = t.2.1 };
        over = t.3;
      })

  pub used_or_below : {Q : Type 0} → (Q ↔ HasTooMany tree used part)
      → Q ↔ ThreadWith tree root (λ x path. most part < count_of tree x part)
  used_or_below tells = (λ q. from_used (tells.0 q), λ t. tells.1 (to_used t))

-- ---- by numbers
some_by : (tree : PackageTree ℕ) (used : List ℕ) (part : ThreadPart) (n : ℕ) → Contains used n
    → (o : Option (Implementation ℕ)) → implementation_at tree n ≡ o → is_thread_in o ≡ true
    → most part < option_map_or (λ x. count_of tree x part) o 0 → HasTooMany tree used part
some_by tree used part n h None is thread over = absurd (true≢false (sym thread))
some_by tree used part n h (Some x) is thread over =
    record {
      number = n;
      component = x;
      used_thread = record { in_use = h; is_implementation = is; thread = thread };
      over = over;
    }

-- this one exceeds the limit
pub some_over : (tree : PackageTree ℕ) (used : List ℕ) (part : ThreadPart) (n : ℕ) → Contains used n
    → is_thread_in (implementation_at tree n) ≡ true → most part < count_at tree n part → HasTooMany tree used part
some_over tree used part n h thread over = some_by tree used part n h (implementation_at tree n) refl thread over

-- none of them exceeds the limit
pub none_over : (tree : PackageTree ℕ) (used : List ℕ) (part : ThreadPart) (k : ℕ) → length tree.declarations ≤ k
    → ((n : ℕ) (x : Implementation ℕ) → n < k → IsUsedThread tree used n x → most part < count_of tree x part → ⊥)
    → HasTooMany tree used part → ⊥
none_over tree used part k past none h =
    option_and_then_some (λ d. implementation_in (Some d)) (slice_get tree.declarations h.number) h.component
    (in_some h.number h.component h.used_thread.is_implementation)
    (λ d a b. let within = slice_get_within tree.declarations h.number d a in
    none h.number h.component (omega arith) h.used_thread h.over)
  where
    in_some : (n : ℕ) (x : Implementation ℕ) → implementation_at tree n ≡ Some x
        → option_and_then (λ d. implementation_in (Some d)) (slice_get tree.declarations n) ≡ Some x
    in_some n x e = by (slice_get tree.declarations n) e
      where
        by : (o : Option (Declaration ℕ)) → implementation_in o ≡ Some x
            → option_and_then (λ d. implementation_in (Some d)) o ≡ Some x
        by None f = f
        by (Some d) f = f
