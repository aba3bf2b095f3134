-- The count of marked declarations is the count of threads, and determines whether there are more than a limit.
use Rattle.std.proofs.Common.{◌≡◌, ◌⊎◌, inl, inr, ◌↔◌, ℕ, zero, suc, ◌<◌, ◌≤◌, ◌+◌, Bool, true, false, nat_lt, min}
use Rattle.std.proofs.Common.{List, [], ◌∷◌, ◌++◌, map, reverse, Option, Some, None, length, get_or, slice_get}
use Rattle.std.proofs.Common.{AllPairs, Contains, refl, sym, ap, subst, ◌∙◌, arith, Result, Ok, Err, IfOk}
use Rattle.std.specs.Option.{option_and_then}
use Rattle.std.proofs.lemmas.Bool.{true≢false}
use Rattle.std.proofs.lemmas.Bool.Decides.{nat_tests}
use Rattle.std.proofs.lemmas.List.{length-map, reverse-append, reverse-reverse}
use Rattle.std.proofs.lemmas.List.Elements.{All-from_recursion, All-map, All-weaker, Contains-append_left}
use Rattle.std.proofs.lemmas.List.Elements.{Contains-append_right, Contains-push}
use Rattle.std.proofs.lemmas.List.Kept.{AllPairs-cons}
use Rattle.std.proofs.lemmas.Option.{option_and_then_some}
use Rattle.list_lemmas.proofs.PairwiseProperties.{AllPairs-nil}
use Rattle.list_lemmas.proofs.Elements.{Contains-nil, Contains-cons_cases}
use Rattle.list_lemmas.proofs.Options.{option_and_then_assoc}
use Rattle.aadl_tree.specs.Declarations.{Implementation, Declaration, PackageTree}
use Rattle.aadl_names.specs.NameResolution.{implementation_in, implementation_at, is_thread}
use Rattle.aadl_uses.specs.ContainmentAndUse.{number_at_path}
use Rattle.aadl_uses.specs.proof.PackageContainment.{targets_in, containment}
use Rattle.aadl_uses.specs.ThreadsBelow.{Lists, MoreThan, IsThreadAt, PathBefore, path_before}
use Rattle.aadl_uses.specs.proof.ThreadCounts.{is_thread_in, is_thread_declaration, thread_marks, AreCounted}
use Rattle.aadl_uses.proofs.PackageContainment.{standing-same, and_then_same}
use Rattle.aadl_uses.proofs.FirstRecursion.{kept_as_is}
use Rattle.aadl_uses.proofs.PathOrder.{one_way_paths}
use Rattle.aadl_uses.specs.proof.ContainmentGraphs.{Graph, below_in, reached_by}
use Rattle.aadl_uses.specs.proof.ContainmentOrders.{IsOrder}
use Rattle.aadl_uses.specs.proof.MarkedPathCounts.{stands_at, IsMarkedAt, Counted}
use Rattle.aadl_uses.specs.proof.OrderedLists.{Among, Ordered, AreListed}

-- ---- paths with the outermost or the innermost subcomponent first
stands_end : (g : Graph) (n s : ℕ) (p : List ℕ)
    → stands_at g n (p ++ s ∷ []) ≡ option_and_then (λ k. below_in g k s) (stands_at g n p)
stands_end g n s [] = sym (kept_as_is (below_in g n s))
stands_end g n s (t ∷ p) =
    and_then_same (λ k. stands_at g k (p ++ s ∷ [])) (λ k. option_and_then (λ m. below_in g m s) (stands_at g k p))
    (λ k. stands_end g k s p) (below_in g n t)
    ∙ sym (option_and_then_assoc (λ k. stands_at g k p) (λ m. below_in g m s) (below_in g n t))

stands_reversed : (g : Graph) (n : ℕ) (path : List ℕ) → stands_at g n (reverse path) ≡ reached_by g n path
stands_reversed g n [] = refl
stands_reversed g n (s ∷ path) =
    ap (stands_at g n) (reverse-append (s ∷ []) path) ∙
    (stands_end g n s (reverse path) ∙ ap (option_and_then (λ k. below_in g k s)) (stands_reversed g n path))

-- the declaration at a path, the outermost first, is at its reverse
stands_at-same : (tree : PackageTree ℕ) (n : ℕ) (p : List ℕ)
    → stands_at (containment tree) n p ≡ number_at_path tree n (reverse p)
stands_at-same tree n p =
    sym (ap (stands_at (containment tree) n) (reverse-reverse p))
    ∙ (stands_reversed (containment tree) n (reverse p) ∙ standing-same tree n (reverse p))

-- ---- the marks of threads
mark_at : (ds : List (Declaration ℕ)) (n : ℕ)
    → get_or (map is_thread_declaration ds) n false ≡ is_thread_in (implementation_in (slice_get ds n))
mark_at [] zero = refl
mark_at [] (suc n) = refl
mark_at (d ∷ ds) zero = refl
mark_at (d ∷ ds) (suc n) = mark_at ds n

pub thread_by : (o : Option (Implementation ℕ)) → is_thread_in o ≡ true
    → (x : Implementation ℕ) × (o ≡ Some x) × (is_thread x.category ≡ true)
thread_by None e = absurd (true≢false (sym e))
thread_by (Some x) e = (x, refl, e)

pub thread_from : (tree : PackageTree ℕ) (n : ℕ) (p : List ℕ) → IsMarkedAt (containment tree) (thread_marks tree) n p
    → IsThreadAt tree n (reverse p)
thread_from tree n p m =
    let t = thread_by (implementation_at tree m.number) (sym (mark_at tree.declarations m.number) ∙ m.is_marked) in
    (t.0, (ap (option_and_then (implementation_at tree)) (sym (stands_at-same tree n p) ∙ m.stands) ∙ t.1, t.2))

pub marked_from : (tree : PackageTree ℕ) (n : ℕ) (path : List ℕ) → IsThreadAt tree n path
    → IsMarkedAt (containment tree) (thread_marks tree) n (reverse path)
marked_from tree n path t =
    option_and_then_some (implementation_at tree) (number_at_path tree n path) t.0 t.1.0
    (λ k h f. record {
      number = k;
      stands = stands_at-same tree n (reverse path) ∙ (ap (number_at_path tree n) (reverse-reverse path) ∙ h);
      is_marked = mark_at tree.declarations k ∙ (ap is_thread_in f ∙ t.1.1);
    })

-- ---- lists

contains_by : {X : Type 0} (xs : List X) (x : X) → Among xs x → Contains xs x
contains_by [] x a = absurd a
contains_by (y ∷ xs) x (inl e) =
    subst (Contains (y ∷ xs)) (sym e) (Contains-append_left (y ∷ []) xs y (Contains-push [] y))
contains_by (y ∷ xs) x (inr a) = Contains-append_right (y ∷ []) xs x (contains_by xs x a)

reversed_in : (ps : List (List ℕ)) (p : List ℕ) → Among ps p → Among (map reverse ps) (reverse p)
reversed_in [] p a = absurd a
reversed_in (q ∷ ps) p (inl e) = inl (ap reverse e)
reversed_in (q ∷ ps) p (inr a) = inr (reversed_in ps p a)

later_by : (p : List ℕ) (q : List ℕ) → path_before p q ≡ true → PathBefore (reverse p) (reverse q)
later_by p q e =
    ap (λ l. path_before l (reverse (reverse q))) (reverse-reverse p) ∙ (ap (path_before p) (reverse-reverse q) ∙ e)

pairs_by : (ps : List (List ℕ)) → Ordered path_before ps → AllPairs PathBefore (map reverse ps)
pairs_by [] o = AllPairs-nil PathBefore
pairs_by (p ∷ ps) o =
    AllPairs-cons PathBefore (reverse p) (map reverse ps)
    (All-map (PathBefore (reverse p)) reverse ps
    (All-weaker (λ q. path_before p q ≡ true) (λ q. PathBefore (reverse p) (reverse q)) (λ q e. later_by p q e)
    ps (All-from_recursion (λ q. path_before p q ≡ true) ps o.0)))
    (pairs_by ps o.1)

-- ---- counts
declared : (tree : PackageTree ℕ) (n : ℕ) → n < length tree.declarations → n < length (containment tree)
declared tree n lt = let same = length-map tree.declarations (targets_in tree) in omega arith

-- the paths to marked declarations, the innermost first, are the paths to threads
pub threads_listed : (tree : PackageTree ℕ) (n : ℕ) (paths : List (List ℕ))
    → AreListed (IsMarkedAt (containment tree) (thread_marks tree) n) path_before paths
    → Lists (IsThreadAt tree n) PathBefore (map reverse paths)
threads_listed tree n paths listed = record {
  each = All-map (IsThreadAt tree n) reverse paths
      (All-weaker (IsMarkedAt (containment tree) (thread_marks tree) n) (λ p. IsThreadAt tree n (reverse p))
      (λ p m. thread_from tree n p m) paths
      (All-from_recursion (IsMarkedAt (containment tree) (thread_marks tree) n) paths listed.each));
  in_order = pairs_by paths listed.ordered;
  complete = λ path t.
      contains_by (map reverse paths) path
      (subst (Among (map reverse paths)) (reverse-reverse path)
      (reversed_in paths (reverse path) (listed.complete (reverse path) (marked_from tree n path t))));
}

pub threads_counted : (tree : PackageTree ℕ) (limit n count : ℕ)
    → Counted limit (containment tree) (thread_marks tree) n count → AreCounted tree limit n count
threads_counted tree limit n count c = record {
  paths = map reverse c.paths;
  listed = threads_listed tree n c.paths c.listed;
  count_is = c.count_is ∙ ap (min limit) (sym (length-map c.paths reverse));
}

-- ---- a list in order is not longer than the list of all
head_before : {X : Type 0} (R : X → X → Type 0) (x z : X) (xs : List X) → AllPairs R (x ∷ xs) → Contains xs z → R x z
head_before R x z xs a h = let lt = h.1 in subst (R x) h.2 (a 0 (suc h.0) z (omega arith) (omega arith))

tail_pairs : {X : Type 0} (R : X → X → Type 0) (x : X) (xs : List X) → AllPairs R (x ∷ xs) → AllPairs R xs
tail_pairs R x xs a i j d less lt = a (suc i) (suc j) d (omega arith) (omega arith)

module _ {X : Type 0} (R : X → X → Type 0) (one_way : (x y : X) → R x y → R y x → ⊥) where
  one_more : (y : X) (ys : List X) (x : X) (xs : List X)
      → ((zs : List X) → AllPairs R zs → ((z : X) → Contains zs z → Contains ys z) → length zs ≤ length ys)
      → AllPairs R (y ∷ ys) → AllPairs R (x ∷ xs) → ((z : X) → Contains (x ∷ xs) z → Contains (y ∷ ys) z)
      → length (x ∷ xs) ≤ length (y ∷ ys)
  one_more y ys x xs fewer b a among =
      by (Contains-cons_cases y ys x (among x (Contains-append_left (x ∷ []) xs x (Contains-push [] x))))
    where
      behind : (z : X) → Contains xs z → R x z
      behind z h = head_before R x z xs a h

      rest_of : (z : X) → y ≡ x → Contains xs z → (y ≡ z) ⊎ Contains ys z → Contains ys z
      rest_of z same h (inl e) = let round : R z z = subst (λ w. R w z) (sym same ∙ e) (behind z h) in
          absurd (one_way z z round round)
      rest_of z same h (inr k) = k

      all_of : (z : X) → Contains ys x → (x ≡ z) ⊎ Contains xs z → (y ≡ z) ⊎ Contains ys z → Contains ys z
      all_of z here w (inr k) = k
      all_of z here (inl f) (inl e) = subst (Contains ys) f here
      all_of z here (inr h) (inl e) =
          absurd (one_way x z (behind z h) (subst (λ w. R w x) e (head_before R y x ys b here)))

      by : (y ≡ x) ⊎ Contains ys x → length (x ∷ xs) ≤ length (y ∷ ys)
      by (inl same) =
          let shorter : length xs ≤ length ys = fewer xs (tail_pairs R x xs a)
          (λ z h. rest_of z same h (Contains-cons_cases y ys z (among z (Contains-append_right (x ∷ []) xs z h)))) in
          omega arith
      by (inr here) =
          let shorter : length (x ∷ xs) ≤ length ys =
          fewer (x ∷ xs) a
          (λ z h. all_of z here (Contains-cons_cases x xs z h) (Contains-cons_cases y ys z (among z h))) in
          omega arith

  no_longer : (ys xs : List X) → AllPairs R ys → AllPairs R xs → ((z : X) → Contains xs z → Contains ys z)
      → length xs ≤ length ys
  no_longer ys [] b a among = omega arith
  no_longer [] (x ∷ xs) b a among =
      absurd (Contains-nil x (among x (Contains-append_left (x ∷ []) xs x (Contains-push [] x))))
  no_longer (y ∷ ys) (x ∷ xs) b a among =
      one_more y ys x xs (λ zs c d. no_longer ys zs (tail_pairs R y ys b) c d) b a among

-- ---- more than a limit
module _ (tree : PackageTree ℕ) (n limit count : ℕ) (counted : AreCounted tree (limit + 1) n count) where
  more_from : limit < count → MoreThan limit (IsThreadAt tree n) PathBefore
  more_from lt =
      let size = counted.count_is in
      record {
        some = counted.paths;
        each = counted.listed.each;
        in_order = counted.listed.in_order;
        many = omega (arith, size);
      }

  more_by : MoreThan limit (IsThreadAt tree n) PathBefore → limit < count
  more_by more =
      let size = counted.count_is in
      let many = more.many in
      let long =
      no_longer PathBefore (λ p q e f. one_way_paths (reverse p) (reverse q) e f) counted.paths more.some
      counted.listed.in_order more.in_order
      (λ z h. counted.listed.complete z (each_of z h)) in
      omega (arith, size, many, long)
    where
      each_of : (z : List ℕ) → Contains more.some z → IsThreadAt tree n z
      each_of z h = subst (IsThreadAt tree n) h.2 (more.each h.0 z h.1)

  pub more_threads : (limit < count) ↔ MoreThan limit (IsThreadAt tree n) PathBefore
  more_threads = (more_from, more_by)

-- ---- results of calls
pub ok_order : {T E : Type 0} (keys : T → List ℕ) (r : Result T E) (tree : PackageTree ℕ) (g : Graph)
    → g ≡ containment tree
    → IfOk r (λ x. IsOrder g (keys x)) → IfOk r (λ x. IsOrder (containment tree) (keys x))
ok_order keys (Ok x) tree g e is = subst (λ (h : Graph). IsOrder h (keys x)) e is
ok_order keys (Err x) tree g e is = tt

pub ok_counts : {T E : Type 0} (items : T → List ℕ) (r : Result T E) (tree : PackageTree ℕ) (limit : ℕ) (g : Graph)
    (marks : List Bool)
    → g ≡ containment tree → marks ≡ thread_marks tree
    → IfOk r (λ x. (n : ℕ) → n < length g → Counted limit g marks n (get_or (items x) n 0))
    → IfOk r (λ x. (n : ℕ) → n < length tree.declarations → AreCounted tree limit n (get_or (items x) n 0))
ok_counts items (Ok x) tree limit g marks e f is = λ n lt.
    threads_counted tree limit n (get_or (items x) n 0)
    (subst (λ (m : List Bool). Counted limit (containment tree) m n (get_or (items x) n 0)) f
    (subst (λ (h : Graph). Counted limit h marks n (get_or (items x) n 0)) e
    (is n (subst (λ (h : Graph). n < length h) (sym e) (declared tree n lt)))))
ok_counts items (Err x) tree limit g marks e f is = tt

pub tells : {P : Type 0} (a b : ℕ) → ((a < b) ↔ P) → (nat_lt a b ≡ true) ↔ P
tells a b same = (λ e. same.0 (grind (arith, nat_tests)), λ p. let lt = same.1 p in grind (arith, nat_tests))
