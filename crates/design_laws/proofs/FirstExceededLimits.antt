-- The first limit that an instance model exceeds, or a proof that it exceeds none.
use Rattle.std.proofs.Common.{◌≡◌, ◌⊎◌, inl, inr, ℕ, suc, ◌+◌, ◌<◌, ◌≤◌, min, Bool, true, false, List, [], ◌∷◌, length}
use Rattle.std.proofs.Common.{get_or, Contains, AllPairs, Option, Some, None, refl, sym, ap, subst, ◌∙◌, arith}
use Rattle.std.specs.List.{AllByRecursion}
use Rattle.std.proofs.lemmas.Bool.{true≢false, cases_lt}
use Rattle.std.proofs.lemmas.Option.{none-some, same_Some}
use Rattle.pals_base.specs.declared.limits.TheConstants.{COMPONENTS, LINKS, PORTS, VARIABLES, STATES, PATH_BYTES}
use Rattle.aadl_tree.specs.Declarations.{Implementation, PackageTree}
use Rattle.aadl_names.specs.NameResolution.{is_thread, ports_of}
use Rattle.aadl_names.proofs.ListMembers.{is_here}
use Rattle.std.proofs.lemmas.List.Elements.{Contains-append_left, Contains-append_right}
use Rattle.list_lemmas.proofs.Elements.{Contains-nil, Contains-cons_cases}
use Rattle.aadl_uses.specs.ContainmentAndUse.{component_at}
use Rattle.aadl_uses.specs.ThreadsBelow.{Lists, MoreThan, IsThreadOf, IsThreadAt, PathBefore}
use Rattle.aadl_uses.proofs.ThreadCounts.{more_threads}
use Rattle.aadl_uses.specs.proof.OrderedLists.{Among}
use Rattle.aadl_chains.specs.proof.LimitedCounts.{Distinct}
use Rattle.aadl_chains.specs.LinksFeedsAndTaps.{CarriedChain, IsLink, TargetBefore, OtherTarget}
use Rattle.aadl_chains.proofs.LimitedCounts.{no_more}
use Rattle.aadl_uses.specs.ThreadLocations.{ThreadWith, spelled_path}
use Rattle.aadl_instance.specs.BehaviourSizes.{variable_count, state_count}
use Rattle.aadl_instance.specs.declared.limits.Limit.{Limit}
use Rattle.aadl_instance.specs.declared.limits.Limit.TheVariants.{Components, Links, Ports, Variables, States, Path}
use Rattle.aadl_instance.specs.proof.Limits.{line_of, IsExceeded}
use Rattle.aadl_instance.proofs.FaultPrecedence.{limit_lines}
use Rattle.design_laws.proofs.LinkOrderAndRootPortNames.{other_target}

told_more : (a b : ℕ) → (a < b) ⊎ (a < b → ⊥)
told_more a b = by (cases_lt a b)
  where
    by : (a < b) ⊎ (b ≤ a) → (a < b) ⊎ (a < b → ⊥)
    by (inl lt) = inl lt
    by (inr ge) = inr (λ lt. absurd (omega arith))

-- ---- some element of a list has a property, or no element has it
some_in : {X : Type 0} (Q : X → Type 0) → ((x : X) → Q x ⊎ (Q x → ⊥)) → (xs : List X)
    → ((x : X) × Contains xs x × Q x) ⊎ ((x : X) → Contains xs x → Q x → ⊥)
some_in Q tell [] = inr (λ x h q. Contains-nil x h)
some_in {X = X} Q tell (x ∷ xs) = by (tell x) (some_in Q tell xs)
  where
    neither : (Q x → ⊥) → ((y : X) → Contains xs y → Q y → ⊥) → (y : X) → (x ≡ y) ⊎ Contains xs y → Q y → ⊥
    neither never none y (inl e) q = never (subst Q (sym e) q)
    neither never none y (inr h) q = none y h q

    by : Q x ⊎ (Q x → ⊥) → ((y : X) × Contains xs y × Q y) ⊎ ((y : X) → Contains xs y → Q y → ⊥)
        → ((y : X) × Contains (x ∷ xs) y × Q y) ⊎ ((y : X) → Contains (x ∷ xs) y → Q y → ⊥)
    by (inl q) rest = inl (x, Contains-append_left (x ∷ []) xs x (is_here x), q)
    by (inr never) (inl h) = inl (h.0, Contains-append_right (x ∷ []) xs h.0 h.1, h.2)
    by (inr never) (inr none) = inr (λ y h q. neither never none y (Contains-cons_cases x xs y h) q)

-- ---- a part has at most as many elements as the whole
in_list : {X : Type 0} (xs : List X) (x : X) → Contains xs x → Among xs x
in_list [] x h = Contains-nil x h
in_list (y ∷ xs) x h = by (λ k. in_list xs x k) (Contains-cons_cases y xs x h)
  where
    by : (Contains xs x → Among xs x) → (y ≡ x) ⊎ Contains xs x → Among (y ∷ xs) x
    by rest (inl e) = inl (sym e)
    by rest (inr k) = inr (rest k)

distinct_from : (xs : List CarriedChain) → AllPairs OtherTarget xs → Distinct xs
distinct_from [] a = tt
distinct_from (x ∷ xs) a = (
  apart xs (λ k d lt. a 0 (suc k) d (omega arith) (omega arith)),
  distinct_from xs (λ i j d less lt. a (suc i) (suc j) d (omega arith) (omega arith)),
)
  where
    apart : (ys : List CarriedChain) → ((k : ℕ) (d : CarriedChain) → k < length ys → OtherTarget x (get_or ys k d))
        → AllByRecursion (λ y. x ≡ y → ⊥) ys
    apart [] h = tt
    apart (y ∷ ys) h =
        ((λ e. h 0 y (omega arith) (ap (λ (z : CarriedChain). z.to) e)), apart ys (λ k d lt. h (suc k) d (omega arith)))

among_all : (all xs : List CarriedChain) → ((k : ℕ) (d : CarriedChain) → k < length xs → Among all (get_or xs k d))
    → AllByRecursion (Among all) xs
among_all all [] h = tt
among_all all (x ∷ xs) h = (h 0 x (omega arith), among_all all xs (λ k d lt. h (suc k) d (omega arith)))

module _ (tree : PackageTree ℕ) (root : ℕ) (paths : List (List ℕ))
    (threads : Lists (IsThreadAt tree root) PathBefore paths)
    (ends : List CarriedChain) (links : Lists (IsLink tree root) TargetBefore ends) where
  -- ---- components and links
  by_count : (limit count : ℕ) → count ≡ min (limit + 1) (length paths)
      → MoreThan limit (IsThreadAt tree root) PathBefore ⊎ (MoreThan limit (IsThreadAt tree root) PathBefore → ⊥)
  by_count limit count is = by (told_more limit count)
    where
      by : (limit < count) ⊎ (limit < count → ⊥)
          → MoreThan limit (IsThreadAt tree root) PathBefore ⊎ (MoreThan limit (IsThreadAt tree root) PathBefore → ⊥)
      by (inl lt) =
          inl ((more_threads tree root limit count (record { paths = paths; listed = threads; count_is = is })).0 lt)
      by (inr never) =
          inr (λ more. never ((more_threads tree root limit count
          (record { paths = paths; listed = threads; count_is = is })).1 more))

  tell_components : MoreThan COMPONENTS (IsThreadAt tree root) PathBefore
      ⊎ (MoreThan COMPONENTS (IsThreadAt tree root) PathBefore → ⊥)
  tell_components = by_count COMPONENTS (min (COMPONENTS + 1) (length paths)) refl

  fewer_links : (limit : ℕ) → (limit < length ends → ⊥) → MoreThan limit (IsLink tree root) OtherTarget → ⊥
  fewer_links limit never more =
      let most = no_more more.some ends (distinct_from more.some more.in_order)
      (among_all ends more.some
      (λ k d lt. in_list ends (get_or more.some k d) (links.complete (get_or more.some k d) (more.each k d lt)))) in
      let many = more.many in
      never (omega arith)

  tell_links : (limit : ℕ) → (limit < length ends) ⊎ (limit < length ends → ⊥)
      → MoreThan limit (IsLink tree root) OtherTarget ⊎ (MoreThan limit (IsLink tree root) OtherTarget → ⊥)
  tell_links limit (inl lt) =
      inl (record {
        some = ends;
        each = links.each;
        in_order = λ i j d less within.
            other_target (get_or ends i d) (get_or ends j d) (links.in_order i j d less within);
        many = lt;
      })
  tell_links limit (inr never) = inr (fewer_links limit never)

  -- ---- threads
  module _ (P : Implementation ℕ → List ℕ → Type 0)
      (tell : (x : Implementation ℕ) (path : List ℕ) → P x path ⊎ (P x path → ⊥)) where
    abbrev Has : List ℕ → Type 0
    Has path = (x : Implementation ℕ) × IsThreadOf tree root path x × P x path

    by_thread : (path : List ℕ) (x : Implementation ℕ) → component_at tree root path ≡ Some x → (b : Bool)
        → is_thread x.category ≡ b → P x path ⊎ (P x path → ⊥) → Has path ⊎ (Has path → ⊥)
    by_thread path x e true t (inl p) = inl (x, (e, t), p)
    by_thread path x e true t (inr never) =
        inr (λ h. never (subst (λ (y : Implementation ℕ). P y path) (same_Some h.0 x (sym h.1.0 ∙ e)) h.2))
    by_thread path x e false t p =
        inr (λ h. true≢false (sym h.1.1
        ∙ (ap (λ (y : Implementation ℕ). is_thread y.category) (same_Some h.0 x (sym h.1.0 ∙ e)) ∙ t)))

    by_component : (path : List ℕ) (o : Option (Implementation ℕ)) → component_at tree root path ≡ o
        → Has path ⊎ (Has path → ⊥)
    by_component path None e = inr (λ h. none-some h.0 (sym e ∙ h.1.0))
    by_component path (Some x) e = by_thread path x e (is_thread x.category) refl (tell x path)

    by_list : ((path : List ℕ) × Contains paths path × Has path)
        ⊎ ((path : List ℕ) → Contains paths path → Has path → ⊥) → ThreadWith tree root P ⊎ (ThreadWith tree root P → ⊥)
    by_list (inl h) = inl (h.0, h.2.0, h.2.1, h.2.2)
    by_list (inr none) = inr (λ t. none t.0 (threads.complete t.0 (t.1, t.2)) (t.1, t.2, t.3))

    tell_with : ThreadWith tree root P ⊎ (ThreadWith tree root P → ⊥)
    tell_with = by_list (some_in Has (λ path. by_component path (component_at tree root path) refl) paths)

  tell : (limit : Limit) → IsExceeded tree root limit ⊎ (IsExceeded tree root limit → ⊥)
  tell Components = tell_components
  tell Links = tell_links LINKS (told_more LINKS (length ends))
  tell Ports =
      tell_with (λ x path. PORTS < length (ports_of tree x)) (λ x path. told_more PORTS (length (ports_of tree x)))
  tell Variables = tell_with (λ x path. VARIABLES < variable_count x) (λ x path. told_more VARIABLES (variable_count x))
  tell States = tell_with (λ x path. STATES < state_count x) (λ x path. told_more STATES (state_count x))
  tell Path =
      tell_with (λ x path. PATH_BYTES < length (spelled_path tree root path))
      (λ x path. told_more PATH_BYTES (length (spelled_path tree root path)))

  -- ---- the first
  pub record First : Type 0 where
    pub limit : Limit
    pub passed : IsExceeded tree root limit
    pub before : (other : Limit) → line_of other < line_of limit → IsExceeded tree root other → ⊥

  abbrev NotPassed : Limit → Type 0
  NotPassed limit = IsExceeded tree root limit → ⊥

  abbrev pub FirstOrNone : Type 0
  FirstOrNone = First ⊎ ((limit : Limit) → IsExceeded tree root limit → ⊥)

  under : (limit : Limit) → IsExceeded tree root limit
      → ((other : Limit) → line_of other < line_of limit → IsExceeded tree root other → ⊥) → FirstOrNone
  under limit passed before = inl (record { limit = limit; passed = passed; before = before })

  six : NotPassed Components → NotPassed Links → NotPassed Ports → NotPassed Variables → NotPassed States
      → IsExceeded tree root Path ⊎ NotPassed Path → FirstOrNone
  six a b c d e (inl p) = under Path p earlier
    where
      earlier : (other : Limit) → line_of other < 10 → IsExceeded tree root other → ⊥
      earlier Components lt h = a h
      earlier Links lt h = b h
      earlier Ports lt h = c h
      earlier Variables lt h = d h
      earlier States lt h = e h
      earlier Path lt h = absurd (omega arith)
  six a b c d e (inr f) = inr none
    where
      none : (limit : Limit) → IsExceeded tree root limit → ⊥
      none Components h = a h
      none Links h = b h
      none Ports h = c h
      none Variables h = d h
      none States h = e h
      none Path h = f h

  five : NotPassed Components → NotPassed Links → NotPassed Ports → NotPassed Variables
      → IsExceeded tree root States ⊎ NotPassed States → FirstOrNone
  five a b c d (inr e) = six a b c d e (tell Path)
  five a b c d (inl p) = under States p earlier
    where
      earlier : (other : Limit) → line_of other < 9 → IsExceeded tree root other → ⊥
      earlier Components lt h = a h
      earlier Links lt h = b h
      earlier Ports lt h = c h
      earlier Variables lt h = d h
      earlier States lt h = absurd (omega arith)
      earlier Path lt h = absurd (omega arith)

  four : NotPassed Components → NotPassed Links → NotPassed Ports → IsExceeded tree root Variables ⊎ NotPassed Variables
      → FirstOrNone
  four a b c (inr d) = five a b c d (tell States)
  four a b c (inl p) = under Variables p earlier
    where
      earlier : (other : Limit) → line_of other < 8 → IsExceeded tree root other → ⊥
      earlier Components lt h = a h
      earlier Links lt h = b h
      earlier Ports lt h = c h
      earlier Variables lt h = absurd (omega arith)
      earlier States lt h = absurd (omega arith)
      earlier Path lt h = absurd (omega arith)

  three : NotPassed Components → NotPassed Links → IsExceeded tree root Ports ⊎ NotPassed Ports → FirstOrNone
  three a b (inr c) = four a b c (tell Variables)
  three a b (inl p) = under Ports p earlier
    where
      earlier : (other : Limit) → line_of other < 7 → IsExceeded tree root other → ⊥
      earlier Components lt h = a h
      earlier Links lt h = b h
      earlier Ports lt h = absurd (omega arith)
      earlier Variables lt h = absurd (omega arith)
      earlier States lt h = absurd (omega arith)
      earlier Path lt h = absurd (omega arith)

  two : NotPassed Components → IsExceeded tree root Links ⊎ NotPassed Links → FirstOrNone
  two a (inr b) = three a b (tell Ports)
  two a (inl p) = under Links p earlier
    where
      earlier : (other : Limit) → line_of other < 6 → IsExceeded tree root other → ⊥
      earlier Components lt h = a h
      earlier Links lt h = absurd (omega arith)
      earlier Ports lt h = absurd (omega arith)
      earlier Variables lt h = absurd (omega arith)
      earlier States lt h = absurd (omega arith)
      earlier Path lt h = absurd (omega arith)

  first_by : IsExceeded tree root Components ⊎ NotPassed Components → FirstOrNone
  first_by (inr a) = two a (tell Links)
  first_by (inl p) = under Components p (λ other lt h. let least = limit_lines other in absurd (omega arith))

  pub first : FirstOrNone
  first = first_by (tell Components)
