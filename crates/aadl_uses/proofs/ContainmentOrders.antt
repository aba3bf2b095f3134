-- Sequences in which each declaration follows the declarations that it contains, and why such a sequence can be
-- extended to all declarations.
use Rattle.std.proofs.Common.{◌≡◌, ◌⊎◌, inl, inr, ℕ, zero, suc, ◌<◌, ◌≤◌, ◌+◌, Bool, true, false, ◌&&◌, ◌||◌, nat_eq}
use Rattle.std.proofs.Common.{List, [], ◌∷◌, ◌++◌, Option, Some, None, length, get_or, slice_get, Contains, refl, sym}
use Rattle.std.proofs.Common.{ap, subst, ◌∙◌, arith}
use Rattle.std.specs.Option.{option_and_then}
use Rattle.std.specs.List.{list_any, list_all, IsDistinct, AllByRecursion}
use Rattle.std.proofs.lemmas.Bool.{true≢false, eqb-true, cases_lt}
use Rattle.std.proofs.lemmas.List.{append-nil, append_assoc, length-append, nil_from_length}
use Rattle.std.proofs.lemmas.List.Folds.{list_all_at}
use Rattle.std.proofs.lemmas.List.Elements.{Contains-append_left, Contains-append_right, Contains-append_cases}
use Rattle.std.proofs.lemmas.List.Elements.{Contains-push}
use Rattle.std.proofs.lemmas.Option.{slice_get-get_or, same_Some}
use Rattle.std.proofs.lemmas.Map.Steps.{length-le_from_distinct_below, le-length_from_below}
use Rattle.indexmap.specs.IndexSet.{insert_key}
use Rattle.indexmap.proofs.CallerLemmas.{Contains-list_any, Contains-insert_key}
use Rattle.list_lemmas.proofs.ElementPositions.{slice_get-from_Contains, Contains-from_slice_get, slice_get-append_left}
use Rattle.list_lemmas.proofs.Elements.{list_any_by_number, Contains-nil, Contains-cons_cases}
use Rattle.aadl_uses.specs.proof.ContainmentGraphs.{Graph, targets_in, below_in, IsReached, IsWithin, LeadsBack}
use Rattle.aadl_uses.specs.proof.ContainmentOrders.{is_there, IsSequence, IsOrder, Misses, IsPlaced, ArePlaced}
use Rattle.aadl_uses.proofs.GraphSearches.{insert_grows, below_target, reached_next}

-- ---- lists
right_part : {X : Type 0} (xs ys : List X) (k : ℕ) (x : X) → length xs ≤ k → slice_get (xs ++ ys) k ≡ Some x
    → Contains ys x
right_part [] ys k x le e = Contains-from_slice_get ys k x e
right_part (y ∷ xs) ys zero x le e = absurd (omega arith)
right_part (y ∷ xs) ys (suc k) x le e = right_part xs ys k x (omega arith) e

pub of_any : (xs : List ℕ) (n : ℕ) → list_any (nat_eq n) xs ≡ true → Contains xs n
of_any xs n e = Contains-list_any nat_eq eqb-true xs n e

pub not_of_any : (xs : List ℕ) (n : ℕ) → list_any (nat_eq n) xs ≡ false → Contains xs n → ⊥
not_of_any xs n e h = true≢false (sym (list_any_by_number xs n h) ∙ e)

each_by : (n x : ℕ) (xs : List ℕ) → (list_any (nat_eq n) xs ≡ false → AllByRecursion (λ y. nat_eq n y ≡ false) xs)
    → (b : Bool) → nat_eq n x ≡ b → list_any (nat_eq n) (x ∷ xs) ≡ false
    → AllByRecursion (λ y. nat_eq n y ≡ false) (x ∷ xs)
each_by n x xs rest true f e = absurd (true≢false (sym (ap (λ b. b || list_any (nat_eq n) xs) f) ∙ e))
each_by n x xs rest false f e = (f, rest (sym (ap (λ b. b || list_any (nat_eq n) xs) f) ∙ e))

each_other : (n : ℕ) (xs : List ℕ) → list_any (nat_eq n) xs ≡ false → AllByRecursion (λ y. nat_eq n y ≡ false) xs
each_other n [] e = tt
each_other n (x ∷ xs) e = each_by n x xs (each_other n xs) (nat_eq n x) refl e

distinct_none : IsDistinct nat_eq []
unfolding IsDistinct
distinct_none = tt

distinct_more : (n : ℕ) (xs : List ℕ) → list_any (nat_eq n) xs ≡ false → IsDistinct nat_eq xs
    → IsDistinct nat_eq (n ∷ xs)
unfolding IsDistinct
distinct_more n xs e d = (each_other n xs e, d)

-- a list of distinct numbers below n has at most n elements
few : (xs : List ℕ) (n : ℕ) → IsDistinct nat_eq xs → ((q : ℕ) → Contains xs q → q < n) → length xs ≤ n
few xs n d below = length-le_from_distinct_below xs n d (λ q e. below q (of_any xs q e))

-- the first k numbers are all in a list, or one of them is not
some_missing : (xs : List ℕ) (k : ℕ)
    → ((q : ℕ) → q < k → Contains xs q) ⊎ ((q : ℕ) × (q < k) × (list_any (nat_eq q) xs ≡ false))
some_missing xs zero = inl (λ q lt. absurd (omega arith))
some_missing xs (suc k) = by (some_missing xs k)
  where
    last : ((q : ℕ) → q < k → Contains xs q) → (b : Bool) → list_any (nat_eq k) xs ≡ b
        → ((q : ℕ) → q < suc k → Contains xs q) ⊎ ((q : ℕ) × (q < suc k) × (list_any (nat_eq q) xs ≡ false))
    last all true e = inl (λ q lt. which q (cases_lt q k) lt)
      where
        which : (q : ℕ) → (q < k) ⊎ (k ≤ q) → q < suc k → Contains xs q
        which q (inl h) lt = all q h
        which q (inr h) lt = let same : k ≡ q = omega arith in subst (Contains xs) same (of_any xs k e)
    last all false e = inr (k, omega arith, e)

    by : ((q : ℕ) → q < k → Contains xs q) ⊎ ((q : ℕ) × (q < k) × (list_any (nat_eq q) xs ≡ false))
        → ((q : ℕ) → q < suc k → Contains xs q) ⊎ ((q : ℕ) × (q < suc k) × (list_any (nat_eq q) xs ≡ false))
    by (inl all) = last all (list_any (nat_eq k) xs) refl
    by (inr h) = let lt = h.1 in inr (h.0, omega arith, h.2)

-- ---- one declaration
abbrev MissingTarget : List ℕ → List (Option ℕ) → Type 0
MissingTarget xs ts = (m : ℕ) × Contains ts (Some m) × (list_any (nat_eq m) xs ≡ false)

missing_later : (xs : List ℕ) (t : Option ℕ) (ts : List (Option ℕ)) → MissingTarget xs ts → MissingTarget xs (t ∷ ts)
missing_later xs t ts h = (h.0, Contains-append_right (t ∷ []) ts (Some h.0) h.1, h.2)

missing_by : (xs : List ℕ) (t : Option ℕ) (ts : List (Option ℕ))
    → (list_all (is_there xs) ts ≡ false → MissingTarget xs ts) → (b : Bool) → is_there xs t ≡ b
    → (is_there xs t && list_all (is_there xs) ts) ≡ false → MissingTarget xs (t ∷ ts)
missing_by xs None ts rest b f g = missing_later xs None ts (rest g)
missing_by xs (Some m) ts rest true f g =
    missing_later xs (Some m) ts (rest (sym (ap (λ c. c && list_all (is_there xs) ts) f) ∙ g))
missing_by xs (Some m) ts rest false f g =
    (m, Contains-append_left (Some m ∷ []) ts (Some m) (Contains-push [] (Some m)), f)

missing_target : (xs : List ℕ) (ts : List (Option ℕ)) → list_all (is_there xs) ts ≡ false → MissingTarget xs ts
missing_target xs [] e = absurd (true≢false e)
missing_target xs (t ∷ ts) e = missing_by xs t ts (missing_target xs ts) (is_there xs t) refl e

pub misses_by : (g : Graph) (n : ℕ) (xs : List ℕ) → list_all (is_there xs) (targets_in g n) ≡ false → Misses g n xs
misses_by g n xs e =
    let h = missing_target xs (targets_in g n) e in
    record {
      sub = h.1.0;
      target = h.0;
      names = ap (option_and_then (λ t. t)) (slice_get-from_Contains (targets_in g n) (Some h.0) h.1);
      absent = not_of_any xs h.0 h.2;
    }

all_there : (xs : List ℕ) (ts : List (Option ℕ)) (m : ℕ) → list_all (is_there xs) ts ≡ true → Contains ts (Some m)
    → Contains xs m
all_there xs ts m e h = by (list_any (nat_eq m) xs) refl
  where
    by : (b : Bool) → list_any (nat_eq m) xs ≡ b → Contains xs m
    by true f = of_any xs m f
    by false f = absurd (true≢false (sym e ∙ list_all_at (is_there xs) ts h.0 (Some m) h.1 (ap (is_there xs) h.2 ∙ f)))

-- it is not placed
pub placed_not : (g : Graph) (n : ℕ) (old : List ℕ) → (n < length g → Misses g n old) → IsPlaced g n old old
placed_not g n old misses = record {
  more = [];
  grown = sym (append-nil old);
  sequence = λ q. q;
  tried = λ lt. inr (misses lt);
}

module _ (g : Graph) (n : ℕ) (old new : List ℕ) where
  pub placed_new : n < length g → list_all (is_there old) (targets_in g n) ≡ true → new ≡ insert_key nat_eq old n
      → IsDistinct nat_eq new → IsPlaced g n old new
  placed_new lt there is distinct = record {
    more = grows.0;
    grown = is ∙ grows.1;
    sequence = λ q. record {
      distinct = distinct;
      declared =
          λ m h. declared_by q m (Contains-append_cases old grows.0 m
          (subst (λ (l : List ℕ). Contains l m) (is ∙ grows.1) h));
      behind = λ k x s m a b. behind_by q k x s m a b (cases_lt k (length old));
    };
    tried = λ h. inl (subst (λ (l : List ℕ). Contains l n) (sym is) (Contains-insert_key nat_eq eqb-true old n));
  }
    where
      grows : (more : List ℕ) × (insert_key nat_eq old n ≡ old ++ more) × ((x : ℕ) → Contains more x → x ≡ n)
      grows = insert_grows old n

      declared_by : IsSequence g old → (m : ℕ) → Contains old m ⊎ Contains grows.0 m → m < length g
      declared_by q m (inl h) = q.declared m h
      declared_by q m (inr h) = subst (λ k. k < length g) (sym (grows.2 m h)) lt

      kept : (j m : ℕ) → slice_get old j ≡ Some m → slice_get new j ≡ Some m
      kept j m e = ap (λ (l : List ℕ). slice_get l j) (is ∙ grows.1) ∙ slice_get-append_left old grows.0 j m e

      behind_by : IsSequence g old → (k x s m : ℕ) → slice_get new k ≡ Some x → below_in g x s ≡ Some m
          → (k < length old) ⊎ (length old ≤ k) → (j : ℕ) × (j < k) × (slice_get new j ≡ Some m)
      behind_by q k x s m a b (inl before) =
          let here : slice_get old k ≡ Some (get_or old k 0) = slice_get-get_or old k 0 before in
          let same : get_or old k 0 ≡ x = same_Some (get_or old k 0) x (sym (kept k (get_or old k 0) here) ∙ a) in
          let h = q.behind k x s m (here ∙ ap Some same) b in
          (h.0, h.1, kept h.0 m h.2)
      behind_by q k x s m a b (inr past) =
          let same : x ≡ n = grows.2 x
          (right_part old grows.0 k x past (sym (ap (λ (l : List ℕ). slice_get l k) (is ∙ grows.1)) ∙ a)) in
          let h =
          all_there old (targets_in g n) m there (below_target g n s m (sym (ap (λ k. below_in g k s) same) ∙ b)) in
          let within = h.1 in
          (h.0, omega arith, kept h.0 m (slice_get-from_Contains old m h))

-- ---- one more declaration
misses_before : (g : Graph) (n : ℕ) (old mid more : List ℕ) → mid ≡ old ++ more → Misses g n mid → Misses g n old
misses_before g n old mid more e h = record {
  sub = h.sub;
  target = h.target;
  names = h.names;
  absent =
      λ c. h.absent (subst (λ (l : List ℕ). Contains l h.target) (sym e) (Contains-append_left old more h.target c));
}

pub none_placed : (g : Graph) (old : List ℕ) → ArePlaced g 0 old old
none_placed g old = record {
  more = [];
  grown = sym (append-nil old);
  sequence = λ q. q;
  tried = λ n lt h. absurd (omega arith);
}

module _ (g : Graph) (at n : ℕ) (old mid new : List ℕ) (so_far : ArePlaced g at old mid)
    (placed : IsPlaced g n mid new) where
  both : new ≡ old ++ (so_far.more ++ placed.more)
  both = placed.grown ∙ (ap (λ (l : List ℕ). l ++ placed.more) so_far.grown ∙ append_assoc old so_far.more placed.more)

  kept : (m : ℕ) → Contains mid m → Contains new m
  kept m h = subst (λ (l : List ℕ). Contains l m) (sym placed.grown) (Contains-append_left mid placed.more m h)

  before : (m : ℕ) → Contains mid m ⊎ Misses g m old → Contains new m ⊎ Misses g m old
  before m (inl h) = inl (kept m h)
  before m (inr h) = inr h

  pub placed_any : ArePlaced g at old new
  placed_any = record {
    more = so_far.more ++ placed.more;
    grown = both;
    sequence = λ q. placed.sequence (so_far.sequence q);
    tried = λ m lt h. before m (so_far.tried m lt h);
  }

pub placed_more : (g : Graph) (at : ℕ) (old mid new : List ℕ) → ArePlaced g at old mid → IsPlaced g at mid new
    → ArePlaced g (at + 1) old new
placed_more g at old mid new so_far placed = record {
  more = so_far.more ++ placed.more;
  grown = both g at at old mid new so_far placed;
  sequence = λ q. placed.sequence (so_far.sequence q);
  tried = λ m lt h. by m lt h (cases_lt m at);
}
  where
    here : (m : ℕ) → m ≡ at → Contains new at ⊎ Misses g at mid → Contains new m ⊎ Misses g m old
    here m same (inl h) = inl (subst (Contains new) (sym same) h)
    here m same (inr h) =
        inr (subst (λ k. Misses g k old) (sym same) (misses_before g at old mid so_far.more so_far.grown h))

    by : (m : ℕ) → m < at + 1 → m < length g → (m < at) ⊎ (at ≤ m) → Contains new m ⊎ Misses g m old
    by m lt h (inl k) = before g at at old mid new so_far placed m (so_far.tried m k h)
    by m lt h (inr k) = let same : m ≡ at = omega arith in here m same (placed.tried (subst (λ k. k < length g) same h))

-- ---- the whole
-- if each declaration outside a list has a target outside it, and none leads back, the list has all declarations
module _ (g : Graph) (xs : List ℕ) (within : IsWithin g) (acyclic : (n s : ℕ) → LeadsBack g n s → ⊥)
    (stuck : (n : ℕ) → n < length g → Contains xs n ⊎ Misses g n xs) where
  stuck_at : (n : ℕ) → n < length g → (Contains xs n → ⊥) → Misses g n xs
  stuck_at n lt out = by (stuck n lt)
    where
      by : Contains xs n ⊎ Misses g n xs → Misses g n xs
      by (inl h) = absurd (out h)
      by (inr h) = h

  -- a path through declarations outside the list, in reverse order
  abbrev IsShort : ℕ → ℕ → List ℕ → Type 0
  IsShort left u seen =
      u < length g → (Contains xs u → ⊥) → IsDistinct nat_eq (u ∷ seen)
      → ((q : ℕ) → Contains (u ∷ seen) q → q < length g)
      → ((q : ℕ) → Contains (u ∷ seen) q → IsReached g q u) → length seen + left ≡ length g → ⊥

  go_on : (left u : ℕ) (seen : List ℕ) → ((m : ℕ) → IsShort left m (u ∷ seen)) → IsShort (suc left) u seen
  go_on left u seen rest lt out distinct below reaches long = let next = stuck_at u lt out in
      by next (list_any (nat_eq next.target) (u ∷ seen)) refl
    where
      by : (next : Misses g u xs) (b : Bool) → list_any (nat_eq next.target) (u ∷ seen) ≡ b → ⊥
      by next true e =
          acyclic u next.sub (next.target, next.names, reaches next.target (of_any (u ∷ seen) next.target e))
      by next false e =
          rest next.target (within u next.sub next.target next.names) next.absent
          (distinct_more next.target (u ∷ seen) e distinct)
          (λ q h. below_by q (Contains-cons_cases next.target (u ∷ seen) q h))
          (λ q h. reaches_by q (Contains-cons_cases next.target (u ∷ seen) q h)) (omega (arith, long))
        where
          below_by : (q : ℕ) → (next.target ≡ q) ⊎ Contains (u ∷ seen) q → q < length g
          below_by q (inl h) = subst (λ k. k < length g) h (within u next.sub next.target next.names)
          below_by q (inr h) = below q h

          reaches_by : (q : ℕ) → (next.target ≡ q) ⊎ Contains (u ∷ seen) q → IsReached g q next.target
          reaches_by q (inl h) = subst (λ k. IsReached g k next.target) h ([], refl)
          reaches_by q (inr h) = reached_next g q u next.sub next.target (reaches q h) next.names

  too_long : (left u : ℕ) (seen : List ℕ) → IsShort left u seen
  too_long zero u seen lt out distinct below reaches long = let most = few (u ∷ seen) (length g) distinct below in
      absurd (omega (arith, long, most))
  too_long (suc left) u seen lt out distinct below reaches long =
      go_on left u seen (λ m. too_long left m (u ∷ seen)) lt out distinct below reaches long

  all_in : (n : ℕ) → n < length g → (Contains xs n → ⊥) → ⊥
  all_in n lt out =
      too_long (length g) n [] lt out (distinct_more n [] refl distinct_none)
      (λ q h. subst (λ k. k < length g) (same q h) lt) (λ q h. subst (λ k. IsReached g k n) (same q h) ([], refl))
      (omega arith)
    where
      one : (q : ℕ) → (n ≡ q) ⊎ Contains [] q → n ≡ q
      one q (inl h) = h
      one q (inr h) = absurd (Contains-nil q h)

      same : (q : ℕ) → Contains (n ∷ []) q → n ≡ q
      same q h = one q (Contains-cons_cases n [] q h)

-- an iteration over all declarations places one, unless all are placed
pub one_more : (g : Graph) (old new : List ℕ) → IsWithin g → ((n s : ℕ) → LeadsBack g n s → ⊥) → IsSequence g old
    → length old < length g → ArePlaced g (length g) old new → length old < length new
one_more g old new within acyclic sequence fewer placed = by (cases_lt (length old) (length new))
  where
    longer : length new ≡ length old + length placed.more
    longer = ap length placed.grown ∙ length-append old placed.more

    nothing : length new ≤ length old → ⊥
    nothing le = which (some_missing old (length g))
      where
        same : new ≡ old
        same =
            placed.grown ∙ (ap (λ (l : List ℕ). old ++ l) (nil_from_length placed.more (omega (arith, longer)))
            ∙ append-nil old)

        stuck : (n : ℕ) → n < length g → Contains old n ⊎ Misses g n old
        stuck n lt = subst (λ (l : List ℕ). Contains l n ⊎ Misses g n old) same (placed.tried n lt lt)

        which : ((q : ℕ) → q < length g → Contains old q)
            ⊎ ((q : ℕ) × (q < length g) × (list_any (nat_eq q) old ≡ false)) → ⊥
        which (inl all) = let most =
            le-length_from_below old (length g) (λ q lt. list_any_by_number old q (all q lt)) in absurd (omega arith)
        which (inr h) = all_in g old within acyclic stuck h.0 h.1 (not_of_any old h.0 h.2)

    by : (length old < length new) ⊎ (length new ≤ length old) → length old < length new
    by (inl h) = h
    by (inr h) = absurd (nothing h)

-- a list of distinct declarations of full length has all of them
pub all_placed : (g : Graph) (xs : List ℕ) → IsSequence g xs → length g ≤ length xs → IsOrder g xs
all_placed g xs sequence full = record {
  sequence = sequence;
  all = by (some_missing xs (length g));
}
  where
    by : ((q : ℕ) → q < length g → Contains xs q) ⊎ ((q : ℕ) × (q < length g) × (list_any (nat_eq q) xs ≡ false))
        → (n : ℕ) → n < length g → Contains xs n
    by (inl all) = all
    by (inr h) =
        let most =
        few (h.0 ∷ xs) (length g) (distinct_more h.0 xs h.2 sequence.distinct)
        (λ q k. below q (Contains-cons_cases h.0 xs q k)) in
        absurd (omega arith)
      where
        below : (q : ℕ) → (h.0 ≡ q) ⊎ Contains xs q → q < length g
        below q (inl k) = subst (λ m. m < length g) k h.1
        below q (inr k) = sequence.declared q k

pub no_sequence : (g : Graph) (xs : List ℕ) → length xs ≡ 0 → IsSequence g xs
no_sequence g xs none = subst (IsSequence g) (sym (nil_from_length xs none)) (record {
  distinct = distinct_none;
  declared = λ n h. absurd (Contains-nil n h);
  behind = λ k n s m a b. absurd (Contains-nil n (Contains-from_slice_get [] k n a));
})
