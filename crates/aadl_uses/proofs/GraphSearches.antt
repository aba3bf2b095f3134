-- A search through a graph: the declarations found so far, and those already visited.
use Rattle.std.proofs.Common.{◌≡◌, ◌⊎◌, inl, inr, ◌↔◌, ℕ, ◌<◌, ◌≤◌, ◌+◌, Bool, true, false, nat_eq, if◌then◌else◌, List}
use Rattle.std.proofs.Common.{[], ◌∷◌, ◌++◌, Option, Some, None, length, get_or, slice_get, Contains, refl, sym, ap}
use Rattle.std.proofs.Common.{subst, ◌∙◌, arith}
use Rattle.std.specs.Option.{option_and_then}
use Rattle.std.specs.List.{list_any, IsDistinct}
use Rattle.std.proofs.lemmas.Bool.{eqb-true}
use Rattle.std.proofs.lemmas.List.{append-nil, append_assoc}
use Rattle.std.proofs.lemmas.List.Elements.{Contains-append_left, Contains-append_cases, Contains-push}
use Rattle.std.proofs.lemmas.List.Elements.{Contains-push_cases}
use Rattle.std.proofs.lemmas.Option.{slice_get_within, slice_get-get_or, same_Some, none-some, option_and_then_some}
use Rattle.std.proofs.lemmas.Map.Steps.{length-le_from_distinct_below}
use Rattle.indexmap.specs.IndexSet.{insert_key}
use Rattle.indexmap.proofs.CallerLemmas.{Contains-list_any, Contains-insert_key}
use Rattle.list_lemmas.proofs.ElementPositions.{Contains-from_slice_get, slice_get-from_Contains, slice_get-append_left}
use Rattle.list_lemmas.proofs.Elements.{Contains-nil}
use Rattle.aadl_uses.specs.proof.ContainmentGraphs.{Graph, targets_in, below_in, reached_by, IsReached, IsWithin}
use Rattle.aadl_uses.specs.proof.ContainmentGraphs.{AreAdded}

-- ---- one more number
pub insert_grows : (ks : List ℕ) (k : ℕ)
    → (more : List ℕ) × (insert_key nat_eq ks k ≡ ks ++ more) × ((n : ℕ) → Contains more n → n ≡ k)
insert_grows ks k = by (list_any (nat_eq k) ks) refl
  where
    by : (b : Bool) → list_any (nat_eq k) ks ≡ b
        → (more : List ℕ) × (insert_key nat_eq ks k ≡ ks ++ more) × ((n : ℕ) → Contains more n → n ≡ k)
    by true e = ([], ap (λ c. if c then ks else ks ++ k ∷ []) e ∙ sym (append-nil ks), λ n h. absurd (Contains-nil n h))
    by false e = (k ∷ [], ap (λ c. if c then ks else ks ++ k ∷ []) e, λ n h. one n (Contains-push_cases [] k n h))
      where
        one : (n : ℕ) → Contains [] n ⊎ (k ≡ n) → n ≡ k
        one n (inl h) = absurd (Contains-nil n h)
        one n (inr h) = sym h

-- nothing is added yet
pub added_none : (ks : List ℕ) → AreAdded [] ks ks
added_none ks = record {
  more = [];
  grown = sym (append-nil ks);
  named = λ n h. absurd (Contains-nil n h);
  all = λ n h. absurd (Contains-nil (Some n) h);
  distinct = λ d. d;
}

module _ (ts : List (Option ℕ)) (old mid : List ℕ) (so_far : AreAdded ts old mid) where
  -- a target that is not declared
  pub added_skip : AreAdded (ts ++ None ∷ []) old mid
  added_skip = record {
    more = so_far.more;
    grown = so_far.grown;
    named = λ n h. Contains-append_left ts (None ∷ []) (Some n) (so_far.named n h);
    all = λ n h. by n (Contains-push_cases ts None (Some n) h);
    distinct = so_far.distinct;
  }
    where
      by : (n : ℕ) → Contains ts (Some n) ⊎ (None ≡ Some n) → Contains mid n
      by n (inl h) = so_far.all n h
      by n (inr h) = absurd (none-some n h)

  -- a target that is declared
  pub added_more : (k : ℕ) (new : List ℕ) → new ≡ insert_key nat_eq mid k → IsDistinct nat_eq new
      → AreAdded (ts ++ Some k ∷ []) old new
  added_more k new is differ = record {
    more = so_far.more ++ grows.0;
    grown = is ∙ grows.1 ∙ ap (λ (l : List ℕ). l ++ grows.0) so_far.grown ∙ append_assoc old so_far.more grows.0;
    named = λ n h. named_by n (Contains-append_cases so_far.more grows.0 n h);
    all = λ n h. subst (λ (l : List ℕ). Contains l n) (sym is) (all_by n (Contains-push_cases ts (Some k) (Some n) h));
    distinct = λ d. differ;
  }
    where
      grows : (more : List ℕ) × (insert_key nat_eq mid k ≡ mid ++ more) × ((n : ℕ) → Contains more n → n ≡ k)
      grows = insert_grows mid k

      named_by : (n : ℕ) → Contains so_far.more n ⊎ Contains grows.0 n → Contains (ts ++ Some k ∷ []) (Some n)
      named_by n (inl h) = Contains-append_left ts (Some k ∷ []) (Some n) (so_far.named n h)
      named_by n (inr h) =
          subst (λ m. Contains (ts ++ Some k ∷ []) (Some m)) (sym (grows.2 n h)) (Contains-push ts (Some k))

      all_by : (n : ℕ) → Contains ts (Some n) ⊎ (Some k ≡ Some n) → Contains (insert_key nat_eq mid k) n
      all_by n (inl h) =
          subst (λ (l : List ℕ). Contains l n) (sym grows.1) (Contains-append_left mid grows.0 n (so_far.all n h))
      all_by n (inr h) =
          subst (Contains (insert_key nat_eq mid k)) (same_Some k n h) (Contains-insert_key nat_eq eqb-true mid k)

-- ---- the whole search
-- from a declaration, with the targets of the first `at` found declarations
pub record Searched (g : Graph) (from at : ℕ) (keys : List ℕ) : Type 0 where
  pub start : Contains keys from
  pub sound : (n : ℕ) → Contains keys n → IsReached g from n
  pub closed : (k n s m : ℕ) → k < at → slice_get keys k ≡ Some n → below_in g n s ≡ Some m → Contains keys m
  pub distinct : IsDistinct nat_eq keys

pub below_target : (g : Graph) (n s m : ℕ) → below_in g n s ≡ Some m → Contains (targets_in g n) (Some m)
below_target g n s m e =
    option_and_then_some (λ t. t) (slice_get (targets_in g n) s) m e
    (λ x h f. Contains-from_slice_get (targets_in g n) s (Some m) (h ∙ ap Some f))

pub target_below : (g : Graph) (n m : ℕ) (h : Contains (targets_in g n) (Some m)) → below_in g n h.0 ≡ Some m
target_below g n m h = ap (option_and_then (λ t. t)) (slice_get-from_Contains (targets_in g n) (Some m) h)

pub reached_next : (g : Graph) (from n s m : ℕ) → IsReached g from n → below_in g n s ≡ Some m → IsReached g from m
reached_next g from n s m r e = (s ∷ r.0, ap (option_and_then (λ k. below_in g k s)) r.1 ∙ e)

pub searched_first : (g : Graph) (from : ℕ) (keys : List ℕ) → keys ≡ from ∷ [] → IsDistinct nat_eq keys
    → Searched g from 0 keys
searched_first g from keys e d = record {
  distinct = d;
  start = subst (λ (l : List ℕ). Contains l from) (sym e) (Contains-push [] from);
  sound = λ n h. ([], by n (Contains-push_cases [] from n (subst (λ (l : List ℕ). Contains l n) e h)));
  closed = λ k n s m lt a b. absurd (omega arith);
}
  where
    by : (n : ℕ) → Contains [] n ⊎ (from ≡ n) → Some from ≡ Some n
    by n (inl h) = absurd (Contains-nil n h)
    by n (inr h) = ap Some h

module _ (g : Graph) (from at : ℕ) (keys : List ℕ) (so_far : Searched g from at keys) where
  -- after the last one the search ends
  pub searched_past : slice_get keys at ≡ None → Searched g from (at + 1) keys
  searched_past none = record {
    start = so_far.start;
    sound = so_far.sound;
    closed = λ k n s m lt a b. by k n s m lt a b;
    distinct = so_far.distinct;
  }
    where
      by : (k n s m : ℕ) → k < at + 1 → slice_get keys k ≡ Some n → below_in g n s ≡ Some m → Contains keys m
      by k n s m lt a b = cases (which k lt)
        where
          which : (k : ℕ) → k < at + 1 → (k < at) ⊎ (k ≡ at)
          which k lt = grind arith

          cases : (k < at) ⊎ (k ≡ at) → Contains keys m
          cases (inl h) = so_far.closed k n s m h a b
          cases (inr h) = absurd (none-some n (sym none ∙ ap (slice_get keys) (sym h) ∙ a))

  pub searched_more : (n : ℕ) (new : List ℕ) → slice_get keys at ≡ Some n → AreAdded (targets_in g n) keys new
      → Searched g from (at + 1) new
  searched_more here new is added = record {
    start = kept from so_far.start;
    sound =
        λ n h. sound_by n (Contains-append_cases keys added.more n
        (subst (λ (l : List ℕ). Contains l n) added.grown h));
    closed = λ k n s m lt a b. closed_by k n s m a b (which k lt);
    distinct = added.distinct so_far.distinct;
  }
    where
      kept : (n : ℕ) → Contains keys n → Contains new n
      kept n h = subst (λ (l : List ℕ). Contains l n) (sym added.grown) (Contains-append_left keys added.more n h)

      sound_by : (n : ℕ) → Contains keys n ⊎ Contains added.more n → IsReached g from n
      sound_by n (inl h) = so_far.sound n h
      sound_by n (inr h) = let t = added.named n h in
          reached_next g from here t.0 n (so_far.sound here (Contains-from_slice_get keys at here is))
          (target_below g here n t)

      which : (k : ℕ) → k < at + 1 → (k < at) ⊎ (k ≡ at)
      which k lt = grind arith

      same_in : (k n : ℕ) (v : ℕ) → slice_get keys k ≡ Some v → slice_get new k ≡ Some n → v ≡ n
      same_in k n v e a =
          same_Some v n (sym (ap (λ (l : List ℕ). slice_get l k) added.grown
          ∙ slice_get-append_left keys added.more k v e) ∙ a)

      closed_by : (k n s m : ℕ) → slice_get new k ≡ Some n → below_in g n s ≡ Some m → (k < at) ⊎ (k ≡ at)
          → Contains new m
      closed_by k n s m a b (inl lt) =
          let old : slice_get keys k ≡ Some (get_or keys k 0) =
          slice_get-get_or keys k 0 (omega (arith, slice_get_within keys at here is)) in
          kept m (so_far.closed k n s m lt (old ∙ ap Some (same_in k n (get_or keys k 0) old a)) b)
      closed_by k n s m a b (inr e) =
          let same : here ≡ n = same_in at n here is (ap (slice_get new) (sym e) ∙ a) in
          added.all m (below_target g here s m (ap (λ h. below_in g h s) same ∙ b))

pub reached_within : (g : Graph) (from : ℕ) → IsWithin g → from < length g → (path : List ℕ) (n : ℕ)
    → reached_by g from path ≡ Some n → n < length g
reached_within g from within here [] n e = subst (λ m. m < length g) (same_Some from n e) here
reached_within g from within here (s ∷ path) n e =
    option_and_then_some (λ k. below_in g k s) (reached_by g from path) n e (λ x h f. within x s n f)

module _ (g : Graph) (from at : ℕ) (keys : List ℕ) (done : Searched g from at keys) (ended : length keys ≤ at) where
  complete : (path : List ℕ) (n : ℕ) → reached_by g from path ≡ Some n → Contains keys n
  complete [] n e = subst (Contains keys) (same_Some from n e) done.start
  complete (s ∷ path) n e =
      option_and_then_some (λ k. below_in g k s) (reached_by g from path) n e
      (λ x h f. let there = complete path x h in let lt = there.1 in
      done.closed there.0 x s n (omega arith) (slice_get-from_Contains keys x there) f)

  pub searched_all : (n : ℕ) → Contains keys n ↔ IsReached g from n
  searched_all n = (done.sound n, λ r. complete r.0 n r.1)

pub searched_end : (g : Graph) (from at : ℕ) (keys : List ℕ) → IsWithin g → from < length g → length g ≤ at
    → Searched g from at keys → (n : ℕ) → Contains keys n ↔ IsReached g from n
searched_end g from at keys within here past done =
    searched_all g from at keys done
    (omega (
      arith,
      length-le_from_distinct_below keys (length g) done.distinct
          (λ q h. let r = done.sound q (Contains-list_any nat_eq eqb-true keys q h) in
          reached_within g from within here r.0 q r.1),
    ))
