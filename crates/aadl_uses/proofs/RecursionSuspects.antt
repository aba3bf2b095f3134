-- Consequences of the levels of declarations: every subcomponent that leads back to the declaration that contains it
-- is a suspect.
use Rattle.std.proofs.Common.{◌≡◌, ◌⊎◌, inl, inr, ◌↔◌, ℕ, ◌<◌, ◌≤◌, ◌+◌, Bool, true, false, ◌||◌, nat_eq, nat_le, List}
use Rattle.std.proofs.Common.{[], ◌∷◌, ◌++◌, Option, Some, length, get_or, Contains, refl, sym, ap, subst, ◌∙◌, arith}
use Rattle.std.specs.Option.{option_and_then}
use Rattle.std.specs.List.{list_any}
use Rattle.std.proofs.lemmas.Bool.{true≢false, le-leb, lt-ltb, eqb-true, eq-eqb, cases_lt}
use Rattle.indexmap.proofs.CallerLemmas.{Contains-list_any}
use Rattle.std.proofs.lemmas.List.{get_or_past}
use Rattle.std.proofs.lemmas.List.Folds.{list_any_at}
use Rattle.std.proofs.lemmas.List.Elements.{Contains-append_left, Contains-push}
use Rattle.std.proofs.lemmas.Option.{same_Some, option_and_then_some, slice_get_past}
use Rattle.list_lemmas.proofs.Elements.{Contains-nil}
use Rattle.aadl_uses.specs.proof.ContainmentGraphs.{Graph, targets_in, below_in, reached_by, IsReached, LeadsBack}
use Rattle.aadl_uses.specs.proof.RecursionSuspects.{level_in, is_above, is_suspect, AreSuspected}
use Rattle.aadl_uses.proofs.GraphSearches.{below_target}

none_in_nothing : (g : Graph) (n s m : ℕ) → targets_in g n ≡ [] → below_in g n s ≡ Some m → ⊥
none_in_nothing g n s m e b =
    Contains-nil (Some m) (subst (λ (l : List (Option ℕ)). Contains l (Some m)) e (below_target g n s m b))

-- a number with a subcomponent is a declaration
pub declared : (g : Graph) (n s m : ℕ) → below_in g n s ≡ Some m → n < length g
declared g n s m b = by (cases_lt n (length g))
  where
    by : (n < length g) ⊎ (length g ≤ n) → n < length g
    by (inl h) = h
    by (inr h) = absurd (none_in_nothing g n s m (get_or_past g n [] h) b)

-- if levels never rise along subcomponents
module _ (g : Graph) (levels : List ℕ)
    (flat : (n : ℕ) → n < length g → list_any (is_above levels (level_in levels n)) (targets_in g n) ≡ false) where
  falls : (n s m : ℕ) → below_in g n s ≡ Some m → level_in levels m ≤ level_in levels n
  falls n s m b = by (cases_lt (level_in levels n) (level_in levels m))
    where
      by : (level_in levels n < level_in levels m) ⊎ (level_in levels m ≤ level_in levels n)
          → level_in levels m ≤ level_in levels n
      by (inr h) = h
      by (inl h) =
          let there = below_target g n s m b in
          absurd (true≢false (sym (list_any_at (is_above levels (level_in levels n)) (targets_in g n) there.0 (Some m)
          there.1 (ap (is_above levels (level_in levels n)) there.2 ∙ lt-ltb _ _ h)) ∙ flat n (declared g n s m b)))

  path_falls : (from : ℕ) (path : List ℕ) (n : ℕ) → reached_by g from path ≡ Some n
      → level_in levels n ≤ level_in levels from
  path_falls from [] n e = subst (λ m. level_in levels m ≤ level_in levels from) (same_Some from n e) (omega arith)
  path_falls from (s ∷ path) n e =
      option_and_then_some (λ k. below_in g k s) (reached_by g from path) n e
      (λ x h f. let a = path_falls from path x h in let b = falls x s n f in omega arith)

pub suspected : (g : Graph) (levels : List ℕ) (any : Bool) (n s : ℕ)
    → (any ≡ false → (k : ℕ) → k < length g → list_any (is_above levels (level_in levels k)) (targets_in g k) ≡ false)
    → LeadsBack g n s → is_suspect levels any n (below_in g n s) ≡ true
suspected g levels any n s flat back = ap (is_suspect levels any n) back.1 ∙ by any refl
  where
    by : (b : Bool) → any ≡ b → (b || nat_le (level_in levels n) (level_in levels back.0)) ≡ true
    by true e = refl
    by false e = le-leb _ _ (path_falls g levels (flat e) back.0 back.2.0 n back.2.1)

-- ---- the subcomponents of one declaration
module _ (g : Graph) (levels : List ℕ) (any : Bool) (n at : ℕ) (old new : List (ℕ × ℕ)) where
  last_or_before : (s : ℕ) → s < at + 1 → (s < at) ⊎ (s ≡ at)
  last_or_before s lt = grind arith

  pub suspected_more : AreSuspected g levels any n at old new → (more : List (ℕ × ℕ)) → more ≡ new ++ (n, at) ∷ []
      → AreSuspected g levels any n (at + 1) old more
  suspected_more so_far more is = record {
    kept = λ x h. grown x (so_far.kept x h);
    all = λ s lt e. by s e (last_or_before s lt);
  }
    where
      grown : (x : ℕ × ℕ) → Contains new x → Contains more x
      grown x h = subst (λ (l : List (ℕ × ℕ)). Contains l x) (sym is) (Contains-append_left new ((n, at) ∷ []) x h)

      by : (s : ℕ) → is_suspect levels any n (below_in g n s) ≡ true → (s < at) ⊎ (s ≡ at) → Contains more (n, s)
      by s e (inl h) = grown (n, s) (so_far.all s h e)
      by s e (inr h) =
          subst (λ k. Contains more (n, k)) (sym h)
          (subst (λ (l : List (ℕ × ℕ)). Contains l (n, at)) (sym is) (Contains-push new (n, at)))

  pub suspected_skip : AreSuspected g levels any n at old new → is_suspect levels any n (below_in g n at) ≡ false
      → AreSuspected g levels any n (at + 1) old new
  suspected_skip so_far clear = record {
    kept = so_far.kept;
    all = λ s lt e. by s e (last_or_before s lt);
  }
    where
      by : (s : ℕ) → is_suspect levels any n (below_in g n s) ≡ true → (s < at) ⊎ (s ≡ at) → Contains new (n, s)
      by s e (inl h) = so_far.all s h e
      by s e (inr h) = absurd (true≢false (sym e ∙ ap (λ k. is_suspect levels any n (below_in g n k)) h ∙ clear))

-- after the last subcomponent there is none
pub suspects_past : (g : Graph) (levels : List ℕ) (any : Bool) (n s : ℕ) → length (targets_in g n) ≤ s
    → is_suspect levels any n (below_in g n s) ≡ true → ⊥
suspects_past g levels any n s past e =
    true≢false (sym e ∙ ap (λ o. is_suspect levels any n (option_and_then (λ t. t) o))
    (slice_get_past (targets_in g n) s past))

pub all_suspected : (g : Graph) (levels : List ℕ) (any : Bool) (n : ℕ) (old new : List (ℕ × ℕ))
    → AreSuspected g levels any n (length (targets_in g n)) old new → (s : ℕ)
    → is_suspect levels any n (below_in g n s) ≡ true → Contains new (n, s)
all_suspected g levels any n old new so_far s e = by (cases_lt s (length (targets_in g n)))
  where
    by : (s < length (targets_in g n)) ⊎ (length (targets_in g n) ≤ s) → Contains new (n, s)
    by (inl h) = so_far.all s h e
    by (inr h) = absurd (suspects_past g levels any n s h e)

-- one more declaration
pub suspects_more : (g : Graph) (levels : List ℕ) (any : Bool) (at : ℕ) (old new : List (ℕ × ℕ))
    → ((n s : ℕ) → n < at → is_suspect levels any n (below_in g n s) ≡ true → Contains old (n, s))
    → AreSuspected g levels any at (length (targets_in g at)) old new
    → (n s : ℕ) → n < at + 1 → is_suspect levels any n (below_in g n s) ≡ true → Contains new (n, s)
suspects_more g levels any at old new so_far here n s lt e = by n e (which n lt)
  where
    which : (n : ℕ) → n < at + 1 → (n < at) ⊎ (n ≡ at)
    which n lt = grind arith

    by : (n : ℕ) → is_suspect levels any n (below_in g n s) ≡ true → (n < at) ⊎ (n ≡ at) → Contains new (n, s)
    by n e (inl h) = here.kept (n, s) (so_far n s h e)
    by n e (inr h) =
        subst (λ k. Contains new (k, s)) (sym h)
        (all_suspected g levels any at old new here s
        (subst (λ k. is_suspect levels any k (below_in g k s) ≡ true) h e))

pub suspects_all : (g : Graph) (levels : List ℕ) (any : Bool) (at : ℕ) (found : List (ℕ × ℕ))
    → (any ≡ false → (k : ℕ) → k < length g → list_any (is_above levels (level_in levels k)) (targets_in g k) ≡ false)
    → length g ≤ at
    → ((n s : ℕ) → n < at → is_suspect levels any n (below_in g n s) ≡ true → Contains found (n, s)) → (n s : ℕ)
    → LeadsBack g n s → Contains found (n, s)
suspects_all g levels any at found flat past all n s back =
    let here = declared g n s back.0 back.1 in
    all n s (omega arith) (suspected g levels any n s flat back)

-- a search from the target of a subcomponent determines whether the subcomponent leads back
pub leads_by : (g : Graph) (n s m : ℕ) (keys : List ℕ) (b : Bool) → Some m ≡ below_in g n s
    → ((k : ℕ) → Contains keys k ↔ IsReached g m k) → b ≡ list_any (nat_eq n) keys → (b ≡ true) ↔ LeadsBack g n s
leads_by g n s m keys b e found is = (
  λ t. (m, sym e, (found n).0 (Contains-list_any nat_eq eqb-true keys n (sym is ∙ t))),
  λ back. is ∙ there ((found n).1
      (subst (λ k. IsReached g k n) (same_Some back.0 m (sym back.1 ∙ sym e)) back.2)),
)
  where
    there : Contains keys n → list_any (nat_eq n) keys ≡ true
    there h = list_any_at (nat_eq n) keys h.0 n h.1 (eq-eqb n (get_or keys h.0 n) (sym h.2))
