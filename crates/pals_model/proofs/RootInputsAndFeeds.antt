-- The root in ports of a design: the names of its feeds, each once and in order, of the type of the fed port.
use Rattle.std.proofs.Common.{◌≡◌, ℕ, zero, suc, ◌+◌, ◌<◌, ◌≤◌, Bool, true, false, not, ◌||◌, cond, List, [], ◌∷◌, ◌++◌}
use Rattle.std.proofs.Common.{length, get_or, slice_get, slice_index_or, Some, None, All, AllPairs, if◌then◌else◌, inl}
use Rattle.std.proofs.Common.{inr, refl, sym, ap, ◌∙◌, subst, arith, append_assoc, ne_of_lt}
use Rattle.std.specs.Prelude.{bytes_eq, find}
use Rattle.std.specs.Option.{option_map, unwrap_or}
use Rattle.std.specs.List.{list_any, Contains, position_or_len}
use Rattle.std.proofs.lemmas.Bool.{cases_lt, lt-ltb, or_parts, or_left, or_right}
use Rattle.std.proofs.lemmas.Slice.Eq.{bytes_eq-Decides}
use Rattle.std.proofs.lemmas.List.Elements.{All-nil, All-cons, All-weaker, All-contains, Contains-append_left}
use Rattle.std.proofs.lemmas.List.Elements.{Contains-append_right}
use Rattle.std.proofs.lemmas.List.Kept.{AllPairs-cons}
use Rattle.std.proofs.lemmas.List.Folds.{list_any-append}
use Rattle.std.proofs.lemmas.Option.{slice_get-map, slice_get_within, get_or_from_slice_get}
use Rattle.list_lemmas.proofs.PairwiseProperties.{AllPairs-slice_get}
use Rattle.pals_model.specs.declared.design.Feed.{Feed}
use Rattle.pals_model.specs.ComponentInputs.{new_names, feed_names, root_inputs, place_of}
use Rattle.pals_model.specs.PortKindsAndRates.{first_kind, feed_kind}
use Rattle.pals_model.specs.DesignRules.{AgreeInKind}
use Rattle.pals_model.specs.proof.CompositionLaws.RootInputsAndFeeds.{RootInputsDiffer, RootInputsAreFeeds}
use Rattle.pals_model.specs.proof.CompositionLaws.RootInputsAndFeeds.{RootInputsInOrder}
use Rattle.pals_model.specs.proof.CompositionLaws.RootInputsAndFeeds.{FeedHasRoot, FeedsHaveRootKind}
use Rattle.pals_model.proofs.WordBytes.{same_bytes, other_bytes}

abbrev is_in : List ℕ → List (List ℕ) → Bool
is_in name names = list_any (λ other. bytes_eq name other) names

-- ---- which names
here_or_later : (name other : List ℕ) (names : List (List ℕ)) (b : Bool) → bytes_eq name other ≡ b
    → (b || is_in name names) ≡ true → (is_in name names ≡ true → Contains names name) → Contains (other ∷ names) name
here_or_later name other names true same found later = (0, (omega arith), sym ((bytes_eq-Decides name other).0 same))
here_or_later name other names false differ found later = Contains-append_right (other ∷ []) names name (later found)

is_in-Contains : (name : List ℕ) (names : List (List ℕ)) → is_in name names ≡ true → Contains names name
is_in-Contains name [] found = absurd (cc)
is_in-Contains name (other ∷ names) found =
    here_or_later name other names (bytes_eq name other) refl found (is_in-Contains name names)

new_or_not : (P : List (List ℕ) → Type 0) (b : Bool) (xs ys : List (List ℕ)) → (b ≡ true → P xs) → (b ≡ false → P ys)
    → P (if b then xs else ys)
new_or_not P true xs ys old new = old refl
new_or_not P false xs ys old new = new refl

-- no new name is among the earlier ones
new_names-new : (before names : List (List ℕ)) → All (λ name. is_in name before ≡ false) (new_names before names)
new_names-new before [] = All-nil (λ name. is_in name before ≡ false)
new_names-new before (name ∷ names) =
    new_or_not (λ found. All (λ n. is_in n before ≡ false) found) (is_in name before) (new_names before names)
    (name ∷ new_names (before ++ name ∷ []) names)
    (λ _. new_names-new before names)
    (λ new. All-cons (λ n. is_in n before ≡ false) name (new_names (before ++ name ∷ []) names) new
    (All-weaker (λ n. is_in n (before ++ name ∷ []) ≡ false) (λ n. is_in n before ≡ false)
    (λ n none. (or_parts (is_in n before) (is_in n (name ∷ []))
    (sym (list_any-append (λ other. bytes_eq n other) before (name ∷ [])) ∙ none)).0)
    (new_names (before ++ name ∷ []) names) (new_names-new (before ++ name ∷ []) names)))

-- each new name is one of the names
new_names-old : (before names : List (List ℕ)) → All (Contains names) (new_names before names)
new_names-old before [] = All-nil (Contains [])
new_names-old before (name ∷ names) =
    let later : (b : List (List ℕ)) → All (Contains (name ∷ names)) (new_names b names)
    =
    λ b. All-weaker (Contains names) (Contains (name ∷ names))
    (λ n is. Contains-append_right (name ∷ []) names n is) (new_names b names) (new_names-old b names) in
    new_or_not (All (Contains (name ∷ names))) (is_in name before) (new_names before names)
    (name ∷ new_names (before ++ name ∷ []) names)
    (λ _. later before)
    (λ _. All-cons (Contains (name ∷ names)) name (new_names (before ++ name ∷ []) names) (0, (omega arith), refl)
    (later (before ++ name ∷ [])))

-- each name is there, before or among the new ones
new_names-all : (before names : List (List ℕ)) → All (Contains (before ++ new_names before names)) names
new_names-all before [] = All-nil (Contains (before ++ []))
new_names-all before (name ∷ names) =
    new_or_not (λ found. All (Contains (before ++ found)) (name ∷ names)) (is_in name before) (new_names before names)
    (name ∷ new_names (before ++ name ∷ []) names)
    (λ old. All-cons (Contains (before ++ new_names before names)) name names
    (Contains-append_left before (new_names before names) name (is_in-Contains name before old))
    (new_names-all before names))
    (λ _.
    let rest = new_names (before ++ name ∷ []) names in
    All-cons (Contains (before ++ name ∷ rest)) name names
    (Contains-append_right before (name ∷ rest) name (0, (omega arith), refl))
    (subst (λ found. All (Contains found) names) (append_assoc before (name ∷ []) rest)
    (new_names-all (before ++ name ∷ []) names)))

pub root_inputs_are_feeds : RootInputsAreFeeds
root_inputs_are_feeds design name = (
  λ is. All-contains (Contains (feed_names design)) (root_inputs design) name (new_names-old [] (feed_names design)) is,
  λ is. All-contains (Contains (root_inputs design)) (feed_names design) name (new_names-all [] (feed_names design)) is,
)

-- ---- their order
abbrev first_place : List ℕ → List (List ℕ) → ℕ
first_place name names = position_or_len (bytes_eq name) names

further : (name other : List ℕ) (names : List (List ℕ)) → bytes_eq name other ≡ false
    → first_place name (other ∷ names) ≡ 1 + first_place name names
further name other names differ = ap (λ b. cond (not b) (1 + first_place name names) 0) differ

nearest : (name : List ℕ) (names : List (List ℕ)) → first_place name (name ∷ names) ≡ 0
nearest name names = ap (λ b. cond (not b) (1 + first_place name names) 0) (same_bytes name)

-- a name that is not among those to which another belongs
differs : (a name : List ℕ) (before : List (List ℕ)) → is_in a before ≡ false → is_in name before ≡ true
    → bytes_eq a name ≡ false
differs a name before none found =
    other_bytes a name (λ same. let both : false ≡ true = sym none ∙ ap (λ n. is_in n before) same ∙ found in
    absurd (cc))

behind : (before names : List (List ℕ)) (name : List ℕ) → is_in name before ≡ true
    → AllPairs (λ a b. first_place a names < first_place b names) (new_names before names)
    → AllPairs (λ a b. first_place a (name ∷ names) < first_place b (name ∷ names)) (new_names before names)
behind before names name old order i j d below within =
    let new = new_names before names in
    let off : (k : ℕ) → k < length new → first_place (get_or new k d) (name ∷ names)
    ≡ 1 + first_place (get_or new k d) names
    =
    λ k inside. further (get_or new k d) name names
    (differs (get_or new k d) name before (new_names-new before names k d inside) old) in
    let inside : i < length new = omega arith in
    let at_i = off i inside in
    let at_j = off j within in
    let less = order i j d below within in
    omega (arith, at_i, at_j, less)

in_pushed : (name : List ℕ) (before : List (List ℕ)) → is_in name (before ++ name ∷ []) ≡ true
in_pushed name before =
    list_any-append (λ other. bytes_eq name other) before (name ∷ [])
    ∙ or_right (is_in name before) (is_in name (name ∷ [])) (or_left (bytes_eq name name) false (same_bytes name))

new_names-order : (before names : List (List ℕ))
    → AllPairs (λ a b. first_place a names < first_place b names) (new_names before names)
new_names-order before [] = λ i j d below within. absurd (omega arith)
new_names-order before (name ∷ names) =
    new_or_not (AllPairs (λ a b. first_place a (name ∷ names) < first_place b (name ∷ names))) (is_in name before)
    (new_names before names) (name ∷ new_names (before ++ name ∷ []) names)
    (λ old. behind before names name old (new_names-order before names))
    (λ _.
    let after = before ++ name ∷ [] in
    let new = new_names after names in
    AllPairs-cons (λ a b. first_place a (name ∷ names) < first_place b (name ∷ names)) name new
    (λ k d within.
    let at =
    further (get_or new k d) name names
    (differs (get_or new k d) name after (new_names-new after names k d within) (in_pushed name before)) in
    omega (arith, at, nearest name names))
    (behind after names name (in_pushed name before) (new_names-order after names)))

-- ---- places
within_or : (name other : List ℕ) (names : List (List ℕ)) (b : Bool) → bytes_eq name other ≡ b → (k : ℕ)
    → k < suc (length names) → slice_index_or (other ∷ names) k name ≡ name
    → (Contains names name → first_place name names < length names)
    → cond (not b) (1 + first_place name names) 0 < suc (length names)
within_or name other names true same k inside is later = omega arith
within_or name other names false differ zero inside is later =
    let same : name ≡ other = sym is in
    let both : false ≡ true = sym differ ∙ (bytes_eq-Decides name other).1 same in
    absurd (cc)
within_or name other names false differ (suc k) inside is later =
    let more = later (k, (omega arith), is) in
    omega (arith, more)

first_place-within : (name : List ℕ) (names : List (List ℕ)) → Contains names name
    → first_place name names < length names
first_place-within name [] is = let inside = is.1 in absurd (omega (arith, inside))
first_place-within name (other ∷ names) is =
    within_or name other names (bytes_eq name other) refl is.0 is.1 is.2 (first_place-within name names)

place_of-is : (name : List ℕ) (names : List (List ℕ)) → Contains names name
    → place_of name names ≡ first_place name names
place_of-is name names is =
    ap (λ b. unwrap_or (cond b (Some (first_place name names)) None) 0)
    (lt-ltb (first_place name names) (length names) (first_place-within name names is))

pub root_inputs_in_order : RootInputsInOrder
root_inputs_in_order design i j d below within =
    let names = feed_names design in
    let roots = root_inputs design in
    let old = new_names-old [] names in
    let inside : i < length roots = omega arith in
    let less = new_names-order [] names i j d below within in
    let at_i = place_of-is (get_or roots i d) names (old i d inside) in
    let at_j = place_of-is (get_or roots j d) names (old j d within) in
    omega (arith, less, at_i, at_j)

pub root_inputs_differ : RootInputsDiffer
root_inputs_differ design i j d below within same =
    ne_of_lt (new_names-order [] (feed_names design) i j d below within)
    (ap (λ name. first_place name (feed_names design)) same)

-- ---- feeds
at_first_place : (name : List ℕ) (names : List (List ℕ)) → first_place name names < length names
    → slice_get names (first_place name names) ≡ Some name
at_first_place name [] within = absurd (omega arith)
at_first_place name (other ∷ names) within = by (bytes_eq name other) refl within (at_first_place name names)
  where
    by : (b : Bool) → bytes_eq name other ≡ b → cond (not b) (1 + first_place name names) 0 < suc (length names)
        → (first_place name names < length names → slice_get names (first_place name names) ≡ Some name)
        → slice_get (other ∷ names) (cond (not b) (1 + first_place name names) 0) ≡ Some name
    by true same inside later = ap Some (sym ((bytes_eq-Decides name other).0 same))
    by false differ inside later =
        let next : 1 + first_place name names ≡ suc (first_place name names) = omega arith in
        ap (slice_get (other ∷ names)) next ∙ later (omega arith)

pub feed_has_root : FeedHasRoot
feed_has_root design number feed is =
    let names = feed_names design in
    let named : slice_get names number ≡ Some feed.name = slice_get-map (λ (f : Feed). f.name) design.feeds number
    ∙ ap (option_map (λ (f : Feed). f.name)) is in
    let here : slice_index_or names number [] ≡ feed.name = get_or_from_slice_get names number feed.name [] named in
    let among : Contains names feed.name = (
      number,
      slice_get_within names number feed.name named,
      get_or_from_slice_get names number feed.name feed.name named,
    ) in
    let root : Contains (root_inputs design) feed.name = (root_inputs_are_feeds design feed.name).1 among in
    ap (λ name. slice_get (root_inputs design) (place_of name (root_inputs design))) here
    ∙ ap (slice_get (root_inputs design)) (place_of-is feed.name (root_inputs design) root)
    ∙ at_first_place feed.name (root_inputs design) (first_place-within feed.name (root_inputs design) root)

-- the first feed of a name
abbrev FoundAt : {X : Type 0} → (X → Bool) → List X → ℕ → Type 0
FoundAt {X} test xs n =
    (k : ℕ) × (x : X) × (find test xs ≡ Some x) × (slice_get xs k ≡ Some x) × (test x ≡ true) × (k ≤ n)

found_or : {X : Type 0} (test : X → Bool) (y : X) (xs : List X) (n : ℕ) (b : Bool) → test y ≡ b
    → (b ≡ false → FoundAt test xs n) → FoundAt test (y ∷ xs) (suc n)
found_or test y xs n true passes later =
    (0, y, ap (λ b. cond b (Some y) (find test xs)) passes, refl, passes, omega arith)
found_or test y xs n false fails later =
    let rest = later refl in (
      suc rest.0,
      rest.1,
      ap (λ b. cond b (Some y) (find test xs)) fails ∙ rest.2,
      rest.3,
      rest.4,
      (let at = rest.5 in omega (arith, at)),
    )

find_first : {X : Type 0} (test : X → Bool) (xs : List X) (n : ℕ) (x : X) → slice_get xs n ≡ Some x → test x ≡ true
    → FoundAt test xs n
find_first test [] n x is passes = absurd (cc)
find_first test (y ∷ xs) zero x is passes =
    let same : y ≡ x = cc in
    let here : test y ≡ true = ap test same ∙ passes in
    (0, y, ap (λ b. cond b (Some y) (find test xs)) here, refl, here, omega arith)
find_first test (y ∷ xs) (suc n) x is passes =
    found_or test y xs n (test y) refl (λ _. find_first test xs n x is passes)

pub feeds_have_root_kind : FeedsHaveRootKind
feeds_have_root_kind design number feed rules is =
    let first =
    find_first (λ (f : Feed). bytes_eq feed.name f.name) design.feeds number feed is (same_bytes feed.name) in
    let named : feed.name ≡ first.1.name = (bytes_eq-Decides feed.name first.1.name).0 first.4 in
    let agree : feed_kind design feed ≡ feed_kind design first.1
    = elim (cases_lt first.0 number) [
      | inl before ↦ (let pair =
          AllPairs-slice_get (AgreeInKind design) design.feeds first.0 number first.1 feed rules.feeds.kinds before
          first.3 is in sym (pair.kinds (sym named)))
      | inr not_before ↦
          (let here : first.0 ≡ number = (let upto = first.5 in omega (arith, upto)) in
          let both : Some feed ≡ Some first.1 = sym is ∙ sym (ap (slice_get design.feeds) here) ∙ first.3 in
          let one : feed ≡ first.1 = cc in
          ap (feed_kind design) one)
    ] in
    agree ∙ sym (ap (first_kind design) first.2)
