-- The first subcomponents along a path from a root, and one more: the implementation at their end, its dotted name,
-- and the subcomponents on the path.
use Rattle.std.proofs.Common.{◌≡◌, ℕ, ◌+◌, ◌<◌, ◌≤◌, true, List, [], ◌∷◌, ◌++◌, length, take, drop, reverse, codes}
use Rattle.std.proofs.Common.{Option, Some, None, is_some, get_or, refl, sym, ap, ◌∙◌, arith, append_assoc}
use Rattle.std.specs.Option.{option_and_then}
use Rattle.std.proofs.lemmas.Bool.{true≢false}
use Rattle.std.proofs.lemmas.List.{take_more, take_all, take-append-drop, reverse-append, length-reverse}
use Rattle.std.proofs.lemmas.Option.{none-some}
use Rattle.aadl_tree.specs.Declarations.{Subcomponent, PackageTree}
use Rattle.aadl_names.specs.NameResolution.{referred}
use Rattle.aadl_uses.specs.ContainmentAndUse.{sub_at, below, number_at_path}
use Rattle.aadl_uses.specs.declared.thread_locations.SubAt.{SubAt}
use Rattle.aadl_uses.specs.ThreadLocations.{name_at, names_along, dotted_names, spelled_path, sub_in, subs_along}

-- ---- paths
-- one more subcomponent is the innermost
pub reversed_more : (path : List ℕ) (i s : ℕ) → i < length path → s ≡ get_or path i 0
    → reverse (take (i + 1) path) ≡ s ∷ reverse (take i path)
reversed_more path i s within is =
    ap reverse (take_more path i 0 within)
    ∙ (reverse-append (take i path) (get_or path i 0 ∷ []) ∙ ap (λ x. x ∷ reverse (take i path)) (sym is))

reversed_parts : (path : List ℕ) (i : ℕ) → reverse (drop i path) ++ reverse (take i path) ≡ reverse path
reversed_parts path i = sym (reverse-append (take i path) (drop i path)) ∙ ap reverse (take-append-drop i path)

module _ (tree : PackageTree ℕ) (root : ℕ) where
  none_stays : (xs ys : List ℕ) → number_at_path tree root ys ≡ None → number_at_path tree root (xs ++ ys) ≡ None
  none_stays [] ys e = e
  none_stays (x ∷ xs) ys e = ap (option_and_then (λ n. below tree n x)) (none_stays xs ys e)

  -- if a part of a path leads nowhere, the whole path does
  pub none_all : (path : List ℕ) (i : ℕ) → number_at_path tree root (reverse (take i path)) ≡ None
      → number_at_path tree root (reverse path) ≡ None
  none_all path i e =
      ap (number_at_path tree root) (sym (reversed_parts path i))
      ∙ none_stays (reverse (drop i path)) (reverse (take i path)) e

  -- ---- the next step
  pub next_standing : (path : List ℕ) (i s here : ℕ) → i < length path → s ≡ get_or path i 0
      → number_at_path tree root (reverse (take i path)) ≡ Some here
      → number_at_path tree root (reverse (take (i + 1) path)) ≡ below tree here s
  next_standing path i s here within is stands =
      ap (number_at_path tree root) (reversed_more path i s within is)
      ∙ ap (option_and_then (λ n. below tree n s)) stands

  pub next_some : (path : List ℕ) (i s here next : ℕ) → i < length path → s ≡ get_or path i 0
      → number_at_path tree root (reverse (take i path)) ≡ Some here → Some next ≡ below tree here s
      → number_at_path tree root (reverse (take (i + 1) path)) ≡ Some next
  next_some path i s here next within is stands e = next_standing path i s here within is stands ∙ sym e

  pub next_none : (path : List ℕ) (i s here : ℕ) → i < length path → s ≡ get_or path i 0
      → number_at_path tree root (reverse (take i path)) ≡ Some here → None ≡ below tree here s
      → number_at_path tree root (reverse path) ≡ None
  next_none path i s here within is stands e =
      none_all path (i + 1) (next_standing path i s here within is stands ∙ sym e)

  pub all_standing : (path : List ℕ) (i here : ℕ) → length path ≤ i
      → number_at_path tree root (reverse (take i path)) ≡ Some here
      → number_at_path tree root (reverse path) ≡ Some here
  all_standing path i here past stands = ap (λ p. number_at_path tree root (reverse p)) (sym (take_all i path past))
      ∙ stands

-- a declaration without this subcomponent leads nowhere
pub none_below : (tree : PackageTree ℕ) (n s : ℕ) → sub_at tree n s ≡ None → below tree n s ≡ None
none_below tree n s e = ap (option_and_then (λ sub. referred tree sub.classifier)) e

pub leads : (o : Option ℕ) → is_some o ≡ true → o ≡ None → ⊥
leads None some e = true≢false (sym some)
leads (Some n) some e = none-some n (sym e)

-- ---- dotted names
behind : (x : List ℕ) (ns : List (List ℕ)) (y : List ℕ)
    → dotted_names (x ∷ ns ++ y ∷ []) ≡ dotted_names (x ∷ ns) ++ codes "." ++ y
behind x [] y = refl
behind x (n ∷ ns) y = ap (λ l. x ++ codes "." ++ l) (behind n ns y) ∙ simp append_assoc

pub no_names : (ns : List (List ℕ)) → length ns ≡ 0 → dotted_names ns ≡ []
no_names [] e = refl
no_names (n ∷ ns) e = absurd (omega arith)

pub dotted_first : (ns : List (List ℕ)) (y : List ℕ) → length ns ≡ 0 → dotted_names (ns ++ y ∷ []) ≡ y
dotted_first [] y e = refl
dotted_first (n ∷ ns) y e = absurd (omega arith)

pub dotted_more : (ns : List (List ℕ)) (y : List ℕ) → 0 < length ns
    → dotted_names (ns ++ y ∷ []) ≡ dotted_names ns ++ codes "." ++ y
dotted_more [] y e = absurd (omega arith)
dotted_more (n ∷ ns) y e = behind n ns y

-- ---- a thread, by the first subcomponents of its path
pub record Along (tree : PackageTree ℕ) (root : ℕ) (path : List ℕ) (i here : ℕ) (names : List ℕ)
    (subs : List SubAt) : Type 0 where
  pub stands : number_at_path tree root (reverse (take i path)) ≡ Some here
  pub size : length (names_along tree root (reverse (take i path))) ≡ i
  pub names_are : names ≡ spelled_path tree root (reverse (take i path))
  pub subs_are : subs ≡ reverse (subs_along tree root (reverse (take i path)))

pub none_along : (tree : PackageTree ℕ) (root : ℕ) (path : List ℕ) → Along tree root path 0 root [] []
none_along tree root path = record { stands = refl; size = refl; names_are = refl; subs_are = refl }

module _ (tree : PackageTree ℕ) (root : ℕ) (path : List ℕ) (i s here : ℕ) (names : List ℕ) (subs : List SubAt)
    (within : i < length path) (is : s ≡ get_or path i 0) (along : Along tree root path i here names subs)
    (sub : Subcomponent ℕ) (declared : sub_at tree here s ≡ Some sub) where
  reversed : reverse (take (i + 1) path) ≡ s ∷ reverse (take i path)
  reversed = reversed_more path i s within is

  here_sub : option_and_then (λ n. sub_at tree n s) (number_at_path tree root (reverse (take i path))) ≡ Some sub
  here_sub = ap (option_and_then (λ n. sub_at tree n s)) along.stands ∙ declared

  names_more : names_along tree root (reverse (take (i + 1) path))
      ≡ sub.name.spelling ∷ names_along tree root (reverse (take i path))
  names_more =
      ap (names_along tree root) reversed
      ∙ ap (λ o. name_at o ++ names_along tree root (reverse (take i path))) here_sub

  reversed_names : reverse (names_along tree root (reverse (take (i + 1) path)))
      ≡ reverse (names_along tree root (reverse (take i path))) ++ sub.name.spelling ∷ []
  reversed_names =
      ap reverse names_more ∙ reverse-append (sub.name.spelling ∷ []) (names_along tree root (reverse (take i path)))

  size_more : length (names_along tree root (reverse (take (i + 1) path))) ≡ i + 1
  size_more = let now = along.size in let more = ap length names_more in omega (arith, now, more)

  front_size : length (reverse (names_along tree root (reverse (take i path)))) ≡ i
  front_size = length-reverse (names_along tree root (reverse (take i path))) ∙ along.size

  subs_more : reverse (subs_along tree root (reverse (take (i + 1) path)))
      ≡ subs ++ record { declaration = here; sub = s } ∷ []
  subs_more =
      ap (λ p. reverse (subs_along tree root p)) reversed
      ∙ (ap (λ o. reverse (sub_in o s ++ subs_along tree root (reverse (take i path)))) along.stands
      ∙ (reverse-append (record { declaration = here; sub = s } ∷ []) (subs_along tree root (reverse (take i path)))
      ∙ ap (λ l. l ++ record { declaration = here; sub = s } ∷ []) (sym along.subs_are)))

  -- one more subcomponent, the first one or after a dot
  pub along_more : (next : ℕ) (names_new : List ℕ) (subs_new : List SubAt) → Some next ≡ below tree here s
      → names_new ≡ spelled_path tree root (reverse (take (i + 1) path))
      → subs_new ≡ subs ++ record { declaration = here; sub = s } ∷ []
      → Along tree root path (i + 1) next names_new subs_new
  along_more next names_new subs_new e f g = record {
    stands = next_some tree root path i s here next within is along.stands e;
    size = size_more;
    names_are = f;
    subs_are = g ∙ sym subs_more;
  }

  pub first_name : i ≡ 0 → names ++ sub.name.spelling ≡ spelled_path tree root (reverse (take (i + 1) path))
  first_name e =
      ap (λ l. l ++ sub.name.spelling) (along.names_are ∙ none_yet)
      ∙ sym (ap dotted_names reversed_names
      ∙ dotted_first (reverse (names_along tree root (reverse (take i path)))) sub.name.spelling (front_size ∙ e))
    where
      none_yet : spelled_path tree root (reverse (take i path)) ≡ []
      none_yet = no_names (reverse (names_along tree root (reverse (take i path)))) (front_size ∙ e)

  pub later_name : 0 < i → names ++ codes "." ++ sub.name.spelling
      ≡ spelled_path tree root (reverse (take (i + 1) path))
  later_name lt =
      ap (λ l. l ++ codes "." ++ sub.name.spelling) along.names_are
      ∙ sym (ap dotted_names reversed_names
      ∙ dotted_more (reverse (names_along tree root (reverse (take i path)))) sub.name.spelling
      (let size = front_size in omega (arith, size)))
