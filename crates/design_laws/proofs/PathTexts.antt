-- Paths of threads: words joined by dots; distinct paths have distinct texts.
use Rattle.std.proofs.Common.{◌≡◌, ◌≢◌, ◌∙◌, inl, inr, ◌⊎◌, ℕ, ◌<◌, nat_eq, nat_le, Bool, true, false, cond, ◌&&◌, List}
use Rattle.std.proofs.Common.{[], ◌∷◌, ◌++◌, map, length, reverse, codes, Option, Some, None, refl, sym, ap, subst}
use Rattle.std.proofs.Common.{arith, append_assoc}
use Rattle.aadl_tree.specs.Names.{same_name}
use Rattle.std.specs.Prelude.{slice_get, IsTrue}
use Rattle.std.specs.List.{AllByRecursion, list_all, slice_split, onto_first}
use Rattle.std.specs.Option.{option_and_then}
use Rattle.std.proofs.lemmas.Bool.{false≢true, cases_order, and_parts}
use Rattle.std.proofs.lemmas.Bool.Decides.{nat_tests}
use Rattle.std.proofs.lemmas.List.{reverse-append, reverse-reverse}
use Rattle.std.proofs.lemmas.List.Elements.{recursion_from_All}
use Rattle.std.proofs.lemmas.Option.{same_Some, option_and_then_some}
use Rattle.list_lemmas.proofs.Elements.{AllByRecursion-append, AllByRecursion-at}
use Rattle.list_lemmas.proofs.PairwiseProperties.{Pairs, pairs_from}
use Rattle.pals_base.specs.declared.limits.TheConstants.{NAME_BYTES}
use Rattle.pals_base.specs.Names.{is_word_byte, is_led_by_letter, is_word, is_dot, is_path}
use Rattle.aadl_tree.specs.Declarations.{Subcomponent, Connection, Implementation, PackageTree}
use Rattle.aadl_names.specs.DuplicateNames.{entry_of}
use Rattle.aadl_names.specs.NameResolution.{implementation_at, subcomponents_of, referred, ports_of}
use Rattle.aadl_names.specs.DuplicatesByNamespace.{port_entries, member_entries}
use Rattle.aadl_uses.specs.ContainmentAndUse.{sub_at, below, number_at_path}
use Rattle.aadl_uses.specs.ThreadsBelow.{path_before}
use Rattle.aadl_uses.specs.ThreadLocations.{name_at, names_along, dotted_names, spelled_path}
use Rattle.aadl_uses.proofs.PathOrder.{never_before}
use Rattle.design_laws.specs.proof.PackageNames.{IsNamed, HasWords, NamesDiffer}
use Rattle.design_laws.proofs.PairwiseDistinctNames.{one_name, Differs}
use Rattle.design_laws.proofs.ElementAndPairwiseProperties.{pairs_at, pairs_first, pairs_second, pairs_unmapped}
use Rattle.design_laws.proofs.ElementAndPairwiseProperties.{all_true}
use Rattle.design_laws.proofs.SoundInstanceParts.{declared_at}

-- ---- words have no dots
no_dot_by : (c : ℕ) (b : Bool) → nat_eq c 46 ≡ b → is_word_byte c ≡ true → b ≡ false
no_dot_by c true e is = let same : c ≡ 46 = grind (arith, nat_tests) in
    absurd (false≢true (ap is_word_byte (sym same) ∙ is))
no_dot_by c false e is = refl

abbrev NoDot : ℕ → Type 0
NoDot c = is_dot c ≡ false

no_dots : (cs : List ℕ) → list_all is_word_byte cs ≡ true → AllByRecursion NoDot cs
no_dots [] all = tt
no_dots (c ∷ cs) all = let h = and_parts (is_word_byte c) (list_all is_word_byte cs) all in
    (no_dot_by c (nat_eq c 46) refl h.0, no_dots cs h.1)

pub word_no_dots : (name : List ℕ) → is_word name ≡ true → AllByRecursion NoDot name
word_no_dots name is =
    no_dots name (and_parts (nat_le (length name) NAME_BYTES && is_led_by_letter name)
    (list_all is_word_byte name) is).1

-- ---- splitting at dots inverts joining by dots
split_word : (w : List ℕ) → AllByRecursion NoDot w → slice_split is_dot w ≡ w ∷ []
split_word [] all = refl
split_word (c ∷ cs) all = ap (λ b. cond b ([] ∷ slice_split is_dot cs) (onto_first c (slice_split is_dot cs))) all.0
    ∙ ap (onto_first c) (split_word cs all.1)

split_joined : (w rest : List ℕ) → AllByRecursion NoDot w
    → slice_split is_dot (w ++ 46 ∷ rest) ≡ w ∷ slice_split is_dot rest
split_joined [] rest all = refl
split_joined (c ∷ cs) rest all =
    let whole = cs ++ 46 ∷ rest in
    ap (λ b. cond b ([] ∷ slice_split is_dot whole) (onto_first c (slice_split is_dot whole))) all.0
    ∙ ap (onto_first c) (split_joined cs rest all.1)

pub split_names : (n : List ℕ) (ns : List (List ℕ)) → AllByRecursion (λ w. is_word w ≡ true) (n ∷ ns)
    → slice_split is_dot (dotted_names (n ∷ ns)) ≡ n ∷ ns
split_names n [] all = split_word n (word_no_dots n all.0)
split_names n (m ∷ ns) all =
    ap (slice_split is_dot) (append_assoc n (codes ".") (dotted_names (m ∷ ns)))
    ∙ (split_joined n (dotted_names (m ∷ ns)) (word_no_dots n all.0) ∙ ap (λ l. n ∷ l) (split_names m ns all.1))

-- ---- names along a path
all_turned : {X : Type 0} (P : X → Type 0) (xs : List X) → AllByRecursion P xs → AllByRecursion P (reverse xs)
all_turned P [] all = tt
all_turned P (x ∷ xs) all = subst (AllByRecursion P) (sym (reverse-append (x ∷ []) xs))
    (AllByRecursion-append P (reverse xs) (x ∷ []) (all_turned P xs all.1) (all.0, tt))

module _ (tree : PackageTree ℕ) (words : HasWords tree) (root : ℕ) where
  sub_by : (n s : ℕ) (o : Option (Implementation ℕ)) (sub : Subcomponent ℕ) → implementation_at tree n ≡ o
      → slice_get (subcomponents_of o) s ≡ Some sub → IsNamed sub.name
  sub_by n s None sub is sub_is = absurd (cc sub_is)
  sub_by n s (Some x) sub is sub_is =
      AllByRecursion-at (λ (k : Subcomponent ℕ). IsNamed k.name) x.subcomponents s sub
      (recursion_from_All (λ (k : Subcomponent ℕ). IsNamed k.name) x.subcomponents
      (words.subs n x (declared_at tree n x is))) sub_is

  sub_word : (n s : ℕ) (sub : Subcomponent ℕ) → sub_at tree n s ≡ Some sub → IsNamed sub.name
  sub_word n s sub is = sub_by n s (implementation_at tree n) sub refl is

  -- the innermost subcomponent of a path
  pub record Innermost (s : ℕ) (path : List ℕ) : Type 0 where
    pub number : ℕ
    pub sub : Subcomponent ℕ
    pub stands : number_at_path tree root path ≡ Some number
    pub is_sub : sub_at tree number s ≡ Some sub
    pub names : names_along tree root (s ∷ path) ≡ sub.name.spelling ∷ names_along tree root path

  pub innermost : (s : ℕ) (path : List ℕ) (n : ℕ) → number_at_path tree root (s ∷ path) ≡ Some n → Innermost s path
  innermost s path n stands =
      option_and_then_some (λ m. below tree m s) (number_at_path tree root path) n stands
      (λ m before step. option_and_then_some (λ (x : Subcomponent ℕ). referred tree x.classifier)
      (sub_at tree m s) n step
      (λ sub sub_is _. record {
        number = m;
        sub = sub;
        stands = before;
        is_sub = sub_is;
        names = ap (λ o. name_at (option_and_then (λ k. sub_at tree k s) o) ++ names_along tree root path) before
            ∙ ap (λ o. name_at o ++ names_along tree root path) sub_is;
      }))

  names_words : (path : List ℕ) (n : ℕ) → number_at_path tree root path ≡ Some n
      → AllByRecursion (λ w. is_word w ≡ true) (names_along tree root path)
  names_words [] n stands = tt
  names_words (s ∷ path) n stands =
      let i = innermost s path n stands in
      subst (AllByRecursion (λ w. is_word w ≡ true)) (sym i.names)
      (sub_word i.number s i.sub i.is_sub, names_words path i.number i.stands)

  split_by : (ns : List (List ℕ)) → AllByRecursion (λ w. is_word w ≡ true) ns → (ns ≡ [] → ⊥)
      → slice_split is_dot (dotted_names ns) ≡ ns
  split_by [] all some = absurd (some refl)
  split_by (n ∷ ns) all some = split_names n ns all

  not_empty : (x : List ℕ) (xs : List (List ℕ)) → reverse (x ∷ xs) ≡ [] → ⊥
  not_empty x xs e = let back : x ∷ xs ≡ [] = sym (reverse-reverse (x ∷ xs)) ∙ ap reverse e in absurd (cc back)

  split_path : (s : ℕ) (path : List ℕ) (n : ℕ) → number_at_path tree root (s ∷ path) ≡ Some n
      → slice_split is_dot (spelled_path tree root (s ∷ path)) ≡ reverse (names_along tree root (s ∷ path))
  split_path s path n stands =
      let i = innermost s path n stands in
      split_by (reverse (names_along tree root (s ∷ path)))
      (all_turned (λ w. is_word w ≡ true) (names_along tree root (s ∷ path))
      (names_words (s ∷ path) n stands))
      (λ e. not_empty i.sub.name.spelling (names_along tree root path) (ap reverse (sym i.names) ∙ e))

  pub path_is : (s : ℕ) (path : List ℕ) (n : ℕ) → number_at_path tree root (s ∷ path) ≡ Some n
      → IsTrue (is_path (spelled_path tree root (s ∷ path)))
  path_is s path n stands =
      ap (list_all is_word) (split_path s path n stands)
      ∙ all_true is_word (reverse (names_along tree root (s ∷ path)))
      (all_turned (λ w. is_word w ≡ true) (names_along tree root (s ∷ path))
      (names_words (s ∷ path) n stands))

  -- ---- paths with one spelling are equal
  module _ (differ : (n : ℕ) (x : Implementation ℕ) → implementation_at tree n ≡ Some x → NamesDiffer tree x) where
    abbrev SubsDiffer : List (Subcomponent ℕ) → Type 0
    SubsDiffer subs = Pairs (λ (a b : Subcomponent ℕ). same_name a.name.spelling b.name.spelling ≡ false) subs

    subs_differ : (n : ℕ) (x : Implementation ℕ) → implementation_at tree n ≡ Some x → SubsDiffer x.subcomponents
    subs_differ n x is =
        let ports = port_entries (ports_of tree x) in
        let members =
        pairs_second Differs ports (member_entries x)
        (pairs_from Differs (ports ++ member_entries x) (differ n x is).members) in
        pairs_unmapped Differs (λ (k : Subcomponent ℕ). entry_of k.name) x.subcomponents
        (pairs_first Differs (map (λ (k : Subcomponent ℕ). entry_of k.name) x.subcomponents)
        (map (λ (c : Connection ℕ). entry_of c.name) x.connections) members)

    one_sub : (subs : List (Subcomponent ℕ)) (s t : ℕ) (a b : Subcomponent ℕ) → (s ≡ t) ⊎ ((s < t) ⊎ (t < s))
        → SubsDiffer subs
        → slice_get subs s ≡ Some a → slice_get subs t ≡ Some b
        → a.name.spelling ≡ b.name.spelling → s ≡ t
    one_sub subs s t a b (inl e) h first second same = e
    one_sub subs s t a b (inr (inl lt)) h first second same =
        absurd (one_name a.name.spelling b.name.spelling same (pairs_at
        (λ (p q : Subcomponent ℕ). same_name p.name.spelling q.name.spelling ≡ false) subs s t a b h lt first second))
    one_sub subs s t a b (inr (inr lt)) h first second same =
        absurd (one_name b.name.spelling a.name.spelling (sym same) (pairs_at
        (λ (p q : Subcomponent ℕ). same_name p.name.spelling q.name.spelling ≡ false) subs t s b a h lt second first))

    sub_one : (n s t : ℕ) (o : Option (Implementation ℕ)) (a b : Subcomponent ℕ) → implementation_at tree n ≡ o
        → slice_get (subcomponents_of o) s ≡ Some a → slice_get (subcomponents_of o) t ≡ Some b
        → a.name.spelling ≡ b.name.spelling → s ≡ t
    sub_one n s t None a b is first second same = absurd (cc first)
    sub_one n s t (Some x) a b is first second same =
        one_sub x.subcomponents s t a b (cases_order s t) (subs_differ n x is) first second same

    same_paths : (p q : List ℕ) (m n : ℕ) → number_at_path tree root p ≡ Some m → number_at_path tree root q ≡ Some n
        → names_along tree root p ≡ names_along tree root q → p ≡ q
    same_paths [] [] m n first second same = refl
    same_paths [] (t ∷ q) m n first second same = let j = innermost t q n second in
        let e : [] ≡ j.sub.name.spelling ∷ names_along tree root q =
        same ∙ j.names in absurd (cc e)
    same_paths (s ∷ p) [] m n first second same = let i = innermost s p m first in
        let e : i.sub.name.spelling ∷ names_along tree root p ≡ [] =
        sym i.names ∙ same in absurd (cc e)
    same_paths (s ∷ p) (t ∷ q) m n first second same =
        let i = innermost s p m first in
        let j = innermost t q n second in
        let e : i.sub.name.spelling ∷ names_along tree root p ≡ j.sub.name.spelling ∷ names_along tree root q =
        sym i.names ∙ (same ∙ j.names) in
        let head : i.sub.name.spelling ≡ j.sub.name.spelling = cc e in
        let tail : names_along tree root p ≡ names_along tree root q = cc e in
        let path = same_paths p q i.number j.number i.stands j.stands tail in
        let number : i.number ≡ j.number =
        same_Some i.number j.number (sym i.stands ∙ (ap (number_at_path tree root) path ∙ j.stands)) in
        let there : sub_at tree i.number t ≡ Some j.sub = ap (λ k. sub_at tree k t) number ∙ j.is_sub in
        let one = sub_one i.number s t (implementation_at tree i.number) i.sub j.sub refl i.is_sub there head in
        ap (λ k. k ∷ p) one ∙ ap (λ l. t ∷ l) path

    pub paths_differ : (s t : ℕ) (p q : List ℕ) (m n : ℕ) → number_at_path tree root (s ∷ p) ≡ Some m
        → number_at_path tree root (t ∷ q) ≡ Some n
        → spelled_path tree root (s ∷ p) ≡ spelled_path tree root (t ∷ q) → s ∷ p ≡ t ∷ q
    paths_differ s t p q m n first second same =
        let turned = sym (split_path s p m first) ∙ (ap (slice_split is_dot) same ∙ split_path t q n second) in
        let names =
        sym (reverse-reverse (names_along tree root (s ∷ p)))
        ∙ (ap reverse turned ∙ reverse-reverse (names_along tree root (t ∷ q))) in
        same_paths (s ∷ p) (t ∷ q) m n first second names

-- ---- no path precedes itself
pub before_other : (p q : List ℕ) → path_before (reverse p) (reverse q) ≡ true → p ≢ q
before_other p q before e = let here : path_before (reverse p) (reverse p) ≡ true =
    subst (λ l. path_before (reverse p) (reverse l) ≡ true)
    (sym e) before in absurd (false≢true (sym (never_before (reverse p)) ∙ here))
