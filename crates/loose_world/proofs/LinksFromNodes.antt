-- For `OutLinks`: its lists are the links from each node, with as many of the design's links as were added.
use Rattle.std.proofs.Common.{◌≡◌, ◌∙◌, inl, inr, ℕ, zero, suc, ◌+◌, ◌<◌, Bool, cond, List, [], ◌∷◌, ◌++◌, length, map}
use Rattle.std.proofs.Common.{refl, sym, ap, subst, arith, length-append}
use Rattle.std.specs.Prelude.{filter, nat_eq, slice_index_or}
use Rattle.std.specs.List.{enumerate_from}
use Rattle.std.proofs.lemmas.Bool.{cases_lt, cases_Bool}
use Rattle.std.proofs.lemmas.List.{length-map, get_or-map, get_or_default, get_or_append_left, get_or_push}
use Rattle.pals_base.specs.declared.basic_types.LinkNo.{LinkNo}
use Rattle.pals_model.specs.declared.design.DesignParts.{DesignParts}
use Rattle.pals_model.specs.declared.design.Link.{Link}
use Rattle.pals_model.specs.IncomingAndOutgoingLinks.{links_from}
use Rattle.loose_world.specs.SentLines.{AreOutLinks}

-- the links of the first nodes
pub record AreFirstLinks (design : DesignParts) (first : ℕ) (nodes : List (List LinkNo)) : Type 0 where
  pub count : length nodes ≡ first
  pub each : (node : ℕ) → node < length nodes
      → map (λ (link : LinkNo). link.0) (slice_index_or nodes node []) ≡ links_from design node

pub links_none : (design : DesignParts) → AreFirstLinks design 0 []
links_none design = record { count = refl; each = λ node lt. absurd (omega (arith, lt)) }

pub links_more : (design : DesignParts) (first : ℕ) (nodes new : List (List LinkNo)) (links : List LinkNo)
    → AreFirstLinks design first nodes → map (λ (link : LinkNo). link.0) links ≡ links_from design first
    → new ≡ nodes ++ links ∷ [] → AreFirstLinks design (first + 1) new
links_more design first nodes new links are is all =
    let many = length-append nodes (links ∷ []) in
    let count = are.count in
    let grown : AreFirstLinks design (first + 1) (nodes ++ links ∷ []) = record {
      count = omega (arith, many, count);
      each = λ node lt. elim (cases_lt node (length nodes)) [
        | inl before ↦ ap (map (λ (link : LinkNo). link.0)) (get_or_append_left nodes (links ∷ []) [] node before)
            ∙ are.each node before
        | inr at ↦
            let here : length nodes ≡ node = omega (arith, many, lt, at) in
            ap (map (λ (link : LinkNo). link.0)) (get_or_push nodes links [] node here) ∙ is
            ∙ ap (links_from design) (sym count ∙ here)
      ];
    } in
    subst (AreFirstLinks design (first + 1)) (sym all) grown

pub links_all : (design : DesignParts) (first : ℕ) (nodes : List (List LinkNo)) → first ≡ length design.components
    → AreFirstLinks design first nodes → AreOutLinks design nodes
links_all design first nodes all are = record { count = are.count ∙ all; each = are.each }

-- ---- each is a link of the design
first_or_later : (from : ℕ) (ks : List ℕ) (i d n : ℕ) → ((j : ℕ) → j < length ks → slice_index_or ks j d < from + 1 + n)
    → i < length (from ∷ ks) → slice_index_or (from ∷ ks) i d < from + suc n
first_or_later from ks zero d n later lt = omega arith
first_or_later from ks (suc i) d n later lt = let less = later i (omega (arith, lt)) in omega (arith, less)

below : {X : Type 0} (p : ℕ × X → Bool) (from : ℕ) (xs : List X) (i d : ℕ)
    → i < length (map (λ (k : ℕ × X). k.0) (filter p (enumerate_from from xs)))
    → slice_index_or (map (λ (k : ℕ × X). k.0) (filter p (enumerate_from from xs))) i d < from + length xs
below p from [] i d lt = absurd (omega (arith, lt))
below {X = X} p from (x ∷ xs) i d lt =
    let rest = filter p (enumerate_from (from + 1) xs) in
    let numbers : List (ℕ × X) → List ℕ = λ ks. map (λ (k : ℕ × X). k.0) ks in
    elim (cases_Bool (p (from, x))) [
      | inl holds ↦
          let is : numbers (filter p (enumerate_from from (x ∷ xs))) ≡ from ∷ numbers rest =
          ap (λ b. numbers (cond b ((from, x) ∷ rest) rest)) holds in
          subst (λ (ks : List ℕ). i < length ks → slice_index_or ks i d < from + length (x ∷ xs)) (sym is)
          (first_or_later from (numbers rest) i d (length xs) (λ j less. below p (from + 1) xs j d less)) lt
      | inr fails ↦
          let is : numbers (filter p (enumerate_from from (x ∷ xs))) ≡ numbers rest =
          ap (λ b. numbers (cond b ((from, x) ∷ rest) rest)) fails in
          subst (λ (ks : List ℕ). i < length ks → slice_index_or ks i d < from + length (x ∷ xs)) (sym is)
          (λ less. let later = below p (from + 1) xs i d less in omega (arith, later)) lt
    ]

pub link_within : (design : DesignParts) (node : ℕ) (links : List LinkNo) (i : ℕ) (d : LinkNo)
    → map (λ (link : LinkNo). link.0) links ≡ links_from design node → i < length links
    → (slice_index_or links i d).0 < length design.links
link_within design node links i d is lt =
    let size : length links ≡ length (links_from design node) = sym (length-map links (λ (link : LinkNo). link.0))
    ∙ ap length is in
    let here : (slice_index_or links i d).0 ≡ slice_index_or (links_from design node) i 0 =
    sym (get_or-map (λ (link : LinkNo). link.0) links i d 0 lt) ∙ ap (λ (ks : List ℕ). slice_index_or ks i 0) is in
    let inside = below (λ (k : ℕ × Link). nat_eq k.1.source.0 node) 0 design.links i 0 (omega (arith, lt, size)) in
    omega (arith, here, inside)

-- the links of a node, as the code reads them
pub items_are : (design : DesignParts) (nodes all : List (List LinkNo)) (items here : List LinkNo) (node : ℕ)
    → AreOutLinks design all → nodes ≡ all → node < length design.components → items ≡ here
    → here ≡ slice_index_or nodes node here
    → map (λ (link : LinkNo). link.0) items ≡ links_from design node
items_are design nodes all items here node are same within is at =
    let count = are.count in
    let inside : node < length all = omega (arith, count, within) in
    ap (map (λ (link : LinkNo). link.0))
    (is ∙ at ∙ ap (λ (ns : List (List LinkNo)). slice_index_or ns node here) same
    ∙ get_or_default all node here [] inside) ∙ are.each node inside
