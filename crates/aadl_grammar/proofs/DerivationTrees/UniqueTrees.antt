-- A list of terminals spells at most one tree of a symbol, and at most one package or behaviour. For the law
-- `a_text_has_one_tree`.
use Rattle.std.proofs.Common.{◌≡◌, Bool, true, false, ◌∙◌, sym, ap, ap₂, subst, refl, List, [], ◌∷◌, ◌++◌, inl, inr}
use Rattle.std.proofs.Common.{not, ◌==◌, eq-eqb, ℕ}
use Rattle.aadl_tree.specs.Terminals.{PlainTerminal}
use Rattle.aadl_tree.specs.SpellingParts.{Spells, kept}
use Rattle.aadl_grammar.specs.proof.GrammarSymbols.{Symbol, Row}
use Rattle.aadl_grammar.specs.proof.ParseTable.{rows, can_omit}
use Rattle.aadl_grammar.specs.proof.StackMachine.{Stack, class_number, kind_number, whole_package, annex_body}
use Rattle.aadl_grammar.proofs.DerivationTrees.ForbiddenFollowers.{among, firsts, distinct, distinct_firsts}
use Rattle.aadl_grammar.proofs.DerivationTrees.ForbiddenFollowerMembership.{Clear, firsts_in_tail}
use Rattle.aadl_grammar.proofs.DerivationTrees.DerivationsAndMachineSteps.{Member, begins, clear_taken}
use Rattle.aadl_grammar.specs.proof.SymbolTrees.{kind_with, TreeOf, Trees, parts_all}
use Rattle.aadl_grammar.proofs.DerivationTrees.TreeBuilders.{split_first, follow_all, front, back, joined, front_joined}
use Rattle.aadl_grammar.proofs.DerivationTrees.TreeBuilders.{back_joined, Builders, Uses, InRows}
use Rattle.aadl_grammar.proofs.ProductionTrees.AllSymbols.{builders, Empty, empty}
use Rattle.aadl_grammar.proofs.DerivationTrees.TerminalContents.{number_of, same_content}
use Rattle.aadl_grammar.proofs.ProductionCompleteness.AllSymbols.{Omitted, Opened, opens}
use Rattle.aadl_grammar.proofs.DerivationTrees.DerivedTrees.{never_nil, derives}
use Rattle.std.proofs.lemmas.Bool.{or_left, or_right}
use Rattle.std.specs.Cmp.{first_so, second_so}
use Rattle.aadl_grammar.proofs.HeadsAndTails.{heads, tails}
use Rattle.aadl_grammar.proofs.KeywordListMembership.{not_both}
use Rattle.aadl_tree.specs.Annexes.{AnnexTree, annex_tree_parts}
use Rattle.aadl_tree.specs.Declarations.{PackageTree, package_parts}
use Rattle.aadl_grammar.proofs.PlaceIndependence.AlikeParts.{alike_spells, alike_kept}
use Rattle.aadl_tree.specs.proof.PlaceMaps.{annex_tree_to, package_to}
use Rattle.aadl_grammar.proofs.PlaceIndependence.Annexes.{annex_tree_alike}
use Rattle.aadl_grammar.proofs.PlaceIndependence.Declarations.{package_alike}
use Rattle.aadl_grammar.proofs.Fates.GrammarLanguages.{body_clear, body_of, body_trees, nowhere, package_clear}
use Rattle.aadl_grammar.proofs.Fates.GrammarLanguages.{package_trees}

abbrev Spelled : (wanted : Stack) → Trees wanted → List PlainTerminal → Type 0
Spelled wanted ts ks = Spells (parts_all wanted ts) ks []

-- the first terminal begins one of the rows
record Headed (rs : List Row) (ks : List PlainTerminal) : Type 0 where
  kind : PlainTerminal
  more : List PlainTerminal
  whole : ks ≡ kind ∷ more
  first : among (kind_number kind) (firsts rs) ≡ true

headed : (y : Symbol) (rs : List Row) (bs : Builders y rs) (t : TreeOf y) (ks rest : List PlainTerminal)
    → InRows y rs bs t ks rest → Headed rs ks
headed y [] bs t ks rest i = absurd i
headed y (r ∷ rs) bs t ks rest (inl i) =
    record {
      kind = kind_with r.first i.content;
      more = i.more;
      whole = i.whole;
      first = or_left _ _ (eq-eqb _ _ (number_of r.first i.content));
    }
headed y (r ∷ rs) bs t ks rest (inr i) =
    let h = headed y rs bs.1 t ks rest i in
    record {
      kind = h.kind;
      more = h.more;
      whole = h.whole;
      first = or_right (kind_number h.kind == class_number r.first) _ h.first;
    }

-- rows with distinct classes: only one row is used
other_row : (y : Symbol) (r : Row) (rs : List Row) (bs : Builders y (r ∷ rs)) (t u : TreeOf y)
    (ks mid nid : List PlainTerminal)
    → distinct (firsts (r ∷ rs)) ≡ true → Uses y r bs.0 t ks mid → InRows y rs bs.1 u ks nid → ⊥
other_row y r rs bs t u ks mid nid d i j =
    let h = headed y rs bs.1 u ks nid j in
    let same : kind_with r.first i.content ≡ h.kind = heads _ _ _ _ (sym i.whole ∙ h.whole) in
    not_both (among (class_number r.first) (firsts rs)) (first_so _ _ d)
    (ap (λ n. among n (firsts rs)) (sym (number_of r.first i.content) ∙ ap kind_number same) ∙ h.first)

abbrev Same : List PlainTerminal → Type 0
Same ks =
    (kind : PlainTerminal) (more : List PlainTerminal) → ks ≡ kind ∷ more → (wanted : Stack) → Clear wanted
    → (ts us : Trees wanted)
    → Spelled wanted ts more → Spelled wanted us more → ts ≡ us

record Both (y : Symbol) (below : Stack) (t u : TreeOf y) (v w : Trees below) : Type 0 where
  tree : t ≡ u
  trees : v ≡ w

one_row : (y : Symbol) (below : Stack) (rs : List Row) (bs : Builders y rs) (t u : TreeOf y) (v w : Trees below)
    (ks mid nid : List PlainTerminal) → Same ks → Clear (y ∷ below)
    → ((r : Row) → Member r rs → Member r (rows y)) → distinct (firsts rs) ≡ true → InRows y rs bs t ks mid
    → InRows y rs bs u ks nid → Spelled below v mid → Spelled below w nid → Both y below t u v w
one_row y below [] bs t u v w ks mid nid again c m d i j sp sq = absurd i
one_row y below (r ∷ rs) bs t u v w ks mid nid again c m d (inl i) (inl j) sp sq =
    let e = sym i.whole ∙ j.whole in
    let content = same_content r.first i.content j.content (heads _ _ _ _ e) in
    let more : j.more ≡ i.more = sym (tails _ _ _ _ e) in
    let ts : Trees (r.wanted ++ below) = joined r.wanted below i.trees v in
    let us : Trees (r.wanted ++ below) = joined r.wanted below j.trees w in
    let same =
    again (kind_with r.first i.content) i.more i.whole (r.wanted ++ below)
    (clear_taken y below r (m r (inl refl)) c) ts us
    (follow_all r.wanted below i.trees v i.more mid [] i.spelled sp)
    (subst (λ (l : List PlainTerminal). Spelled (r.wanted ++ below) us l) more
    (follow_all r.wanted below j.trees w j.more nid [] j.spelled sq)) in
    record {
      tree =
          i.made ∙ ap₂ bs.0 content
          (sym (front_joined r.wanted below i.trees v) ∙ ap (front r.wanted below) same
          ∙ front_joined r.wanted below j.trees w) ∙ sym j.made;
      trees =
          sym (back_joined r.wanted below i.trees v) ∙ ap (back r.wanted below) same
          ∙ back_joined r.wanted below j.trees w;
    }
one_row y below (r ∷ rs) bs t u v w ks mid nid again c m d (inl i) (inr j) sp sq =
    absurd (other_row y r rs bs t u ks mid nid d i j)
one_row y below (r ∷ rs) bs t u v w ks mid nid again c m d (inr i) (inl j) sp sq =
    absurd (other_row y r rs bs u t ks nid mid d j i)
one_row y below (r ∷ rs) bs t u v w ks mid nid again c m d (inr i) (inr j) sp sq =
    one_row y below rs bs.1 t u v w ks mid nid again c (λ q n. m q (inr n))
    (second_so (not (among (class_number r.first) (firsts rs))) _ d) i j sp sq

-- an omitted symbol does not begin with a terminal that may follow it
clash : (y : Symbol) (below : Stack) (t : TreeOf y) (w : Trees below) (ks mid nid : List PlainTerminal)
    → Clear (y ∷ below)
    → can_omit y ≡ true → InRows y (rows y) (builders y) t ks mid → ks ≡ nid → Spelled below w nid → ⊥
clash y below t w ks mid nid (h, c) o i e sq =
    let g = headed y (rows y) (builders y) t ks mid i in
    let d = derives (g.kind ∷ g.more) below w
    (subst (λ (l : List PlainTerminal). Spelled below w l) (sym e ∙ g.whole) sq) in
    h (kind_number g.kind) (begins below g.kind g.more d) (firsts_in_tail y o (kind_number g.kind) g.first)

record OmittedAs (y : Symbol) (t : TreeOf y) (ks rest : List PlainTerminal) : Type 0 where
  can : can_omit y ≡ true
  rests : ks ≡ rest

omitted_as : (b : Bool) (y : Symbol) (e : Empty b y) (t : TreeOf y) (ks rest : List PlainTerminal) → can_omit y ≡ b
    → Omitted b y e t ks rest → OmittedAs y t ks rest
omitted_as true y e t ks rest o (same, h) = record { can = o; rests = h }
omitted_as false y e t ks rest o i = absurd i

both_omitted : (b : Bool) (y : Symbol) (e : Empty b y) (t u : TreeOf y) (ks mid nid : List PlainTerminal)
    → Omitted b y e t ks mid → Omitted b y e u ks nid → t ≡ u
both_omitted true y e t u ks mid nid (i, h) (j, g) = i ∙ sym j
both_omitted false y e t u ks mid nid i j = absurd i

one_symbol : (y : Symbol) (below : Stack) (ts us : Trees (y ∷ below)) (ks mid nid : List PlainTerminal) → Same ks
    → Clear (y ∷ below) → (Spelled below ts.1 ks → Spelled below us.1 ks → ts.1 ≡ us.1)
    → Opened y ts.0 ks mid → Opened y us.0 ks nid → Spelled below ts.1 mid → Spelled below us.1 nid
    → Both y below ts.0 us.0 ts.1 us.1
one_symbol y below ts us ks mid nid again c later (inl i) (inl j) sp sq =
    one_row y below (rows y) (builders y) ts.0 us.0 ts.1 us.1 ks mid nid again c (λ r m. m)
    (distinct_firsts y) i j sp sq
one_symbol y below ts us ks mid nid again c later (inl i) (inr j) sp sq =
    let o = omitted_as (can_omit y) y (empty y) us.0 ks nid refl j in
    absurd (clash y below ts.0 us.1 ks mid nid c o.can i o.rests sq)
one_symbol y below ts us ks mid nid again c later (inr i) (inl j) sp sq =
    let o = omitted_as (can_omit y) y (empty y) ts.0 ks mid refl i in
    absurd (clash y below us.0 ts.1 ks nid mid c o.can j o.rests sp)
one_symbol y below ts us ks mid nid again c later (inr i) (inr j) sp sq =
    let o = omitted_as (can_omit y) y (empty y) ts.0 ks mid refl i in
    let p = omitted_as (can_omit y) y (empty y) us.0 ks nid refl j in
    record {
      tree = both_omitted (can_omit y) y (empty y) ts.0 us.0 ks mid nid i j;
      trees =
          later (subst (λ (l : List PlainTerminal). Spelled below ts.1 l) (sym o.rests) sp)
          (subst (λ (l : List PlainTerminal). Spelled below us.1 l) (sym p.rests) sq);
    }

both_same : (y : Symbol) (below : Stack) (ts us : Trees (y ∷ below)) → Both y below ts.0 us.0 ts.1 us.1 → ts ≡ us
both_same y below ts us b =
    ap₂ (λ (t : TreeOf y) (v : Trees below). let r : Trees (y ∷ below) = (t, v) in r) b.tree b.trees

one_stack : (ks : List PlainTerminal) → Same ks → (wanted : Stack) → Clear wanted → (ts us : Trees wanted)
    → Spelled wanted ts ks
    → Spelled wanted us ks → ts ≡ us
one_stack ks again [] c ts us sp sq = refl
one_stack ks again (y ∷ below) c ts us sp sq =
    let q = split_first y below ts ks [] sp in
    let r = split_first y below us ks [] sq in
    both_same y below ts us (one_symbol y below ts us ks q.mid r.mid again c
    (λ h g. one_stack ks again below c.1 ts.1 us.1 h g)
    (opens y ts.0 ks q.mid q.before) (opens y us.0 ks r.mid r.before) q.behind r.behind)

-- two trees with one spelling are the same
pub one : (ks : List PlainTerminal) (wanted : Stack) → Clear wanted → (ts us : Trees wanted)
    → Spells (parts_all wanted ts) ks []
    → Spells (parts_all wanted us) ks [] → ts ≡ us
one [] wanted c ts us sp sq = one_stack [] (λ kind more e. absurd (never_nil kind more e)) wanted c ts us sp sq
one (kind ∷ ks) wanted c ts us sp sq =
    one_stack (kind ∷ ks) (λ other more e later d v w h g.
    let same = sym (tails kind other ks more e) in
    one ks later d v w (subst (λ (l : List PlainTerminal). Spelled later v l) same h)
    (subst (λ (l : List PlainTerminal). Spelled later w l) same g)) wanted c ts us sp sq

pub one_package : (ks : List PlainTerminal) (t u : PackageTree (Unit {0})) → Spells (package_parts t) ks []
    → Spells (package_parts u) ks [] → t ≡ u
one_package ks t u sp sq =
    ap (λ (x : Trees whole_package). x.0) (one ks whole_package package_clear (package_trees t) (package_trees u) sp sq)

pub one_behaviour : (ks : List PlainTerminal) (t u : AnnexTree (Unit {0})) → Spells (annex_tree_parts t) ks []
    → Spells (annex_tree_parts u) ks [] → t ≡ u
one_behaviour ks t u sp sq = ap body_of (one ks annex_body body_clear (body_trees t) (body_trees u) sp sq)

pub package_kept : (ks : List PlainTerminal) (t u : PackageTree ℕ) → Spells (package_parts t) ks []
    → Spells (package_parts u) ks [] → kept (package_parts t) ≡ kept (package_parts u)
package_kept ks t u sp sq =
    let same =
    one_package ks (package_to nowhere t) (package_to nowhere u) (alike_spells ks [] (package_alike nowhere t) sp)
    (alike_spells ks [] (package_alike nowhere u) sq) in
    alike_kept (package_alike nowhere t) ∙ ap (λ (x : PackageTree (Unit {0})). kept (package_parts x)) same
    ∙ sym (alike_kept (package_alike nowhere u))

pub behaviour_kept : (ks : List PlainTerminal) (t u : AnnexTree ℕ) → Spells (annex_tree_parts t) ks []
    → Spells (annex_tree_parts u) ks [] → kept (annex_tree_parts t) ≡ kept (annex_tree_parts u)
behaviour_kept ks t u sp sq =
    let same =
    one_behaviour ks (annex_tree_to nowhere t) (annex_tree_to nowhere u)
    (alike_spells ks [] (annex_tree_alike nowhere t) sp) (alike_spells ks [] (annex_tree_alike nowhere u) sq) in
    alike_kept (annex_tree_alike nowhere t) ∙ ap (λ (x : AnnexTree (Unit {0})). kept (annex_tree_parts x)) same
    ∙ sym (alike_kept (annex_tree_alike nowhere u))
