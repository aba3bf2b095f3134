-- The tree that a production, which is a row of the parse table, builds from its terminal and the following trees.
-- The first terminal of a spelled tree therefore determines the row.
use Rattle.std.proofs.Common.{◌≡◌, ◌⊎◌, ◌∙◌, sym, ap, ap₂, subst, refl, List, [], ◌∷◌, ◌++◌, inl, inr}
use Rattle.aadl_tree.specs.Terminals.{PlainTerminal}
use Rattle.aadl_tree.specs.SpellingParts.{SpellingPart, Spells}
use Rattle.aadl_tree.proofs.SpellingParts.{spells_append, spells_split}
use Rattle.aadl_grammar.specs.proof.GrammarSymbols.{Symbol, Row}
use Rattle.aadl_grammar.specs.proof.ParseTable.{behind, rows}
use Rattle.aadl_grammar.specs.proof.SymbolTrees.{NoPlace, Content, kind_with, TreeOf, parts, Trees, parts_all}

pub record Split (ps qs : List (SpellingPart NoPlace)) (ks rest : List PlainTerminal) : Type 0 where
  pub mid : List PlainTerminal
  pub before : Spells ps ks mid
  pub behind : Spells qs mid rest

pub split : (ps qs : List (SpellingPart NoPlace)) (ks rest : List PlainTerminal) → Spells (ps ++ qs) ks rest
    → Split ps qs ks rest
split ps qs ks rest sp = let r = spells_split ps qs ks rest sp in record { mid = r.0; before = r.1; behind = r.2 }

pub respell : (ps qs : List (SpellingPart NoPlace)) (ks rest : List PlainTerminal) → ps ≡ qs → Spells ps ks rest
    → Spells qs ks rest
respell ps qs ks rest e sp = subst (λ (l : List (SpellingPart NoPlace)). Spells l ks rest) e sp

pub split_first : (y : Symbol) (f : List Symbol) (ts : Trees (y ∷ f)) (ks rest : List PlainTerminal)
    → Spells (parts_all (y ∷ f) ts) ks rest → Split (parts y ts.0) (parts_all f ts.1) ks rest
split_first y [] ts ks rest sp = record { mid = rest; before = sp; behind = refl }
split_first y (z ∷ f) ts ks rest sp = split (parts y ts.0) (parts_all (z ∷ f) ts.1) ks rest sp

pub follow_first : (y : Symbol) (f : List Symbol) (ts : Trees (y ∷ f)) (ks mid rest : List PlainTerminal)
    → Spells (parts y ts.0) ks mid → Spells (parts_all f ts.1) mid rest → Spells (parts_all (y ∷ f) ts) ks rest
follow_first y [] ts ks mid rest b e = subst (λ (l : List PlainTerminal). Spells (parts y ts.0) ks l) e b
follow_first y (z ∷ f) ts ks mid rest b sp = spells_append (parts y ts.0) (parts_all (z ∷ f) ts.1) ks mid rest b sp

abbrev pub front : (f more : List Symbol) → Trees (f ++ more) → Trees f
front [] more ts = tt
front (y ∷ f) more ts = (ts.0, front f more ts.1)

abbrev pub back : (f more : List Symbol) → Trees (f ++ more) → Trees more
back [] more ts = ts
back (y ∷ f) more ts = back f more ts.1

abbrev pub joined : (f more : List Symbol) → Trees f → Trees more → Trees (f ++ more)
joined [] more us ts = ts
joined (y ∷ f) more us ts = (us.0, joined f more us.1 ts)

pub front_joined : (f more : List Symbol) (us : Trees f) (ts : Trees more) → front f more (joined f more us ts) ≡ us
front_joined [] more us ts = refl
front_joined (y ∷ f) more us ts =
    ap (λ (z : Trees f). let r : Trees (y ∷ f) = (us.0, z) in r) (front_joined f more us.1 ts)

pub back_joined : (f more : List Symbol) (us : Trees f) (ts : Trees more) → back f more (joined f more us ts) ≡ ts
back_joined [] more us ts = refl
back_joined (y ∷ f) more us ts = back_joined f more us.1 ts

pub split_all : (f more : List Symbol) (ts : Trees (f ++ more)) (ks rest : List PlainTerminal)
    → Spells (parts_all (f ++ more) ts) ks rest
    → Split (parts_all f (front f more ts)) (parts_all more (back f more ts)) ks rest
split_all [] more ts ks rest sp = record { mid = ks; before = refl; behind = sp }
split_all (y ∷ f) more ts ks rest sp =
    let r = split_first y (f ++ more) ts ks rest sp in
    let q = split_all f more ts.1 r.mid rest r.behind in
    record {
      mid = q.mid;
      before = follow_first y f (front (y ∷ f) more ts) ks r.mid q.mid r.before q.before;
      behind = q.behind;
    }

pub follow_all : (f more : List Symbol) (us : Trees f) (ts : Trees more) (ks mid rest : List PlainTerminal)
    → Spells (parts_all f us) ks mid → Spells (parts_all more ts) mid rest
    → Spells (parts_all (f ++ more) (joined f more us ts)) ks rest
follow_all [] more us ts ks mid rest e sp =
    subst (λ (l : List PlainTerminal). Spells (parts_all more ts) l rest) (sym e) sp
follow_all (y ∷ f) more us ts ks mid rest b sp =
    let r = split_first y f us ks mid b in
    follow_first y (f ++ more) (joined (y ∷ f) more us ts) ks r.mid rest r.before
    (follow_all f more us.1 ts r.mid mid rest r.behind sp)

-- the function that builds a row's tree from the terminal and the following trees
abbrev pub Builder : Symbol → Row → Type 0
Builder y r = Content r.first → Trees r.wanted → TreeOf y

abbrev pub Builders : Symbol → List Row → Type 0
Builders y [] = NoPlace
Builders y (r ∷ rs) = Builder y r × Builders y rs

-- the terminal and the parts of the following trees spell the built tree
abbrev pub Gives : (y : Symbol) (r : Row) → Builder y r → Type 0
Gives y r b =
    (w : Content r.first) (ts : Trees r.wanted) (ks rest : List PlainTerminal) → Spells (parts_all r.wanted ts) ks rest
    → Spells (parts y (b w ts)) (kind_with r.first w ∷ ks) rest

abbrev pub AllGive : (y : Symbol) (rs : List Row) → Builders y rs → Type 0
AllGive y [] bs = NoPlace
AllGive y (r ∷ rs) bs = Gives y r bs.0 × AllGive y rs bs.1

-- a row builds this spelled tree
pub record Uses (y : Symbol) (r : Row) (b : Builder y r) (t : TreeOf y) (ks rest : List PlainTerminal) : Type 0 where
  pub content : Content r.first
  pub trees : Trees r.wanted
  pub more : List PlainTerminal
  pub made : t ≡ b content trees
  pub whole : ks ≡ kind_with r.first content ∷ more
  pub spelled : Spells (parts_all r.wanted trees) more rest

pub uses : {y : Symbol} {r : Row} {b : Builder y r} {ks rest : List PlainTerminal} (content : Content r.first)
    (trees : Trees r.wanted) (more : List PlainTerminal) → ks ≡ kind_with r.first content ∷ more
    → Spells (parts_all r.wanted trees) more rest
    → Uses y r b (b content trees) ks rest
uses content trees more whole spelled =
    record { content = content; trees = trees; more = more; made = refl; whole = whole; spelled = spelled }

abbrev pub InRows : (y : Symbol) (rs : List Row) → Builders y rs → TreeOf y → List PlainTerminal → List PlainTerminal
    → Type 0
InRows y [] bs t ks rest = ⊥
InRows y (r ∷ rs) bs t ks rest = Uses y r bs.0 t ks rest ⊎ InRows y rs bs.1 t ks rest

-- rows build each spelled tree of the symbol
abbrev pub Opens : (y : Symbol) → Builders y (rows y) → Type 0
Opens y bs = (t : TreeOf y) (ks rest : List PlainTerminal) → Spells (parts y t) ks rest → InRows y (rows y) bs t ks rest

-- or it is the given tree, which the empty list spells
abbrev pub OpensOr : (y : Symbol) → Builders y (rows y) → TreeOf y → Type 0
OpensOr y bs e =
    (t : TreeOf y) (ks rest : List PlainTerminal) → Spells (parts y t) ks rest
    → InRows y (rows y) bs t ks rest ⊎ ((t ≡ e) × (ks ≡ rest))

-- the tree of a symbol that begins as another symbol does, from that symbol's tree and the following trees
abbrev pub Joins : Symbol → Symbol → List Symbol → Type 0
Joins y z more = TreeOf z → Trees more → TreeOf y

abbrev pub behind_builders : (y z : Symbol) (more : List Symbol) (rs : List Row) → Joins y z more → Builders z rs
    → Builders y (behind more rs)
behind_builders y z more [] j bs = tt
behind_builders y z more (r ∷ rs) j bs =
    ((λ w ts. j (bs.0 w (front r.wanted more ts)) (back r.wanted more ts)), behind_builders y z more rs j bs.1)

pub behind_give : (y z : Symbol) (more : List Symbol) (rs : List Row) (j : Joins y z more) (bs : Builders z rs)
    → ((u : TreeOf z) (ts : Trees more) → parts z u ++ parts_all more ts ≡ parts y (j u ts)) → AllGive z rs bs
    → AllGive y (behind more rs) (behind_builders y z more rs j bs)
behind_give y z more [] j bs same gs = tt
behind_give y z more (r ∷ rs) j bs same gs = (
  (λ w ts ks rest sp.
      let q = split_all r.wanted more ts ks rest sp in
      let u = bs.0 w (front r.wanted more ts) in
      respell (parts z u ++ parts_all more (back r.wanted more ts)) (parts y (j u (back r.wanted more ts)))
      (kind_with r.first w ∷ ks) rest (same u (back r.wanted more ts))
      (spells_append (parts z u) (parts_all more (back r.wanted more ts)) (kind_with r.first w ∷ ks) q.mid rest
      (gs.0 w (front r.wanted more ts) ks q.mid q.before) q.behind)),
  behind_give y z more rs j bs.1 same gs.1,
)

behind_uses : (y z : Symbol) (more : List Symbol) (rs : List Row) (j : Joins y z more) (bs : Builders z rs)
    (u : TreeOf z) (ts : Trees more) (ks mid rest : List PlainTerminal)
    → InRows z rs bs u ks mid → Spells (parts_all more ts) mid rest
    → InRows y (behind more rs) (behind_builders y z more rs j bs) (j u ts) ks rest
behind_uses y z more [] j bs u ts ks mid rest i sp = absurd i
behind_uses y z more (r ∷ rs) j bs u ts ks mid rest (inl i) sp = inl (record {
  content = i.content;
  trees = joined r.wanted more i.trees ts;
  more = i.more;
  made =
      ap₂ j (i.made ∙ ap (bs.0 i.content) (sym (front_joined r.wanted more i.trees ts)))
      (sym (back_joined r.wanted more i.trees ts));
  whole = i.whole;
  spelled = follow_all r.wanted more i.trees ts i.more mid rest i.spelled sp;
})
behind_uses y z more (r ∷ rs) j bs u ts ks mid rest (inr i) sp =
    inr (behind_uses y z more rs j bs.1 u ts ks mid rest i sp)

pub behind_opens : (y z : Symbol) (more : List Symbol) (rs : List Row) (j : Joins y z more) (bs : Builders z rs)
    (u : TreeOf z) (ts : Trees more) (ks rest : List PlainTerminal)
    → ((mid : List PlainTerminal) → Spells (parts z u) ks mid → InRows z rs bs u ks mid)
    → Spells (parts z u ++ parts_all more ts) ks rest
    → InRows y (behind more rs) (behind_builders y z more rs j bs) (j u ts) ks rest
behind_opens y z more rs j bs u ts ks rest opens sp =
    let q = split (parts z u) (parts_all more ts) ks rest sp in
    behind_uses y z more rs j bs u ts ks q.mid rest (opens q.mid q.before) q.behind
