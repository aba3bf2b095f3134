-- A list of terminals can be derived from a symbol if and only if it spells a tree of the symbol, and it spells only
-- one.
use Rattle.std.proofs.Common.{◌≡◌, Bool, true, false, sym, subst, refl, List, [], ◌∷◌, ◌++◌, inl, inr}
use Rattle.aadl_tree.specs.Terminals.{PlainTerminal}
use Rattle.aadl_tree.specs.SpellingParts.{Spells}
use Rattle.aadl_grammar.specs.proof.GrammarSymbols.{Symbol, Row}
use Rattle.aadl_grammar.specs.proof.ParseTable.{rows, can_omit}
use Rattle.aadl_grammar.specs.proof.StackMachine.{Stack}
use Rattle.aadl_grammar.proofs.DerivationTrees.DerivationsAndMachineSteps.{Member, Derives, nothing, take, omit}
use Rattle.aadl_grammar.specs.proof.SymbolTrees.{kind_with, TreeOf, parts, Trees, parts_all}
use Rattle.aadl_grammar.proofs.DerivationTrees.TreeBuilders.{follow_first, split_first, split_all, follow_all, front}
use Rattle.aadl_grammar.proofs.DerivationTrees.TreeBuilders.{back, joined, Builder, Builders, Gives, AllGive, InRows}
use Rattle.aadl_grammar.proofs.ProductionTrees.AllSymbols.{builders, Empty, empty}
use Rattle.aadl_grammar.proofs.DerivationTrees.TerminalContents.{said, fits_with}
use Rattle.aadl_grammar.proofs.ProductionCompleteness.AllSymbols.{Omitted, Opened, opens, all_give, Nothing}
use Rattle.aadl_grammar.proofs.ProductionCompleteness.AllSymbols as o
use Rattle.aadl_grammar.proofs.HeadsAndTails.{tails}

abbrev Spelled : (wanted : Stack) → Trees wanted → List PlainTerminal → Type 0
Spelled wanted ts ks = Spells (parts_all wanted ts) ks []

-- Trees are derived.

abbrev Again : List PlainTerminal → Type 0
Again ks =
    (kind : PlainTerminal) (more : List PlainTerminal) → ks ≡ kind ∷ more → (wanted : Stack) (ts : Trees wanted)
    → Spelled wanted ts more
    → Derives wanted more

row_derives : (y : Symbol) (below : Stack) (rs : List Row) (bs : Builders y rs) (t : TreeOf y) (us : Trees below)
    (ks mid : List PlainTerminal) → Again ks → ((r : Row) → Member r rs → Member r (rows y))
    → InRows y rs bs t ks mid → Spelled below us mid → Derives (y ∷ below) ks
row_derives y below [] bs t us ks mid again m i sp = absurd i
row_derives y below (r ∷ rs) bs t us ks mid again m (inl i) sp =
    let kind : PlainTerminal = kind_with r.first i.content in
    let d =
    again kind i.more i.whole (r.wanted ++ below) (joined r.wanted below i.trees us)
    (follow_all r.wanted below i.trees us i.more mid [] i.spelled sp) in
    subst (λ (l : List PlainTerminal). Derives (y ∷ below) l) (sym i.whole)
    (take y below r kind i.more (m r (inl refl)) (fits_with r.first i.content) d)
row_derives y below (r ∷ rs) bs t us ks mid again m (inr i) sp =
    row_derives y below rs bs.1 t us ks mid again (λ q n. m q (inr n)) i sp

omitted_is : (b : Bool) (y : Symbol) (e : Empty b y) (t : TreeOf y) (ks rest : List PlainTerminal)
    → Omitted b y e t ks rest
    → (b ≡ true) × (ks ≡ rest)
omitted_is true y e t ks rest (same, h) = (refl, h)
omitted_is false y e t ks rest i = absurd i

opened_derives : (y : Symbol) (below : Stack) (ts : Trees (y ∷ below)) (ks mid : List PlainTerminal) → Again ks
    → (Spelled below ts.1 ks → Derives below ks) → Opened y ts.0 ks mid → Spelled below ts.1 mid
    → Derives (y ∷ below) ks
opened_derives y below ts ks mid again later (inl i) sp =
    row_derives y below (rows y) (builders y) ts.0 ts.1 ks mid again (λ r m. m) i sp
opened_derives y below ts ks mid again later (inr i) sp =
    let h = omitted_is (can_omit y) y (empty y) ts.0 ks mid i in
    omit y below ks h.0 (later (subst (λ (l : List PlainTerminal). Spelled below ts.1 l) (sym h.1) sp))

stack_derives : (ks : List PlainTerminal) → Again ks → (wanted : Stack) (ts : Trees wanted) → Spelled wanted ts ks
    → Derives wanted ks
stack_derives ks again [] ts e = subst (λ (l : List PlainTerminal). Derives [] l) (sym e) nothing
stack_derives ks again (y ∷ below) ts sp =
    let q = split_first y below ts ks [] sp in
    opened_derives y below ts ks q.mid again (λ h. stack_derives ks again below ts.1 h)
    (opens y ts.0 ks q.mid q.before) q.behind

pub never_nil : (kind : PlainTerminal) (more : List PlainTerminal) → [] ≡ kind ∷ more → ⊥
never_nil kind more e = cc

-- terminals that spell trees can be derived
pub derives : (ks : List PlainTerminal) (wanted : Stack) (ts : Trees wanted) → Spells (parts_all wanted ts) ks []
    → Derives wanted ks
derives [] wanted ts sp = stack_derives [] (λ kind more e. absurd (never_nil kind more e)) wanted ts sp
derives (kind ∷ ks) wanted ts sp =
    stack_derives (kind ∷ ks)
    (λ other more e later us h. subst (λ (l : List PlainTerminal). Derives later l) (tails kind other ks more e)
    (derives ks later us (subst (λ (l : List PlainTerminal). Spelled later us l) (sym (tails kind other ks more e)) h)))
    wanted ts sp

-- Derived terminals spell trees.

pub record Written (wanted : Stack) (ks : List PlainTerminal) : Type 0 where
  pub trees : Trees wanted
  pub spelled : Spells (parts_all wanted trees) ks []

record Built (y : Symbol) (r : Row) : Type 0 where
  builder : Builder y r
  gives : Gives y r builder

member_built : (y : Symbol) (rs : List Row) (bs : Builders y rs) (gs : AllGive y rs bs) (r : Row)
    → Member r rs → Built y r
member_built y [] bs gs r m = absurd m
member_built y (x ∷ rs) bs gs r (inl m) =
    subst (λ (q : Row). Built y q) (sym m) (record { builder = bs.0; gives = gs.0 })
member_built y (x ∷ rs) bs gs r (inr m) = member_built y rs bs.1 gs.1 r m

record LeftOut (y : Symbol) : Type 0 where
  tree : TreeOf y
  spelled : (ks : List PlainTerminal) → Spells (parts y tree) ks ks

left_out : (b : Bool) (y : Symbol) (e : Empty b y) → Nothing b y e → b ≡ true → LeftOut y
left_out true y e h i = record { tree = e; spelled = h }
left_out false y e h i = absurd cc

-- terminals that can be derived spell trees
pub written : (wanted : Stack) (ks : List PlainTerminal) → Derives wanted ks → Written wanted ks
written [] ks nothing = record { trees = tt; spelled = refl }
written (y ∷ below) ks (take _ _ r kind more m e d) =
    let w = written (r.wanted ++ below) more d in
    let q = split_all r.wanted below w.trees more [] w.spelled in
    let b = member_built y (rows y) (builders y) (all_give y) r m in
    let c = said r.first kind e in
    let us : Trees r.wanted = front r.wanted below w.trees in
    let ts : Trees (y ∷ below) = (b.builder c.content us, back r.wanted below w.trees) in
    subst (λ (x : PlainTerminal). Written (y ∷ below) (x ∷ more)) (sym c.whole) (record {
      trees = ts;
      spelled =
          follow_first y below ts (kind_with r.first c.content ∷ more) q.mid []
          (b.gives c.content us more q.mid q.before) q.behind;
    })
written (y ∷ below) ks (omit _ _ _ h d) =
    let w = written below ks d in
    let l = left_out (can_omit y) y (empty y) (o.nothing y) h in
    let ts : Trees (y ∷ below) = (l.tree, w.trees) in
    record { trees = ts; spelled = follow_first y below ts ks ks [] (l.spelled ks) w.spelled }
