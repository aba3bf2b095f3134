-- Symbols of actions: the row's terminal and the parts of the following trees spell the tree that the row builds. For
-- the proof that a text has one tree.
use Rattle.std.proofs.Common.{◌≡◌, ◌⊎◌, ℕ, sym, refl, List, [], ◌∷◌, ◌++◌, append_assoc, inl, inr}
use Rattle.std.proofs.lemmas.List.{append-nil}
use Rattle.aadl_tree.specs.declared.mark.Mark.TheVariants as k
use Rattle.aadl_tree.specs.Terminals.{PlainTerminal, word, mark}
use Rattle.aadl_tree.specs.SpellingParts.{SpellingPart, may, last_semicolon, Spells, plain}
use Rattle.aadl_tree.specs.Names as n
use Rattle.aadl_tree.specs.Expressions as e
use Rattle.aadl_tree.specs.Actions as a
use Rattle.aadl_grammar.specs.proof.GrammarSymbols as s
use Rattle.aadl_grammar.specs.proof.ParseTable.{rows}
use Rattle.aadl_grammar.specs.proof.SymbolTrees.{NoPlace, LoopHead, after_target_parts, act, head_parts, body_parts}
use Rattle.aadl_grammar.specs.proof.SymbolTrees.{more_of}
use Rattle.aadl_grammar.proofs.DerivationTrees.TreeBuilders.{respell, AllGive, behind_give}
use Rattle.aadl_grammar.proofs.ProductionTrees.Actions.{test_builders, whole_number_builders, bound_builders}
use Rattle.aadl_grammar.proofs.ProductionTrees.Actions.{after_target_builders, loop_head_builders, action_builders}
use Rattle.aadl_grammar.proofs.ProductionTrees.Actions.{actions_builders, actions_joins, mores_builders}
use Rattle.aadl_grammar.proofs.ProductionTrees.Actions.{after_semicolon_builders, after_semicolon_joins}
use Rattle.aadl_grammar.proofs.ProductionTrees.Actions.{elsifs_builders, otherwise_builders, end_if_builders}
use Rattle.aadl_grammar.proofs.ProductionTrees.Actions.{closing_if_builders, block_builders, body_builders, body_joins}

act_gives : (w : List ℕ) (y : e.Expression NoPlace ⊎ e.Expression NoPlace) (ks rest : List PlainTerminal)
    → Spells (after_target_parts y) ks rest
    → Spells (a.action_parts (act w y)) (word w ∷ ks) rest
act_gives w (inl y) ks rest sp = (ks, refl, sp)
act_gives w (inr y) ks rest sp = (ks, refl, sp)

pub loop_same : (q r l h b : List (SpellingPart NoPlace))
    → (q ++ (plain k.Colon ∷ (r ++ (plain k.In ∷ (l ++ (plain k.Range ∷ (h ++ plain k.ParenClose ∷ []))))))) ++ b
    ≡ q ++ (plain k.Colon ∷ (r ++ (plain k.In ∷ (l ++ (plain k.Range ∷ (h ++ (plain k.ParenClose ∷ b)))))))
loop_same q r l h b = simp append_assoc

loop_gives : (y : LoopHead) (z : a.Block NoPlace) (ks rest : List PlainTerminal)
    → Spells (head_parts y ++ a.block_parts z) ks rest
    → Spells (a.action_parts (a.loop tt y.counter y.data_type y.low y.high z)) (mark k.For ∷ ks) rest
loop_gives y z ks rest (more, i, sp) = (
  ks,
  refl,
  (
    more,
    i,
    respell _ _ more rest
        (loop_same (n.identifier_parts y.counter) (n.reference_parts y.data_type) (a.bound_parts y.low)
        (a.bound_parts y.high) (a.block_parts z)) sp,
  ),
)

mores_gives : (y : a.Block NoPlace) (ks rest : List PlainTerminal) → Spells (body_parts y) ks rest
    → Spells (a.mores_parts (more_of y) ++ may last_semicolon ∷ []) (mark k.Semicolon ∷ ks) rest
mores_gives a.no_block ks rest sp = inr (ks, refl, sp)
mores_gives (a.block (a.actions y z)) ks rest sp = (
  ks,
  refl,
  respell _ _ ks rest
      (sym (append_assoc (a.action_parts y) (a.mores_parts z) (may last_semicolon ∷ []))) sp,
)

block_gives : (y : a.Block NoPlace) (ks rest : List PlainTerminal)
    → Spells (body_parts y ++ plain k.BraceClose ∷ []) ks rest
    → Spells (a.block_parts y) (mark k.BraceOpen ∷ ks) rest
block_gives a.no_block ks rest sp = (ks, refl, sp)
block_gives (a.block y) ks rest sp = (ks, refl, sp)

pub test_give : AllGive s.test (rows s.test) test_builders
test_give = ((λ w ts ks rest sp. (ks, refl, sp)), tt)

pub whole_number_give : AllGive s.whole_number (rows s.whole_number) whole_number_builders
whole_number_give = ((λ w ts ks rest sp. (ks, refl, sp)), tt)

pub bound_give : AllGive s.bound (rows s.bound) bound_builders
bound_give = ((λ w ts ks rest sp. (ks, refl, sp)), ((λ w ts ks rest sp. (ks, refl, sp)), tt))

pub after_target_give : AllGive s.after_target (rows s.after_target) after_target_builders
after_target_give = ((λ w ts ks rest sp. (ks, refl, sp)), ((λ w ts ks rest sp. (ks, refl, sp)), tt))

pub loop_head_give : AllGive s.loop_head (rows s.loop_head) loop_head_builders
loop_head_give = ((λ w ts ks rest sp. (ks, refl, sp)), tt)

pub action_give : AllGive s.action (rows s.action) action_builders
action_give = (
  (λ w ts ks rest sp. act_gives w ts.0 ks rest sp),
  ((λ w ts ks rest sp. (ks, refl, sp)), ((λ w ts ks rest sp. loop_gives ts.0 ts.1.0 ks rest sp), tt)),
)

pub actions_give : AllGive s.actions (rows s.actions) actions_builders
actions_give =
    behind_give s.actions s.action (s.mores ∷ []) (rows s.action) actions_joins action_builders
    (λ u ts. refl) action_give

pub mores_give : AllGive s.mores (rows s.mores) mores_builders
mores_give = ((λ w ts ks rest sp. mores_gives ts.0 ks rest sp), tt)

pub after_semicolon_give : AllGive s.after_semicolon (rows s.after_semicolon) after_semicolon_builders
after_semicolon_give =
    behind_give s.after_semicolon s.actions [] (rows s.actions) after_semicolon_joins actions_builders
    (λ u ts. append-nil _) actions_give

pub elsifs_give : AllGive s.elsifs (rows s.elsifs) elsifs_builders
elsifs_give = ((λ w ts ks rest sp. (ks, refl, sp)), tt)

pub otherwise_give : AllGive s.otherwise (rows s.otherwise) otherwise_builders
otherwise_give = ((λ w ts ks rest sp. (ks, refl, sp)), tt)

pub end_if_give : AllGive s.end_if (rows s.end_if) end_if_builders
end_if_give = ((λ w ts ks rest sp. (ks, refl, sp)), tt)

pub closing_if_give : AllGive s.closing_if (rows s.closing_if) closing_if_builders
closing_if_give = ((λ w ts ks rest sp. (ks, refl, sp)), tt)

pub block_give : AllGive s.block (rows s.block) block_builders
block_give = ((λ w ts ks rest sp. block_gives ts.0 ks rest sp), tt)

pub body_give : AllGive s.body (rows s.body) body_builders
body_give =
    behind_give s.body s.actions [] (rows s.actions) body_joins actions_builders (λ u ts. append-nil _) actions_give
