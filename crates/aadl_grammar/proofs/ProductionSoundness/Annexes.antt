-- Symbols of annexes and behaviours: the row's terminal and the parts of the following trees spell the tree that the
-- row builds. For the proof that a text has one tree.
use Rattle.std.proofs.Common.{◌≡◌, ℕ, sym, refl, List, [], ◌∷◌, ◌++◌, Option, Some, None, append_assoc}
use Rattle.std.proofs.lemmas.List.{append-nil}
use Rattle.aadl_tree.specs.declared.mark.Mark.TheVariants as k
use Rattle.aadl_tree.specs.Terminals.{PlainTerminal, word}
use Rattle.aadl_tree.specs.SpellingParts.{SpellingPart, Spells, plain, parts_if}
use Rattle.aadl_tree.specs.Names as n
use Rattle.aadl_tree.specs.Actions as a
use Rattle.aadl_tree.specs.Annexes as x
use Rattle.aadl_grammar.specs.proof.GrammarSymbols as s
use Rattle.aadl_grammar.specs.proof.ParseTable.{rows}
use Rattle.aadl_grammar.specs.proof.SymbolTrees.{NoPlace, identifier_of, after_word_parts, transition_of, parts}
use Rattle.aadl_grammar.proofs.DerivationTrees.TreeBuilders.{respell, AllGive, behind_give}
use Rattle.aadl_grammar.proofs.ProductionTrees.Expressions.{expression_builders}
use Rattle.aadl_grammar.proofs.ProductionTrees.Actions.{block_builders}
use Rattle.aadl_grammar.proofs.ProductionTrees.Annexes.{variable_builders, variable_list_builders, variable_list_joins}
use Rattle.aadl_grammar.proofs.ProductionTrees.Annexes.{variables_builders, initial_builders, complete_builders}
use Rattle.aadl_grammar.proofs.ProductionTrees.Annexes.{state_builders, state_list_builders, state_list_joins}
use Rattle.aadl_grammar.proofs.ProductionTrees.Annexes.{states_builders, guard_builders, guard_joins, guarded_builders}
use Rattle.aadl_grammar.proofs.ProductionTrees.Annexes.{after_word_builders, effect_builders, effect_joins}
use Rattle.aadl_grammar.proofs.ProductionTrees.Annexes.{transition_builders, transition_list_builders}
use Rattle.aadl_grammar.proofs.ProductionTrees.Annexes.{transition_list_joins, transitions_builders, content_builders}
use Rattle.aadl_grammar.proofs.ProductionTrees.Annexes.{annex_builders, annexes_builders, annexes_joins}
use Rattle.aadl_grammar.proofs.ProductionSoundness.Expressions.{expression_give}
use Rattle.aadl_grammar.proofs.ProductionSoundness.Actions.{block_give}

transition_gives : (w : List ℕ) (y : Option (n.Identifier NoPlace) × Option (x.Guard NoPlace))
    (target : n.Identifier NoPlace)
    (effect : Option (a.Block NoPlace)) (ks rest : List PlainTerminal)
    → Spells (after_word_parts y
    ++ (n.identifier_parts target ++ (parts_if a.block_parts effect ++ plain k.Semicolon ∷ []))) ks rest
    → Spells (x.transition_parts (transition_of (identifier_of w) y target effect)) (word w ∷ ks) rest
transition_gives w (None, g) target effect ks rest (m, i, sp) = (
  ks,
  refl,
  (
    m,
    i,
    respell _ _ m rest
        (append_assoc (parts_if x.guard_parts g) (plain k.GuardClose ∷ [])
        (n.identifier_parts target ++ (parts_if a.block_parts effect ++ plain k.Semicolon ∷ []))) sp,
  ),
)
transition_gives w (Some y, g) target effect ks rest (l, f, (q, h, (m, i, sp))) = (
  ks,
  refl,
  (
    l,
    f,
    (
      q,
      h,
      (
        m,
        i,
        respell _ _ m rest
            (append_assoc (parts_if x.guard_parts g) (plain k.GuardClose ∷ [])
            (n.identifier_parts target ++ (parts_if a.block_parts effect ++ plain k.Semicolon ∷ []))) sp,
      ),
    ),
  ),
)

pub body_same : (q r t c : List (SpellingPart NoPlace)) → q ++ (r ++ (t ++ c)) ≡ (q ++ (r ++ t)) ++ c
body_same q r t c = sym (simp append_assoc)

pub variable_give : AllGive s.variable (rows s.variable) variable_builders
variable_give = ((λ w ts ks rest sp. (ks, refl, sp)), tt)

pub variable_list_give : AllGive s.variable_list (rows s.variable_list) variable_list_builders
variable_list_give =
    behind_give s.variable_list s.variable (s.variable_list ∷ []) (rows s.variable) variable_list_joins
    variable_builders (λ u ts. refl) variable_give

pub variables_give : AllGive s.variables (rows s.variables) variables_builders
variables_give = ((λ w ts ks rest sp. (ks, refl, sp)), tt)

pub initial_give : AllGive s.initial (rows s.initial) initial_builders
initial_give = ((λ w ts ks rest sp. (ks, refl, sp)), tt)

pub complete_give : AllGive s.complete (rows s.complete) complete_builders
complete_give = ((λ w ts ks rest sp. (ks, refl, sp)), tt)

pub state_give : AllGive s.state (rows s.state) state_builders
state_give = ((λ w ts ks rest sp. (ks, refl, sp)), tt)

pub state_list_give : AllGive s.state_list (rows s.state_list) state_list_builders
state_list_give =
    behind_give s.state_list s.state (s.state_list ∷ []) (rows s.state) state_list_joins state_builders
    (λ u ts. refl) state_give

pub states_give : AllGive s.states (rows s.states) states_builders
states_give = ((λ w ts ks rest sp. (ks, refl, sp)), tt)

pub guard_give : AllGive s.guard (rows s.guard) guard_builders
guard_give = (
  (λ w ts ks rest sp. (ks, refl, sp)),
  (
    (λ w ts ks rest sp. (ks, refl, sp)),
    behind_give s.guard s.expression [] (rows s.expression) guard_joins expression_builders
        (λ u ts. append-nil _) expression_give,
  ),
)

pub guarded_give : AllGive s.guarded (rows s.guarded) guarded_builders
guarded_give = ((λ w ts ks rest sp. (ks, refl, sp)), tt)

pub after_word_give : AllGive s.after_word (rows s.after_word) after_word_builders
after_word_give = ((λ w ts ks rest sp. (ks, refl, sp)), ((λ w ts ks rest sp. (ks, refl, sp)), tt))

pub effect_give : AllGive s.effect (rows s.effect) effect_builders
effect_give =
    behind_give s.effect s.block [] (rows s.block) effect_joins block_builders (λ u ts. append-nil _) block_give

pub transition_give : AllGive s.transition (rows s.transition) transition_builders
transition_give = ((λ w ts ks rest sp. transition_gives w ts.0 ts.1.0 ts.1.1.0 ks rest sp), tt)

pub transition_list_give : AllGive s.transition_list (rows s.transition_list) transition_list_builders
transition_list_give =
    behind_give s.transition_list s.transition (s.transition_list ∷ []) (rows s.transition) transition_list_joins
    transition_builders (λ u ts. refl) transition_give

pub transitions_give : AllGive s.transitions (rows s.transitions) transitions_builders
transitions_give = ((λ w ts ks rest sp. (ks, refl, sp)), tt)

pub content_give : AllGive s.content (rows s.content) content_builders
content_give = (
  (λ w ts ks rest sp. (ks, refl, sp)),
  (
    (λ w ts ks rest sp. (
      ks,
      refl,
      respell _ _ ks rest (body_same (parts s.variables ts.0) (parts s.states ts.1.0)
          (parts s.transitions ts.1.1.0) (plain k.AnnexClose ∷ [])) sp,
    )),
    tt,
  ),
)

pub annex_give : AllGive s.annex (rows s.annex) annex_builders
annex_give = ((λ w ts ks rest sp. (ks, refl, sp)), tt)

pub annexes_give : AllGive s.annexes (rows s.annexes) annexes_builders
annexes_give =
    behind_give s.annexes s.annex (s.annexes ∷ []) (rows s.annex) annexes_joins annex_builders (λ u ts. refl) annex_give
