-- An example for laws: a transition with its terminals and its canonical text.
use Rattle.std.specs.Prelude.{ℕ, ℤ, pos, false, codes, List, [], ◌∷◌, ◌++◌, Some, None}
use Rattle.aadl_tree.specs.Terminals.{PlainTerminal, word, whole, mark}
use Rattle.aadl_tree.specs.Names.{Identifier}
use Rattle.aadl_tree.specs.Expressions.{Expression, Term, number, named, bare, term, no_factors, total, Terms, no_terms}
use Rattle.aadl_tree.specs.Expressions.{add, single, expression, no_relations}
use Rattle.aadl_tree.specs.Actions.{assign, send, actions, no_mores, more, block}
use Rattle.aadl_tree.specs.Annexes.{Transition, dispatch}
use Rattle.aadl_tree.specs.declared.mark.Mark.TheVariants as k
use Rattle.aadl_tree.specs.declared.expressions.Sign.TheVariants as signs

abbrev identifier : List ℕ → Identifier (Unit {0})
identifier bytes = record { at = tt; spelling = bytes }

abbrev name_term : List ℕ → Term (Unit {0})
name_term bytes = term (bare (named (identifier bytes) false)) no_factors

abbrev number_term : ℤ → Term (Unit {0})
number_term n = term (bare (number tt n)) no_factors

abbrev sum : Term (Unit {0}) → Terms (Unit {0}) → Expression (Unit {0})
sum first rest = expression (single (total None first rest)) no_relations

-- s -[on dispatch]-> s {x := x + i + 1; o!(x)};
abbrev pub counting : Transition (Unit {0})
counting =
    record {
      label = None;
      source = identifier (codes "s");
      guard = Some dispatch;
      target = identifier (codes "s");
      effect = Some (block (actions
          (assign (identifier (codes "x"))
          (sum (name_term (codes "x"))
          (add signs.Plus (name_term (codes "i")) (add signs.Plus (number_term (pos 1)) no_terms))))
          (more (send (identifier (codes "o")) (sum (name_term (codes "x")) no_terms)) no_mores)));
    }

-- with a `;` after the last action, or without one
abbrev pub counting_kinds : List PlainTerminal → List PlainTerminal
counting_kinds last =
    word (codes "s") ∷ mark k.GuardOpen ∷ mark k.On ∷ mark k.Dispatch ∷ mark k.GuardClose ∷ word (codes "s")
    ∷ mark k.BraceOpen
    ∷ word (codes "x") ∷ mark k.Assign ∷ word (codes "x") ∷ mark k.Plus ∷ word (codes "i") ∷ mark k.Plus ∷ whole (pos 1)
    ∷ mark k.Semicolon
    ∷ word (codes "o") ∷ mark k.Bang ∷ mark k.ParenOpen ∷ word (codes "x") ∷ mark k.ParenClose ∷ last
    ++ mark k.BraceClose ∷ mark k.Semicolon ∷ []

abbrev pub counting_text : List ℕ
counting_text = codes "s -[ on dispatch ]-> s { x := x + i + 1;" ++ 10 ∷ codes "o!(x) };" ++ 10 ∷ []
