-- The symbols that stand for lists in the grammar: each is a list of its items. For the proofs of parsers.
use Rattle.std.proofs.Common.{◌≡◌, ℕ, ◌+◌, ◌≤◌, true, false, cond, ◌∙◌, sym, ap, subst, refl, List, [], ◌∷◌, ◌++◌}
use Rattle.std.proofs.Common.{arith}
use Rattle.std.specs.Prelude.{Some, None}
use Rattle.aadl_tree.specs.declared.mark.Mark.{Mark}
use Rattle.aadl_tree.specs.declared.mark.Mark.TheVariants as k
use Rattle.aadl_tree.specs.Terminals.{mark, word, PlacedTerminal}
use Rattle.aadl_grammar.specs.proof.GrammarSymbols.{a_word, Symbol, Row}
use Rattle.aadl_grammar.specs.proof.GrammarSymbols as s
use Rattle.aadl_grammar.specs.proof.ParseTable.{by, on, rows, can_omit}
use Rattle.aadl_grammar.specs.proof.ParseTable as table
use Rattle.aadl_grammar.specs.proof.StackMachine.{Stack, takes, move_by, move, closes, depth, fate}
use Rattle.aadl_grammar.specs.proof.ParserAnswers.{MissAll}
use Rattle.aadl_grammar.specs.proof.ListAnswers.{IsList}
use Rattle.aadl_grammar.proofs.Fates.FirstTerminalFates.{fits_itself}
use Rattle.aadl_grammar.proofs.TopSymbolMoves.{takes_row, omits_unless, begins_as, enters_as}
use Rattle.aadl_grammar.proofs.ValueAndPropertyLists.{starts_at}

-- what a symbol does at the mark of its first row
pub marked_moves : (m : Mark) (f : List Symbol) (rs : List Row) (x : Symbol) → rows x ≡ on m f ∷ rs
    → move x (mark m) ≡ takes f
unfolding move
marked_moves m f rs x row =
    ap (λ (l : List Row). move_by l (can_omit x) (mark m)) row
    ∙ ap (λ b. cond b (takes f) (move_by rs (can_omit x) (mark m))) (fits_itself m)

-- a list whose only row begins with the mark, if the row has the same fate as an item followed by the list
marked_list : (m : Mark) (f : List Symbol) (item list : Symbol) → rows list ≡ on m f ∷ [] → can_omit list ≡ true
    → closes item ≡ 0 → ((below : Stack) → depth (f ++ below) ≤ depth (list ∷ below))
    → ((outer end : ℕ) (below : Stack) (ss : List PlacedTerminal)
    → fate outer end (f ++ below) ss ≡ fate outer end (item ∷ list ∷ below) ss) → IsList (Some m) item list
marked_list m f item list row o c d same = record {
  goes_on =
      λ outer end below ss start l h. takes_row outer end list below l (marked_moves m f [] list row)
      (omega (arith, d below, h))
      ∙ same outer end below start;
  stops =
      λ outer end below ss n. omits_unless outer end list below ss o
      (subst (λ (rs : List Row). MissAll rs ss) (sym row) (n, tt));
  no_closer = c;
}

pub names_list : IsList (Some k.Scope) s.identifier s.names
unfolding depth
names_list =
    marked_list k.Scope (s.name ∷ []) s.identifier s.names refl refl refl (λ below. omega arith)
    (λ outer end below ss. begins_as outer end s.name s.identifier (s.names ∷ []) below ss refl refl refl)

pub paths_list : IsList (Some k.Dot) s.identifier s.paths
unfolding depth
paths_list =
    marked_list k.Dot (s.path ∷ []) s.identifier s.paths refl refl refl (λ below. omega arith)
    (λ outer end below ss. begins_as outer end s.path s.identifier (s.paths ∷ []) below ss refl refl refl)

pub identifiers_list : IsList (Some k.Comma) s.identifier s.more_identifiers
unfolding depth
identifiers_list =
    marked_list k.Comma (s.identifier ∷ s.more_identifiers ∷ []) s.identifier s.more_identifiers refl refl refl
    (λ below. omega arith) (λ outer end below ss. refl)

pub path_list : IsList (Some k.Comma) s.path s.more_paths
unfolding depth
path_list =
    marked_list k.Comma (s.path ∷ s.more_paths ∷ []) s.path s.more_paths refl refl refl (λ below. omega arith)
    (λ outer end below ss. refl)

pub name_list : IsList (Some k.Comma) s.name s.more_names
unfolding depth
name_list =
    marked_list k.Comma (s.name ∷ s.more_names ∷ []) s.name s.more_names refl refl refl (λ below. omega arith)
    (λ outer end below ss. refl)

-- a list of items that begin with a word, with no further assumptions
pub word_list : (item list : Symbol) {f : List Symbol} → rows item ≡ by a_word f ∷ []
    → rows list ≡ table.behind (list ∷ []) (rows item) → can_omit list ≡ true → can_omit item ≡ false
    → closes item ≡ 0 → IsList None item list
unfolding move
word_list item list row rows_are o p c = record {
  goes_on =
      λ outer end below ss start (w, e) h. enters_as outer end list item (list ∷ []) below rows_are p (starts_at w)
      (ap (λ (rs : List Row). move_by rs (can_omit item) (word w.spelling)) row)
      ∙ ap (fate outer end (item ∷ list ∷ below)) (sym e);
  stops =
      λ outer end below ss n. omits_unless outer end list below ss o
      (subst (λ (rs : List Row). MissAll rs ss) (sym (rows_are ∙ ap (table.behind (list ∷ [])) row)) (n, tt));
  no_closer = c;
}
