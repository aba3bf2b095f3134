-- Actions, one more of them, and the tokens after the last one.
use Rattle.std.proofs.Common.{◌≡◌, ℕ, ℤ, Bool, true, false, ◌+◌, ◌≤◌, ◌∙◌, sym, ap, refl, arith, subst, Option, Vec}
use Rattle.std.proofs.Common.{Box, Global, option_map, List, [], ◌∷◌, ◌++◌, append_assoc, inl, inr}
use Rattle.std.proofs.lemmas.List.{append-nil}
use Rattle.aadl_tree.specs.declared.mark.Mark.TheVariants as k
use Rattle.aadl_tree.specs.declared.expressions.Expression.{Expression}
use Rattle.aadl_tree.specs.declared.actions.Action.{Action}
use Rattle.aadl_tree.specs.declared.actions.Actions.{Actions}
use Rattle.aadl_tree.specs.declared.actions.Elsif.{Elsif, roll-Elsif}
use Rattle.aadl_tree.specs.declared.actions.Choice.{Choice, roll-Choice}
use Rattle.aadl_tree.specs.declared.actions.Block.{Block}
use Rattle.aadl_tree.specs.declared.actions.Loop.{Loop}
use Rattle.aadl_tree.specs.declared.actions.Action.TheOpen.{Choice-F}
use Rattle.aadl_tree.specs.declared.actions.Action.TheViews.{out-roll-Choice}
use Rattle.aadl_tree.specs.declared.nesting_limit.TheConstants.{GREATEST_NESTING}
use Rattle.aadl_tree.specs.TerminalFaults.{place}
use Rattle.aadl_tree.specs.Terminals.{PlainTerminal, whole, PlacedTerminal}
use Rattle.aadl_tree.specs.SpellingParts.{SpellingPart, plain, may, last_semicolon}
use Rattle.aadl_tree.specs.Names.{identifier_parts, reference_parts}
use Rattle.aadl_tree.specs.Actions as a
use Rattle.aadl_tree.specs.proof.NameViews.{identifier_view, reference_view}
use Rattle.aadl_tree.specs.proof.ExpressionViews.{expression_view}
use Rattle.aadl_tree.specs.proof.ActionViews.{action_view, actions_view, mores_view, choice_view, elsifs_view}
use Rattle.aadl_tree.specs.proof.ActionViews.{otherwise_of}
use Rattle.aadl_tree.specs.proof.PlaceMaps.{kept_place}
use Rattle.aadl_tree.proofs.ActionViews.{view-out-choice}
use Rattle.aadl_grammar.specs.proof.GrammarSymbols as s
use Rattle.aadl_grammar.specs.proof.GrammarSymbols.{a_whole, the, Symbol}
use Rattle.aadl_grammar.specs.proof.StackMachine.{Stack, takes, move, depth, syntax_at, fate}
use Rattle.aadl_grammar.specs.proof.ParserAnswers.{At, AtMark, Begins, IsMarked, Misses, Reads}
use Rattle.aadl_grammar.proofs.TopSymbolMoves.{enters_as, takes_row, refuses_unless}
use Rattle.aadl_grammar.proofs.PartSequences.{then, marked, respelled, regroup}
use Rattle.behaviour_parse.specs.declared.actions.LoopHead.{LoopHead}
use Rattle.behaviour_parse.specs.proof.LoopAndChoiceParts.{head_parts, choice_parts}

-- a choice after its `if`
pub choice_reads : (x : Choice) {ss mid rest : List PlacedTerminal} → AtMark k.If ss mid
    → Reads (choice_parts x) mid rest
    → Reads (a.action_parts (choice_view kept_place x)) ss rest
choice_reads x l b = respelled (ap a.action_parts (sym (view-out-choice kept_place x))) (marked l b)

-- a choice from its parts
pub choice_made : (test : Expression) (x : Actions) (es : Vec Elsif Global) (o : Option (Box Actions Global))
    {ss rest : List PlacedTerminal}
    → Reads (a.test_parts (expression_view kept_place test)
    ++ (a.actions_parts (actions_view kept_place x) ++ (a.elsifs_parts (elsifs_view kept_place es.items)
    ++ (a.otherwise_parts (otherwise_of (option_map (λ b. actions_view kept_place b.value) o))
    ++ (plain k.End ∷ (plain k.If ∷ [])))))) ss rest
    → Reads (choice_parts (roll-Choice (record { test = test; actions = x; elsifs = es; otherwise = o }))) ss rest
choice_made test x es o b =
    respelled (ap layer_parts
    (sym (out-roll-Choice (record { test = test; actions = x; elsifs = es; otherwise = o })))) b where
      layer_parts : Choice-F Action Actions Block Choice Elsif Loop → List (SpellingPart ℕ)
      layer_parts c =
          a.test_parts (expression_view kept_place c.test)
          ++ (a.actions_parts (actions_view kept_place c.actions)
          ++ (a.elsifs_parts (elsifs_view kept_place c.elsifs.items)
          ++ (a.otherwise_parts (otherwise_of (option_map (λ b. actions_view kept_place b.value) c.otherwise))
          ++ (plain k.End ∷ (plain k.If ∷ [])))))

pub begins_by : {x : Symbol} {kind : PlainTerminal} {ss rest : List PlacedTerminal} {f : List Symbol} → At kind ss rest
    → move x kind ≡ takes f → Begins x ss
begins_by {x} {kind} {ss} {rest} {f} l m = record { kind = kind; rest = rest; wanted = f; first = l; moves = m }

-- a bound of a loop's range
pub bound_runs : (b : Bool) (outer end : ℕ) (below : Stack) {n : ℤ}
    (ss : List PlacedTerminal) {mid rest : List PlacedTerminal}
    → outer + depth below ≤ GREATEST_NESTING → IsMarked k.Minus b ss mid → At (whole n) mid rest
    → fate outer end (s.bound ∷ below) ss ≡ fate outer end below rest
unfolding move depth
bound_runs true outer end below ss h l m =
    takes_row outer end s.bound below l refl (omega arith) ∙ takes_row outer end s.whole_number below m refl h
bound_runs false outer end below ss h (l, e) m =
    ap (fate outer end (s.bound ∷ below)) (sym e) ∙ takes_row outer end s.bound below m refl h

pub bound_refuses : (b : Bool) (outer end : ℕ) (below : Stack) (ss mid : List PlacedTerminal)
    → outer + depth below ≤ GREATEST_NESTING → IsMarked k.Minus b ss mid → Misses a_whole mid
    → fate outer end (s.bound ∷ below) ss ≡ syntax_at (place end mid)
unfolding move depth
bound_refuses true outer end below ss mid h l m =
    takes_row outer end s.bound below l refl (omega arith)
    ∙ refuses_unless outer end s.whole_number below mid refl (m, tt)
bound_refuses false outer end below ss mid h (l, e) m =
    ap (fate outer end (s.bound ∷ below)) (sym e)
    ∙ refuses_unless outer end s.bound below mid refl
    (m, (subst (λ (x : List PlacedTerminal). Misses (the k.Minus) x) (sym e) l, tt))

-- the parentheses of a loop and its body
pub loop_reads : (x : LoopHead) (body : List (SpellingPart ℕ)) {ss rest : List PlacedTerminal}
    → Reads (head_parts x ++ body) ss rest
    → Reads (plain k.ParenOpen
    ∷ (identifier_parts (identifier_view kept_place x.variable)
    ++ (plain k.Colon ∷ (reference_parts (reference_view kept_place x.data_type) ++ (plain k.In
    ∷ (a.bound_parts x.low ++ (plain k.Range ∷ (a.bound_parts x.high ++ (plain k.ParenClose ∷ body))))))))) ss rest
loop_reads x body b =
    respelled (same (identifier_parts (identifier_view kept_place x.variable))
    (reference_parts (reference_view kept_place x.data_type)) (a.bound_parts x.low) (a.bound_parts x.high)
    body) b where
      same : (i r l h b : List (SpellingPart ℕ))
          → (plain k.ParenOpen ∷ (i
          ++ (plain k.Colon ∷ (r ++ (plain k.In ∷ (l ++ (plain k.Range ∷ (h ++ plain k.ParenClose ∷ [])))))))) ++ b
          ≡ plain k.ParenOpen ∷ (i
          ++ (plain k.Colon ∷ (r ++ (plain k.In ∷ (l ++ (plain k.Range ∷ (h ++ (plain k.ParenClose ∷ b))))))))
      same i r l h b = simp append_assoc

elsifs_listed : (xs : List Elsif) (e : Expression) (x : Actions)
    → a.elsifs_parts (elsifs_view kept_place (xs ++ roll-Elsif (record { test = e; actions = x }) ∷ []))
    ≡ a.elsifs_parts (elsifs_view kept_place xs)
    ++ (plain k.Elsif ∷ (a.test_parts (expression_view kept_place e)
    ++ a.actions_parts (actions_view kept_place x)))
elsifs_listed [] e x =
    ap (λ l. plain k.Elsif ∷ (a.test_parts (expression_view kept_place e) ++ l))
    (append-nil (a.actions_parts (actions_view kept_place x)))
elsifs_listed (y ∷ xs) e x =
    ap (λ l. plain k.Elsif ∷ (a.test_parts (expression_view kept_place y.test)
    ++ (a.actions_parts (actions_view kept_place y.actions) ++ l))) (elsifs_listed xs e x)
    ∙ grouped (a.test_parts (expression_view kept_place y.test)) (a.actions_parts (actions_view kept_place y.actions))
    (a.elsifs_parts (elsifs_view kept_place xs))
    (plain k.Elsif ∷ (a.test_parts (expression_view kept_place e)
    ++ a.actions_parts (actions_view kept_place x))) where
      grouped : (t u v w : List (SpellingPart ℕ))
          → plain k.Elsif ∷ (t ++ (u ++ (v ++ w))) ≡ (plain k.Elsif ∷ (t ++ (u ++ v))) ++ w
      grouped t u v w = simp append_assoc

pub elsifs_push : (xs ys : List Elsif) (e : Expression) (x : Actions) {ss mid rest : List PlacedTerminal}
    → ys ≡ xs ++ roll-Elsif (record { test = e; actions = x }) ∷ []
    → Reads (a.elsifs_parts (elsifs_view kept_place xs)) ss mid
    → Reads (plain k.Elsif ∷ (a.test_parts (expression_view kept_place e)
    ++ a.actions_parts (actions_view kept_place x))) mid rest
    → Reads (a.elsifs_parts (elsifs_view kept_place ys)) ss rest
elsifs_push xs ys e x q p b =
    respelled (sym (ap (λ l. a.elsifs_parts (elsifs_view kept_place l)) q ∙ elsifs_listed xs e x)) (then p b)

mores_listed : (xs : List Action) (x : Action)
    → a.mores_parts (mores_view kept_place (xs ++ x ∷ []))
    ≡ a.mores_parts (mores_view kept_place xs) ++ (plain k.Semicolon ∷ a.action_parts (action_view kept_place x))
mores_listed [] x = ap (λ l. plain k.Semicolon ∷ l) (append-nil (a.action_parts (action_view kept_place x)))
mores_listed (y ∷ xs) x =
    ap (λ l. plain k.Semicolon ∷ (a.action_parts (action_view kept_place y) ++ l)) (mores_listed xs x)
    ∙ ap (λ l. plain k.Semicolon ∷ l)
    (sym (append_assoc (a.action_parts (action_view kept_place y)) (a.mores_parts (mores_view kept_place xs))
    (plain k.Semicolon ∷ a.action_parts (action_view kept_place x))))

pub mores_push : (ps : List (SpellingPart ℕ)) (xs ys : List Action) (x : Action) {ss mid rest : List PlacedTerminal}
    → ys ≡ xs ++ x ∷ []
    → Reads (ps ++ a.mores_parts (mores_view kept_place xs)) ss mid
    → Reads (plain k.Semicolon ∷ a.action_parts (action_view kept_place x)) mid rest
    → Reads (ps ++ a.mores_parts (mores_view kept_place ys)) ss rest
mores_push ps xs ys x q p b =
    respelled (ap (λ l. ps ++ l) (sym (ap (λ l. a.mores_parts (mores_view kept_place l)) q ∙ mores_listed xs x)))
    (regroup ps (a.mores_parts (mores_view kept_place xs)) p b)

-- with or without a `;` after the last action
pub not_ended : (ps qs : List (SpellingPart ℕ)) {ss rest : List PlacedTerminal} → Reads (ps ++ qs) ss rest
    → Reads (ps ++ (qs ++ may last_semicolon ∷ [])) ss rest
not_ended ps qs {ss} {rest} p = regroup ps qs p (record { written = inl refl })

pub ended : (ps qs : List (SpellingPart ℕ)) {ss mid rest : List PlacedTerminal} → Reads (ps ++ qs) ss mid
    → AtMark k.Semicolon mid rest
    → Reads (ps ++ (qs ++ may last_semicolon ∷ [])) ss rest
ended ps qs {ss} {mid} {rest} p l =
    regroup ps qs p (record { written = inr (rest, (_, rest, l.whole, refl, refl), refl) })

-- further actions after a `;`
pub begins_from : (outer end : ℕ) (below : Stack) {ss : List PlacedTerminal} → Begins s.actions ss
    → fate outer end (s.after_semicolon ∷ below) ss ≡ fate outer end (s.actions ∷ below) ss
begins_from outer end below b = enters_as outer end s.after_semicolon s.actions [] below refl refl b.first b.moves
