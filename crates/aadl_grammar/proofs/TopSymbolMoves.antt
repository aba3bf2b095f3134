-- What the topmost symbol does at the first terminal: it takes the terminal, is omitted, or refuses it.
use Rattle.std.proofs.Common.{◌≡◌, ℕ, ◌+◌, ◌<◌, ◌≤◌, Bool, true, false, cond, ◌∙◌, sym, ap, subst, refl, List, [], ◌∷◌}
use Rattle.std.proofs.Common.{◌++◌, ◌==◌, inl, inr}
use Rattle.std.proofs.lemmas.Bool.{or_cases, or_parts, false_from_ne_true}
use Rattle.list_lemmas.proofs.Booleans.{opposed}
use Rattle.aadl_tree.specs.declared.mark.Mark.{Mark}
use Rattle.aadl_tree.specs.proof.MarkNumbers.{mark_number}
use Rattle.aadl_tree.specs.Terminals.{PlainTerminal, mark, word, PlacedTerminal}
use Rattle.aadl_tree.specs.Names.{Identifier}
use Rattle.aadl_tree.specs.declared.nesting_limit.TheConstants.{GREATEST_NESTING}
use Rattle.aadl_tree.specs.TerminalFaults.{place}
use Rattle.aadl_grammar.specs.proof.GrammarSymbols.{the, Symbol, Row}
use Rattle.aadl_grammar.specs.proof.GrammarSymbols as s
use Rattle.aadl_grammar.specs.proof.ParseTable.{on, behind, rows, can_omit}
use Rattle.aadl_grammar.specs.proof.StackMachine.{Stack, Move, takes, omitted, refuses, kind_number, class_number, fits}
use Rattle.aadl_grammar.specs.proof.StackMachine.{move_by, move, depth, syntax_at, deep_at, fate}
use Rattle.aadl_grammar.proofs.DerivationTrees.ForbiddenFollowers.{among, firsts}
use Rattle.aadl_grammar.proofs.DerivationTrees.DerivationsAndMachineSteps.{move_omits, move_refuses}
use Rattle.aadl_grammar.proofs.Fates.FirstTerminalFates.{move_at, fate_by, fate_is, fate_takes, fate_deep, fate_omits}
use Rattle.aadl_grammar.proofs.Fates.FirstTerminalFates.{fate_refuses, fate_expands, fate_enters, fate_passes, NoneFits}
use Rattle.aadl_grammar.proofs.Fates.FirstTerminalFates.{none_own, fits_itself}
use Rattle.aadl_grammar.specs.proof.ParserAnswers.{spot, At, AtMark, AtWord, Misses, MissAll, IsMarked}

-- the symbol takes the first terminal
pub takes_row : (outer end : ℕ) (x : Symbol)
    (below : Stack) {kind : PlainTerminal} {ss rest : List PlacedTerminal} {f : List Symbol}
    → At kind ss rest → move x kind ≡ takes f → outer + depth (f ++ below) ≤ GREATEST_NESTING
    → fate outer end (x ∷ below) ss ≡ fate outer end (f ++ below) rest
takes_row outer end x below {kind} {ss} {rest} {f} l m h =
    ap (fate outer end (x ∷ below)) l.whole ∙ fate_takes outer end x below (spot kind l.at) rest f m h

pub deep_row : (outer end : ℕ) (x : Symbol)
    (below : Stack) {kind : PlainTerminal} {ss rest : List PlacedTerminal} {f : List Symbol}
    → At kind ss rest → move x kind ≡ takes f → GREATEST_NESTING < outer + depth (f ++ below)
    → fate outer end (x ∷ below) ss ≡ deep_at (place end ss)
deep_row outer end x below {kind} {ss} {rest} {f} l m h =
    ap (fate outer end (x ∷ below)) l.whole ∙ fate_deep outer end x below (spot kind l.at) rest f m h
    ∙ ap (λ l. deep_at (place end l)) (sym l.whole)

-- a word that comes first
pub a_word_at : {x : Identifier ℕ} {ss rest : List PlacedTerminal} → AtWord x ss rest → At (word x.spelling) ss rest
a_word_at {x} l = record { at = x.at; whole = l.whole }

none_fits_marks : (rs : List Row) (t : PlacedTerminal) (ss : List PlacedTerminal) → MissAll rs (t ∷ ss)
    → among (kind_number t.kind) (firsts rs) ≡ true → ⊥
none_fits_marks [] t ss m e = cc
none_fits_marks (r ∷ rs) t ss (m, ms) e =
    elim (or_cases (kind_number t.kind == class_number r.first) (among (kind_number t.kind) (firsts rs)) e) [
      | inl i ↦ opposed _ i m
      | inr i ↦ none_fits_marks rs t ss ms i
    ]

moves_on : (x : Symbol) (ss : List PlacedTerminal) → can_omit x ≡ true → MissAll (rows x) ss → move_at x ss ≡ omitted
moves_on x [] o m = ap (λ b. cond b omitted refuses) o
moves_on x (t ∷ ss) o m = move_omits x t.kind o (none_fits_marks (rows x) t ss m)

moves_no : (x : Symbol) (ss : List PlacedTerminal) → can_omit x ≡ false → MissAll (rows x) ss → move_at x ss ≡ refuses
moves_no x [] o m = ap (λ b. cond b omitted refuses) o
moves_no x (t ∷ ss) o m = move_refuses x t.kind o (none_fits_marks (rows x) t ss m)

-- no row fits: the symbol is omitted or refuses the terminal
pub omits_unless : (outer end : ℕ) (x : Symbol) (below : Stack) (ss : List PlacedTerminal) → can_omit x ≡ true
    → MissAll (rows x) ss → fate outer end (x ∷ below) ss ≡ fate outer end below ss
omits_unless outer end x below ss o m = fate_omits outer end x below ss (moves_on x ss o m)

pub refuses_unless : (outer end : ℕ) (x : Symbol) (below : Stack) (ss : List PlacedTerminal) → can_omit x ≡ false
    → MissAll (rows x) ss → fate outer end (x ∷ below) ss ≡ syntax_at (place end ss)
refuses_unless outer end x below ss o m = fate_refuses outer end x below ss (moves_no x ss o m)

none_own_fits : (rs : List Row) (ss : List PlacedTerminal) → MissAll rs ss → NoneFits rs ss
none_own_fits rs [] m = tt
none_own_fits rs (t ∷ ss) m = false_from_ne_true (among (kind_number t.kind) (firsts rs)) (none_fits_marks rs t ss m)

-- past some of its own rows, it begins as another symbol with more after it
pub begins_past : (outer end : ℕ) (x y : Symbol) (own : List Row) (more : List Symbol) (below : Stack)
    (ss : List PlacedTerminal)
    → rows x ≡ own ++ behind more (rows y) → can_omit x ≡ false → can_omit y ≡ false → MissAll own ss
    → fate outer end (x ∷ below) ss ≡ fate outer end (y ∷ more ++ below) ss
begins_past outer end x y own more below ss e o p m =
    fate_expands outer end x y own more below ss e o p (none_own_fits own ss m)

pub begins_as : (outer end : ℕ) (x y : Symbol) (more : List Symbol) (below : Stack) (ss : List PlacedTerminal)
    → rows x ≡ behind more (rows y) → can_omit x ≡ false → can_omit y ≡ false
    → fate outer end (x ∷ below) ss ≡ fate outer end (y ∷ more ++ below) ss
begins_as outer end x y more below ss e o p = fate_expands outer end x y [] more below ss e o p (none_own ss)

-- a symbol that may be omitted begins as another one, if that one takes the terminal
pub enters_as : (outer end : ℕ) (x y : Symbol) (more : List Symbol)
    (below : Stack) {kind : PlainTerminal} {ss rest : List PlacedTerminal}
    {f : List Symbol} → rows x ≡ behind more (rows y) → can_omit y ≡ false
    → At kind ss rest → move y kind ≡ takes f → fate outer end (x ∷ below) ss ≡ fate outer end (y ∷ more ++ below) ss
unfolding move
enters_as outer end x y more below {kind} {ss} {rest} {f} e p l m =
    fate_enters outer end x y [] more below ss f e p (none_own ss) (ap (move_at y) l.whole ∙ m)

-- two symbols that do the same at the first terminal
pub acts_as : (outer end : ℕ) (x y : Symbol) (below : Stack) {kind : PlainTerminal} {ss rest : List PlacedTerminal}
    → At kind ss rest
    → move x kind ≡ move y kind → fate outer end (x ∷ below) ss ≡ fate outer end (y ∷ below) ss
acts_as outer end x y below {kind} {ss} {rest} l m =
    fate_is outer end x below ss
    ∙ ap (λ z. fate_by outer end z below ss) (ap (move_at x) l.whole ∙ m ∙ sym (ap (move_at y) l.whole))
    ∙ sym (fate_is outer end y below ss)

-- if this mark comes first, it misses the rows of other classes
missing : (rs : List Row) (m : Mark) (at : ℕ) (rest : List PlacedTerminal) → among (mark_number m) (firsts rs) ≡ false
    → MissAll rs (spot (mark m) at ∷ rest)
missing [] m at rest e = tt
missing (r ∷ rs) m at rest e = let b = or_parts (fits r.first (mark m)) (among (mark_number m) (firsts rs)) e in
    (b.0, missing rs m at rest b.1)

pub misses_at : (rs : List Row) {m : Mark} {ss rest : List PlacedTerminal} → AtMark m ss rest
    → among (mark_number m) (firsts rs) ≡ false → MissAll rs ss
misses_at rs {m} {ss} {rest} l e = subst (λ (x : List PlacedTerminal). MissAll rs x) (sym l.whole)
    (missing rs m l.at rest e)

-- a move that is not an omission remains so under a condition
cond_omits : (b : Bool) (f : List Symbol) (z : Move) → (z ≡ omitted → ⊥) → cond b (takes f) z ≡ omitted → ⊥
cond_omits true f z h e = cc
cond_omits false f z h e = h e

rows_omit : (rs : List Row) (kind : PlainTerminal) → move_by rs false kind ≡ omitted → ⊥
rows_omit [] kind e = cc
rows_omit (r ∷ rs) kind e = cond_omits (fits r.first kind) r.wanted (move_by rs false kind) (rows_omit rs kind) e

never_end : (b : Bool) → b ≡ false → cond b omitted refuses ≡ omitted → ⊥
never_end true p e = cc
never_end false p e = cc

never_omits : (y : Symbol) (ss : List PlacedTerminal) → can_omit y ≡ false → move_at y ss ≡ omitted → ⊥
unfolding move
never_omits y [] p e = never_end (can_omit y) p e
never_omits y (t ∷ ss) p e = rows_omit (rows y) t.kind (ap (λ b. move_by (rows y) b t.kind) (sym p) ∙ e)

-- If the required symbol `m` is missing, the symbol x before it has the same fate as the symbol y that it begins
-- with.
by_move : (outer end : ℕ) (x y : Symbol) (own : List Row) (more : List Symbol) (m : Mark) (below : Stack)
    (ss : List PlacedTerminal) (z : Move) → rows x ≡ own ++ behind more (rows y) → can_omit x ≡ true
    → can_omit y ≡ false
    → MissAll own ss → Misses (the m) ss → move_at y ss ≡ z → (z ≡ omitted → ⊥)
    → fate outer end (x ∷ s.only m ∷ below) ss ≡ fate outer end (y ∷ more ++ s.only m ∷ below) ss
by_move outer end x y own more m below ss (takes f) e o p own_miss miss h never =
    fate_enters outer end x y own more (s.only m ∷ below) ss f e p (none_own_fits own ss own_miss) h
by_move outer end x y own more m below ss omitted e o p own_miss miss h never = absurd (never refl)
by_move outer end x y own more m below ss refuses e o p own_miss miss h never =
    fate_passes outer end x y own more (s.only m ∷ below) ss e o p (none_own_fits own ss own_miss) h
    ∙ refuses_unless outer end (s.only m) below ss refl (miss, tt)
    ∙ sym (fate_refuses outer end y (more ++ s.only m ∷ below) ss h)

pub before_closer : (outer end : ℕ) (x y : Symbol) (own : List Row) (more : List Symbol) (m : Mark) (below : Stack)
    (ss : List PlacedTerminal) → rows x ≡ own ++ behind more (rows y) → can_omit x ≡ true → can_omit y ≡ false
    → MissAll own ss → Misses (the m) ss
    → fate outer end (x ∷ s.only m ∷ below) ss ≡ fate outer end (y ∷ more ++ s.only m ∷ below) ss
before_closer outer end x y own more m below ss e o p own_miss miss =
    by_move outer end x y own more m below ss (move_at y ss) e o p own_miss miss refl (never_omits y ss p)

-- an optional keyword
pub flag_runs : (outer end : ℕ) (x : Symbol) (below : Stack) (m : Mark) (b : Bool) (ss rest : List PlacedTerminal)
    → rows x ≡ on m [] ∷ [] → can_omit x ≡ true → move x (mark m) ≡ takes [] → outer + depth below ≤ GREATEST_NESTING
    → IsMarked m b ss rest
    → fate outer end (x ∷ below) ss ≡ fate outer end below rest
flag_runs outer end x below m true ss rest r o t h l = takes_row outer end x below l t h
flag_runs outer end x below m false ss rest r o t h (l, e) =
    omits_unless outer end x below ss o (subst (λ (rs : List Row). MissAll rs ss) (sym r) (l, tt))
    ∙ ap (fate outer end below) (sym e)

pub only_takes : (m : Mark) → move (s.only m) (mark m) ≡ takes []
unfolding move
only_takes m = ap (λ b. cond b (takes []) refuses) (fits_itself m)
