-- What the machine does with one terminal, by the move of the topmost symbol. For the proofs of parsers.
use Rattle.std.proofs.Common.{◌≡◌, ℕ, ◌+◌, ◌<◌, ◌≤◌, Bool, true, false, cond, ◌∙◌, sym, ap, subst, refl, List, [], ◌∷◌}
use Rattle.std.proofs.Common.{◌++◌, append_assoc, le-ltb, lt-ltb, ◌&&◌}
use Rattle.std.specs.Prelude.{nat_lt}
use Rattle.aadl_tree.specs.declared.mark.Mark.{Mark}
use Rattle.aadl_tree.specs.Terminals.{PlainTerminal, mark, PlacedTerminal}
use Rattle.aadl_tree.specs.declared.nesting_limit.TheConstants.{GREATEST_NESTING}
use Rattle.aadl_tree.specs.TerminalFaults.{place}
use Rattle.aadl_grammar.specs.proof.GrammarSymbols.{the, Symbol, Row}
use Rattle.aadl_grammar.specs.proof.ParseTable.{behind, rows, can_omit}
use Rattle.aadl_grammar.specs.proof.StackMachine.{Stack, Move, takes, omitted, refuses, kind_number, fits, move_by}
use Rattle.aadl_grammar.specs.proof.StackMachine.{move, chosen, stack_after, ends, depth, Fate, finished, syntax_at}
use Rattle.aadl_grammar.specs.proof.StackMachine.{deep_at}
use Rattle.aadl_grammar.specs.proof.StackMachine.{fate_after, fate}
use Rattle.aadl_grammar.proofs.DerivationTrees.ForbiddenFollowers.{among, firsts}
use Rattle.aadl_grammar.proofs.DerivationTrees.TerminalContents.{HasContent, said, fits_with}
use Rattle.std.proofs.lemmas.Bool.{or_parts}

-- the move of the symbol on these remaining terminals
abbrev pub move_at : Symbol → List PlacedTerminal → Move
move_at x [] = cond (can_omit x) omitted refuses
move_at x (t ∷ ts) = move x t.kind

-- the fate, as a function of the move of the topmost symbol
abbrev pub fate_by : ℕ → ℕ → Move → Stack → List PlacedTerminal → Fate
fate_by outer end (takes f) below [] = syntax_at end
fate_by outer end (takes f) below (t ∷ ts) =
    cond (nat_lt GREATEST_NESTING (outer + depth (f ++ below))) (deep_at t.at) (fate outer end (f ++ below) ts)
fate_by outer end omitted below ts = fate outer end below ts
fate_by outer end refuses below ts = syntax_at (place end ts)

by_move : (outer end : ℕ) (y : Move) (below : Stack) (t : PlacedTerminal) (ts : List PlacedTerminal)
    → fate_after outer (chosen y below (stack_after below t.kind)) t.at (λ next. fate outer end next ts)
    ≡ fate_by outer end y below (t ∷ ts)
unfolding fate
by_move outer end (takes f) below t ts = refl
by_move outer end omitted below t ts = refl
by_move outer end refuses below t ts = refl

by_end : (outer end : ℕ) (b : Bool) (below : Stack)
    → cond (b && ends below) finished (syntax_at end) ≡ fate_by outer end (cond b omitted refuses) below []
unfolding fate
by_end outer end true below = refl
by_end outer end false below = refl

pub fate_is : (outer end : ℕ) (x : Symbol) (below : Stack) (ts : List PlacedTerminal)
    → fate outer end (x ∷ below) ts ≡ fate_by outer end (move_at x ts) below ts
unfolding fate stack_after ends
fate_is outer end x below [] = by_end outer end (can_omit x) below
fate_is outer end x below (t ∷ ts) = by_move outer end (move x t.kind) below t ts

pub fate_takes : (outer end : ℕ) (x : Symbol) (below : Stack) (t : PlacedTerminal) (ts : List PlacedTerminal)
    (f : List Symbol)
    → move x t.kind ≡ takes f → outer + depth (f ++ below) ≤ GREATEST_NESTING
    → fate outer end (x ∷ below) (t ∷ ts) ≡ fate outer end (f ++ below) ts
fate_takes outer end x below t ts f e h =
    fate_is outer end x below (t ∷ ts) ∙ ap (λ y. fate_by outer end y below (t ∷ ts)) e
    ∙ ap (λ b. cond b (deep_at t.at) (fate outer end (f ++ below) ts))
    (le-ltb GREATEST_NESTING (outer + depth (f ++ below)) h)

pub fate_deep : (outer end : ℕ) (x : Symbol) (below : Stack) (t : PlacedTerminal) (ts : List PlacedTerminal)
    (f : List Symbol)
    → move x t.kind ≡ takes f → GREATEST_NESTING < outer + depth (f ++ below)
    → fate outer end (x ∷ below) (t ∷ ts) ≡ deep_at t.at
fate_deep outer end x below t ts f e h =
    fate_is outer end x below (t ∷ ts) ∙ ap (λ y. fate_by outer end y below (t ∷ ts)) e
    ∙ ap (λ b. cond b (deep_at t.at) (fate outer end (f ++ below) ts))
    (lt-ltb GREATEST_NESTING (outer + depth (f ++ below)) h)

pub fate_omits : (outer end : ℕ) (x : Symbol) (below : Stack) (ts : List PlacedTerminal) → move_at x ts ≡ omitted
    → fate outer end (x ∷ below) ts ≡ fate outer end below ts
fate_omits outer end x below ts e = fate_is outer end x below ts ∙ ap (λ y. fate_by outer end y below ts) e

pub fate_refuses : (outer end : ℕ) (x : Symbol) (below : Stack) (ts : List PlacedTerminal) → move_at x ts ≡ refuses
    → fate outer end (x ∷ below) ts ≡ syntax_at (place end ts)
fate_refuses outer end x below ts e = fate_is outer end x below ts ∙ ap (λ y. fate_by outer end y below ts) e

-- no symbol is expected any more
pub fate_end : (outer end : ℕ) → fate outer end [] [] ≡ finished
unfolding fate ends
fate_end outer end = refl

pub fate_left : (outer end : ℕ) (t : PlacedTerminal) (ts : List PlacedTerminal)
    → fate outer end [] (t ∷ ts) ≡ syntax_at t.at
unfolding fate stack_after
fate_left outer end t ts = refl

-- A symbol that begins as another one does, with more symbols after it.

abbrev pub followed_by : List Symbol → Move → Move
followed_by more (takes f) = takes (f ++ more)
followed_by more omitted = omitted
followed_by more refuses = refuses

-- no row fits the first terminal
abbrev pub NoneFits : List Row → List PlacedTerminal → Type 0
NoneFits own [] = Unit {0}
NoneFits own (t ∷ ts) = among (kind_number t.kind) (firsts own) ≡ false

-- the symbol has no rows of its own
pub none_own : (ts : List PlacedTerminal) → NoneFits [] ts
none_own [] = tt
none_own (t ∷ ts) = refl

-- if no row fits, the symbol may be omitted
abbrev pub or_by : Bool → Move → Move
or_by b (takes f) = takes f
or_by b omitted = omitted
or_by b refuses = cond b omitted refuses

followed_cond : (b : Bool) (more f : List Symbol) (y : Move) (z : Bool)
    → cond z (takes (f ++ more)) (or_by b (followed_by more y)) ≡ or_by b (followed_by more (cond z (takes f) y))
followed_cond b more f y true = refl
followed_cond b more f y false = refl

move_behind : (b : Bool) (more : List Symbol) (rs : List Row) (kind : PlainTerminal)
    → move_by (behind more rs) b kind ≡ or_by b (followed_by more (move_by rs false kind))
move_behind b more [] kind = refl
move_behind b more (r ∷ rs) kind =
    ap (cond (fits r.first kind) (takes (r.wanted ++ more))) (move_behind b more rs kind)
    ∙ followed_cond b more r.wanted (move_by rs false kind) (fits r.first kind)

move_past : (own rs : List Row) (b : Bool) (kind : PlainTerminal) → among (kind_number kind) (firsts own) ≡ false
    → move_by (own ++ rs) b kind ≡ move_by rs b kind
move_past [] rs b kind e = refl
move_past (r ∷ own) rs b kind e =
    let both = or_parts (fits r.first kind) (among (kind_number kind) (firsts own)) e in
    ap (λ z. cond z (takes r.wanted) (move_by (own ++ rs) b kind)) both.0 ∙ move_past own rs b kind both.1

-- The symbol begins as the other one does, and none of its own rows fits.
expanded : (x y : Symbol) (own : List Row) (more : List Symbol) (ts : List PlacedTerminal)
    → rows x ≡ own ++ behind more (rows y)
    → can_omit y ≡ false → NoneFits own ts
    → move_at x ts ≡ or_by (can_omit x) (followed_by more (move_at y ts))
unfolding move
expanded x y own more [] e p n = sym (ap (λ b. or_by (can_omit x) (followed_by more (cond b omitted refuses))) p)
expanded x y own more (t ∷ ts) e p n =
    ap (λ rs. move_by rs (can_omit x) t.kind) e ∙ move_past own (behind more (rows y)) (can_omit x) t.kind n
    ∙ move_behind (can_omit x) more (rows y) t.kind
    ∙ ap (λ b. or_by (can_omit x) (followed_by more (move_by (rows y) b t.kind))) (sym p)

abbrev Never : Move → Type 0
Never (takes f) = Unit {0}
Never omitted = ⊥
Never refuses = Unit {0}

never_cond : (f : List Symbol) (y : Move) (b : Bool) → Never y → Never (cond b (takes f) y)
never_cond f y true h = tt
never_cond f y false h = h

never_omits : (rs : List Row) (kind : PlainTerminal) → Never (move_by rs false kind)
never_omits [] kind = tt
never_omits (r ∷ rs) kind = never_cond r.wanted (move_by rs false kind) (fits r.first kind) (never_omits rs kind)

never_refused : (b : Bool) → b ≡ false → Never (cond b omitted refuses)
never_refused true e = cc
never_refused false e = tt

never_at : (y : Symbol) (ts : List PlacedTerminal) → can_omit y ≡ false → Never (move_at y ts)
unfolding move
never_at y [] p = never_refused (can_omit y) p
never_at y (t ∷ ts) p = subst (λ (b : Bool). Never (move_by (rows y) b t.kind)) (sym p) (never_omits (rows y) t.kind)

by_followed : (outer end : ℕ) (y : Move) (more : List Symbol) (below : Stack) (ts : List PlacedTerminal) → Never y
    → fate_by outer end (followed_by more y) below ts ≡ fate_by outer end y (more ++ below) ts
by_followed outer end (takes g) more below [] never = refl
by_followed outer end (takes g) more below (t ∷ ts) never =
    ap (λ next. cond (nat_lt GREATEST_NESTING (outer + depth next)) (deep_at t.at) (fate outer end next ts))
    (append_assoc g more below)
by_followed outer end omitted more below ts never = absurd never
by_followed outer end refuses more below ts never = refl

or_false : (y : Move) → or_by false y ≡ y
or_false (takes f) = refl
or_false omitted = refl
or_false refuses = refl

-- a symbol that cannot be omitted moves as the other one does
pub fate_expands : (outer end : ℕ) (x y : Symbol) (own : List Row) (more : List Symbol) (below : Stack)
    (ts : List PlacedTerminal)
    → rows x ≡ own ++ behind more (rows y) → can_omit x ≡ false → can_omit y ≡ false → NoneFits own ts
    → fate outer end (x ∷ below) ts ≡ fate outer end (y ∷ more ++ below) ts
fate_expands outer end x y own more below ts e o p n =
    fate_is outer end x below ts
    ∙ ap (λ z. fate_by outer end z below ts)
    (expanded x y own more ts e p n ∙ ap (λ b. or_by b (followed_by more (move_at y ts))) o
    ∙ or_false (followed_by more (move_at y ts)))
    ∙ by_followed outer end (move_at y ts) more below ts (never_at y ts p)
    ∙ sym (fate_is outer end y (more ++ below) ts)

-- so does a symbol that can be omitted, if the other one takes the terminal
pub fate_enters : (outer end : ℕ) (x y : Symbol) (own : List Row) (more : List Symbol) (below : Stack)
    (ts : List PlacedTerminal)
    (f : List Symbol) → rows x ≡ own ++ behind more (rows y) → can_omit y ≡ false → NoneFits own ts
    → move_at y ts ≡ takes f → fate outer end (x ∷ below) ts ≡ fate outer end (y ∷ more ++ below) ts
fate_enters outer end x y own more below ts f e p n h =
    fate_is outer end x below ts
    ∙ ap (λ z. fate_by outer end z below ts)
    (expanded x y own more ts e p n ∙ ap (λ z. or_by (can_omit x) (followed_by more z)) h
    ∙ ap (followed_by more) (sym h))
    ∙ by_followed outer end (move_at y ts) more below ts (never_at y ts p)
    ∙ sym (fate_is outer end y (more ++ below) ts)

-- it is omitted if the other one refuses the terminal
pub fate_passes : (outer end : ℕ) (x y : Symbol) (own : List Row) (more : List Symbol) (below : Stack)
    (ts : List PlacedTerminal)
    → rows x ≡ own ++ behind more (rows y) → can_omit x ≡ true → can_omit y ≡ false → NoneFits own ts
    → move_at y ts ≡ refuses → fate outer end (x ∷ below) ts ≡ fate outer end below ts
fate_passes outer end x y own more below ts e o p n h =
    fate_omits outer end x below ts
    (expanded x y own more ts e p n ∙ ap (λ z. or_by (can_omit x) (followed_by more z)) h
    ∙ ap (λ b. cond b omitted refuses) o)

-- the number of a keyword or symbol determines it
pub fits_mark : (m : Mark) (kind : PlainTerminal) → fits (the m) kind ≡ true → kind ≡ mark m
fits_mark m kind e = HasContent.whole (said (the m) kind e)

pub fits_itself : (m : Mark) → fits (the m) (mark m) ≡ true
fits_itself m = fits_with (the m) tt
