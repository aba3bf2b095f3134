-- Checks of the parse table for nesting: each production opens or closes as its terminal does, and an `if` that
-- closes occurs only after its `end`.
use Rattle.std.proofs.Common.{◌≡◌, ℕ, ◌+◌, ◌-◌, Bool, true, false, cond, not, ◌&&◌, ◌||◌, ◌==◌, List, [], ◌∷◌, refl}
use Rattle.aadl_tree.specs.declared.mark.Mark.{Mark}
use Rattle.aadl_tree.specs.declared.mark.Mark.TheVariants as k
use Rattle.aadl_tree.specs.Terminals.{PlainTerminal, word, whole, real, quoted, unread, mark, other}
use Rattle.aadl_tree.specs.PackagesBehavioursAndNesting.{opened, is_end}
use Rattle.aadl_grammar.specs.proof.GrammarSymbols.{Class, the, Symbol, Row}
use Rattle.aadl_grammar.specs.proof.GrammarSymbols as s
use Rattle.aadl_grammar.specs.proof.ParseTable.{rows, can_omit}
use Rattle.aadl_tree.specs.proof.MarkNumbers.{mark_number}
use Rattle.aadl_grammar.specs.proof.StackMachine.{class_number, kind_number, closes, depth}
use Rattle.aadl_grammar.proofs.DerivationTrees.ForbiddenFollowers.{among, firsts}

abbrev pub openers : List Class
openers = the k.If ∷ the k.ParenOpen ∷ the k.BracketOpen ∷ the k.BraceOpen ∷ the k.AnnexOpen ∷ the k.GuardOpen ∷ []

abbrev pub closers : List Class
closers = the k.ParenClose ∷ the k.BracketClose ∷ the k.BraceClose ∷ the k.AnnexClose ∷ the k.GuardClose ∷ []

-- the nesting after a terminal of this number that does not follow `end`
abbrev pub shift : ℕ → ℕ → ℕ
shift n x = cond (among x openers) (n + 1) (cond (among x closers) (n - 1) n)

pub shift_is : (n : ℕ) (kind : PlainTerminal) → opened n false kind ≡ shift n (kind_number kind)
shift_is n (word w) = refl
shift_is n (whole w) = refl
shift_is n (real w) = refl
shift_is n (quoted w) = refl
shift_is n (unread w) = refl
shift_is n (other w) = refl
shift_is n (mark k.If) = refl
shift_is n (mark _) = refl

pub end_is : (kind : PlainTerminal) → is_end kind ≡ (kind_number kind == class_number (the k.End))
end_is (word w) = refl
end_is (whole w) = refl
end_is (real w) = refl
end_is (quoted w) = refl
end_is (unread w) = refl
end_is (other w) = refl
end_is (mark k.If) = refl
end_is (mark _) = refl

-- after `end`, all terminals except `if` open and close as usual
pub opened_same : (n : ℕ) (ended : Bool) (kind : PlainTerminal) → (kind_number kind == class_number (the k.If)) ≡ false
    → opened n ended kind ≡ opened n false kind
opened_same n false kind e = refl
opened_same n true (word w) e = refl
opened_same n true (whole w) e = refl
opened_same n true (real w) e = refl
opened_same n true (quoted w) e = refl
opened_same n true (unread w) e = refl
opened_same n true (other w) e = refl
opened_same n true (mark k.If) e = cc
opened_same n true (mark _) e = refl

-- the symbol that takes the `if` after `end`
abbrev pub closing : Symbol → Bool
closing s.closing_if = true
closing _ = false

-- symbols that are never on the stack except by that symbol: openers, `if` and `end` by themselves
abbrev pub is_never_stacked : Symbol → Bool
is_never_stacked (s.only m) = among (mark_number m) (the k.End ∷ openers)
is_never_stacked s.closing_if = true
is_never_stacked _ = false

abbrev pub plain : List Symbol → Bool
plain [] = true
plain (x ∷ f) = not (is_never_stacked x) && plain f

-- the symbol cannot be omitted, does not begin with `if`, and can be on a stack
abbrev pub begins_without_if : Symbol → Bool
begins_without_if x = not (can_omit x) &&
    (not (among (class_number (the k.If)) (firsts (rows x))) && not (is_never_stacked x))

-- the symbols that may be expected after `end`
abbrev pub closing_first : List Symbol → Bool
closing_first [] = false
closing_first (x ∷ f) = (closing x || begins_without_if x) && plain f

abbrev pub good : Bool → List Symbol → Bool
good true f = closing_first f
good false f = plain f

-- the terminal of this number changes the number of open openers from `before` to `behind`
abbrev pub changes : ℕ → ℕ → ℕ → Bool
changes x before behind =
    cond (among x openers) (behind == before + 1) (cond (among x closers) (behind + 1 == before) (behind == before))

abbrev pub row_shifts : Symbol → Row → Bool
row_shifts x r =
    changes (class_number r.first) (closes x) (depth r.wanted)
    && good (class_number r.first == class_number (the k.End)) r.wanted

abbrev pub rows_shift : Symbol → List Row → Bool
rows_shift x [] = true
rows_shift x (r ∷ rs) = row_shifts x r && rows_shift x rs

only_shift : (m : Mark) → (is_never_stacked (s.only m) || rows_shift (s.only m) (rows (s.only m))) ≡ true
unfolding depth
only_shift k.If = refl
only_shift _ = refl

pub rows_shifted : (x : Symbol) → (is_never_stacked x || rows_shift x (rows x)) ≡ true
unfolding depth
rows_shifted (s.only m) = only_shift m
rows_shifted _ = refl

pub omits_close_nothing : (x : Symbol) → (not (can_omit x) || (closes x == 0)) ≡ true
omits_close_nothing s.identifier = refl
omits_close_nothing _ = refl
