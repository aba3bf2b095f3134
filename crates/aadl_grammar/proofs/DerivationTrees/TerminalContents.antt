-- The content of a terminal in addition to its class, such as the spelling of a word.
use Rattle.std.proofs.Common.{◌≡◌, ℕ, ◌≤◌, true, sym, ap, refl, eq-eqb, arith}
use Rattle.std.specs.Prelude.{nat_lt}
use Rattle.std.proofs.lemmas.Bool.{eqb-true, ltb-true}
use Rattle.aadl_tree.specs.declared.mark.Mark.{Mark}
use Rattle.aadl_tree.specs.declared.mark.Mark.TheVariants as k
use Rattle.aadl_tree.specs.Terminals.{PlainTerminal, word, whole, real, quoted, unread, mark, other}
use Rattle.aadl_grammar.specs.proof.GrammarSymbols.{Class, a_word, a_whole, a_real, a_quoted, an_unread, the}
use Rattle.aadl_tree.specs.proof.MarkNumbers.{mark_number}
use Rattle.aadl_tree.proofs.MarkNumbers.{same_number}
use Rattle.aadl_grammar.specs.proof.StackMachine.{class_number, kind_number, fits}
use Rattle.aadl_grammar.specs.proof.SymbolTrees.{Content, kind_with}

small : (m : Mark) → nat_lt (mark_number m) 100 ≡ true
small k.Package = refl
small _ = refl

no_mark : (m : Mark) (n : ℕ) → 100 ≤ n → n ≡ mark_number m → ⊥
no_mark m n h e = let l = ltb-true (mark_number m) 100 (small m) in absurd (omega arith)

pub record HasContent (c : Class) (kind : PlainTerminal) : Type 0 where
  pub content : Content c
  pub whole : kind ≡ kind_with c content

said_by : (c : Class) (kind : PlainTerminal) → kind_number kind ≡ class_number c → HasContent c kind
said_by a_word (word w) e = record { content = w; whole = refl }
said_by a_whole (whole w) e = record { content = w; whole = refl }
said_by a_real (real w) e = record { content = w; whole = refl }
said_by a_quoted (quoted w) e = record { content = w; whole = refl }
said_by an_unread (unread w) e = record { content = w; whole = refl }
said_by (the m) (mark o) e = record { content = tt; whole = ap mark (same_number o m e) }
said_by (the m) (word w) e = absurd (no_mark m 100 (omega arith) e)
said_by (the m) (whole w) e = absurd (no_mark m 101 (omega arith) e)
said_by (the m) (real w) e = absurd (no_mark m 102 (omega arith) e)
said_by (the m) (quoted w) e = absurd (no_mark m 103 (omega arith) e)
said_by (the m) (unread w) e = absurd (no_mark m 104 (omega arith) e)
said_by (the m) (other w) e = absurd (no_mark m 105 (omega arith) e)
said_by a_word (mark o) e = absurd (no_mark o 100 (omega arith) (sym e))
said_by a_whole (mark o) e = absurd (no_mark o 101 (omega arith) (sym e))
said_by a_real (mark o) e = absurd (no_mark o 102 (omega arith) (sym e))
said_by a_quoted (mark o) e = absurd (no_mark o 103 (omega arith) (sym e))
said_by an_unread (mark o) e = absurd (no_mark o 104 (omega arith) (sym e))
said_by a_word _ e = absurd (omega (arith, e))
said_by a_whole _ e = absurd (omega (arith, e))
said_by a_real _ e = absurd (omega (arith, e))
said_by a_quoted _ e = absurd (omega (arith, e))
said_by an_unread _ e = absurd (omega (arith, e))

pub said : (c : Class) (kind : PlainTerminal) → fits c kind ≡ true → HasContent c kind
said c kind e = said_by c kind (eqb-true (kind_number kind) (class_number c) e)

pub number_of : (c : Class) (w : Content c) → kind_number (kind_with c w) ≡ class_number c
number_of a_word w = refl
number_of a_whole w = refl
number_of a_real w = refl
number_of a_quoted w = refl
number_of an_unread w = refl
number_of (the m) w = refl

pub fits_with : (c : Class) (w : Content c) → fits c (kind_with c w) ≡ true
fits_with c w = eq-eqb _ _ (number_of c w)

pub same_content : (c : Class) (w y : Content c) → kind_with c w ≡ kind_with c y → w ≡ y
same_content a_word w y e = cc
same_content a_whole w y e = cc
same_content a_real w y e = cc
same_content a_quoted w y e = cc
same_content an_unread w y e = cc
same_content (the m) w y e = refl
