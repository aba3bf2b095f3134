-- Rules on neighbouring terminals in a text of the grammar, by the terminals' numbers. For the law that canonical
-- text is read back.
use Rattle.std.specs.Prelude.{ℕ, ◌≡◌, ◌==◌, Bool, true, not, ◌&&◌, ◌||◌, List, [], ◌∷◌}
use Rattle.aadl_tree.specs.declared.mark.Mark.TheVariants as k
use Rattle.aadl_tree.specs.Terminals.{PlainTerminal}
use Rattle.aadl_grammar.specs.proof.GrammarSymbols.{Class, a_word, an_unread, the}
use Rattle.aadl_grammar.specs.proof.StackMachine.{class_number, kind_number}

-- the terminal of this number has this class
abbrev pub of_class : ℕ → Class → Bool
of_class n c = n == class_number c

-- After `.` comes a word, after `!` comes `(`, and after `:` neither `:` nor `::`. Before `.`, an annex of another
-- language and `{**` comes a word. Every terminal has a class.
abbrev pub may_stand_behind : ℕ → ℕ → Bool
may_stand_behind p n =
    not (n == 105)
    && ((not (of_class p (the k.Dot)) || of_class n a_word)
    && ((not (of_class p (the k.Bang)) || of_class n (the k.ParenOpen))
    && ((not (of_class p (the k.Colon)) || not (of_class n (the k.Colon) || of_class n (the k.Scope)))
    && ((of_class p a_word || not (of_class n (the k.Dot)))
    && (of_class p a_word || not (of_class n an_unread || of_class n (the k.AnnexOpen)))))))

-- each terminal may follow the one before it
abbrev pub AreNeighbours : ℕ → List PlainTerminal → Type 0
AreNeighbours p [] = Unit {0}
AreNeighbours p (kind ∷ ks) = (may_stand_behind p (kind_number kind) ≡ true) × AreNeighbours (kind_number kind) ks
