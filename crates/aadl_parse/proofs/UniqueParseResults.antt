-- A text has one tree or one fault: the result of parsing is unique.
use Rattle.std.proofs.Common.{◌≡◌, ℕ, ap, subst, refl, List, [], length}
use Rattle.std.specs.Prelude.{◌≢◌}
use Rattle.aadl_lex.specs.declared.token.Token.{Token}
use Rattle.aadl_lex.proofs.UniqueTokens.{one_list, one_fault, not_both}
use Rattle.aadl_tree.proofs.SpellingParts.{written_spells}
use Rattle.aadl_tree.specs.Terminals.{placed_terminals, kinds_of}
use Rattle.aadl_tree.specs.SpellingParts.{Written}
use Rattle.aadl_tree.specs.Declarations.{PackageTree, package_parts}
use Rattle.aadl_tree.specs.PackagesBehavioursAndNesting.{IsPackage, IsShallow}
use Rattle.aadl_tree.specs.TerminalFaults.{FailsAt, DeepAt}
use Rattle.aadl_tree.specs.TextTreesAndFaults.{IsTreeOf}
use Rattle.aadl_grammar.proofs.Fates.ExclusiveFates.{fails_once, fails_not_deep, deep_once}
use Rattle.aadl_grammar.proofs.Fates.FateMeanings.{fails_no_text, deep_not_shallow}
use Rattle.aadl_parse.specs.declared.text_fault.TextFault.{TextFault}
use Rattle.aadl_parse.specs.declared.text_fault.TextFault.TheVariants.{Lex, Memory, Syntax, TooDeep}
use Rattle.aadl_parse.specs.ParseResults.{IsFaultOfText}

-- two faults are equal
same_fails : (text : List ℕ) (ts us : List Token) → ts ≡ us → (a b : ℕ)
    → FailsAt IsPackage 0 (length text) (placed_terminals text ts) a
    → FailsAt IsPackage 0 (length text) (placed_terminals text us) b → a ≡ b
same_fails text ts us e a b f g =
    fails_once IsPackage 0 (length text) (placed_terminals text us) a b
    (subst (λ (l : List Token). FailsAt IsPackage 0 (length text) (placed_terminals text l) a) e f) g

same_deep : (text : List ℕ) (ts us : List Token) → ts ≡ us → (a b : ℕ) → DeepAt IsPackage 0 (placed_terminals text ts) a
    → DeepAt IsPackage 0 (placed_terminals text us) b → a ≡ b
same_deep text ts us e a b f g =
    deep_once IsPackage 0 (placed_terminals text us) a b
    (subst (λ (l : List Token). DeepAt IsPackage 0 (placed_terminals text l) a) e f) g

never_both : (text : List ℕ) (ts us : List Token) → ts ≡ us → (a b : ℕ)
    → FailsAt IsPackage 0 (length text) (placed_terminals text ts) a → DeepAt IsPackage 0 (placed_terminals text us) b
    → ⊥
never_both text ts us e a b f g =
    fails_not_deep IsPackage 0 (length text) (placed_terminals text us) a b
    (subst (λ (l : List Token). FailsAt IsPackage 0 (length text) (placed_terminals text l) a) e f) g

pub one_text_fault : (text : List ℕ) (f g : TextFault) → f ≢ Memory → g ≢ Memory → IsFaultOfText text f
    → IsFaultOfText text g → f ≡ g
one_text_fault text Memory g m n a b = absurd (m refl)
one_text_fault text (Lex f) Memory m n a b = absurd (n refl)
one_text_fault text (Syntax p) Memory m n a b = absurd (n refl)
one_text_fault text (TooDeep p) Memory m n a b = absurd (n refl)
one_text_fault text (Lex f) (Lex g) m n a b = ap Lex (one_fault text f g a.1 b.1)
one_text_fault text (Lex f) (Syntax q) m n a b = absurd (not_both text b.tokens f b.lexed a.1)
one_text_fault text (Lex f) (TooDeep q) m n a b = absurd (not_both text b.tokens f b.lexed a.1)
one_text_fault text (Syntax p) (Lex g) m n a b = absurd (not_both text a.tokens g a.lexed b.1)
one_text_fault text (TooDeep p) (Lex g) m n a b = absurd (not_both text a.tokens g a.lexed b.1)
one_text_fault text (Syntax p) (Syntax q) m n a b =
    ap Syntax (same_fails text a.tokens b.tokens (one_list text a.tokens b.tokens a.lexed b.lexed) p q a.fails b.fails)
one_text_fault text (TooDeep p) (TooDeep q) m n a b =
    ap TooDeep (same_deep text a.tokens b.tokens (one_list text a.tokens b.tokens a.lexed b.lexed) p q a.deep b.deep)
one_text_fault text (Syntax p) (TooDeep q) m n a b =
    absurd (never_both text a.tokens b.tokens (one_list text a.tokens b.tokens a.lexed b.lexed) p q a.fails b.deep)
one_text_fault text (TooDeep p) (Syntax q) m n a b =
    absurd (never_both text b.tokens a.tokens (one_list text b.tokens a.tokens b.lexed a.lexed) q p b.fails a.deep)

-- a tree and a fault exclude each other
is_package : (text : List ℕ) (ts us : List Token) → ts ≡ us → (t : PackageTree ℕ)
    → Written (package_parts t) (placed_terminals text ts) [] → IsPackage (kinds_of (placed_terminals text us))
is_package text ts us e t w =
    record {
      tree = t;
      spelled =
          written_spells (package_parts t) (placed_terminals text us) []
          (subst (λ (l : List Token). Written (package_parts t) (placed_terminals text l) []) e w);
    }

is_shallow : (text : List ℕ) (ts us : List Token) → ts ≡ us → IsShallow 0 (kinds_of (placed_terminals text ts))
    → IsShallow 0 (kinds_of (placed_terminals text us))
is_shallow text ts us e w = subst (λ (l : List Token). IsShallow 0 (kinds_of (placed_terminals text l))) e w

pub tree_or_fault : (text : List ℕ) (t : PackageTree ℕ) (f : TextFault) → f ≢ Memory → IsTreeOf text t
    → ¬ IsFaultOfText text f
tree_or_fault text t Memory m a b = m refl
tree_or_fault text t (Lex f) m a b = not_both text a.tokens f a.lexed b.1
tree_or_fault text t (Syntax p) m a b =
    fails_no_text IsPackage 0 (length text) (placed_terminals text b.tokens) p b.fails
    (is_package text a.tokens b.tokens (one_list text a.tokens b.tokens a.lexed b.lexed) t a.written)
tree_or_fault text t (TooDeep p) m a b =
    deep_not_shallow IsPackage 0 (placed_terminals text b.tokens) p b.deep
    (is_shallow text a.tokens b.tokens (one_list text a.tokens b.tokens a.lexed b.lexed) a.shallow)
