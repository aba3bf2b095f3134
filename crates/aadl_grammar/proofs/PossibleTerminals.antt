-- The possible terminals of a text, inside an annex or outside. The terminals that a tree keeps of them are possible
-- again.
use Rattle.std.proofs.Common.{◌≡◌, ℕ, ◌≤◌, Bool, true, false, ◌==◌, ◌∙◌, sym, ap, subst, refl, List, [], ◌∷◌, ◌++◌}
use Rattle.std.proofs.Common.{Some, None, inl, inr}
use Rattle.std.specs.Prelude.{codes, pos, if◌then◌else◌}
use Rattle.std.specs.Str.{IsUtf8, str_eq_ignore_ascii_case}
use Rattle.std.proofs.lemmas.Bool.{false_from_ne_true, eqb-true}
use Rattle.aadl_lex.specs.declared.rules.Reading.{Reading}
use Rattle.aadl_lex.specs.declared.rules.Reading.TheVariants.{Outside, AfterName, Inside}
use Rattle.aadl_lex.specs.Rules.{is_word, most, close_from}
use Rattle.aadl_tree.specs.declared.mark.Mark.{Mark}
use Rattle.aadl_tree.specs.declared.mark.Mark.TheVariants as k
use Rattle.aadl_tree.specs.KeywordsAndSymbols.{mark_text, keyword_of, symbol_of}
use Rattle.aadl_tree.specs.proof.MarkNumbers.{mark_number}
use Rattle.aadl_tree.specs.Terminals.{PlainTerminal, word, whole, real, quoted, unread, mark}
use Rattle.aadl_tree.specs.SpellingParts.{SpellingPart, token, may, feature_section, subcomponent_section}
use Rattle.aadl_tree.specs.SpellingParts.{connection_section}
use Rattle.aadl_tree.specs.SpellingParts.{property_section, Extra, empty_section, last_semicolon, extra_kinds, Spells}
use Rattle.aadl_tree.specs.SpellingParts.{kept}
use Rattle.aadl_grammar.specs.proof.StackMachine.{kind_number}
use Rattle.aadl_grammar.proofs.AdjacencyRules.{may_stand_behind, AreNeighbours}
use Rattle.aadl_lex.specs.proof.TokenSpellings.{IsReal, IsString, IsUnread}

abbrev pub is_inside : Reading → Bool
is_inside Inside = true
is_inside _ = false

-- a terminal that is possible in this mode of reading
pub data IsPossibleTerminal : Reading → PlainTerminal → Type 0 where
  a_word : (r : Reading) (b : List ℕ) → is_word b ≡ true → keyword_of (is_inside r) b ≡ None
      → IsPossibleTerminal r (word b)
  a_number : (r : Reading) (n : ℕ) → n ≤ most → IsPossibleTerminal r (whole (pos n))
  a_real : (r : Reading) (b : List ℕ) → IsReal b → IsPossibleTerminal r (real b)
  a_string : (r : Reading) (b : List ℕ) → IsString b → IsUtf8 b → (r ≡ Inside → close_from 0 b ≡ None)
      → IsPossibleTerminal r (quoted b)
  an_annex : (b : List ℕ) → IsUnread b → IsUtf8 b → IsPossibleTerminal Outside (unread b)
  a_keyword : (r : Reading) (m : Mark) → keyword_of (is_inside r) (mark_text m) ≡ Some m → IsPossibleTerminal r (mark m)
  a_symbol : (r : Reading) (m : Mark) → symbol_of (mark_text m) ≡ Some m → IsPossibleTerminal r (mark m)
  opens : IsPossibleTerminal AfterName (mark k.AnnexOpen)
  closes : IsPossibleTerminal Inside (mark k.AnnexClose)

-- the mode of reading after a terminal
abbrev pub behind : Reading → PlainTerminal → Reading
behind Inside (mark k.AnnexClose) = Outside
behind Inside _ = Inside
behind _ (mark k.AnnexOpen) = Inside
behind _ (word b) = if str_eq_ignore_ascii_case b (codes "behavior_specification") then AfterName else Outside
behind _ _ = Outside

-- possible terminals from here on, up to the end of the text
abbrev pub ArePossibleTerminals : Reading → List PlainTerminal → Type 0
ArePossibleTerminals r [] = is_inside r ≡ false
ArePossibleTerminals r (kind ∷ ks) = IsPossibleTerminal r kind × ArePossibleTerminals (behind r kind) ks

spoken_inside : (r s : Reading) (kind : PlainTerminal) → is_inside r ≡ false → is_inside s ≡ false
    → (kind_number kind == 104) ≡ false → s ≡ Outside → IsPossibleTerminal s kind → IsPossibleTerminal r kind
spoken_inside r s _ i j n e (a_word _ b w h) = a_word r b w (ap (λ x. keyword_of x b) (i ∙ sym j) ∙ h)
spoken_inside r s _ i j n e (a_number _ m h) = a_number r m h
spoken_inside r s _ i j n e (a_real _ b h) = a_real r b h
spoken_inside r s _ i j n e (a_string _ b h u c) = a_string r b h u (λ f. absurd (let g = ap is_inside f in cc))
spoken_inside r _ _ i j n e (an_annex b h u) = absurd cc
spoken_inside r s _ i j n e (a_keyword _ m h) = a_keyword r m (ap (λ x. keyword_of x (mark_text m)) (i ∙ sym j) ∙ h)
spoken_inside r s _ i j n e (a_symbol _ m h) = a_symbol r m h
spoken_inside r _ _ i j n e opens = absurd cc
spoken_inside r _ _ i j n e closes = absurd cc

behind_same : (r : Reading) (kind : PlainTerminal) → is_inside r ≡ false → behind Outside kind ≡ behind r kind
behind_same Outside kind i = refl
behind_same AfterName (mark k.AnnexOpen) i = refl
behind_same AfterName (mark k.AnnexClose) i = refl
behind_same AfterName (mark _) i = refl
behind_same AfterName (word b) i = refl
behind_same AfterName _ i = refl
behind_same Inside kind i = absurd cc

no_annex : (n : ℕ) → may_stand_behind (mark_number k.Semicolon) n ≡ true → (n == 104) ≡ false
no_annex n h =
    false_from_ne_true (n == 104)
    (λ e. let same = eqb-true n 104 e in let never = ap (may_stand_behind (mark_number k.Semicolon)) same in absurd cc)

-- after a `;` outside an annex, the terminals that are possible in the mode `Outside` are possible
said_anyhow : (r : Reading) (ks : List PlainTerminal) → is_inside r ≡ false → AreNeighbours (mark_number k.Semicolon) ks
    → ArePossibleTerminals Outside ks → ArePossibleTerminals r ks
said_anyhow r [] i near said = i
said_anyhow r (kind ∷ ks) i (near, nears) (said, more) = (
  spoken_inside r Outside kind i refl (no_annex (kind_number kind) near) refl said,
  subst (λ (x : Reading). ArePossibleTerminals x ks) (behind_same r kind i) more,
)

-- meaningless terminals end with `;`
last_near : (p : ℕ) (extra : Extra) (ks : List PlainTerminal) → AreNeighbours p (extra_kinds extra ++ ks)
    → AreNeighbours (mark_number k.Semicolon) ks
last_near p (empty_section s) ks h = h.1.1.1
last_near p last_semicolon ks h = h.1

said_behind : (r : Reading) (extra : Extra) (ks : List PlainTerminal) → AreNeighbours (mark_number k.Semicolon) ks
    → ArePossibleTerminals r (extra_kinds extra ++ ks) → ArePossibleTerminals r ks
said_behind Inside (empty_section feature_section) ks near h = h.1.1.1
said_behind Inside (empty_section subcomponent_section) ks near h = h.1.1.1
said_behind Inside (empty_section connection_section) ks near h = h.1.1.1
said_behind Inside (empty_section property_section) ks near h = h.1.1.1
said_behind Inside last_semicolon ks near h = h.1
said_behind Outside (empty_section feature_section) ks near h = h.1.1.1
said_behind Outside (empty_section subcomponent_section) ks near h = h.1.1.1
said_behind Outside (empty_section connection_section) ks near h = h.1.1.1
said_behind Outside (empty_section property_section) ks near h = h.1.1.1
said_behind Outside last_semicolon ks near h = h.1
said_behind AfterName (empty_section feature_section) ks near h = said_anyhow AfterName ks refl near h.1.1.1
said_behind AfterName (empty_section subcomponent_section) ks near h = said_anyhow AfterName ks refl near h.1.1.1
said_behind AfterName (empty_section connection_section) ks near h = said_anyhow AfterName ks refl near h.1.1.1
said_behind AfterName (empty_section property_section) ks near h = said_anyhow AfterName ks refl near h.1.1.1
said_behind AfterName last_semicolon ks near h = said_anyhow AfterName ks refl near h.1

-- The terminals that a tree keeps of a text's terminals are possible in a text.
pub kept_said : {P : Type 0} (ps : List (SpellingPart P)) (p : ℕ) (r : Reading) (ks : List PlainTerminal)
    → Spells ps ks []
    → AreNeighbours p ks → ArePossibleTerminals r ks → ArePossibleTerminals r (kept ps)
kept_said [] p r ks e near said = subst (λ (q : List PlainTerminal). ArePossibleTerminals r q) e said
kept_said (token kind places ∷ ps) p r ks (more, e, s) near said =
    let n = subst (λ (q : List PlainTerminal). AreNeighbours p q) e near in
    let h = subst (λ (q : List PlainTerminal). ArePossibleTerminals r q) e said in
    (h.0, kept_said ps (kind_number kind) (behind r kind) more s n.1 h.1)
kept_said (may extra ∷ ps) p r ks (inl s) near said = kept_said ps p r ks s near said
kept_said (may extra ∷ ps) p r ks (inr (more, e, s)) near said =
    let n = last_near p extra more (subst (λ (q : List PlainTerminal). AreNeighbours p q) e near) in
    kept_said ps (mark_number k.Semicolon) r more s n
    (said_behind r extra more n (subst (λ (q : List PlainTerminal). ArePossibleTerminals r q) e said))
