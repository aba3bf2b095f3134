-- The terminals of a text's tokens are possible terminals.
use Rattle.std.proofs.Common.{◌≡◌, ℕ, ◌+◌, ◌-◌, ◌<◌, Bool, true, false, ◌∙◌, sym, ap, subst, refl, List, [], ◌∷◌, ◌++◌}
use Rattle.std.proofs.Common.{append_assoc, length, length-append, take, drop, get_or, arith, Option, Some, None}
use Rattle.std.specs.Prelude.{codes, is_some}
use Rattle.std.specs.Str.{IsUtf8}
use Rattle.std.proofs.Math.Seq.{take-append-add}
use Rattle.std.proofs.lemmas.List.{take-append-drop, get_or-drop}
use Rattle.std.proofs.lemmas.Str.{IsUtf8-take, IsUtf8-drop, IsCharBoundary-before_ascii, IsCharBoundary-after_ascii}
use Rattle.aadl_lex.specs.declared.token.Token.{Token}
use Rattle.aadl_lex.specs.declared.token.TokenKind.{TokenKind}
use Rattle.aadl_lex.specs.declared.token.TokenKind.TheVariants.{Word, Whole, Real, Quoted, Symbol, AnnexOpen}
use Rattle.aadl_lex.specs.declared.token.TokenKind.TheVariants.{AnnexClose, Unread}
use Rattle.aadl_lex.specs.declared.rules.Reading.{Reading}
use Rattle.aadl_lex.specs.declared.rules.Reading.TheVariants.{Outside, AfterName, Inside}
use Rattle.aadl_lex.specs.Rules.{is_word, decimal, after}
use Rattle.aadl_lex.specs.proof.TokenSpellings as spelled
use Rattle.aadl_lex.specs.proof.TokenSpellings.{IsSpelled, AreSpelled}
use Rattle.aadl_lex.specs.TokensAndFirstFaults.{bytes_of, AreTokensOf, AreInOrder}
use Rattle.aadl_lex.proofs.TokenOrder.{order_le, order_tokens}
use Rattle.aadl_lex.proofs.TokensAsWritten.{spelled_tokens}
use Rattle.aadl_tree.specs.declared.mark.Mark.{Mark}
use Rattle.aadl_tree.specs.declared.mark.Mark.TheVariants as k
use Rattle.aadl_tree.specs.KeywordsAndSymbols.{keyword_of, symbol_of}
use Rattle.aadl_tree.specs.Terminals.{mark, word_kind, symbol_kind, class_kind, inside_behind, spots_from}
use Rattle.aadl_tree.specs.Terminals.{placed_terminals}
use Rattle.aadl_tree.specs.Terminals.{kinds_of}
use Rattle.aadl_tree.proofs.LexedSymbols.{symbol_known}
use Rattle.aadl_grammar.proofs.LiteralAndAnnexLexing.{at_seam}
use Rattle.aadl_grammar.proofs.PossibleTerminals.{is_inside, IsPossibleTerminal, a_word, a_number, a_real, a_string}
use Rattle.aadl_grammar.proofs.PossibleTerminals.{an_annex}
use Rattle.aadl_grammar.proofs.PossibleTerminals.{a_keyword, a_symbol, opens, closes, behind, ArePossibleTerminals}
use Rattle.aadl_grammar.proofs.TerminalRelexing.{after_inside, word_then, whole_then, real_then, quoted_then}
use Rattle.aadl_grammar.proofs.KeywordAndSymbolSpellings.{keyword_fixed, symbol_fixed, keyword_behind, symbol_behind}

-- a piece of a text, between two single bytes
utf8_front : (w rest : List ℕ) (y : ℕ) → y < 128 → IsUtf8 (w ++ y ∷ rest) → IsUtf8 (w ++ y ∷ [])
utf8_front w rest y low utf8 =
    let byte = at_seam w (y ∷ rest) in
    let size = length-append w (y ∷ rest) in
    let boundary = IsCharBoundary-after_ascii (w ++ y ∷ rest) (length w) utf8 (omega arith) (omega arith) in
    subst IsUtf8 (take-append-add w (y ∷ rest) 1) (IsUtf8-take (w ++ y ∷ rest) (length w + 1) utf8 boundary)

utf8_piece : (full : List ℕ) (at n x y : ℕ) (mid : List ℕ) → IsUtf8 full → at < length full → x < 128 → y < 128
    → take n (drop at full) ≡ x ∷ (mid ++ y ∷ []) → IsUtf8 (take n (drop at full))
utf8_piece full at n x y mid utf8 within low high e =
    let whole : drop at full ≡ (x ∷ mid) ++ y ∷ drop n (drop at full) =
    sym (take-append-drop n (drop at full)) ∙ ap (λ l. l ++ drop n (drop at full)) e
    ∙ append_assoc (x ∷ mid) (y ∷ []) (drop n (drop at full)) in
    let byte : get_or full (at + 0) 0 ≡ x = sym (get_or-drop at full 0 0) ∙ ap (λ (l : List ℕ). get_or l 0 0) whole in
    let here : get_or full at 0 ≡ x = ap (λ m. get_or full m 0) (let g : at ≡ at + 0 = omega arith in g) ∙ byte in
    let rest = IsUtf8-drop full at utf8 (IsCharBoundary-before_ascii full at within (omega arith)) in
    subst IsUtf8 (sym e) (utf8_front (x ∷ mid) (drop n (drop at full)) y high (subst IsUtf8 whole rest))

-- the content of one token
record Says (r : Reading) (class : TokenKind) (b : List ℕ) : Type 0 where
  spoken : IsPossibleTerminal r (class_kind (is_inside r) class b)
  goes : spelled.behind r class b ≡ behind r (class_kind (is_inside r) class b)

word_says : (r : Reading) (b : List ℕ) (o : Option Mark) → keyword_of (is_inside r) b ≡ o → is_word b ≡ true
    → IsPossibleTerminal r (word_kind b o) × (after r Word b ≡ behind r (word_kind b o))
word_says r b None e w = (a_word r b w e, word_then r b)
word_says r b (Some m) e w = (a_keyword r m (keyword_fixed (is_inside r) b m e), keyword_behind r b m e)

symbol_says : (r : Reading) (b : List ℕ) (o : Option Mark) → symbol_of b ≡ o → is_some o ≡ true
    → IsPossibleTerminal r (symbol_kind b o) × (after r Symbol b ≡ behind r (symbol_kind b o))
symbol_says r b None e known = absurd cc
symbol_says r b (Some m) e known = (a_symbol r m (symbol_fixed b m e), symbol_behind r b m (symbol_fixed b m e))

says_open : (r : Reading) → r ≡ AfterName
    → IsPossibleTerminal r (mark k.AnnexOpen) × (Inside ≡ behind r (mark k.AnnexOpen))
says_open r e =
    subst (λ (q : Reading). IsPossibleTerminal q (mark k.AnnexOpen) × (Inside ≡ behind q (mark k.AnnexOpen))) (sym e)
    (opens, refl)

says_close : (r : Reading) → r ≡ Inside → IsPossibleTerminal r (mark k.AnnexClose)
    × (Outside ≡ behind r (mark k.AnnexClose))
says_close r e =
    subst (λ (q : Reading). IsPossibleTerminal q (mark k.AnnexClose) × (Outside ≡ behind q (mark k.AnnexClose))) (sym e)
    (closes, refl)

says_by : (r : Reading) (class : TokenKind) (b : List ℕ) → IsSpelled r class b
    → ((x y : ℕ) (mid : List ℕ) → x < 128 → y < 128 → b ≡ x ∷ (mid ++ y ∷ []) → IsUtf8 b) → Says r class b
says_by r Word b w utf8 = let p = word_says r b (keyword_of (is_inside r) b) refl w in
    record { spoken = p.0; goes = p.1 }
says_by r (Whole v) b h utf8 =
    subst (λ (x : _). Says r (Whole x) b) (sym h.says)
    (record { spoken = a_number r (decimal b) h.fits; goes = whole_then r (decimal b) b })
says_by r Real b h utf8 = record { spoken = a_real r b h; goes = real_then r b }
says_by r Quoted b (h, clear) utf8 =
    record {
      spoken = a_string r b h (utf8 34 34 h.inner (omega arith) (omega arith) h.spelled) clear;
      goes = quoted_then r b;
    }
says_by r Symbol b h utf8 = let p = symbol_says r b (symbol_of b) refl (symbol_known b h) in
    record { spoken = p.0; goes = p.1 }
says_by r AnnexOpen b (name, bytes) utf8 = let p = says_open r name in record { spoken = p.0; goes = p.1 }
says_by r AnnexClose b (inside, bytes) utf8 = let p = says_close r inside in record { spoken = p.0; goes = p.1 }
says_by r Unread b (out, h) utf8 =
    let text =
    utf8 123 125 (42 ∷ 42 ∷ (h.inner ++ codes "**")) (omega arith) (omega arith)
    (h.spelled ∙ ap (λ l. 123 ∷ 42 ∷ 42 ∷ l) (sym (append_assoc h.inner (codes "**") (125 ∷ [])))) in
    subst (λ (q : Reading). Says q Unread b) (sym out) (record { spoken = an_annex b h text; goes = refl })

inside_goes : (r : Reading) (class : TokenKind) (b : List ℕ)
    → inside_behind (is_inside r) class ≡ is_inside (spelled.behind r class b)
inside_goes r AnnexOpen b = refl
inside_goes r AnnexClose b = refl
inside_goes r Word b = sym (after_inside r Word b)
inside_goes r (Whole v) b = sym (after_inside r (Whole v) b)
inside_goes r Real b = sym (after_inside r Real b)
inside_goes r Quoted b = sym (after_inside r Quoted b)
inside_goes r Symbol b = sym (after_inside r Symbol b)
inside_goes r Unread b = sym (after_inside r Unread b)

outside_is : (r : Reading) → (r ≡ Inside → ⊥) → is_inside r ≡ false
outside_is Outside h = refl
outside_is AfterName h = refl
outside_is Inside h = absurd (h refl)

said_tokens : (text : List ℕ) → IsUtf8 text → (r : Reading) (from : ℕ) (ts : List Token)
    → AreInOrder from (length text) ts → AreSpelled text r ts
    → ArePossibleTerminals r (kinds_of (spots_from (is_inside r) text ts))
said_tokens text utf8 r from [] order h = outside_is r h
said_tokens text utf8 r from (t ∷ ts) (start, some, order) (h, hs) =
    let b = bytes_of text t in
    let next = spelled.behind r t.kind b in
    let size = order_le t.end (length text) ts order in
    let says =
    says_by r t.kind b h (λ x y mid low high e.
    utf8_piece text t.start (t.end - t.start) x y mid utf8 (omega arith) low high e) in
    let on : ArePossibleTerminals next (kinds_of (spots_from (is_inside next) text ts)) =
    said_tokens text utf8 next t.end ts order hs in (
      says.spoken,
      subst (λ (x : Bool). ArePossibleTerminals (behind r (class_kind (is_inside r) t.kind b))
          (kinds_of (spots_from x text ts)))
          (sym (inside_goes r t.kind b))
          (subst (λ (q : Reading). ArePossibleTerminals q (kinds_of (spots_from (is_inside next) text ts))) says.goes
          on),
    )

-- The terminals of a text are possible terminals.
pub text_terminals_possible : (text : List ℕ) (ts : List Token) → AreTokensOf text ts
    → ArePossibleTerminals Outside (kinds_of (placed_terminals text ts))
text_terminals_possible text ts h = said_tokens text h.utf8 Outside 0 ts (order_tokens text ts h)
    (spelled_tokens text ts h)
