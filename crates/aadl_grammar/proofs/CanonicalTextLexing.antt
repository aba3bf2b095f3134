-- The canonical text of possible terminals is lexed as these terminals.
use Rattle.std.proofs.Common.{◌≡◌, ◌⊎◌, ℕ, zero, suc, ◌+◌, Bool, true, false, ◌∙◌, sym, ap, ap₂, subst, refl, List, []}
use Rattle.std.proofs.Common.{◌∷◌, ◌++◌, length, take, drop, arith, Some, None, inl, inr}
use Rattle.std.proofs.Math.Seq.{take-append_seam}
use Rattle.std.proofs.lemmas.List.{length-take-le, length-drop}
use Rattle.aadl_lex.specs.declared.token.Token.{Token}
use Rattle.aadl_lex.specs.declared.token.TokenKind.{TokenKind}
use Rattle.aadl_lex.specs.declared.token.TokenKind.TheVariants.{AnnexOpen, AnnexClose}
use Rattle.aadl_lex.specs.declared.rules.Reading.{Reading}
use Rattle.aadl_lex.specs.declared.rules.Reading.TheVariants.{Outside, AfterName, Inside}
use Rattle.aadl_lex.specs.Rules.{is_blank, close_from, first, after}
use Rattle.aadl_lex.specs.TokensAndFirstFaults.{token, Lexes, ended, takes, reads}
use Rattle.aadl_tree.specs.declared.mark.Mark.TheVariants as k
use Rattle.aadl_tree.specs.KeywordsAndSymbols.{mark_text, keyword_of, symbol_of}
use Rattle.aadl_tree.specs.Terminals.{PlainTerminal, mark, class_kind, inside_behind, spots_from, kinds_of}
use Rattle.aadl_tree.specs.CanonicalText.{kind_text, line_end, between, text_behind}
use Rattle.aadl_grammar.specs.proof.StackMachine.{kind_number}
use Rattle.aadl_grammar.proofs.AdjacencyRules.{AreNeighbours}
use Rattle.aadl_grammar.proofs.LiteralAndAnnexLexing.{body_first}
use Rattle.aadl_grammar.proofs.PossibleTerminals.{is_inside, IsPossibleTerminal, a_word, a_number, a_real, a_string}
use Rattle.aadl_grammar.proofs.PossibleTerminals.{an_annex}
use Rattle.aadl_grammar.proofs.PossibleTerminals.{a_keyword, a_symbol, opens, closes, behind, ArePossibleTerminals}
use Rattle.aadl_grammar.proofs.TerminalRelexing.{Ends, Lexed, IsPlain, lexed}
use Rattle.aadl_grammar.proofs.TerminalSeparation.{ends_behind}
use Rattle.aadl_grammar.proofs.NoAnnexEnds.{close_past, kind_past, close_at}
use Rattle.aadl_grammar.proofs.TextPiecesAndGaps.{line, is_gap, gap_blank, stands_within, drop_past, drop_cut}
use Rattle.aadl_grammar.proofs.TextPiecesAndGaps.{gap_skipped}
use Rattle.aadl_grammar.proofs.TextPiecesAndGaps.{token_bytes, close_gap}

-- from a position outside an annex on
pub record Outer (r : Reading) (text : List ℕ) (at : ℕ) (ks : List PlainTerminal) : Type 0 where
  pub tokens : List Token
  pub lexes : Lexes r text at tokens
  pub kinds : kinds_of (spots_from false text tokens) ≡ ks

-- from a position inside an annex on: the rest of the body, and the text after it
record Inner (text : List ℕ) (at : ℕ) (left : List ℕ) (ks : List PlainTerminal) : Type 0 where
  size : ℕ
  closed : close_from 0 left ≡ Some size
  body : List Token
  rest : List Token
  inside : Lexes Inside (take (at + size) text) at body
  outside : Lexes Outside text (at + size + 3) rest
  kinds : kinds_of (spots_from true text (body ++ token AnnexClose (at + size) 3 ∷ rest)) ≡ ks

ends_cut : (kind : PlainTerminal) (s : List ℕ) (m : ℕ) → Ends kind s → Ends kind (take m s)
ends_cut kind s zero e = tt
ends_cut kind [] (suc m) e = tt
ends_cut kind (h ∷ t) (suc m) e = e

which : (kind : PlainTerminal) → ((kind ≡ mark k.AnnexOpen) ⊎ (kind ≡ mark k.AnnexClose)) ⊎ IsPlain kind
which (mark k.AnnexOpen) = inl (inl refl)
which (mark k.AnnexClose) = inl (inr refl)
which (mark _) = inr ((λ e. cc), (λ e. cc))
which _ = inr ((λ e. cc), (λ e. cc))

-- `{**` occurs only after the name of a behaviour, and `**}` only inside an annex
keyword_no_end : (b : Bool)
    → (keyword_of b (mark_text k.AnnexOpen) ≡ None) × (keyword_of b (mark_text k.AnnexClose) ≡ None)
keyword_no_end true = (refl, refl)
keyword_no_end false = (refl, refl)

opened : (r : Reading) (kind : PlainTerminal) → kind ≡ mark k.AnnexOpen → IsPossibleTerminal r kind → r ≡ AfterName
opened r _ e (a_word _ b w h) = absurd cc
opened r _ e (a_number _ n h) = absurd cc
opened r _ e (a_real _ b h) = absurd cc
opened r _ e (a_string _ b h u c) = absurd cc
opened _ _ e (an_annex b h u) = absurd cc
opened r _ e (a_keyword _ m h) =
    let same : m ≡ k.AnnexOpen = cc in let read = ap (λ x. keyword_of (is_inside r) (mark_text x)) same in
    let none = (keyword_no_end (is_inside r)).0 in absurd cc
opened r _ e (a_symbol _ m h) =
    let same : m ≡ k.AnnexOpen = cc in let read = ap (λ x. symbol_of (mark_text x)) same in
    let none : symbol_of (mark_text k.AnnexOpen) ≡ None = refl in absurd cc
opened _ _ e opens = refl
opened _ _ e closes = absurd cc

closed_inside : (r : Reading) (kind : PlainTerminal) → kind ≡ mark k.AnnexClose → IsPossibleTerminal r kind → r ≡ Inside
closed_inside r _ e (a_word _ b w h) = absurd cc
closed_inside r _ e (a_number _ n h) = absurd cc
closed_inside r _ e (a_real _ b h) = absurd cc
closed_inside r _ e (a_string _ b h u c) = absurd cc
closed_inside _ _ e (an_annex b h u) = absurd cc
closed_inside r _ e (a_keyword _ m h) =
    let same : m ≡ k.AnnexClose = cc in let read = ap (λ x. keyword_of (is_inside r) (mark_text x)) same in
    let none = (keyword_no_end (is_inside r)).1 in absurd cc
closed_inside r _ e (a_symbol _ m h) =
    let same : m ≡ k.AnnexClose = cc in let read = ap (λ x. symbol_of (mark_text x)) same in
    let none : symbol_of (mark_text k.AnnexClose) ≡ None = refl in absurd cc
closed_inside _ _ e closes = refl
closed_inside _ _ e opens = absurd cc

-- one token, and the tokens after it
spots_first : (inside : Bool) (text : List ℕ) (class : TokenKind) (at : ℕ) (kind : PlainTerminal) (s : List ℕ)
    (ts : List Token)
    (ks : List PlainTerminal) → drop at text ≡ kind_text kind ++ s
    → class_kind inside class (kind_text kind) ≡ kind → inside_behind inside class ≡ inside
    → kinds_of (spots_from inside text ts) ≡ ks
    → kinds_of (spots_from inside text (token class at (length (kind_text kind)) ∷ ts)) ≡ kind ∷ ks
spots_first inside text class at kind s ts ks e read stays more =
    ap₂ (λ (x : PlainTerminal) (l : List PlainTerminal). x ∷ l)
    (ap (class_kind inside class) (token_bytes text class at (kind_text kind) s e) ∙ read)
    (ap (λ (b : Bool). kinds_of (spots_from b text ts)) stays ∙ more)

-- the lexer takes a terminal and reads on after it
token_taken : (r : Reading) (text : List ℕ) (at : ℕ) (kind : PlainTerminal) (s : List ℕ) (ts : List Token)
    (l : Lexed r kind s)
    → drop at text ≡ kind_text kind ++ s
    → Lexes (behind r kind) text (at + length (kind_text kind)) ts
    → Lexes r text at (token l.class at (length (kind_text kind)) ∷ ts)
token_taken r text at kind s ts l e more =
    let bytes : take (length (kind_text kind)) (drop at text) ≡ kind_text kind = ap (take (length (kind_text kind))) e
    ∙ take-append_seam (kind_text kind) s in
    takes r text at l.class (length (kind_text kind)) ts (stands_within text at (kind_text kind) s l.some e)
    (ap (first r at) e ∙ l.taken at)
    (subst (λ (x : Reading). Lexes x text (at + length (kind_text kind)) ts)
    (sym (ap (after r l.class) bytes ∙ l.goes)) more)

outer_plain : (p kind : PlainTerminal) (ks : List PlainTerminal) (r : Reading) (text : List ℕ) (at : ℕ)
    → is_inside r ≡ false
    → AreNeighbours (kind_number kind) ks → IsPossibleTerminal r kind → ArePossibleTerminals (behind r kind) ks
    → IsPlain kind
    → drop at text ≡ between p kind ++ (kind_text kind ++ text_behind kind ks)
    → ((s : Reading) (to : ℕ) → is_inside s ≡ false → ArePossibleTerminals s ks → drop to text ≡ text_behind kind ks
    → Outer s text to ks) → Outer r text at (kind ∷ ks)
outer_plain p kind ks r text at i near said saids plain e go =
    let here = at + length (between p kind) in
    let e1 : drop here text ≡ kind_text kind ++ text_behind kind ks =
    drop_past text at (between p kind) (kind_text kind ++ text_behind kind ks) e in
    let e2 : drop (here + length (kind_text kind)) text ≡ text_behind kind ks =
    drop_past text here (kind_text kind) (text_behind kind ks) e1 in
    let l = lexed r kind (text_behind kind ks) said plain (ends_behind (behind r kind) kind ks near saids) in
    let out : is_inside (behind r kind) ≡ false = sym l.inside ∙ l.inner (is_inside r) ∙ i in
    let more = go (behind r kind) (here + length (kind_text kind)) out saids e2 in
    record {
      tokens = token l.class here (length (kind_text kind)) ∷ more.tokens;
      lexes =
          gap_skipped r text at _ (between p kind) (kind_text kind ++ text_behind kind ks) (is_gap p kind) e
          (token_taken r text here kind (text_behind kind ks) more.tokens l e1 more.lexes);
      kinds =
          spots_first false text l.class here kind (text_behind kind ks) more.tokens ks e1
          (ap (λ (b : Bool). class_kind b l.class (kind_text kind)) (sym i) ∙ l.read) (l.inner false) more.kinds;
    }

outer_opens : (p : PlainTerminal) (ks : List PlainTerminal) (text : List ℕ) (at : ℕ)
    → drop at text ≡ between p (mark k.AnnexOpen) ++ (mark_text k.AnnexOpen ++ text_behind (mark k.AnnexOpen) ks)
    → ((to : ℕ) → drop to text ≡ text_behind (mark k.AnnexOpen) ks
    → Inner text to (text_behind (mark k.AnnexOpen) ks) ks) → Outer AfterName text at (mark k.AnnexOpen ∷ ks)
outer_opens p ks text at e go =
    let gap = between p (mark k.AnnexOpen) in
    let here = at + length gap in
    let left = text_behind (mark k.AnnexOpen) ks in
    let e1 : drop here text ≡ mark_text k.AnnexOpen ++ left = drop_past text at gap (mark_text k.AnnexOpen ++ left) e in
    let b = go (here + 3) (drop_past text here (mark_text k.AnnexOpen) left e1) in
    record {
      tokens = token AnnexOpen here 3 ∷ (b.body ++ token AnnexClose (here + 3 + b.size) 3 ∷ b.rest);
      lexes = gap_skipped AfterName text at _ gap (mark_text k.AnnexOpen ++ left) (is_gap p (mark k.AnnexOpen)) e
          (reads AfterName text here b.size b.body b.rest
          (stands_within text here (mark_text k.AnnexOpen) left (omega arith) e1)
          (ap (first AfterName here) e1 ∙ body_first here b.size left b.closed) b.inside b.outside);
      kinds = ap (λ (l : List PlainTerminal). mark k.AnnexOpen ∷ l) b.kinds;
    }

inner_closes : (p : PlainTerminal) (ks : List PlainTerminal) (text : List ℕ) (at : ℕ)
    → drop at text ≡ between p (mark k.AnnexClose) ++ (mark_text k.AnnexClose ++ text_behind (mark k.AnnexClose) ks)
    → ((to : ℕ) → drop to text ≡ text_behind (mark k.AnnexClose) ks → Outer Outside text to ks)
    → Inner text at (between p (mark k.AnnexClose) ++ (mark_text k.AnnexClose ++ text_behind (mark k.AnnexClose) ks))
    (mark k.AnnexClose ∷ ks)
inner_closes p ks text at e go =
    let gap = between p (mark k.AnnexClose) in
    let here = at + length gap in
    let left = text_behind (mark k.AnnexClose) ks in
    let e1 : drop here text ≡ mark_text k.AnnexClose ++ left =
    drop_past text at gap (mark_text k.AnnexClose ++ left) e in
    let more = go (here + 3) (drop_past text here (mark_text k.AnnexClose) left e1) in
    let within = stands_within text here (mark_text k.AnnexClose) left (omega arith) e1 in
    let cut : drop at (take here text) ≡ gap ++ [] =
    ap (λ n. drop at (take (at + n) text)) (let g : length gap ≡ length gap + 0 = omega arith in g)
    ∙ drop_cut text at gap (mark_text k.AnnexClose ++ left) 0 e in
    record {
      size = length gap;
      closed = close_gap gap left (is_gap p (mark k.AnnexClose));
      body = [];
      rest = more.tokens;
      inside =
          gap_skipped Inside (take here text) at [] gap [] (is_gap p (mark k.AnnexClose)) cut
          (ended Inside (take here text) here (let l = length-take-le here text (omega arith) in omega arith));
      outside = more.lexes;
      kinds = ap (λ (l : List PlainTerminal). mark k.AnnexClose ∷ l) more.kinds;
    }

inside_stays : (kind : PlainTerminal) → IsPlain kind → behind Inside kind ≡ Inside
inside_stays (mark k.AnnexClose) plain = absurd (plain.1 refl)
inside_stays (mark _) plain = refl
inside_stays _ plain = refl

inner_plain : (p kind : PlainTerminal) (ks : List PlainTerminal) (text : List ℕ) (at : ℕ)
    → AreNeighbours (kind_number kind) ks
    → IsPossibleTerminal Inside kind → ArePossibleTerminals (behind Inside kind) ks → IsPlain kind
    → drop at text ≡ between p kind ++ (kind_text kind ++ text_behind kind ks)
    → ((to : ℕ) → drop to text ≡ text_behind kind ks → Inner text to (text_behind kind ks) ks)
    → Inner text at (between p kind ++ (kind_text kind ++ text_behind kind ks)) (kind ∷ ks)
inner_plain p kind ks text at near said saids plain e go =
    let gap = between p kind in
    let left = text_behind kind ks in
    let here = at + length gap in
    let n = length (kind_text kind) in
    let e1 : drop here text ≡ kind_text kind ++ left = drop_past text at gap (kind_text kind ++ left) e in
    let more = go (here + n) (drop_past text here (kind_text kind) left e1) in
    let size = length gap + (n + more.size) in
    let ends = ends_behind (behind Inside kind) kind ks near saids in
    let l = lexed Inside kind (take more.size left) said plain (ends_cut kind left more.size ends) in
    let to_end : at + size ≡ here + n + more.size = omega arith in
    let from_here : at + size ≡ here + (n + more.size) = omega arith in
    let cut : drop at (take (at + size) text) ≡ gap ++ take (n + more.size) (kind_text kind ++ left) =
    drop_cut text at gap (kind_text kind ++ left) (n + more.size) e in
    let cut_here : drop here (take (at + size) text) ≡ kind_text kind ++ take more.size left =
    ap (λ m. drop here (take m text)) from_here ∙ drop_cut text here (kind_text kind) left more.size e1 in
    let inside : Lexes (behind Inside kind) (take (at + size) text) (here + n) more.body =
    subst (λ (x : Reading). Lexes x (take (at + size) text) (here + n) more.body) (sym (inside_stays kind plain))
    (subst (λ (m : ℕ). Lexes Inside (take m text) (here + n) more.body) (sym to_end) more.inside) in
    record {
      size = size;
      closed =
          close_past is_blank refl gap (kind_text kind ++ left) 0 (gap_blank gap (is_gap p kind))
          ∙ kind_past kind left (0 + length gap) said plain ends
          ∙ ap (λ m. close_from m left) (let g : 0 + length gap + n ≡ length gap + n + 0 = omega arith in g)
          ∙ close_at left (length gap + n) 0 more.size more.closed
          ∙ ap Some (let g : length gap + n + more.size ≡ size = omega arith in g);
      body = token l.class here n ∷ more.body;
      rest = more.rest;
      inside =
          gap_skipped Inside (take (at + size) text) at _ gap (take (n + more.size) (kind_text kind ++ left))
          (is_gap p kind) cut
          (token_taken Inside (take (at + size) text) here kind (take more.size left) more.body l cut_here inside);
      outside = subst (λ (m : ℕ). Lexes Outside text (m + 3) more.rest) (sym to_end) more.outside;
      kinds =
          spots_first true text l.class here kind left (more.body ++ token AnnexClose (at + size) 3 ∷ more.rest) ks e1
          l.read (l.inner true)
          (subst (λ (m : ℕ). kinds_of (spots_from true text (more.body ++ token AnnexClose m 3 ∷ more.rest)) ≡ ks)
          (sym to_end) more.kinds);
    }

mutual
  pub outer : (p : PlainTerminal) (ks : List PlainTerminal) (r : Reading) (text : List ℕ) (at : ℕ) → is_inside r ≡ false
      → AreNeighbours (kind_number p) ks → ArePossibleTerminals r ks → drop at text ≡ text_behind p ks
      → Outer r text at ks
  outer p [] r text at i near said e = record {
    tokens = [];
    lexes =
        gap_skipped r text at [] line_end [] line e
        (ended r text (at + 1) (let l = length-drop at text in let n = ap (length {A = ℕ}) e in omega arith));
    kinds = refl;
  }
  outer p (kind ∷ ks) r text at i (near, nears) (said, saids) e = elim (which kind) [
    | inl (inl x) ↦ (
        let after = opened r kind x said in
        subst (λ (q : PlainTerminal). Outer r text at (q ∷ ks)) (sym x)
        (subst (λ (s : Reading). Outer s text at (mark k.AnnexOpen ∷ ks)) (sym after)
        (outer_opens p ks text at (subst (λ (q : PlainTerminal). drop at text ≡ text_behind p (q ∷ ks)) x e)
        (λ to f. inner (mark k.AnnexOpen) ks text to
        (subst (λ (q : PlainTerminal). AreNeighbours (kind_number q) ks) x nears)
        (subst (λ (s : Reading). ArePossibleTerminals s ks) (ap₂ behind after x) saids) f))))
    | inl (inr x) ↦ absurd (let inside = closed_inside r kind x said in let never = ap is_inside inside in cc)
    | inr plain ↦ outer_plain p kind ks r text at i nears said saids plain e
        (λ s to o more f. outer kind ks s text to o nears more f)
  ]

  inner : (p : PlainTerminal) (ks : List PlainTerminal) (text : List ℕ) (at : ℕ) → AreNeighbours (kind_number p) ks
      → ArePossibleTerminals Inside ks
      → drop at text ≡ text_behind p ks → Inner text at (text_behind p ks) ks
  inner p [] text at near said e = absurd cc
  inner p (kind ∷ ks) text at (near, nears) (said, saids) e = elim (which kind) [
    | inl (inl x) ↦ absurd (let after = opened Inside kind x said in cc)
    | inl (inr x) ↦ subst (λ (q : PlainTerminal). Inner text at (text_behind p (q ∷ ks)) (q ∷ ks)) (sym x)
        (inner_closes p ks text at (subst (λ (q : PlainTerminal). drop at text ≡ text_behind p (q ∷ ks)) x e)
        (λ to f. outer (mark k.AnnexClose) ks Outside text to refl
        (subst (λ (q : PlainTerminal). AreNeighbours (kind_number q) ks) x nears)
        (subst (λ (q : PlainTerminal). ArePossibleTerminals (behind Inside q) ks) x saids) f))
    | inr plain ↦ inner_plain p kind ks text at nears said saids plain e
        (λ to f. inner kind ks text to nears (subst (λ (s : Reading). ArePossibleTerminals s ks)
        (inside_stays kind plain) saids) f)
  ]
