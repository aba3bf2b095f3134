-- The tokens of a text match their classes: the law `tokens_are_as_written`.
use Rattle.std.proofs.Common.{◌≡◌, ℕ, zero, suc, ◌+◌, ◌-◌, ◌<◌, ◌≤◌, Bool, true, false, ◌∙◌, sym, ap, subst, refl, List}
use Rattle.std.proofs.Common.{[], ◌∷◌, ◌++◌, append_assoc, append-nil, length, take, drop, arith, Some, None, nat_eq}
use Rattle.std.specs.Prelude.{codes, if◌then◌else◌}
use Rattle.std.specs.List.{All, starts_with}
use Rattle.std.specs.Str.{str_eq_ignore_ascii_case}
use Rattle.std.proofs.lemmas.List.{length-drop, length-take-le, drop-drop, drop-take, take-take, take_all}
use Rattle.std.proofs.lemmas.List.Elements.{All-drop, All-take}
use Rattle.std.proofs.Math.Seq.{drop-append_seam, take-append_seam}
use Rattle.aadl_lex.specs.declared.token.Token.{Token}
use Rattle.aadl_lex.specs.declared.token.TokenKind.{TokenKind}
use Rattle.aadl_lex.specs.declared.token.TokenKind.TheVariants.{Word, Whole, Real, Quoted, Symbol, AnnexOpen}
use Rattle.aadl_lex.specs.declared.token.TokenKind.TheVariants.{AnnexClose, Unread}
use Rattle.aadl_lex.specs.declared.rules.First.{First}
use Rattle.aadl_lex.specs.declared.rules.First.TheVariants.{Skipped, Taken, Body}
use Rattle.aadl_lex.specs.declared.rules.Reading.{Reading}
use Rattle.aadl_lex.specs.declared.rules.Reading.TheVariants.{Outside, AfterName, Inside}
use Rattle.aadl_lex.specs.Rules.{is_word, can_open, close_from, first, after}
use Rattle.aadl_lex.specs.TokensAndFirstFaults.{token, bytes_of, Lexes, ended, skips, takes, reads, AreTokensOf}
use Rattle.aadl_lex.specs.proof.TokenSpellings.{IsSpelled, AreSpelled, behind, IsWordAt, AreAmongTokensOf}
use Rattle.aadl_lex.proofs.TokenOrder.{stands_within}
use Rattle.aadl_lex.proofs.AnnexEnds.{none_drop, none_before, closes_of, closes_bytes, starts_exact}
use Rattle.aadl_lex.proofs.FrontSpellings.{Shape, first_shape, taken_spelled}

-- the shape of the piece at a position
shape_at : (r : Reading) (text : List ℕ) (at : ℕ) (x : First) → at < length text → first r at (drop at text) ≡ x
    → Shape r (drop at text) x
shape_at r text at x within e =
    subst (λ (y : First). Shape r (drop at text) y) e
    (first_shape r at (drop at text) (let l = length-drop at text in omega arith))

named : (b : Bool) → can_open (if b then AfterName else Outside) ≡ true
named true = refl
named false = refl

-- only the ends of a body that is read change the mode into it and out of it
after_opens : (r : Reading) (kind : TokenKind) (b : List ℕ) → can_open (after r kind b) ≡ can_open r
after_opens Inside kind b = refl
after_opens Outside Word b = named (str_eq_ignore_ascii_case b (codes "behavior_specification"))
after_opens Outside _ b = refl
after_opens AfterName Word b = named (str_eq_ignore_ascii_case b (codes "behavior_specification"))
after_opens AfterName _ b = refl

inside_is : (r : Reading) → can_open r ≡ false → r ≡ Inside
inside_is Inside e = refl
inside_is Outside e = absurd cc
inside_is AfterName e = absurd cc

-- the text is a prefix of another
record IsFront (text full : List ℕ) : Type 0 where
  is : text ≡ take (length text) full
  within : length text ≤ length full

front_bytes : (text full : List ℕ) (kind : TokenKind) (at n : ℕ) → IsFront text full → at + n ≤ length text
    → bytes_of full (token kind at n) ≡ take n (drop at text)
front_bytes text full kind at n f within =
    let left = length text - at in
    let whole : at + left ≡ length text = omega arith in
    let here : drop at text ≡ take left (drop at full) = ap (drop at) (f.is ∙ ap (λ m. take m full) (sym whole))
    ∙ drop-take at left full in
    ap (λ m. take m (drop at full)) (let g : at + n - at ≡ n = omega arith in g)
    ∙ sym (ap (take n) here ∙ take-take n left (drop at full) (omega arith))

front_cut : (text full : List ℕ) (m : ℕ) → IsFront text full → m ≤ length text → IsFront (take m text) full
front_cut text full m f within =
    let size = length-take-le m text within in
    let inside = f.within in
    record {
      is = ap (take m) f.is ∙ take-take m (length text) full within ∙ ap (λ n. take n full) (sym size);
      within = omega arith;
    }

-- the bytes that open a body and close it
open_bytes : (s : List ℕ) → starts_with nat_eq s (codes "{**") ≡ true → take 3 s ≡ codes "{**"
open_bytes s e = let exact = starts_exact 123 42 42 s e in ap (take 3) exact.1

close_bytes : (at n : ℕ) (text : List ℕ) → close_from 0 (drop at text) ≡ Some n
    → take 3 (drop (at + n) text) ≡ codes "**}"
close_bytes at n text e =
    ap (take 3) (sym (drop-drop n at text)) ∙ closes_bytes (drop at text) n (closes_of (drop at text) n e)

spelled_lexes : (full : List ℕ) (r : Reading) (text : List ℕ) (at : ℕ) (ts : List Token) → IsFront text full
    → at ≤ length text → (r ≡ Inside → close_from 0 (drop at text) ≡ None)
    → Lexes r text at ts → (more : List Token) → ((s : Reading) → can_open s ≡ can_open r → AreSpelled full s more)
    → AreSpelled full r (ts ++ more)
spelled_lexes full _ _ _ _ front le clear (ended r text at g) more rest = rest r refl
spelled_lexes full _ _ _ _ front le clear (skips r text at n ts g e l) more rest =
    let w = stands_within r text at (Skipped n) g e in
    let size = length-drop at text in
    spelled_lexes full r text (at + n) ts front (omega (arith, w.1))
    (λ i. ap (close_from 0) (sym (drop-drop n at text)) ∙ none_drop (drop at text) n 0 (clear i)) l more rest
spelled_lexes full _ _ _ _ front le clear (takes r text at kind n ts g e l) more rest =
    let w = stands_within r text at (Taken kind n) g e in
    let size = length-drop at text in
    let within : at + n ≤ length text = omega (arith, w.1) in
    let b = take n (drop at text) in
    let s = after r kind b in
    let same : can_open s ≡ can_open r = after_opens r kind b in
    let clear_on : s ≡ Inside → close_from 0 (drop (at + n) text) ≡ None =
    λ (i : s ≡ Inside). ap (close_from 0) (sym (drop-drop n at text))
    ∙ none_drop (drop at text) n 0 (clear (inside_is r (sym same ∙ ap can_open i))) in
    let p = taken_spelled r (drop at text) kind n (shape_at r text at (Taken kind n) g e) clear in
    let on = spelled_lexes full s text (at + n) ts front within clear_on l more (λ q i. rest q (i ∙ same)) in
    subst (λ (x : List ℕ). IsSpelled r kind x × AreSpelled full (behind r kind x) (ts ++ more))
    (sym (front_bytes text full kind at n front within))
    (p.0, subst (λ (q : Reading). AreSpelled full q (ts ++ more)) (sym (p.1 b)) on)
spelled_lexes full _ _ _ _ front le clear (reads r text at n body ts g e b l) more rest =
    let shape = shape_at r text at (Body n) g e in
    let w = stands_within r text at (Body n) g e in
    let size = length-drop at text in
    let stop = at + 3 + n in
    let within : stop + 3 ≤ length text = omega arith in
    let cut = length-take-le stop text (omega arith) in
    let found : close_from 0 (drop (at + 3) text) ≡ Some n = ap (close_from 0) (sym (drop-drop 3 at text)) ∙ shape.2 in
    let none : close_from 0 (drop (at + 3) (take stop text)) ≡ None = ap (close_from 0) (drop-take (at + 3) n text)
    ∙ none_before (drop (at + 3) text) n found in
    let close = token AnnexClose stop 3 in
    let tail : AreSpelled full Outside (ts ++ more) =
    spelled_lexes full Outside text (stop + 3) ts front within (λ i. absurd (let f = ap can_open i in cc)) l more
    (λ q i. rest q (i ∙ sym (ap can_open shape.0))) in
    let closed : take 3 (drop stop text) ≡ codes "**}" = close_bytes (at + 3) n text found in
    let whole : AreSpelled full Inside (body ++ close ∷ (ts ++ more)) =
    spelled_lexes full Inside (take stop text) (at + 3) body (front_cut text full stop front (omega arith))
    (omega arith) (λ _. none) b (close ∷ (ts ++ more))
    (λ q i. ((inside_is q i, front_bytes text full AnnexClose stop 3 front within ∙ closed), tail)) in (
      (shape.0, front_bytes text full AnnexOpen at 3 front (omega arith) ∙ open_bytes (drop at text) shape.1),
      subst (AreSpelled full Inside) (sym (append_assoc body (close ∷ ts) more)) whole,
    )

pub spelled_tokens : (text : List ℕ) (ts : List Token) → AreTokensOf text ts → AreSpelled text Outside ts
spelled_tokens text ts h =
    let front : IsFront text text =
    record { is = sym (take_all (length text) text (omega arith)); within = omega arith } in
    let never : Outside ≡ Inside → ⊥ = λ i. let f = ap can_open i in cc in
    subst (AreSpelled text Outside) (append-nil ts)
    (spelled_lexes text Outside text 0 ts front (omega arith) (λ i. absurd (never i)) h.lexed []
    (λ q i e. let f = ap can_open e in cc))

-- words among them

word_of : (r : Reading) (kind : TokenKind) (b : List ℕ) → IsSpelled r kind b → kind ≡ Word → is_word b ≡ true
word_of r Word b h e = h
word_of r (Whole v) b h e = absurd cc
word_of r Real b h e = absurd cc
word_of r Quoted b h e = absurd cc
word_of r Symbol b h e = absurd cc
word_of r AnnexOpen b h e = absurd cc
word_of r AnnexClose b h e = absurd cc
word_of r Unread b h e = absurd cc

words_each : (text : List ℕ) (r : Reading) (ts : List Token) → AreSpelled text r ts → All (IsWordAt text) ts
words_each text r [] h k d less = absurd (omega arith)
words_each text r (t ∷ ts) h zero d less = word_of r t.kind (bytes_of text t) h.0
words_each text r (t ∷ ts) h (suc k) d less =
    words_each text (behind r t.kind (bytes_of text t)) ts h.1 k d (omega arith)

pub words_of : (text : List ℕ) (ts : List Token) → AreTokensOf text ts → All (IsWordAt text) ts
words_of text ts h = words_each text Outside ts (spelled_tokens text ts h)

pub words_among : (text : List ℕ) (ts : List Token) → AreAmongTokensOf text ts → All (IsWordAt text) ts
words_among text ts h =
    let all = words_of text (h.before ++ (ts ++ h.behind)) h.lexed in
    let back =
    subst (All (IsWordAt text)) (drop-append_seam h.before (ts ++ h.behind))
    (All-drop (IsWordAt text) (length h.before) (h.before ++ (ts ++ h.behind)) all) in
    subst (All (IsWordAt text)) (take-append_seam ts h.behind)
    (All-take (IsWordAt text) (length ts) (ts ++ h.behind) back)
