-- The tokens of a text are in order within the text: the law `tokens_in_order`.
use Rattle.std.proofs.Common.{◌≡◌, ℕ, zero, suc, ◌+◌, ◌<◌, ◌≤◌, List, [], ◌∷◌, ◌++◌, length, drop, take, arith, subst}
use Rattle.std.proofs.lemmas.List.{length-drop, length-take-le}
use Rattle.std.specs.List.{All}
use Rattle.aadl_lex.specs.declared.token.Token.{Token}
use Rattle.aadl_lex.specs.declared.token.TokenKind.TheVariants.{AnnexClose}
use Rattle.aadl_lex.specs.declared.rules.First.{First}
use Rattle.aadl_lex.specs.declared.rules.First.TheVariants.{Skipped, Taken, Body}
use Rattle.aadl_lex.specs.declared.rules.Reading.{Reading}
use Rattle.aadl_lex.specs.declared.rules.Reading.TheVariants.{Outside, Inside}
use Rattle.aadl_lex.specs.Rules.{first, after, IsWithin}
use Rattle.aadl_lex.specs.TokensAndFirstFaults.{token, Lexes, ended, skips, takes, reads, AreTokensOf, AreInOrder}
use Rattle.aadl_lex.proofs.FrontExtents.{first_within}

order_from : (from behind to : ℕ) (ts : List Token) → from ≤ behind → AreInOrder behind to ts → AreInOrder from to ts
order_from from behind to [] le h = omega arith
order_from from behind to (t ∷ ts) le h = (omega arith, h.1, h.2)

order_append : (from middle to : ℕ) (ts us : List Token) → AreInOrder from middle ts → AreInOrder middle to us
    → AreInOrder from to (ts ++ us)
order_append from middle to [] us h k = order_from from middle to us h k
order_append from middle to (t ∷ ts) us h k = (h.0, h.1, order_append t.end middle to ts us h.2 k)

pub order_le : (from to : ℕ) (ts : List Token) → AreInOrder from to ts → from ≤ to
order_le from to [] h = h
order_le from to (t ∷ ts) h = let rest = order_le t.end to ts h.2 in omega (arith, h.0, h.1)

-- the piece at a position is within the rest of the text
pub stands_within : (r : Reading) (text : List ℕ) (at : ℕ) (what : First) → at < length text
    → first r at (drop at text) ≡ what → IsWithin (length (drop at text)) what
stands_within r text at what g e =
    subst (λ (x : First). IsWithin (length (drop at text)) x) e
    (first_within r at (drop at text) (omega (arith, length-drop at text)))

pub order_lexes : (r : Reading) (text : List ℕ) (at : ℕ) (ts : List Token) → at ≤ length text → Lexes r text at ts
    → AreInOrder at (length text) ts
order_lexes _ _ _ _ le (ended r text at g) = le
order_lexes _ _ _ _ le (skips r text at n ts g e l) =
    let w = stands_within r text at (Skipped n) g e in
    let rest = order_lexes r text (at + n) ts (omega (arith, w.1, length-drop at text)) l in
    order_from at (at + n) (length text) ts (omega arith) rest
order_lexes _ _ _ _ le (takes r text at kind n ts g e l) =
    let w = stands_within r text at (Taken kind n) g e in
    let rest =
    order_lexes (after r kind (take n (drop at text))) text (at + n) ts
    (omega (arith, w.1, length-drop at text)) l in
    (omega arith, omega (arith, w.0), rest)
order_lexes _ _ _ _ le (reads r text at n body ts g e b l) =
    let w = stands_within r text at (Body n) g e in
    let close : at + 3 + n + 3 ≤ length text = omega (arith, w, length-drop at text) in
    let len : length (take (at + 3 + n) text) ≡ at + 3 + n = length-take-le (at + 3 + n) text (omega arith) in
    let inner = order_lexes Inside (take (at + 3 + n) text) (at + 3) body (omega arith) b in
    let ends = subst (λ (x : ℕ). AreInOrder (at + 3) x body) len inner in
    let rest = order_lexes Outside text (at + 3 + n + 3) ts close l in (
      omega arith,
      omega arith,
      order_append (at + 3) (at + 3 + n) (length text) body (token AnnexClose (at + 3 + n) 3 ∷ ts) ends
          (omega arith, omega arith, rest),
    )

pub order_tokens : (text : List ℕ) (ts : List Token) → AreTokensOf text ts → AreInOrder 0 (length text) ts
order_tokens text ts h = order_lexes Outside text 0 ts (omega arith) h.lexed

pub order_each : (from to : ℕ) (ts : List Token) → AreInOrder from to ts
    → All (λ t. (t.start < t.end) × (t.end ≤ to)) ts
order_each from to [] h k d less = absurd (omega arith)
order_each from to (t ∷ ts) h zero d less = (h.1, order_le t.end to ts h.2)
order_each from to (t ∷ ts) h (suc k) d less = order_each t.end to ts h.2 k d (omega arith)
