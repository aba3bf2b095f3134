-- A text has one list of tokens or one first fault, but not both: the law `one_answer`.
use Rattle.std.proofs.Common.{◌≡◌, ℕ, ◌+◌, ◌∙◌, List, ◌∷◌, ◌++◌, drop, take, arith, refl, sym, ap, subst}
use Rattle.aadl_lex.specs.declared.token.Token.{Token}
use Rattle.aadl_lex.specs.declared.token.TokenKind.{TokenKind}
use Rattle.aadl_lex.specs.declared.token.TokenKind.TheVariants.{AnnexOpen, AnnexClose}
use Rattle.aadl_lex.specs.declared.fault.LexFault.{LexFault}
use Rattle.aadl_lex.specs.declared.rules.First.{First}
use Rattle.aadl_lex.specs.declared.rules.First.TheVariants.{Skipped, Taken, Body, Refused}
use Rattle.aadl_lex.specs.declared.rules.Reading.{Reading}
use Rattle.aadl_lex.specs.declared.rules.Reading.TheVariants.{Outside, Inside}
use Rattle.aadl_lex.specs.Rules.{first, after}
use Rattle.aadl_lex.specs.TokensAndFirstFaults.{token, Lexes, ended, skips, takes, reads, Faults, refused, past_skipped}
use Rattle.aadl_lex.specs.TokensAndFirstFaults.{past_token}
use Rattle.aadl_lex.specs.TokensAndFirstFaults.{in_body, past_body, AreTokensOf, IsFaultOf, not_utf8, not_lexed}

record SameTaken (j k : TokenKind) (m n : ℕ) : Type 0 where
  kind : j ≡ k
  len : m ≡ n

same_taken : (a : First) (j k : TokenKind) (m n : ℕ) → a ≡ Taken j m → a ≡ Taken k n → SameTaken j k m n
same_taken a j k m n e f = record { kind = cc; len = cc }

same_skipped : (a : First) (m n : ℕ) → a ≡ Skipped m → a ≡ Skipped n → m ≡ n
same_skipped a m n e f = cc

same_body : (a : First) (m n : ℕ) → a ≡ Body m → a ≡ Body n → m ≡ n
same_body a m n e f = cc

same_refused : (a : First) (f g : LexFault) → a ≡ Refused f → a ≡ Refused g → f ≡ g
same_refused a f g e h = cc

pub lexes_one : (r : Reading) (text : List ℕ) (at : ℕ) (ts us : List Token) → Lexes r text at ts
    → Lexes r text at us → ts ≡ us
lexes_one _ _ _ _ _ (ended r text at g) (ended _ _ _ _) = refl
lexes_one _ _ _ _ _ (ended r text at g) (skips _ _ _ m us h f k) = absurd (omega arith)
lexes_one _ _ _ _ _ (ended r text at g) (takes _ _ _ kind m us h f k) = absurd (omega arith)
lexes_one _ _ _ _ _ (ended r text at g) (reads _ _ _ m body us h f k l) = absurd (omega arith)
lexes_one _ _ _ _ _ (skips r text at n ts g e l) (ended _ _ _ h) = absurd (omega arith)
lexes_one _ _ _ _ _ (skips r text at n ts g e l) (skips _ _ _ m us h f k) =
    let len = same_skipped (first r at (drop at text)) n m e f in
    lexes_one r text (at + n) ts us l (subst (λ (x : ℕ). Lexes r text (at + x) us) (sym len) k)
lexes_one _ _ _ _ _ (skips r text at n ts g e l) (takes _ _ _ kind m us h f k) = absurd cc
lexes_one _ _ _ _ _ (skips r text at n ts g e l) (reads _ _ _ m body us h f k o) = absurd cc
lexes_one _ _ _ _ _ (takes r text at j n ts g e l) (ended _ _ _ h) = absurd (omega arith)
lexes_one _ _ _ _ _ (takes r text at j n ts g e l) (skips _ _ _ m us h f k) = absurd cc
lexes_one _ _ _ _ _ (takes r text at j n ts g e l) (takes _ _ _ k m us h f p) =
    let same = same_taken (first r at (drop at text)) j k n m e f in
    let next : Lexes (after r j (take n (drop at text))) text (at + n) us =
    subst (λ (x : TokenKind). Lexes (after r x (take n (drop at text))) text (at + n) us) (sym same.kind)
    (subst (λ (x : ℕ). Lexes (after r k (take x (drop at text))) text (at + x) us) (sym same.len) p) in
    ap (λ (x : List Token). token j at n ∷ x) (lexes_one (after r j (take n (drop at text))) text (at + n) ts us l next)
    ∙ ap (λ (x : TokenKind). token x at n ∷ us) same.kind ∙ ap (λ (x : ℕ). token k at x ∷ us) same.len
lexes_one _ _ _ _ _ (takes r text at j n ts g e l) (reads _ _ _ m body us h f k o) = absurd cc
lexes_one _ _ _ _ _ (reads r text at n body ts g e b l) (ended _ _ _ h) = absurd (omega arith)
lexes_one _ _ _ _ _ (reads r text at n body ts g e b l) (skips _ _ _ m us h f k) = absurd cc
lexes_one _ _ _ _ _ (reads r text at n body ts g e b l) (takes _ _ _ kind m us h f k) = absurd cc
lexes_one _ _ _ _ _ (reads r text at n body ts g e b l) (reads _ _ _ m other us h f o k) =
    let len = same_body (first r at (drop at text)) n m e f in
    let inner =
    lexes_one Inside (take (at + 3 + n) text) (at + 3) body other b
    (subst (λ (x : ℕ). Lexes Inside (take (at + 3 + x) text) (at + 3) other) (sym len) o) in
    let rest =
    lexes_one Outside text (at + 3 + n + 3) ts us l
    (subst (λ (x : ℕ). Lexes Outside text (at + 3 + x + 3) us) (sym len) k) in
    ap (λ (x : List Token). token AnnexOpen at 3 ∷ x ++ token AnnexClose (at + 3 + n) 3 ∷ ts) inner
    ∙ ap (λ (x : List Token). token AnnexOpen at 3 ∷ other ++ token AnnexClose (at + 3 + n) 3 ∷ x) rest
    ∙ ap (λ (x : ℕ). token AnnexOpen at 3 ∷ other ++ token AnnexClose (at + 3 + x) 3 ∷ us) len

pub lexes_or_faults : (r : Reading) (text : List ℕ) (at : ℕ) (ts : List Token) (f : LexFault) → Lexes r text at ts
    → Faults r text at f → ⊥
lexes_or_faults _ _ _ _ _ (ended r text at g) (refused _ _ _ y i f) = omega arith
lexes_or_faults _ _ _ _ _ (ended r text at g) (past_skipped _ _ _ m y i f k) = omega arith
lexes_or_faults _ _ _ _ _ (ended r text at g) (past_token _ _ _ kind m y i f k) = omega arith
lexes_or_faults _ _ _ _ _ (ended r text at g) (in_body _ _ _ m y i f k) = omega arith
lexes_or_faults _ _ _ _ _ (ended r text at g) (past_body _ _ _ m body y i f o k) = omega arith
lexes_or_faults _ _ _ _ _ (skips r text at n ts g e l) (refused _ _ _ y i f) = cc
lexes_or_faults _ _ _ _ _ (skips r text at n ts g e l) (past_skipped _ _ _ m y i f k) =
    let len = same_skipped (first r at (drop at text)) n m e f in
    lexes_or_faults r text (at + n) ts y l (subst (λ (z : ℕ). Faults r text (at + z) y) (sym len) k)
lexes_or_faults _ _ _ _ _ (skips r text at n ts g e l) (past_token _ _ _ kind m y i f k) = cc
lexes_or_faults _ _ _ _ _ (skips r text at n ts g e l) (in_body _ _ _ m y i f k) = cc
lexes_or_faults _ _ _ _ _ (skips r text at n ts g e l) (past_body _ _ _ m body y i f o k) = cc
lexes_or_faults _ _ _ _ _ (takes r text at j n ts g e l) (refused _ _ _ y i f) = cc
lexes_or_faults _ _ _ _ _ (takes r text at j n ts g e l) (past_skipped _ _ _ m y i f k) = cc
lexes_or_faults _ _ _ _ _ (takes r text at j n ts g e l) (past_token _ _ _ k m y i f p) =
    let same = same_taken (first r at (drop at text)) j k n m e f in
    lexes_or_faults (after r j (take n (drop at text))) text (at + n) ts y l
    (subst (λ (z : TokenKind). Faults (after r z (take n (drop at text))) text (at + n) y) (sym same.kind)
    (subst (λ (z : ℕ). Faults (after r k (take z (drop at text))) text (at + z) y) (sym same.len) p))
lexes_or_faults _ _ _ _ _ (takes r text at j n ts g e l) (in_body _ _ _ m y i f k) = cc
lexes_or_faults _ _ _ _ _ (takes r text at j n ts g e l) (past_body _ _ _ m body y i f o k) = cc
lexes_or_faults _ _ _ _ _ (reads r text at n body ts g e b l) (refused _ _ _ y i f) = cc
lexes_or_faults _ _ _ _ _ (reads r text at n body ts g e b l) (past_skipped _ _ _ m y i f k) = cc
lexes_or_faults _ _ _ _ _ (reads r text at n body ts g e b l) (past_token _ _ _ kind m y i f k) = cc
lexes_or_faults _ _ _ _ _ (reads r text at n body ts g e b l) (in_body _ _ _ m y i f k) =
    let len = same_body (first r at (drop at text)) n m e f in
    lexes_or_faults Inside (take (at + 3 + n) text) (at + 3) body y b
    (subst (λ (z : ℕ). Faults Inside (take (at + 3 + z) text) (at + 3) y) (sym len) k)
lexes_or_faults _ _ _ _ _ (reads r text at n body ts g e b l) (past_body _ _ _ m other y i f o k) =
    let len = same_body (first r at (drop at text)) n m e f in
    lexes_or_faults Outside text (at + 3 + n + 3) ts y l
    (subst (λ (z : ℕ). Faults Outside text (at + 3 + z + 3) y) (sym len) k)

pub faults_one : (r : Reading) (text : List ℕ) (at : ℕ) (f g : LexFault) → Faults r text at f
    → Faults r text at g → f ≡ g
faults_one _ _ _ _ _ (refused r text at x h e) (refused _ _ _ y i f) = same_refused (first r at (drop at text)) x y e f
faults_one _ _ _ _ _ (refused r text at x h e) (past_skipped _ _ _ m y i f k) = absurd cc
faults_one _ _ _ _ _ (refused r text at x h e) (past_token _ _ _ kind m y i f k) = absurd cc
faults_one _ _ _ _ _ (refused r text at x h e) (in_body _ _ _ m y i f k) = absurd cc
faults_one _ _ _ _ _ (refused r text at x h e) (past_body _ _ _ m body y i f o k) = absurd cc
faults_one _ _ _ _ _ (past_skipped r text at n x h e l) (refused _ _ _ y i f) = absurd cc
faults_one _ _ _ _ _ (past_skipped r text at n x h e l) (past_skipped _ _ _ m y i f k) =
    let len = same_skipped (first r at (drop at text)) n m e f in
    faults_one r text (at + n) x y l (subst (λ (z : ℕ). Faults r text (at + z) y) (sym len) k)
faults_one _ _ _ _ _ (past_skipped r text at n x h e l) (past_token _ _ _ kind m y i f k) = absurd cc
faults_one _ _ _ _ _ (past_skipped r text at n x h e l) (in_body _ _ _ m y i f k) = absurd cc
faults_one _ _ _ _ _ (past_skipped r text at n x h e l) (past_body _ _ _ m body y i f o k) = absurd cc
faults_one _ _ _ _ _ (past_token r text at j n x h e l) (refused _ _ _ y i f) = absurd cc
faults_one _ _ _ _ _ (past_token r text at j n x h e l) (past_skipped _ _ _ m y i f k) = absurd cc
faults_one _ _ _ _ _ (past_token r text at j n x h e l) (past_token _ _ _ k m y i f p) =
    let same = same_taken (first r at (drop at text)) j k n m e f in
    faults_one (after r j (take n (drop at text))) text (at + n) x y l
    (subst (λ (z : TokenKind). Faults (after r z (take n (drop at text))) text (at + n) y) (sym same.kind)
    (subst (λ (z : ℕ). Faults (after r k (take z (drop at text))) text (at + z) y) (sym same.len) p))
faults_one _ _ _ _ _ (past_token r text at j n x h e l) (in_body _ _ _ m y i f k) = absurd cc
faults_one _ _ _ _ _ (past_token r text at j n x h e l) (past_body _ _ _ m body y i f o k) = absurd cc
faults_one _ _ _ _ _ (in_body r text at n x h e l) (refused _ _ _ y i f) = absurd cc
faults_one _ _ _ _ _ (in_body r text at n x h e l) (past_skipped _ _ _ m y i f k) = absurd cc
faults_one _ _ _ _ _ (in_body r text at n x h e l) (past_token _ _ _ kind m y i f k) = absurd cc
faults_one _ _ _ _ _ (in_body r text at n x h e l) (in_body _ _ _ m y i f k) =
    let len = same_body (first r at (drop at text)) n m e f in
    faults_one Inside (take (at + 3 + n) text) (at + 3) x y l
    (subst (λ (z : ℕ). Faults Inside (take (at + 3 + z) text) (at + 3) y) (sym len) k)
faults_one _ _ _ _ _ (in_body r text at n x h e l) (past_body _ _ _ m body y i f o k) =
    let len = same_body (first r at (drop at text)) n m e f in
    absurd (lexes_or_faults Inside (take (at + 3 + n) text) (at + 3) body x
    (subst (λ (z : ℕ). Lexes Inside (take (at + 3 + z) text) (at + 3) body) (sym len) o) l)
faults_one _ _ _ _ _ (past_body r text at n body x h e b l) (refused _ _ _ y i f) = absurd cc
faults_one _ _ _ _ _ (past_body r text at n body x h e b l) (past_skipped _ _ _ m y i f k) = absurd cc
faults_one _ _ _ _ _ (past_body r text at n body x h e b l) (past_token _ _ _ kind m y i f k) = absurd cc
faults_one _ _ _ _ _ (past_body r text at n body x h e b l) (in_body _ _ _ m y i f k) =
    let len = same_body (first r at (drop at text)) n m e f in
    absurd (lexes_or_faults Inside (take (at + 3 + n) text) (at + 3) body y b
    (subst (λ (z : ℕ). Faults Inside (take (at + 3 + z) text) (at + 3) y) (sym len) k))
faults_one _ _ _ _ _ (past_body r text at n body x h e b l) (past_body _ _ _ m other y i f o k) =
    let len = same_body (first r at (drop at text)) n m e f in
    faults_one Outside text (at + 3 + n + 3) x y l
    (subst (λ (z : ℕ). Faults Outside text (at + 3 + z + 3) y) (sym len) k)

pub one_list : (text : List ℕ) (ts us : List Token) → AreTokensOf text ts → AreTokensOf text us → ts ≡ us
one_list text ts us l k = lexes_one Outside text 0 ts us l.lexed k.lexed

pub one_fault : (text : List ℕ) (f g : LexFault) → IsFaultOf text f → IsFaultOf text g → f ≡ g
one_fault _ _ _ (not_utf8 text h) (not_utf8 _ _) = refl
one_fault _ _ _ (not_utf8 text h) (not_lexed _ g utf8 k) = absurd (h utf8)
one_fault _ _ _ (not_lexed text f utf8 l) (not_utf8 _ h) = absurd (h utf8)
one_fault _ _ _ (not_lexed text f utf8 l) (not_lexed _ g _ k) = faults_one Outside text 0 f g l k

pub not_both : (text : List ℕ) (ts : List Token) (f : LexFault) → AreTokensOf text ts → IsFaultOf text f → ⊥
not_both _ ts _ l (not_utf8 text h) = h l.utf8
not_both _ ts _ l (not_lexed text f utf8 k) = lexes_or_faults Outside text 0 ts f l.lexed k
