-- The table of taps, one tap at a time.
use Rattle.std.proofs.Common.{◌≡◌, ◌≢◌, ◌∙◌, ℕ, zero, suc, ◌+◌, ◌<◌, Bool, true, false, cond, nat_eq, List, [], ◌∷◌}
use Rattle.std.proofs.Common.{◌++◌, map, set, slice_index_or, refl, sym, ap, ap₂, arith}
use Rattle.std.specs.Prelude.{filter}
use Rattle.std.specs.List.{enumerate_from}
use Rattle.std.proofs.lemmas.Bool.{ne_eqb, eq-eqb}
use Rattle.std.proofs.lemmas.List.{append-nil}
use Rattle.pals_model.specs.declared.design.Component.{Component}
use Rattle.pals_model.specs.declared.design.Tap.{Tap}
use Rattle.sync_product.specs.proof.ComponentWiring.{tap_ports}

abbrev pub table_from : ℕ → List Component → List Tap → List (List ℕ)
table_from from cs taps = map (λ (numbered : ℕ × Component). tap_ports taps numbered.0) (enumerate_from from cs)

pub no_taps : (from : ℕ) (cs : List Component)
    → map (λ (c : Component). let none : List ℕ = [] in none) cs ≡ table_from from cs []
no_taps from [] = refl
no_taps from (c ∷ cs) = ap (λ t. [] ∷ t) (no_taps (from + 1) cs)

-- ---- one more tap
chosen : (b : Bool) (node : ℕ) (tap first : Tap) (rest : List Tap) → nat_eq first.source.0 node ≡ b
    → tap_ports (rest ++ tap ∷ []) node ≡ tap_ports rest node ++ tap_ports (tap ∷ []) node
    → tap_ports ((first ∷ rest) ++ tap ∷ []) node ≡ tap_ports (first ∷ rest) node ++ tap_ports (tap ∷ []) node
chosen true node tap first rest is later =
    let f = λ (t : Tap). t.out_port in
    ap (λ (b : Bool). map f (cond b (first ∷ filter (λ (t : Tap). nat_eq t.source.0 node) (rest ++ tap ∷ []))
    (filter (λ (t : Tap). nat_eq t.source.0 node) (rest ++ tap ∷ [])))) is
    ∙ ap (λ ports. first.out_port ∷ ports) later
    ∙ sym (ap (λ (b : Bool).
    map f (cond b (first ∷ filter (λ (t : Tap). nat_eq t.source.0 node) rest)
    (filter (λ (t : Tap). nat_eq t.source.0 node) rest)) ++ tap_ports (tap ∷ []) node) is)
chosen false node tap first rest is later =
    let f = λ (t : Tap). t.out_port in
    ap (λ (b : Bool). map f (cond b (first ∷ filter (λ (t : Tap). nat_eq t.source.0 node) (rest ++ tap ∷ []))
    (filter (λ (t : Tap). nat_eq t.source.0 node) (rest ++ tap ∷ [])))) is
    ∙ later
    ∙ sym (ap (λ (b : Bool).
    map f (cond b (first ∷ filter (λ (t : Tap). nat_eq t.source.0 node) rest)
    (filter (λ (t : Tap). nat_eq t.source.0 node) rest)) ++ tap_ports (tap ∷ []) node) is)

tap_ports-append : (taps : List Tap) (tap : Tap) (node : ℕ)
    → tap_ports (taps ++ tap ∷ []) node ≡ tap_ports taps node ++ tap_ports (tap ∷ []) node
tap_ports-append [] tap node = refl
tap_ports-append (first ∷ rest) tap node =
    chosen (nat_eq first.source.0 node) node tap first rest refl (tap_ports-append rest tap node)

-- a tap of this component, and one of another
tap_ports-here : (taps : List Tap) (tap : Tap) (node : ℕ) → tap.source.0 ≡ node
    → tap_ports (taps ++ tap ∷ []) node ≡ tap_ports taps node ++ tap.out_port ∷ []
tap_ports-here taps tap node here =
    tap_ports-append taps tap node
    ∙ ap (λ (b : Bool). tap_ports taps node ++ map (λ (t : Tap). t.out_port) (cond b (tap ∷ []) []))
    (eq-eqb tap.source.0 node here)

tap_ports-other : (taps : List Tap) (tap : Tap) (node : ℕ) → tap.source.0 ≢ node
    → tap_ports (taps ++ tap ∷ []) node ≡ tap_ports taps node
tap_ports-other taps tap node other =
    tap_ports-append taps tap node
    ∙ ap (λ (b : Bool). tap_ports taps node ++ map (λ (t : Tap). t.out_port) (cond b (tap ∷ []) []))
    (ne_eqb tap.source.0 node other)
    ∙ append-nil (tap_ports taps node)

others_stay : (from : ℕ) (cs : List Component) (taps : List Tap) (tap : Tap) → tap.source.0 < from
    → table_from from cs (taps ++ tap ∷ []) ≡ table_from from cs taps
others_stay from [] taps tap before = refl
others_stay from (c ∷ cs) taps tap before =
    let other : tap.source.0 ≢ from = omega arith in
    ap₂ (λ x xs. x ∷ xs) (tap_ports-other taps tap from other) (others_stay (from + 1) cs taps tap (omega arith))

pub with_tap : (from k : ℕ) (cs : List Component) (taps : List Tap) (tap : Tap) (ports : List ℕ)
    → tap.source.0 ≡ from + k → ports ≡ slice_index_or (table_from from cs taps) k ports
    → set (table_from from cs taps) k (ports ++ tap.out_port ∷ []) ≡ table_from from cs (taps ++ tap ∷ [])
with_tap from k [] taps tap ports at is = refl
with_tap from zero (c ∷ cs) taps tap ports at is =
    let here : tap.source.0 ≡ from = omega arith in
    ap₂ (λ x xs. x ∷ xs) (ap (λ ps. ps ++ tap.out_port ∷ []) is ∙ sym (tap_ports-here taps tap from here))
    (sym (others_stay (from + 1) cs taps tap (omega arith)))
with_tap from (suc k) (c ∷ cs) taps tap ports at is =
    let other : tap.source.0 ≢ from = omega arith in
    ap₂ (λ x xs. x ∷ xs) (sym (tap_ports-other taps tap from other))
    (with_tap (from + 1) k cs taps tap ports (omega arith) is)
