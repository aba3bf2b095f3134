-- The first connection into each port: its table, the loop that fills it, and the connections that are not first.
use Rattle.std.proofs.Common.{◌≡◌, ◌↔◌, ℕ, zero, suc, ◌+◌, ◌<◌, ◌≤◌, Bool, true, false, cond, ◌&&◌, nat_eq, List, []}
use Rattle.std.proofs.Common.{◌∷◌, ◌++◌, length, drop, get_or, Option, Some, None, IsTrue, refl, sym, ap, ◌∙◌, arith}
use Rattle.std.proofs.Common.{add-one, drop-cons}
use Rattle.std.specs.List.{position_from}
use Rattle.std.specs.Option.{option_or}
use Rattle.std.proofs.lemmas.Bool.{true≢false, eqb-true, eq-eqb, and_parts, ltb-true, lt-ltb}
use Rattle.std.proofs.lemmas.Grind.{common_steps}
use Rattle.std.proofs.lemmas.Option.{same_Some, none-some}
use Rattle.aadl_names.specs.declared.numbered_port.NumberedPort.{NumberedPort}
use Rattle.aadl_names.specs.declared.numbered_port.NumberedPort.TheVariants.{Own, Inner}
use Rattle.aadl_names.proofs.NameTables.{lookup-push, kept_by}
use Rattle.aadl_uses.specs.declared.connections_by_target.ConnectionPorts.{ConnectionPorts}
use Rattle.aadl_uses.specs.proof.NumbersByPort.{same_port, is_port, number_of}
use Rattle.aadl_uses.specs.proof.FirstConnections.{first_into, is_before}
use Rattle.aadl_uses.specs.SecondConnections.{target_in, IsDuplicate}

-- ---- ports

pub same_site-true : (a b : NumberedPort) → same_port a b ≡ true → a ≡ b
same_site-true (Own p) (Own q) e = ap Own (eqb-true p q e)
same_site-true (Own p) (Inner t q) e = absurd (true≢false (sym e))
same_site-true (Inner s p) (Own q) e = absurd (true≢false (sym e))
same_site-true (Inner s p) (Inner t q) e =
    let h = and_parts (nat_eq s t) (nat_eq p q) e in
    ap (λ n. Inner n p) (eqb-true s t h.0) ∙ ap (Inner t) (eqb-true p q h.1)

pub itself : (a : NumberedPort) → same_port a a ≡ true
itself (Own p) = eq-eqb p p refl
itself (Inner s p) = ap (λ b. b && nat_eq p p) (eq-eqb s s refl) ∙ eq-eqb p p refl

pub is_site-true : (a : NumberedPort) (o : Option NumberedPort) → is_port a o ≡ true → o ≡ Some a
is_site-true a None e = absurd (true≢false (sym e))
is_site-true a (Some b) e = ap Some (sym (same_site-true a b e))

pub of_site : (a : NumberedPort) (o : Option NumberedPort) → o ≡ Some a → is_port a o ≡ true
of_site a o e = ap (is_port a) e ∙ itself a

-- ---- one more number in a table
pub number-added : (table new : List (NumberedPort × ℕ)) (target : NumberedPort) (n : ℕ)
    → new ≡ table ++ (target, n) ∷ []
    → (other : NumberedPort) → number_of new other
    ≡ option_or (number_of table other) (cond (is_port other (Some target)) (Some n) None)
number-added table new target n more other =
    ap (λ t. number_of t other) more ∙ lookup-push (same_port other) table (target, n)

pub number-kept : (table : List (NumberedPort × ℕ)) (target : NumberedPort) (n m : ℕ) → number_of table target ≡ Some m
    → (other : NumberedPort) → number_of table other
    ≡ option_or (number_of table other) (cond (is_port other (Some target)) (Some n) None)
number-kept table target n m there other = kept_by (number_of table other) (same_port other target) n
    (λ s. (m, ap (number_of table) (same_site-true other target s) ∙ there))

pub none_more : (o : Option ℕ) → o ≡ option_or o None
none_more None = refl
none_more (Some n) = refl

-- ---- the loop over connections
or_assoc : (o : Option ℕ) (b : Bool) (n : ℕ) (more : Option ℕ)
    → option_or (option_or o (cond b (Some n) None)) more ≡ option_or o (cond b (Some n) more)
or_assoc None true n more = refl
or_assoc None false n more = refl
or_assoc (Some m) b n more = refl

left_at : (wires : List ConnectionPorts) (i : ℕ) (other : ConnectionPorts) → i < length wires
    → drop i wires ≡ get_or wires i other ∷ drop (i + 1) wires
left_at wires i other within =
    drop-cons wires i other within ∙ ap (λ n. get_or wires i other ∷ drop n wires) (sym (add-one i))

pub next_first : (wires : List ConnectionPorts) (i : ℕ) (other : ConnectionPorts) (old new whole : Option ℕ)
    (test : ConnectionPorts → Bool)
    → i < length wires
    → new ≡ option_or old (cond (test (get_or wires i other)) (Some i) None)
    → option_or old (position_from test i (drop i wires)) ≡ whole
    → option_or new (position_from test (i + 1) (drop (i + 1) wires)) ≡ whole
next_first wires i other old new whole test within more so_far =
    ap (λ (o : Option ℕ). option_or o (position_from test (i + 1) (drop (i + 1) wires))) more
    ∙ (or_assoc old (test (get_or wires i other)) i (position_from test (i + 1) (drop (i + 1) wires))
    ∙ (ap (λ (l : List ConnectionPorts). option_or old (position_from test i l)) (sym (left_at wires i other within))
    ∙ so_far))

none_left : (wires : List ConnectionPorts) (i : ℕ) → length wires ≤ i → drop i wires ≡ []
none_left wires i past = grind (arith, common_steps)

pub last_first : (wires : List ConnectionPorts) (i : ℕ) (now whole : Option ℕ) (test : ConnectionPorts → Bool)
    → length wires ≤ i
    → option_or now (position_from test i (drop i wires)) ≡ whole → now ≡ whole
last_first wires i now whole test past so_far = none_more now
    ∙ (ap (λ (l : List ConnectionPorts). option_or now (position_from test i l)) (sym (none_left wires i past))
    ∙ so_far)

-- ---- the first element that passes
-- it passes, and no earlier one does
pub record FirstAt (wires : List ConnectionPorts) (target : NumberedPort) (k n : ℕ) : Type 0 where
  pub index : ℕ
  pub is : n ≡ k + index
  pub passes : target_in wires index ≡ Some target

first_by : (w : ConnectionPorts) (ws : List ConnectionPorts) (target : NumberedPort) (k n : ℕ) (b : Bool)
    → is_port target w.target ≡ b
    → (position_from (λ x. is_port target x.target) (k + 1) ws ≡ Some n → FirstAt ws target (k + 1) n)
    → cond b (Some k) (position_from (λ x. is_port target x.target) (k + 1) ws) ≡ Some n → FirstAt (w ∷ ws) target k n
first_by w ws target k n true e rest f = let s = same_Some k n f in
    record { index = 0; is = omega arith; passes = is_site-true target w.target e }
first_by w ws target k n false e rest f = let r = rest f in let s = r.is in
    record { index = suc r.index; is = omega arith; passes = r.passes }

first_at : (ws : List ConnectionPorts) (target : NumberedPort) (k n : ℕ)
    → position_from (λ x. is_port target x.target) k ws ≡ Some n
    → FirstAt ws target k n
first_at [] target k n e = absurd (none-some n e)
first_at (w ∷ ws) target k n e =
    first_by w ws target k n (is_port target w.target) refl (first_at ws target (k + 1) n) e

-- if an element passes, the first one is at its position or before it
before_by : (w : ConnectionPorts) (ws : List ConnectionPorts) (target : NumberedPort) (k j : ℕ) (b : Bool)
    → is_port target w.target ≡ b
    → target_in (w ∷ ws) j ≡ Some target
    → ((i : ℕ) → target_in ws i ≡ Some target
    → (n : ℕ) × (position_from (λ x. is_port target x.target) (k + 1) ws ≡ Some n) × (n ≤ k + 1 + i))
    → (n : ℕ) × (cond b (Some k) (position_from (λ x. is_port target x.target) (k + 1) ws) ≡ Some n) × (n ≤ k + j)
before_by w ws target k j true e h rest = (k, refl, omega arith)
before_by w ws target k zero false e h rest = absurd (true≢false (sym (of_site target w.target h) ∙ e))
before_by w ws target k (suc j) false e h rest = let r = rest j h in let least = r.2 in (r.0, r.1, omega arith)

none_past : (j : ℕ) (target : NumberedPort) → target_in [] j ≡ Some target → ⊥
none_past zero target h = none-some target h
none_past (suc j) target h = none-some target h

first_before : (ws : List ConnectionPorts) (target : NumberedPort) (k j : ℕ) → target_in ws j ≡ Some target
    → (n : ℕ) × (position_from (λ x. is_port target x.target) k ws ≡ Some n) × (n ≤ k + j)
first_before [] target k j h = absurd (none_past j target h)
first_before (w ∷ ws) target k j h =
    before_by w ws target k j (is_port target w.target) refl h (λ i g. first_before ws target (k + 1) i g)

-- ---- connections that are not first

second_to : (wires : List ConnectionPorts) (number : ℕ) (target : NumberedPort) → target_in wires number ≡ Some target
    → (o : Option ℕ) → first_into wires target ≡ o
    → is_before o number ≡ true → IsDuplicate wires number
second_to wires number target h None e t = absurd (true≢false (sym t))
second_to wires number target h (Some n) e t =
    let f = first_at wires target 0 n e in
    let less = ltb-true n number t in
    let is = f.is in
    record { first = f.index; target = target; in_order = omega arith; earlier = f.passes; here = h }

pub second_from : (wires : List ConnectionPorts) (number : ℕ) (target : NumberedPort)
    → target_in wires number ≡ Some target
    → IsDuplicate wires number
    → is_before (first_into wires target) number ≡ true
second_from wires number target h s =
    let same : s.target ≡ target = same_Some s.target target (sym s.here ∙ h) in
    let r = first_before wires target 0 s.first (s.earlier ∙ ap Some same) in
    let least = r.2 in
    let less = s.in_order in
    ap (λ o. is_before o number) r.1 ∙ lt-ltb r.0 number (omega arith)

pub is_second-tells : (wires : List ConnectionPorts) (number : ℕ) (target : NumberedPort) (b : Bool)
    → target_in wires number ≡ Some target
    → b ≡ is_before (first_into wires target) number → IsTrue b ↔ IsDuplicate wires number
is_second-tells wires number target b h is = (
  λ t. second_to wires number target h (first_into wires target) refl (sym is ∙ t),
  λ s. is ∙ second_from wires number target h s,
)

pub no_second : (wires : List ConnectionPorts) (number : ℕ) → target_in wires number ≡ None
    → IsTrue false ↔ IsDuplicate wires number
no_second wires number h = (λ t. absurd (true≢false (sym t)), λ s. absurd (none-some s.target (sym h ∙ s.here)))
