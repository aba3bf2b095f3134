-- A message is due to a node if and only if the bus finds one on its links.
use Rattle.std.proofs.Common.{◌≡◌, ◌↔◌, ℕ, zero, suc, ◌+◌, nat_eq, Bool, true, false, ◌||◌, cond, List, [], ◌∷◌, map}
use Rattle.std.proofs.Common.{filter, slice_get, Some, IsTrue, refl, sym, ap, ◌∙◌, arith}
use Rattle.std.specs.List.{list_any, enumerate_from}
use Rattle.std.proofs.lemmas.Bool.{eq-eqb, eqb-true, false≢true}
use Rattle.std.proofs.Math.Bool.{or-true}
use Rattle.std.proofs.lemmas.Map.Keys.{any_passes_from_place}
use Rattle.std.specs.Cmp.{both_ways}
use Rattle.pals_model.specs.declared.design.Link.{Link}
use Rattle.bus_machine.specs.BusStates.{flight_at}
use Rattle.run_laws.specs.TraceRules.{is_due, has_due}
use Rattle.pals_bus.specs.proof.DueMessages.{HasDue}
use Rattle.pals_bus.specs.BusValues.{BusValue}

-- ---- one of a list

abbrev AnyOf : {X : Type 0} → (X → Bool) → List X → Type 0
AnyOf {X} p xs = (k : ℕ) × (x : X) × (slice_get xs k ≡ Some x) × (p x ≡ true)

any_or : {X : Type 0} (p : X → Bool) (y : X) (ys : List X) (b : Bool) → p y ≡ b → (b || list_any p ys) ≡ true
    → (list_any p ys ≡ true → AnyOf p ys) → AnyOf p (y ∷ ys)
any_or p y ys true passes is later = (0, y, refl, passes)
any_or p y ys false fails is later = let rest = later is in (suc rest.0, rest.1, rest.2, rest.3)

any_found : {X : Type 0} (p : X → Bool) (xs : List X) → list_any p xs ≡ true → AnyOf p xs
any_found p [] is = absurd (false≢true is)
any_found p (y ∷ ys) is = any_or p y ys (p y) refl is (any_found p ys)

-- ---- one of the links into a node
abbrev goes_to : ℕ → ℕ × Link → Bool
goes_to node numbered = nat_eq numbered.1.target.0 node

abbrev into : ℕ → ℕ → List Link → List ℕ
into node from links = map (λ numbered. numbered.0) (filter (goes_to node) (enumerate_from from links))

into_at : (p : ℕ → Bool) (node from : ℕ) (links : List Link) (k n : ℕ) (l : Link) → n ≡ from + k
    → slice_get links k ≡ Some l → nat_eq l.target.0 node ≡ true → p n ≡ true → list_any p (into node from links) ≡ true
into_at p node from [] k n l place is goes passes = absurd (cc)
into_at p node from (m ∷ links) zero n l place is goes passes =
    let same : m ≡ l = cc in
    let here : nat_eq m.target.0 node ≡ true = ap (λ (x : Link). nat_eq x.target.0 node) same ∙ goes in
    let first : n ≡ from = omega arith in
    ap (λ b. list_any p (map (λ numbered. numbered.0)
    (cond b ((from, m) ∷ filter (goes_to node) (enumerate_from (from + 1) links))
    (filter (goes_to node) (enumerate_from (from + 1) links))))) here
    ∙ ap (λ b. b || list_any p (into node (from + 1) links)) (ap p (sym first) ∙ passes)
into_at p node from (m ∷ links) (suc k) n l place is goes passes =
    let next : n ≡ from + 1 + k = omega arith in
    by (nat_eq m.target.0 node) (into_at p node (from + 1) links k n l next is goes passes)
  where
    by : (b : Bool) → list_any p (into node (from + 1) links) ≡ true
        → list_any p (map (λ numbered. numbered.0)
        (cond b ((from, m) ∷ filter (goes_to node) (enumerate_from (from + 1) links))
        (filter (goes_to node) (enumerate_from (from + 1) links)))) ≡ true
    by true rest = ap (λ b. p from || b) rest ∙ or-true (p from)
    by false rest = rest

abbrev IntoOf : (ℕ → Bool) → ℕ → ℕ → List Link → Type 0
IntoOf p node from links =
    (k : ℕ) × (n : ℕ) × (l : Link) × (n ≡ from + k) × (slice_get links k ≡ Some l) × (nat_eq l.target.0 node ≡ true)
    × (p n ≡ true)

later_of : (p : ℕ → Bool) (node from : ℕ) (m : Link) (links : List Link) → IntoOf p node (from + 1) links
    → IntoOf p node from (m ∷ links)
later_of p node from m links rest =
    (suc rest.0, rest.1, rest.2, (let place = rest.3 in omega arith), rest.4, rest.5, rest.6)

into_found : (p : ℕ → Bool) (node from : ℕ) (links : List Link) → list_any p (into node from links) ≡ true
    → IntoOf p node from links
into_found p node from [] is = absurd (false≢true is)
into_found p node from (m ∷ links) is = by (nat_eq m.target.0 node) refl is (into_found p node (from + 1) links)
  where
    first : (b : Bool) → p from ≡ b → nat_eq m.target.0 node ≡ true
        → (b || list_any p (into node (from + 1) links)) ≡ true
        → (list_any p (into node (from + 1) links) ≡ true → IntoOf p node (from + 1) links)
        → IntoOf p node from (m ∷ links)
    first true passes goes is later = (0, from, m, (omega arith), refl, goes, passes)
    first false fails goes is later = later_of p node from m links (later is)

    by : (b : Bool) → nat_eq m.target.0 node ≡ b
        → list_any p (map (λ numbered. numbered.0)
        (cond b ((from, m) ∷ filter (goes_to node) (enumerate_from (from + 1) links))
        (filter (goes_to node) (enumerate_from (from + 1) links)))) ≡ true
        → (list_any p (into node (from + 1) links) ≡ true → IntoOf p node (from + 1) links)
        → IntoOf p node from (m ∷ links)
    by true goes is later = first (p from) refl goes is later
    by false goes is later = later_of p node from m links (later is)

-- ---- a message that is due
abbrev flies_due : BusValue → ℕ → ℕ → Bool
flies_due b reading link = list_any (is_due (Some reading)) (flight_at b.state link)

due_shown : (b : BusValue) (node reading : ℕ) → HasDue b node reading → has_due b.run b.state node (Some reading) ≡ true
due_shown b node reading due =
    let d = due.is_due in
    let flies =
    any_passes_from_place (is_due (Some reading)) (flight_at b.state due.link) d.place d.copy d.is_copy d.due in
    into_at (flies_due b reading) node 0 b.run.design.links due.link due.link d.the_link (omega arith) d.is_link
    (eq-eqb d.the_link.target.0 node d.to_node) flies

shown_due : (b : BusValue) (node reading : ℕ) → has_due b.run b.state node (Some reading) ≡ true → HasDue b node reading
shown_due b node reading is =
    let at = into_found (flies_due b reading) node 0 b.run.design.links is in
    let place : at.1 ≡ at.0 = (let here = at.3 in omega arith) in
    let one = any_found (is_due (Some reading)) (flight_at b.state at.1) at.6 in
    record {
      link = at.1;
      round = one.1.round;
      is_due = record {
        the_link = at.2;
        is_link = ap (slice_get b.run.design.links) place ∙ at.4;
        to_node = eqb-true at.2.target.0 node at.5;
        place = one.0;
        copy = one.1;
        is_copy = one.2;
        of_round = refl;
        due = one.3;
      };
    }

pub due_is : (b : BusValue) (node reading : ℕ) (r : Bool) → (IsTrue r ↔ HasDue b node reading)
    → r ≡ has_due b.run b.state node (Some reading)
due_is b node reading r both =
    both_ways r (has_due b.run b.state node (Some reading)) (λ yes. due_shown b node reading (both.0 yes))
    (λ yes. both.1 (shown_due b node reading yes))
